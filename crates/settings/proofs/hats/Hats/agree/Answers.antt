use Rattle.settings.proofs.Digits.{view_same}
use Rattle.settings.proofs.hats.Hats.agree.Goals as goal

pub returns : goal.returns
returns c = record {
  is_agreement =
      view_same c.args.self.now.sight c.args.self.now.agents c.args.agent c.args.left c.args.right c.view.result c.view-2.result
      c.requires.is_an_agent c.requires.left_is_a_world c.requires.right_is_a_world c.view.ensures.is_the_view c.view-2.ensures.is_the_view;
}
