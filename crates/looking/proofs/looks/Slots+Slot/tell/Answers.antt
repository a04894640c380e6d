use Rattle.std.proofs.Common.{ap, ◌∙◌, sym, rules, tests}
use Rattle.std.proofs.lemmas.Iterator.{YieldsList-from_slice}
use Rattle.std.proofs.lemmas.Iterator.Search.{any_from_yields_List}
use Rattle.looking.specs.Looks.{told}
use Rattle.looking.proofs.Told.{told_any}
use Rattle.looking.proofs.looks.Slots+Slot.tell.Goals as goal

pub returns : goal.returns
returns c =
    let items = c.kept.result.now in
    record {
      asks_every_look = any_from_yields_List _ _ _ _ c.any.ensures.ran (YieldsList-from_slice items cc) (λ x b q k. search (rules, tests))
          ∙ sym (told_any c.args.agent c.args.left c.args.right items) ∙ ap (λ ss. told ss c.args.agent c.args.left c.args.right) c.kept.ensures.gives_the_filled_slots;
    }
