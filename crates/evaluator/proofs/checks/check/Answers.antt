use Rattle.std.proofs.Common.{sym, ◌∙◌}
use Rattle.evaluator.proofs.Accepts.{accepted}
use Rattle.evaluator.proofs.checks.check.Goals as goal

pub returns : goal.returns
returns g c = record {
  is = c.first_cause.ensures;
  accepts = λ e. accepted (g.M.Model.meaning c.args.model.now) c.args.nodes.now c.args.used c.args.root c.args.room (sym c.first_cause.ensures ∙ e);
}
