use Rattle.std.proofs.Common.{ℕ, ◌&&◌, List, sym, ap, ◌∙◌}
use Rattle.model.specs.Rows.{bit}
use Rattle.theory.specs.declared.node.Shape.{Shape}
use Rattle.theory.specs.Truth.{reaches, constant}
use Rattle.evaluator.specs.Rows.{row_bit, says}
use Rattle.evaluator.proofs.truths.holds_in.Goals as goal

pub returns-in-Value : goal.returns-in-Value
returns-in-Value g c =
    let m = g.M.Model.meaning c.args.model.now in
    c.knows_value.ensures
    ∙ ap (λ (row : List ℕ). constant m c.in-Value.quantity (λ v. reaches m c.in-Value.agent c.args.world v && bit row v)) c.row-in-Value.ensures
    ∙ ap (λ (s : Shape). says m (row_bit c.args.rows.work.now c.args.rows.words) s c.args.world) (sym c.in-Value.is)
