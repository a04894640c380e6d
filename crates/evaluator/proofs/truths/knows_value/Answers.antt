use Rattle.std.proofs.Common.{Bool, ◌&&◌, sym, ◌∙◌, ap₂, arith}
use Rattle.model.specs.Rows.{bit}
use Rattle.theory.specs.Truth.{reaches}
use Rattle.evaluator.proofs.Every.{seen_all, seen_two}
use Rattle.evaluator.proofs.truths.knows_value.Goals as goal

pub returns : goal.returns
returns g c =
    let m = g.M.Model.meaning c.args.model.now in
    seen_all m c.args.quantity (λ v. reaches m c.args.agent c.args.world v && bit c.args.row.now v)
    c.loop-other.other c.loop-other.seen c.loop-other.invariant (omega arith)

pub returns-in-Some : goal.returns-in-Some
returns-in-Some g c =
    let m = g.M.Model.meaning c.args.model.now in
    seen_two m c.args.quantity (λ v. reaches m c.args.agent c.args.world v && bit c.args.row.now v)
    c.loop-other.other c.in-Some.value c.loop-other.seen c.loop-other.invariant (omega arith)
    (sym (ap₂ (λ (x y : Bool). x && y) c.is_reached.ensures c.has_world.ensures.is_the_bit) ∙ c.if-is_reached-has_world.true)
    c.in-Some.is (λ e. absurd (c.if-value-here.true (e ∙ sym c.quantity-here.ensures)))
