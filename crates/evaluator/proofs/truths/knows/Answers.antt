use Rattle.std.proofs.Common.{rules, ◌∙◌, arith}
use borrow.Author.Tests.{tests}
use Rattle.std.proofs.lemmas.Iterator.{YieldsList-from_range}
use Rattle.std.proofs.lemmas.Iterator.Search.{all_from_yields_List}
use Rattle.model.specs.Rows.{bit, implies}
use Rattle.theory.specs.Truth.{reaches}
use Rattle.evaluator.proofs.Every.{all_below}
use Rattle.evaluator.proofs.truths.knows.Goals as goal

pub returns : goal.returns
returns g c =
    let m = g.M.Model.meaning c.args.model.now in
    all_from_yields_List (λ v. implies (reaches m c.args.agent c.args.world v) (bit c.args.row.now v)) _ _ c.all.result c.all.ensures.ran
    (YieldsList-from_range 0 c.width.result m.width (cc) (omega arith)) (λ x b q k. search (rules, tests))
    ∙ all_below (λ v. implies (reaches m c.args.agent c.args.world v) (bit c.args.row.now v)) m.width
