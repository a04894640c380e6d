use Rattle.std.proofs.Common.{rules, ◌≡◌, true, false}
use borrow.Author.Tests.{tests}
use Rattle.std.proofs.lemmas.Iterator.{first_from_Range}
use Rattle.evaluator.specs.Checks.{unsound}
use Rattle.model.proofs.Ranges.{first_below}
use Rattle.evaluator.proofs.checks.first_unsound.Goals as goal

pub returns-clause-lowest : goal.returns-clause-lowest
returns-clause-lowest g c =
    let bad = unsound (g.M.Model.meaning c.args.model.now) c.args.nodes.now in
    first_below bad c.args.used c.find.result
    (first_from_Range _ _ _ c.find.result (λ i. bad i ≡ true) (λ i. bad i ≡ false) c.find.ensures.ran (λ x q k. search (rules, tests)) (λ x q k. search (rules, tests)))
