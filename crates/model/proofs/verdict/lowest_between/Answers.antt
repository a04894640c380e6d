use Rattle.std.proofs.Common.{rules, ◌≡◌, true, false}
use borrow.Author.Tests.{tests}
use Rattle.std.proofs.lemmas.Iterator.{first_from_Range}
use Rattle.model.proofs.Ranges.{first_is_least}
use Rattle.model.proofs.verdict.lowest_between.Goals as goal

pub returns-clause-least : goal.returns-clause-least
returns-clause-least g c =
    let survives = (g.M.Model.meaning c.args.model.now).survives in
    first_is_least survives c.args.from c.args.«end» c.find.result
    (first_from_Range _ _ _ c.find.result (λ w. survives w ≡ true) (λ w. survives w ≡ false) c.find.ensures.ran (λ x q k. search (rules, tests)) (λ x q k. search (rules, tests)))
