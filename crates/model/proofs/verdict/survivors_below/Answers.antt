use Rattle.std.proofs.Common.{rules, cond, ◌^◌, ◌∙◌, arith}
use borrow.Author.Tests.{tests}
use Rattle.std.specs.List.{range_with_len}
use Rattle.std.proofs.lemmas.Iterator.{YieldsList-from_range, YieldsList-from_map}
use Rattle.std.proofs.lemmas.Iterator.Consumers.{YieldsList-at, sum_by_from_yields_List, fits_by_from_yields_list}
use Rattle.model.proofs.Counts.{count_le}
use Rattle.model.proofs.Ranges.{summed}
use Rattle.model.proofs.verdict.survivors_below.Goals as goal

pub sum-requires-clause-fits : goal.sum-requires-clause-fits
sum-requires-clause-fits g c =
    let survives = (g.M.Model.meaning c.args.model.now).survives in
    fits_by_from_yields_list (λ w. cond (survives w) 1 0) (range_with_len 0 c.args.«end») c.map.result (2 ^ 16)
    (YieldsList-from_map _ (λ w. cond (survives w) 1 0) (YieldsList-at c.map.ensures.source (YieldsList-from_range 0 c.args.«end» c.args.«end» (cc) (omega arith))) c.map.ensures.closure (λ x r q k. search (rules, tests)))
    (omega (arith, summed survives c.args.«end», count_le survives c.args.«end»))

pub returns : goal.returns
returns g c =
    let survives = (g.M.Model.meaning c.args.model.now).survives in
    sum_by_from_yields_List (λ w. cond (survives w) 1 0) (range_with_len 0 c.args.«end») c.map.result c.sum.result c.sum.ensures.ran
    (YieldsList-from_map _ (λ w. cond (survives w) 1 0) (YieldsList-at c.map.ensures.source (YieldsList-from_range 0 c.args.«end» c.args.«end» (cc) (omega arith))) c.map.ensures.closure (λ x r q k. search (rules, tests)))
    ∙ summed survives c.args.«end»
