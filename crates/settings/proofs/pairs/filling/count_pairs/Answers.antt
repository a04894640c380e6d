use Rattle.std.proofs.Common.{rules, ◌-◌, ◌*◌, ◌^◌, refl, ◌∙◌, arith}
use borrow.Author.Tests.{tests}
use Rattle.std.specs.List.{range_with_len}
use Rattle.std.proofs.lemmas.Iterator.{YieldsList-from_range, YieldsList-from_map}
use Rattle.std.proofs.lemmas.Iterator.Consumers.{YieldsList-at, sum_by_from_yields_List, fits_by_from_yields_list}
use Rattle.settings.proofs.Listing.{pairs_by_rows, few_pairs}
use Rattle.settings.proofs.pairs.filling.count_pairs.Goals as goal

pub sum-requires-clause-fits : goal.sum-requires-clause-fits
sum-requires-clause-fits c =
    fits_by_from_yields_list (λ x. c.args.sum - 2 * x) (range_with_len c.args.low (c.args.sum - c.args.low)) c.map.result (2 ^ 64)
    (YieldsList-from_map _ (λ x. c.args.sum - 2 * x) (YieldsList-at c.map.ensures.source (YieldsList-from_range c.args.low c.args.sum (c.args.sum - c.args.low) (cc) refl)) c.map.ensures.closure (λ x r q k. search (rules, tests)))
    (omega (arith, few_pairs c.args.low (c.args.sum - c.args.low) c.args.sum c.requires.small_sum))

pub returns : goal.returns
returns c = record {
  counts =
      sum_by_from_yields_List (λ x. c.args.sum - 2 * x) (range_with_len c.args.low (c.args.sum - c.args.low)) c.map.result c.sum.result c.sum.ensures.ran
      (YieldsList-from_map _ (λ x. c.args.sum - 2 * x) (YieldsList-at c.map.ensures.source (YieldsList-from_range c.args.low c.args.sum (c.args.sum - c.args.low) (cc) refl)) c.map.ensures.closure (λ x r q k. search (rules, tests)))
      ∙ pairs_by_rows c.args.low c.args.sum;
}
