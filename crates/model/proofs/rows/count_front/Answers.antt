use Rattle.std.proofs.Common.{rules, ◌≡◌, ◌+◌, ◌*◌, ◌^◌, ◌-◌, ◌%◌, take, sym, ap, ◌∙◌, arith}
use borrow.Author.Tests.{tests}
use lib.Bits.{bit_and}
use lib.Count.{ones}
use Rattle.std.proofs.Math.Facts.{Fits-lt-pow}
use Rattle.std.specs.List.{sum_by}
use Rattle.std.proofs.lemmas.Iterator.{YieldsList-from_slice, YieldsList-from_take, YieldsList-from_map}
use Rattle.std.proofs.lemmas.Iterator.Consumers.{YieldsList-at, sum_by_from_yields_List, fits_by_from_yields_list}
use Rattle.model.specs.Rows.{bit, count}
use Rattle.model.proofs.Counts.{count_le}
use Rattle.model.proofs.Digits.{ones_of_words, count_rest}
use Rattle.model.proofs.rows.count_front.Goals as goal

-- the ones of the first words are counted
counted : (c : goal.After-map) → sum_by ones (take c.args.words c.args.row.now) ≡ count (bit c.args.row.now) (64 * c.args.words)
counted c = ones_of_words c.args.row.now (λ i. Fits-lt-pow (c.type_inv.row i)) c.args.words

pub sum-whole-requires-clause-fits : goal.sum-whole-requires-clause-fits
sum-whole-requires-clause-fits c =
    fits_by_from_yields_list ones (take c.args.words c.args.row.now) c.map.result (2 ^ 32)
    (YieldsList-from_map _ ones (YieldsList-at c.map.ensures.source (YieldsList-from_take c.args.words (YieldsList-at c.take.ensures.source (YieldsList-from_slice c.args.row.now (cc))) c.take.ensures.count)) c.map.ensures.closure (λ x r q k. search (rules, tests)))
    (omega (arith, counted c, count_le (bit c.args.row.now) (64 * c.args.words)))

-- the words, and then the digits of the next one
all : (c : goal.After-word_at) → c.sum-whole.result + ones (bit_and c.word_at.result ((1 * 2 ^ c.args.digits) % 2 ^ 64 - 1)) ≡ count (bit c.args.row.now) (64 * c.args.words + c.args.digits)
all c =
    count_rest c.args.row.now c.args.words c.args.digits c.sum-whole.result c.word_at.result c.requires.few_digits
    (sum_by_from_yields_List ones (take c.args.words c.args.row.now) c.map.result c.sum-whole.result c.sum-whole.ensures.ran
    (YieldsList-from_map _ ones (YieldsList-at c.map.ensures.source (YieldsList-from_take c.args.words (YieldsList-at c.take.ensures.source (YieldsList-from_slice c.args.row.now (cc))) c.take.ensures.count)) c.map.ensures.closure (λ x r q k. search (rules, tests)))
    ∙ ones_of_words c.args.row.now (λ i. Fits-lt-pow (c.type_inv.row i)) c.args.words) c.word_at.ensures

pub overflow_add-result : goal.overflow_add-result
overflow_add-result c = omega (arith, all c, count_le (bit c.args.row.now) (64 * c.args.words + c.args.digits))

pub overflow_cast-result : goal.overflow_cast-result
overflow_cast-result c = omega (arith, all c, count_le (bit c.args.row.now) (64 * c.args.words + c.args.digits))

pub returns : goal.returns
returns c width e = all c ∙ ap (count (bit c.args.row.now)) (sym e)
