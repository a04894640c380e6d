use Rattle.std.proofs.Common.{◌≡◌, ℕ, ◌/◌, ◌%◌, get_or, ap, ◌∙◌, arith, rules}
use lib.Bits.{bit_and}
use Rattle.model.specs.Rows.{digit}
use Rattle.model.proofs.Digits.{digit_and}
use Rattle.stages.proofs.Made.{made_each}
use Rattle.stages.proofs.hearing.both_rows.Goals as goal

pub returns : goal.returns
returns c =
    let row = c.args.row.now in
    let other = c.args.other.now in
    let words = made_each _ (λ k y. y ≡ bit_and (get_or row k 0) (get_or other k 0)) _ (λ k y f' e. search rules) c.from_fn.result 64 c.from_fn.ensures.items in
    record {
      has_what_both_have = λ w h.
          ap (λ (x : ℕ). digit x (w % 64)) (words (w / 64) 0 (omega arith)) ∙ digit_and (get_or row (w / 64) 0) (get_or other (w / 64) 0) (w % 64);
    }
