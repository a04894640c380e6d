use Rattle.std.proofs.Common.{ℕ, ◌/◌, ◌%◌, ap, arith}
use Rattle.model.specs.Rows.{digit}
use Rattle.model.proofs.Digits.{front_and_zeros}
use Rattle.model.proofs.rows.whole_row.Goals as goal

pub returns : goal.returns
returns c = record { has_the_same_worlds = λ w h. ap (λ (x : ℕ). digit x (w % 64)) (rw c.copy_from_slice.ensures.after (front_and_zeros c.args.row.now c.min-kept.result (w / 64) (c.min-kept.ensures) (omega arith))) }
