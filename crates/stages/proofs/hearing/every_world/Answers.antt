use Prim.Native.Nat.{ℕ, ◌/◌, ◌%◌, ◌<◌}
use mathlib.Core.Path.{◌≡◌, refl, ap, ◌∙◌}
use mathlib.Core.Bool.{true}
use native.Mathlib.Omega.{arith}
use lib.ListN.{get_or-replicate}
use Rattle.model.specs.Rows.{digit, every}
use Rattle.model.proofs.Deciding.{decides_it, decides_every}
use Rattle.stages.proofs.hearing.every_world.Goals as goal

every_digit : (k : ℕ) → k < 64 → digit 18446744073709551615 k ≡ true
unfolding digit every
every_digit = (decides_every (digit 18446744073709551615) (λ k. digit 18446744073709551615 k ≡ true) (λ k. decides_it (digit 18446744073709551615 k)) 64).0 refl

pub returns : goal.returns
returns c = record {
  has_every_world = λ w h.
      ap (λ (x : ℕ). digit x (w % 64)) (get_or-replicate {A = ℕ} 64 (w / 64) 18446744073709551615 0 (omega arith)) ∙ every_digit (w % 64) (omega arith);
}
