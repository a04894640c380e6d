-- Number pairs are a kind of record with small quantities.
use Rattle.std.specs.Prelude.{ℕ, ◌+◌, ◌*◌, ◌<◌, ◌≤◌, Bool, true, false, cond, ◌==◌}
use Rattle.std.proofs.Common.{arith}
use Rattle.std.proofs.lemmas.Nat.{mul-le}
use Rattle.settings.specs.Cases.{Kind}
use Rattle.settings.specs.Pairs.{pair_amount}

pub pair_kind : Kind 2 4
pair_kind = record { some_agent = omega arith; few_agents = omega arith; few_quantities = omega arith }

pub pair_small : (x y : ℕ) → x < 256 → y < 256 → (q : ℕ) → pair_amount (x, y) q ≤ 65535
pair_small x y h k q = go (q == 0) (q == 1) (q == 2)
  where
    go : (a b c : Bool) → cond a x (cond b y (cond c (x + y) (x * y))) ≤ 65535
    go true b c = omega arith
    go false true c = omega arith
    go false false true = omega arith
    go false false false = omega (arith, mul-le x y 255 255 (omega arith) (omega arith))
