-- Dates are a kind of record with small quantities.
use Rattle.std.specs.Prelude.{ℕ, ◌≤◌, Bool, true, false, cond, ◌==◌}
use Rattle.std.proofs.Common.{arith}
use Rattle.settings.specs.Cases.{Kind}
use Rattle.settings.specs.Dates.{date_told}

pub date_kind : Kind 2 2
date_kind = record { some_agent = omega arith; few_agents = omega arith; few_quantities = omega arith }

pub date_small : (m d : ℕ) → m ≤ 12 → d ≤ 31 → (q : ℕ) → date_told (m, d) q ≤ 65535
date_small m d h k q = go (q == 0)
  where
    go : (b : Bool) → cond b m d ≤ 65535
    go true = omega arith
    go false = omega arith
