use Rattle.std.proofs.Common.{◌≡◌, ℕ, ◌<◌, length, get_or}
use Rattle.listing.proofs.findings.quantities_for.Given as goal

-- the quantities so far have their values
abbrev pub invariant-loop-quantity : goal.invariant-loop-quantity
invariant-loop-quantity g l = (length l.values ≡ 8) × ((k : ℕ) → k < l.quantity → get_or l.values k 0 ≡ (g.M.Model.meaning l.model).quantity k l.world)
