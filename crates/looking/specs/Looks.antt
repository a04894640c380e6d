-- What looks tell apart.
use Rattle.std.specs.Prelude.{◌≡◌, ℕ, ◌<◌, Bool, false, ◌&&◌, ◌||◌, List, [], ◌∷◌, ◌==◌}
use Rattle.model.specs.Meaning.{differ}
use Rattle.model.specs.Rows.{bit}
use Rattle.looking.specs.declared.looks.Slot.{Slot}

-- the slot holds a look of agent p at the row: it has the row's worlds, as far as a model has any
pub record HoldsLook (p : ℕ) (row : List ℕ) (s : Slot) : Type 0 where
  pub by : s.agent ≡ p
  pub at : (w : ℕ) → w < 4096 → bit s.row w ≡ bit row w

-- the look in the slot tells agent p the worlds u and v apart
abbrev pub tells : Slot → ℕ → ℕ → ℕ → Bool
tells s p u v = p == s.agent && differ (bit s.row u) (bit s.row v)

-- some look tells agent p the worlds u and v apart
abbrev pub told : List Slot → ℕ → ℕ → ℕ → Bool
told [] p u v = false
told (s ∷ ss) p u v = tells s p u v || told ss p u v
