-- Truth of a formula at a world, and the test for it.
use Rattle.std.specs.Prelude.{◌≡◌, ℕ, Bool, true, not, ◌&&◌, Decides, ◌==◌}
use Rattle.model.specs.Meaning.{Meaning, Lawful, Alike}
use Rattle.model.specs.Rows.{implies, every}
use Rattle.theory.specs.Formula.{Formula}

-- the formula is true at world w, which survives; what an agent knows goes by the surviving worlds that it does not distinguish from w
abbrev pub Holds : Meaning → Formula → ℕ → Type 0
Holds m Formula.top w = Unit {0}
Holds m (Formula.fact f) w = m.fact f w ≡ true
Holds m (Formula.equals q x) w = m.quantity q w ≡ x
Holds m (Formula.neg φ) w = Holds m φ w → ⊥
Holds m (Formula.both φ ψ) w = Holds m φ w × Holds m ψ w
Holds m (Formula.knows p φ) w = (v : ℕ) → m.survives v ≡ true → Alike m p w v → Holds m φ v
Holds m (Formula.value p q φ) w = (u v : ℕ) → m.survives u ≡ true → Alike m p w u → Holds m φ u
    → m.survives v ≡ true → Alike m p w v → Holds m φ v → m.quantity q u ≡ m.quantity q v

-- if the first, then the second
-- world v survives and agent p does not distinguish it from w
abbrev pub reaches : Meaning → ℕ → ℕ → ℕ → Bool
reaches m p w v = m.survives v && not (m.distinguishes p w v)

-- every surviving world that agent p does not distinguish from w passes the test
abbrev pub everywhere : Meaning → ℕ → ℕ → (ℕ → Bool) → Bool
everywhere m p w t = every (λ v. implies (reaches m p w v) (t v)) m.width

-- quantity q is equal at all worlds that pass the test
abbrev pub constant : Meaning → ℕ → (ℕ → Bool) → Bool
constant m q t = every (λ u. implies (t u) (every (λ v. implies (t v) (m.quantity q u == m.quantity q v)) m.width)) m.width

-- the test for the truth at a surviving world
abbrev pub truth : Meaning → Formula → ℕ → Bool
truth m Formula.top w = true
truth m (Formula.fact f) w = m.fact f w
truth m (Formula.equals q x) w = m.quantity q w == x
truth m (Formula.neg φ) w = not (truth m φ w)
truth m (Formula.both φ ψ) w = truth m φ w && truth m ψ w
truth m (Formula.knows p φ) w = everywhere m p w (truth m φ)
truth m (Formula.value p q φ) w = constant m q (λ v. reaches m p w v && truth m φ v)

-- world w survives and the formula is true there
abbrev pub holds : Meaning → Formula → ℕ → Bool
holds m φ w = m.survives w && truth m φ w

-- the test finds exactly the truth
abbrev pub TruthDecided : Type 0
TruthDecided = (m : Meaning) → Lawful m → (φ : Formula) (w : ℕ) → Decides (holds m φ w) ((m.survives w ≡ true) × Holds m φ w)
