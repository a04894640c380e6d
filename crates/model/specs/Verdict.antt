-- The verdict on a model.
use Rattle.std.specs.Prelude.{◌≡◌, ℕ, suc, ◌<◌, Bool, true, false, cond, ◌&&◌, ◌==◌, nat_le}
use Rattle.model.specs.declared.verdict.Verdict.{Verdict}
use Rattle.model.specs.declared.verdict.Verdict.TheVariants.{Contradiction, Unique, Rivals}
use Rattle.model.specs.Meaning.{Meaning}
use Rattle.model.specs.Rows.{count, least}

-- world w is `from` or above, and survives
abbrev pub survives_from : Meaning → ℕ → ℕ → Bool
survives_from m from w = nat_le from w && m.survives w

-- how many worlds survive; the lowest; the lowest after it
abbrev pub survivors_of : Meaning → ℕ
survivors_of m = count m.survives m.width

abbrev pub lowest_of : Meaning → ℕ
lowest_of m = least (survives_from m 0) m.width

abbrev pub second_of : Meaning → ℕ
second_of m = least (survives_from m (suc (lowest_of m))) m.width

-- none, one or several survivors
unfoldable pub verdict_of : Meaning → Verdict
verdict_of m =
    cond (survivors_of m == 0) Contradiction
    (cond (survivors_of m == 1) (Unique (lowest_of m))
    (Rivals (survivors_of m) (lowest_of m) (second_of m)))

-- what a verdict says of the worlds: no world survives; the world survives and no other does; the two survive, no other
-- below the second does, and so many survive in all
abbrev pub NamesTheSurvivors : Meaning → Verdict → Type 0
NamesTheSurvivors m Contradiction = (w : ℕ) → m.survives w ≡ false
NamesTheSurvivors m (Unique w) = (m.survives w ≡ true) × ((v : ℕ) → m.survives v ≡ true → v ≡ w)
NamesTheSurvivors m (Rivals n u v) =
    (m.survives u ≡ true) × (m.survives v ≡ true) × (u < v) × ((w : ℕ) → w < v → m.survives w ≡ true → w ≡ u) × (n ≡ survivors_of m)
