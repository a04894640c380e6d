-- Rows heard one after another, and a row of every world.
use Prim.Native.Nat.{ℕ, ◌<◌}
use mathlib.Core.Path.{◌≡◌, refl, sym, ◌∙◌}
use mathlib.Core.Bool.{Bool, true, false, not, cond, ◌&&◌, ◌||◌, and-true, and_assoc, or-false}
use native.Mathlib.Omega.{arith}
use Rattle.model.specs.Meaning.{Meaning, Lawful, heard}
use Rattle.model.proofs.Steps.{same_answers, gone_bits_idle}

-- both rows have both worlds, or one row lacks one
lacks : (d a b x y : Bool) → (d || not ((a && b) && (x && y))) ≡ (d || not (a && x) || not (b && y))
lacks true a b x y = refl
lacks false true true true y = refl
lacks false true true false y = refl
lacks false true false true true = refl
lacks false true false true false = refl
lacks false true false false y = refl
lacks false false b x y = refl

cond_and : (x y : Bool) (n : ℕ) → cond (x && y) n 0 ≡ cond y (cond x n 0) 0
cond_and true true n = refl
cond_and true false n = refl
cond_and false true n = refl
cond_and false false n = refl

module _ (m : Meaning) (law : Lawful m) where
  -- a survivor is one of 4,096 worlds
  small : (w : ℕ) → m.survives w ≡ true → w < 4096
  small w e = omega (arith, law.within w e, law.few_worlds)

  -- a row of all survivors alters nothing
  pub heard_all : (row : ℕ → Bool) → ((w : ℕ) → m.survives w ≡ true → row w ≡ true) → heard row m ≡ m
  heard_all row all =
      (gone_bits_idle m law row (λ _. true) all).0
      ∙ same_answers m (λ w. and-true (m.survives w)) (λ p u v. or-false (m.distinguishes p u v)) (λ f w. and-true (m.fact f w)) (λ q w. refl)

  -- nor does a row of every world
  pub heard_every_world : (row : ℕ → Bool) → ((w : ℕ) → w < 4096 → row w ≡ true) → heard row m ≡ m
  heard_every_world row all = heard_all row (λ w e. all w (small w e))

  -- to hear two rows is to hear what both have of the survivors
  pub heard_both : (a b c : ℕ → Bool) → ((w : ℕ) → m.survives w ≡ true → c w ≡ (a w && b w)) → heard c m ≡ heard b (heard a m)
  heard_both a b c both =
      (gone_bits_idle m law c (λ w. a w && b w) both).0
      ∙ same_answers m (λ w. sym (and_assoc (m.survives w) (a w) (b w))) (λ p u v. lacks (m.distinguishes p u v) (a u) (b u) (a v) (b v))
      (λ f w. sym (and_assoc (m.fact f w) (a w) (b w))) (λ q w. cond_and (a w) (b w) (m.quantity q w))

  -- or of every world
  pub heard_both_rows : (a b c : ℕ → Bool) → ((w : ℕ) → w < 4096 → c w ≡ (a w && b w)) → heard c m ≡ heard b (heard a m)
  heard_both_rows a b c both = heard_both a b c (λ w e. both w (small w e))
