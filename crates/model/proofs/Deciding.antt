-- Tests that decide what they test.
use Rattle.std.proofs.Common.{◌≡◌, ℕ, ◌<◌, Bool, true, false, not, Decides, refl}
use Rattle.std.proofs.lemmas.Bool.Decides.{Decides-below_and}
use Rattle.std.proofs.lemmas.Bool.{true≢false, false≢true}
use Rattle.model.specs.Rows.{implies, every}

pub decides_it : (b : Bool) → Decides b (b ≡ true)
decides_it b = (λ e. e, λ e. e)

pub decides_its_false : (b : Bool) → Decides (not b) (b ≡ false)
decides_its_false true = (λ e. absurd (false≢true e), λ e. absurd (true≢false e))
decides_its_false false = (λ _. refl, λ _. refl)

pub decides_implies : {P Q : Type 0} (x y : Bool) → Decides x P → Decides y Q → Decides (implies x y) (P → Q)
decides_implies true y dx dy = (λ e _. dy.0 e, λ k. dy.1 (k (dx.0 refl)))
decides_implies false y dx dy = (λ _ p. absurd (false≢true (dx.1 p)), λ _. refl)

pub decides_every : (p : ℕ → Bool) (P : ℕ → Type 0) → ((k : ℕ) → Decides (p k) (P k)) → (n : ℕ) → Decides (every p n) ((k : ℕ) → k < n → P k)
unfolding every
decides_every p P each n = Decides-below_and p P (every p) each refl (λ _. refl) n
