-- What an array holds that a closure made, which each call leaves as it was.
use Rattle.std.proofs.Common.{◌≡◌, ℕ, zero, suc, ◌+◌, ◌<◌, ◌≤◌, List, get_or, sym, refl, subst, ⊎_elim, arith}
use Rattle.std.proofs.lemmas.Bool.{cases_lt}
use Rattle.std.specs.Fn.{Called}
use Rattle.std.specs.Array.{IsFromFnResult, IsFromFnResultFrom}
use denote.Param.Members.{Mut}

module _ {F B : Type 0} (g : Mut F (ℕ × Unit {0}) B) (P : ℕ → B → Type 0) (f : F) (call : (i : ℕ) (y : B) (f' : F) → Called g f (i, tt) y f' → P i y × (f' ≡ f)) where
  made_from : (ys : List B) (i n : ℕ) (q : F) → q ≡ f → IsFromFnResultFrom g q ys i n → (k : ℕ) (d : B) → i ≤ k → k < i + n → P k (get_or ys k d)
  made_from ys i zero q e made k d low high = absurd (omega arith)
  made_from ys i (suc n) q e made k d low high =
      let one = call i made.1 made.0 (subst (λ (p : F). Called g p (i, tt) made.1 made.0) e made.3) in
      ⊎_elim (λ h. made_from ys (i + 1) n made.0 one.1 made.4 k d (omega arith) (omega arith))
      (λ h. let here : i ≡ k = omega arith in subst (λ (j : ℕ). P j (get_or ys j d)) here (subst (P i) (sym (made.2.1 d)) one.0)) (cases_lt i k)

  pub made_each : (ys : List B) (n : ℕ) → IsFromFnResult g f ys n → (k : ℕ) (d : B) → k < n → P k (get_or ys k d)
  made_each ys n made k d h = made_from ys 0 n f refl made.each k d (omega arith) (omega arith)
