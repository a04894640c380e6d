-- A refusal by the first cause that applies.
use Rattle.std.proofs.Common.{◌≡◌, Bool, true, false, cond, not, ◌&&◌, [], ◌∷◌, Err, Result, refl}
use Rattle.model.specs.declared.refusals.Refusal.{Refusal}
use Rattle.model.specs.Causes.{Causes, first, clear}

-- what is refused is refused whatever the answer would be, and some cause applies
pub refused : {A B : Type 0} (cs : Causes) (x : A) (y : B) (e : Refusal) → first cs x ≡ Err e → (first cs y ≡ Err e) × (clear cs ≡ false)
refused [] x y e r = (cc, cc)
refused {A} {B} (c ∷ cs) x y e r = go (refused cs x y e) c.0 r
  where
    go : (first cs x ≡ Err e → (first cs y ≡ Err e) × (clear cs ≡ false)) → (b : Bool) → cond b (Err c.1) (first cs x) ≡ Err e
        → (cond {A = Result B Refusal} b (Err c.1) (first cs y) ≡ Err e) × ((not b && clear cs) ≡ false)
    go rest true r = (cc, refl)
    go rest false r = rest r
