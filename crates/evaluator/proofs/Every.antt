-- Tests that every number passes, one number after another.
use Rattle.std.proofs.Common.{◌≡◌, ℕ, zero, suc, ◌+◌, ◌<◌, Bool, true, false, ◌&&◌, eqb, Some, Option, unwrap_or, sym, refl, ap, ◌∙◌, subst, ap₂, ⊎_elim, arith}
use Rattle.std.specs.List.{list_all, range_with_len}
use Rattle.std.proofs.lemmas.Bool.{cases_lt, cases_Bool, and_left, and_right, and_from, eq-eqb, ne_eqb}
use Rattle.model.specs.Meaning.{Meaning}
use Rattle.model.specs.Rows.{implies, every}
use Rattle.theory.specs.Truth.{constant}

pub every_true : (n : ℕ) (p : ℕ → Bool) → ((v : ℕ) → v < n → p v ≡ true) → every p n ≡ true
unfolding every
every_true zero p h = refl
every_true (suc n) p h = and_from (p n) (every p n) (h n (omega arith)) (every_true n p (λ v l. h v (omega arith)))

pub every_false : (n : ℕ) (p : ℕ → Bool) (v : ℕ) → v < n → p v ≡ false → every p n ≡ false
unfolding every
every_false zero p v h e = absurd (omega arith)
every_false (suc n) p v h e =
    ⊎_elim (λ l. and_right (p n) (every p n) (every_false n p v l e))
    (λ l. let same : v ≡ n = omega arith in and_left (p n) (every p n) (subst (λ (x : ℕ). p x ≡ false) same e))
    (cases_lt v n)

pub implied_else : (x y : Bool) → x ≡ false → implies x y ≡ true
implied_else x y e = ap (λ (b : Bool). implies b y) e

pub implied_then : (x y : Bool) → x ≡ true → implies x y ≡ y
implied_then x y e = ap (λ (b : Bool). implies b y) e

-- a list of all that stand from a on passes where every number does
every_front : (f : ℕ → Bool) (n : ℕ) → every f (suc n) ≡ (f 0 && every (λ k. f (suc k)) n)
unfolding every
every_front f zero = refl
every_front f (suc n) = ap (λ (b : Bool). f (suc n) && b) (every_front f n) ∙ swap (f (suc n)) (f 0) (every (λ k. f (suc k)) n)
  where
    swap : (x y z : Bool) → (x && (y && z)) ≡ (y && (x && z))
    swap true true z = refl
    swap true false z = refl
    swap false true z = refl
    swap false false z = refl

all_from : (t f : ℕ → Bool) (a n : ℕ) → ((k : ℕ) → t (a + k) ≡ f k) → list_all t (range_with_len a n) ≡ every f n
unfolding every
all_from t f a zero h = refl
all_from t f a (suc n) h =
    let first : a ≡ a + 0 = omega arith in
    ap₂ (λ (x y : Bool). x && y) (ap t first ∙ h 0) (all_from t (λ k. f (suc k)) (a + 1) n (λ k. let next : a + 1 + k ≡ a + suc k = omega arith in ap t next ∙ h (suc k)))
    ∙ sym (every_front f n)

pub all_below : (t : ℕ → Bool) (n : ℕ) → list_all t (range_with_len 0 n) ≡ every t n
all_below t n = all_from t t 0 n (λ k. let same : 0 + k ≡ k = omega arith in ap t same)

-- what a loop over the worlds below v has seen of quantity q at those that pass p: the one value, if there was any
pub record Seen (m : Meaning) (q : ℕ) (p : ℕ → Bool) (v : ℕ) (seen : Option ℕ) : Type 0 where
  pub same : (u : ℕ) → u < v → p u ≡ true → seen ≡ Some (m.quantity q u)
  pub some : (x : ℕ) → seen ≡ Some x → (u : ℕ) × (u < v) × (p u ≡ true) × (m.quantity q u ≡ x)

module _ (m : Meaning) (q : ℕ) (p : ℕ → Bool) where
  pub seen_all : (v : ℕ) (s : Option ℕ) → Seen m q p v s → v ≡ m.width → true ≡ constant m q p
  seen_all v s h e =
      sym (every_true m.width _ (λ u lu. ⊎_elim
      (λ t. implied_then (p u) _ t ∙ every_true m.width _ (λ w lw. ⊎_elim
      (λ k. implied_then (p w) _ k ∙ eq-eqb (m.quantity q u) (m.quantity q w) (one (sym (h.same u (omega arith) t) ∙ h.same w (omega arith) k)))
      (λ k. implied_else (p w) _ k)
      (cases_Bool (p w))))
      (λ t. implied_else (p u) _ t)
      (cases_Bool (p u))))
    where
      one : {x y : ℕ} → ◌≡◌ {A = Option ℕ} (Some x) (Some y) → x ≡ y
      one e = ap (λ (o : Option ℕ). unwrap_or o 0) e

  pub seen_two : (v x : ℕ) (s : Option ℕ) → Seen m q p v s → v < m.width → p v ≡ true → s ≡ Some x → (x ≡ m.quantity q v → ⊥) → false ≡ constant m q p
  seen_two v x s h l e f d =
      let z = h.some x f in
      sym (every_false m.width _ v l (implied_then (p v) _ e
      ∙ every_false m.width (λ u. implies (p u) (eqb (m.quantity q v) (m.quantity q u))) z.0 (omega (arith, z.1))
      (implied_then (p z.0) _ z.2 ∙ ne_eqb (m.quantity q v) (m.quantity q z.0) (λ i. d (sym (i ∙ z.3))))))
