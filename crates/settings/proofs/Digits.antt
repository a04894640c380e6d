-- Binary digits: the masks of the code decide whether two worlds agree on what an agent sees.
use Rattle.std.proofs.Common.{◌≡◌, ℕ, zero, suc, ◌+◌, ◌*◌, ◌/◌, ◌%◌, ◌^◌, ◌<◌, Bool, true, false, ◌||◌, eqb, ◌⊎◌, sym, refl, ap, ◌∙◌, subst, ap₂, inl, inr, ⊎_elim, arith}
use lib.Arith.{lt-one}
use lib.Bits.{bit_or}
use Rattle.std.proofs.lemmas.Nat.{pow_pos, pow_below, shr_split, shr_below, mod_below, or_lt}
use Rattle.std.proofs.lemmas.Bool.{cases_eq, eqb-false, eq-eqb, ne_eqb, not-true, not_from_false, lt-ltb, ltb-true, true≢false}
use Rattle.std.proofs.lemmas.Bool.Decides.{same_from_decides, Decides-like, Decides-eqb}
use Rattle.model.specs.Rows.{digit}
use Rattle.model.proofs.Digits.{two, digit_mod, digit_or, digit_power}
use Rattle.settings.specs.declared.sight.Sight.{Sight}
use Rattle.settings.specs.declared.sight.Sight.TheVariants.{Circle, Queue}
use Rattle.settings.specs.Hats.{agrees}
use Rattle.settings.specs.FairHats.{Agree, agrees_decides}
use Rattle.settings.specs.Views.{view_of}

-- two numbers below 2 ^ k with the same digits are equal
pub same_digits : (k a b : ℕ) → a < 2 ^ k → b < 2 ^ k → ((j : ℕ) → j < k → digit a j ≡ digit b j) → a ≡ b
unfolding digit
same_digits zero a b h l same = lt-one h ∙ sym (lt-one l)
same_digits (suc k) a b h l same =
    let a1 : a / 2 ^ k < 2 = shr_below a 1 k (subst (λ x. a < 2 ^ x) (omega arith) h) in
    let b1 : b / 2 ^ k < 2 = shr_below b 1 k (subst (λ x. b < 2 ^ x) (omega arith) l) in
    let high : a / 2 ^ k ≡ b / 2 ^ k = top (a / 2 ^ k) (b / 2 ^ k) (two (a / 2 ^ k) a1) (two (b / 2 ^ k) b1) (same k (omega arith)) in
    let low : a % 2 ^ k ≡ b % 2 ^ k =
    same_digits k (a % 2 ^ k) (b % 2 ^ k) (mod_below a (2 ^ k) (pow_pos k)) (mod_below b (2 ^ k) (pow_pos k))
    (λ j i. digit_mod a k j i ∙ same j (omega arith) ∙ sym (digit_mod b k j i)) in
    sym (shr_split a k) ∙ ap₂ (λ (x y : ℕ). x * 2 ^ k + y) high low ∙ shr_split b k
  where
    top : (x y : ℕ) → (x ≡ 0) ⊎ (x ≡ 1) → (y ≡ 0) ⊎ (y ≡ 1) → eqb (x % 2) 1 ≡ eqb (y % 2) 1 → x ≡ y
    top x y (inl e) (inl d) s = e ∙ sym d
    top x y (inl e) (inr d) s = absurd (true≢false (sym (ap (λ (z : ℕ). eqb (z % 2) 1) (sym e) ∙ s ∙ ap (λ (z : ℕ). eqb (z % 2) 1) d)))
    top x y (inr e) (inl d) s = absurd (true≢false (ap (λ (z : ℕ). eqb (z % 2) 1) (sym e) ∙ s ∙ ap (λ (z : ℕ). eqb (z % 2) 1) d))
    top x y (inr e) (inr d) s = e ∙ sym d

or-false : (x y : Bool) → y ≡ false → (x || y) ≡ x
or-false true y e = refl
or-false false y e = e

or_true : (x y : Bool) → y ≡ true → (x || y) ≡ true
or_true true y e = refl
or_true false y e = e

-- in a circle: the worlds with the agent's own fact made true
pub circle_mask : (k p u v : ℕ) → p < k → u < 2 ^ k → v < 2 ^ k → eqb (bit_or u (2 ^ p)) (bit_or v (2 ^ p)) ≡ agrees Circle k p u v
circle_mask k p u v h a b =
    same_from_decides _ _ (Decides-like _ there back (Decides-eqb (bit_or u (2 ^ p)) (bit_or v (2 ^ p)))) (agrees_decides Circle k p u v)
  where
    other : (n f : ℕ) → (f ≡ p → ⊥) → digit (bit_or n (2 ^ p)) f ≡ digit n f
    other n f ne = digit_or n (2 ^ p) f ∙ or-false (digit n f) (digit (2 ^ p) f) (digit_power p f ∙ ne_eqb f p ne)

    own : (n : ℕ) → digit (bit_or n (2 ^ p)) p ≡ true
    own n = digit_or n (2 ^ p) p ∙ or_true (digit n p) (digit (2 ^ p) p) (digit_power p p ∙ eq-eqb p p refl)

    there : bit_or u (2 ^ p) ≡ bit_or v (2 ^ p) → Agree Circle k p u v
    there e f l s =
        let ne : f ≡ p → ⊥ = eqb-false f p (not-true _ s) in sym (other u f ne) ∙ ap (λ (x : ℕ). digit x f) e ∙ other v f ne

    back : Agree Circle k p u v → bit_or u (2 ^ p) ≡ bit_or v (2 ^ p)
    back g =
        same_digits k (bit_or u (2 ^ p)) (bit_or v (2 ^ p)) (or_lt k u (2 ^ p) a (pow_below p k h)) (or_lt k v (2 ^ p) b (pow_below p k h))
        (λ f l. ⊎_elim
        (λ e. subst (λ x. digit (bit_or u (2 ^ p)) x ≡ digit (bit_or v (2 ^ p)) x) (sym e) (own u ∙ sym (own v)))
        (λ ne. other u f ne ∙ g f l (not_from_false _ (ne_eqb f p ne)) ∙ sym (other v f ne))
        (cases_eq f p))

-- in a queue: the worlds' facts below the agent's own
pub queue_mask : (k p u v : ℕ) → p < k → eqb (u % 2 ^ p) (v % 2 ^ p) ≡ agrees Queue k p u v
queue_mask k p u v h =
    same_from_decides _ _ (Decides-like _ there back (Decides-eqb (u % 2 ^ p) (v % 2 ^ p))) (agrees_decides Queue k p u v)
  where
    there : u % 2 ^ p ≡ v % 2 ^ p → Agree Queue k p u v
    there e f l s =
        let m : f < p = ltb-true f p s in sym (digit_mod u p f m) ∙ ap (λ (x : ℕ). digit x f) e ∙ digit_mod v p f m

    back : Agree Queue k p u v → u % 2 ^ p ≡ v % 2 ^ p
    back g =
        same_digits p (u % 2 ^ p) (v % 2 ^ p) (mod_below u (2 ^ p) (pow_pos p)) (mod_below v (2 ^ p) (pow_pos p))
        (λ f l. digit_mod u p f l ∙ g f (omega arith) (lt-ltb f p l) ∙ sym (digit_mod v p f l))

-- two worlds agree for an agent exactly where it has the same view of both
pub view_same : (s : Sight) (k p u v a b : ℕ) → p < k → u < 2 ^ k → v < 2 ^ k → a ≡ view_of s p u → b ≡ view_of s p v → eqb a b ≡ agrees s k p u v
view_same Circle k p u v a b h l m d e = ap₂ eqb d e ∙ circle_mask k p u v h l m
view_same Queue k p u v a b h l m d e = ap₂ eqb d e ∙ queue_mask k p u v h
