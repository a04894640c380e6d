-- The verdict by the number of survivors, and what it says of the worlds.
use Rattle.std.proofs.Common.{◌≡◌, ℕ, suc, ◌+◌, ◌<◌, ◌≤◌, true, false, eqb, leb, ◌⊎◌, sym, ap, ◌∙◌, inl, inr, ⊎_elim, arith}
use Rattle.std.proofs.lemmas.Bool.{cases_Bool, cases_order, and_parts, and_from, le-leb, leb-true, eq-eqb, ne_eqb, cond-true, cond-false, false≢true}
use Rattle.model.specs.declared.verdict.Verdict.{Verdict}
use Rattle.model.specs.declared.verdict.Verdict.TheVariants.{Contradiction, Unique, Rivals}
use Rattle.model.specs.Meaning.{Meaning, Lawful}
use Rattle.model.specs.Rows.{least}
use Rattle.model.specs.Verdict.{survives_from, survivors_of, lowest_of, second_of, verdict_of, NamesTheSurvivors}
use Rattle.model.proofs.Counts.{count_zero, none_counted, least_fits, one_counted, two_counted}

module _ (m : Meaning) (l : Lawful m) where
  -- none survives from a number on below the lowest that does
  none_between : (from w : ℕ) → from ≤ w → w < least (survives_from m from) m.width → m.survives w ≡ true → ⊥
  none_between from w h k e =
      false≢true (sym ((least_fits (survives_from m from) m.width).none_before w k) ∙ and_from (leb from w) (m.survives w) (le-leb from w h) e)

  -- the lowest from a number on is there and survives, or none does
  lowest_there : (from : ℕ)
      → ((from ≤ least (survives_from m from) m.width) × (m.survives (least (survives_from m from) m.width) ≡ true))
      ⊎ ((w : ℕ) → from ≤ w → m.survives w ≡ true → ⊥)
  lowest_there from = ⊎_elim
      (λ f. let y = and_parts (leb from (least (survives_from m from) m.width)) (m.survives (least (survives_from m from) m.width)) f.1 in
      inl (leb-true from (least (survives_from m from) m.width) y.0, y.1))
      (λ e. inr (λ w h s. none_between from w h (omega (arith, l.within w s)) s))
      (least_fits (survives_from m from) m.width).found

  no_survivor : survivors_of m ≡ 0 → (w : ℕ) → m.survives w ≡ false
  no_survivor e w = ⊎_elim (λ s. none_counted m.survives m.width e w (l.within w s)) (λ s. s) (cases_Bool (m.survives w))

  lowest_survives : (survivors_of m ≡ 0 → ⊥) → m.survives (lowest_of m) ≡ true
  lowest_survives ne = ⊎_elim (λ f. f.1) (λ none. absurd (ne (count_zero m.survives m.width (λ v k. gone none v)))) (lowest_there 0)
    where
      gone : ((w : ℕ) → 0 ≤ w → m.survives w ≡ true → ⊥) → (v : ℕ) → m.survives v ≡ false
      gone none v = ⊎_elim (λ s. absurd (none v (omega arith) s)) (λ s. s) (cases_Bool (m.survives v))

  pub lowest_below : (survivors_of m ≡ 0 → ⊥) → lowest_of m < 4096
  lowest_below ne = omega (arith, l.within (lowest_of m) (lowest_survives ne), l.few_worlds)

  only_lowest : (survivors_of m ≡ 0 → ⊥) → survivors_of m ≡ 1 → (v : ℕ) → m.survives v ≡ true → v ≡ lowest_of m
  only_lowest ne e v s = go (cases_order v (lowest_of m))
    where
      low : m.survives (lowest_of m) ≡ true
      low = lowest_survives ne

      go : (v ≡ lowest_of m) ⊎ ((v < lowest_of m) ⊎ (lowest_of m < v)) → v ≡ lowest_of m
      go (inl q) = q
      go (inr (inl k)) = absurd (none_between 0 v (omega arith) k s)
      go (inr (inr k)) = absurd (omega (arith, two_counted m.survives m.width (lowest_of m) v k (l.within v s) low s))

  second_there : (survivors_of m ≡ 0 → ⊥) → (survivors_of m ≡ 1 → ⊥) → (lowest_of m < second_of m) × (m.survives (second_of m) ≡ true)
  second_there ne more = ⊎_elim
      (λ f. (omega (arith, f.0), f.1))
      (λ none. absurd (more (one_counted m.survives m.width (lowest_of m) (l.within (lowest_of m) (lowest_survives ne)) (lowest_survives ne) (λ v k s. only none v s))))
      (lowest_there (suc (lowest_of m)))
    where
      only : ((w : ℕ) → suc (lowest_of m) ≤ w → m.survives w ≡ true → ⊥) → (v : ℕ) → m.survives v ≡ true → v ≡ lowest_of m
      only none v s = ⊎_elim (λ q. q) (⊎_elim (λ k. absurd (none_between 0 v (omega arith) k s)) (λ k. absurd (none v (omega arith) s))) (cases_order v (lowest_of m))

  two_lowest : (w : ℕ) → w < second_of m → m.survives w ≡ true → w ≡ lowest_of m
  two_lowest w k s = ⊎_elim
      (λ q. q)
      (⊎_elim (λ j. absurd (none_between 0 w (omega arith) j s)) (λ j. absurd (none_between (suc (lowest_of m)) w (omega arith) k s)))
      (cases_order w (lowest_of m))

  -- a survivor that is the lowest from the one after u on is above u
  above : (u v : ℕ) → v ≡ least (survives_from m (u + 1)) m.width → m.survives v ≡ true → u < v
  above u v e s = ⊎_elim
      (λ f. let y = and_parts (leb (u + 1) (least (survives_from m (u + 1)) m.width)) (m.survives (least (survives_from m (u + 1)) m.width)) f.1 in
      omega (arith, leb-true (u + 1) (least (survives_from m (u + 1)) m.width) y.0))
      (λ f. absurd (omega (arith, l.within v s)))
      (least_fits (survives_from m (u + 1)) m.width).found

  -- the verdict that a count, the lowest and the second give
  pub record Right (v : Verdict) : Type 0 where
    pub is : v ≡ verdict_of m
    pub names : NamesTheSurvivors m v

  module _ (n : ℕ) (many : n ≡ survivors_of m) where
    pub right_none : n ≡ 0 → Right Contradiction
    unfolding verdict_of
    right_none e = record {
      is = sym (cond-true (eqb (survivors_of m) 0) _ _ (eq-eqb (survivors_of m) 0 (sym many ∙ e)));
      names = no_survivor (sym many ∙ e);
    }

    module _ (some : n ≡ 0 → ⊥) where
      counted : survivors_of m ≡ 0 → ⊥
      counted z = some (many ∙ z)

      pub right_one : (u : ℕ) → u ≡ lowest_of m → n ≡ 1 → Right (Unique u)
      unfolding verdict_of
      right_one u low e = record {
        is =
            ap Unique low
            ∙ sym (cond-false (eqb (survivors_of m) 0) _ _ (ne_eqb (survivors_of m) 0 counted) ∙ cond-true (eqb (survivors_of m) 1) _ _ (eq-eqb (survivors_of m) 1 (sym many ∙ e)));
        names = (ap m.survives low ∙ lowest_survives counted, λ v s. only_lowest counted (sym many ∙ e) v s ∙ sym low);
      }

      pub right_more : (u v : ℕ) → u ≡ lowest_of m → v ≡ least (survives_from m (u + 1)) m.width → (n ≡ 1 → ⊥) → Right (Rivals n u v)
      unfolding verdict_of
      right_more u v low high more =
          let next : u + 1 ≡ suc (lowest_of m) = omega arith in
          let second : v ≡ second_of m = high ∙ ap (λ (k : ℕ). least (survives_from m k) m.width) next in
          let there = second_there counted (λ z. more (many ∙ z)) in
          record {
            is =
                rivals many low second
                ∙ sym (cond-false (eqb (survivors_of m) 0) _ _ (ne_eqb (survivors_of m) 0 counted) ∙ cond-false (eqb (survivors_of m) 1) _ _ (ne_eqb (survivors_of m) 1 (λ z. more (many ∙ z))));
            names = (
              ap m.survives low ∙ lowest_survives counted,
              ap m.survives second ∙ there.1,
              omega (arith, there.0),
              λ w k s. two_lowest w (omega arith) s ∙ sym low,
              many,
            );
          }
        where
          rivals : {a b c d e f : ℕ} → a ≡ b → c ≡ d → e ≡ f → Rivals a c e ≡ Rivals b d f
          rivals x y z = cc

    counted_none : m.width ≡ least (survives_from m 0) m.width → n ≡ 0
    counted_none e = many ∙ count_zero m.survives m.width (λ v k. ⊎_elim (λ s. absurd (none_between 0 v (omega arith) (omega arith) s)) (λ s. s) (cases_Bool (m.survives v)))

    counted_some : (u : ℕ) → m.survives u ≡ true → n ≡ 0 → ⊥
    counted_some u s z = false≢true (sym (none_counted m.survives m.width (sym many ∙ z) u (l.within u s)) ∙ s)

    counted_one : (u : ℕ) → u ≡ lowest_of m → m.survives u ≡ true → m.width ≡ least (survives_from m (u + 1)) m.width → n ≡ 1
    counted_one u low s e = many ∙ one_counted m.survives m.width u (l.within u s) s (λ v k t. ⊎_elim
        (λ q. q)
        (⊎_elim (λ j. absurd (none_between 0 v (omega arith) (omega arith) t)) (λ j. absurd (none_between (u + 1) v (omega arith) (omega arith) t)))
        (cases_order v u))

    counted_more : (u v : ℕ) → u < v → m.survives u ≡ true → m.survives v ≡ true → n ≡ 1 → ⊥
    counted_more u v k s t e = omega (arith, two_counted m.survives m.width u v k (l.within v t) s t)

    -- no lowest survivor; one, and none after it; one, and another after it
    pub named_none : m.width ≡ least (survives_from m 0) m.width → Right Contradiction
    named_none e = right_none (counted_none e)

    pub named_one : (u : ℕ) → u ≡ lowest_of m → m.survives u ≡ true → m.width ≡ least (survives_from m (u + 1)) m.width → Right (Unique u)
    named_one u low s e = right_one (counted_some u s) u low (counted_one u low s e)

    pub named_more : (u v : ℕ) → u ≡ lowest_of m → m.survives u ≡ true → v ≡ least (survives_from m (u + 1)) m.width → m.survives v ≡ true → Right (Rivals n u v)
    named_more u v low s high t = right_more (counted_some u s) u v low high (counted_more u v (above u v high t) s t)
