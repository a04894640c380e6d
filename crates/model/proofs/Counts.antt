-- Counting, and the least number that passes a test.
use Rattle.std.proofs.Common.{◌≡◌, ℕ, zero, suc, ◌+◌, ◌<◌, ◌≤◌, Bool, true, false, cond, ◌||◌, ltb, ◌⊎◌, sym, refl, ap, ◌∙◌, ap₂, inl, inr, ⊎_elim, add-zero, add-suc, arith}
use Rattle.std.proofs.lemmas.Bool.{cases_Bool, cases_lt, lt-ltb, le-ltb, false≢true}
use Rattle.model.specs.Rows.{count, least}

-- tests that agree below n count alike
pub count_same : (n : ℕ) (p q : ℕ → Bool) → ((k : ℕ) → k < n → p k ≡ q k) → count p n ≡ count q n
unfolding count
count_same zero p q h = refl
count_same (suc n) p q h = ap₂ (λ (b : Bool) (x : ℕ). cond b 1 0 + x) (h n (omega arith)) (count_same n p q (λ k l. h k (omega arith)))

-- the numbers below m, then the n after them
pub count_add : (m n : ℕ) (p : ℕ → Bool) → count p (m + n) ≡ count p m + count (λ j. p (m + j)) n
unfolding count
count_add m zero p = ap (count p) (add-zero m) ∙ sym (add-zero (count p m))
count_add m (suc n) p =
    ap (count p) (add-suc m n)
    ∙ (let e : count p (m + n) ≡ count p m + count (λ j. p (m + j)) n = count_add m n p in omega arith)

module _ (p : ℕ → Bool) where
  -- the number n passes and is counted, or does not
  count_suc : (n : ℕ) → ((p n ≡ true) × (count p (suc n) ≡ 1 + count p n)) ⊎ ((p n ≡ false) × (count p (suc n) ≡ count p n))
  unfolding count
  count_suc n = go (p n)
    where
      go : (b : Bool) → ((b ≡ true) × (cond b 1 0 + count p n ≡ 1 + count p n)) ⊎ ((b ≡ false) × (cond b 1 0 + count p n ≡ count p n))
      go true = inl (refl, refl)
      go false = inr (refl, omega arith)

  pub count_none : count p 0 ≡ 0
  unfolding count
  count_none = refl

  pub count_yes : (n k : ℕ) → k ≡ count p n → p n ≡ true → k + 1 ≡ count p (n + 1)
  unfolding count
  count_yes n k e t = let x : n + 1 ≡ suc n = omega arith in rw (e, x, t) (omega arith)

  pub count_no : (n k : ℕ) → k ≡ count p n → p n ≡ false → k ≡ count p (n + 1)
  unfolding count
  count_no n k e t = let x : n + 1 ≡ suc n = omega arith in rw (e, x, t) (omega arith)

  pub count_le : (n : ℕ) → count p n ≤ n
  count_le zero = omega (arith, count_none)
  count_le (suc n) = ⊎_elim (λ s. omega (arith, s.1, count_le n)) (λ s. omega (arith, s.1, count_le n)) (count_suc n)

  pub count_zero : (n : ℕ) → ((v : ℕ) → v < n → p v ≡ false) → count p n ≡ 0
  count_zero zero h = count_none
  count_zero (suc n) h =
      ⊎_elim (λ s. absurd (false≢true (sym (h n (omega arith)) ∙ s.0))) (λ s. s.1 ∙ count_zero n (λ v l. h v (omega arith))) (count_suc n)

  -- where none is counted, none passes
  pub none_counted : (n : ℕ) → count p n ≡ 0 → (v : ℕ) → v < n → p v ≡ false
  none_counted zero e v l = absurd (omega arith)
  none_counted (suc n) e v l = ⊎_elim (λ s. absurd (omega (arith, s.1))) (λ s. ⊎_elim (λ k. none_counted n (sym s.1 ∙ e) v k) (λ k. ap p (same k) ∙ s.0) (cases_lt v n)) (count_suc n)
    where
      same : n ≤ v → v ≡ n
      same k = omega arith

  -- the least is below n and passes, with none before it, or it is n and none passes
  pub record Least (n l : ℕ) : Type 0 where
    pub none_before : (v : ℕ) → v < l → p v ≡ false
    pub found : ((l < n) × (p l ≡ true)) ⊎ (l ≡ n)

  least_step : (n l : ℕ) → ((k : ℕ) → Least n k → k ≡ least p n) → Least (suc n) l → l ≡ cond (ltb (least p n) n || p n) (least p n) (suc n)
  least_step n l ih h = go (cases_lt l n) h.found
    where
      -- none passes below n, so the least below n is n
      top : n ≤ l → n ≡ least p n
      top k = ih n (record { none_before = λ v j. h.none_before v (omega arith); found = inr refl })

      lower : (m : ℕ) → m ≡ l → m < n → l ≡ cond (ltb m n || p n) m (suc n)
      lower m e k = rw (lt-ltb m n k) (sym e)

      here : (m : ℕ) (b : Bool) → m ≡ n → p n ≡ b → l ≡ cond b n (suc n) → l ≡ cond (ltb m n || p n) m (suc n)
      here m true e t x = rw (le-ltb m n (omega arith), t) (x ∙ sym e)
      here m false e t x = rw (le-ltb m n (omega arith), t) x

      go : (l < n) ⊎ (n ≤ l) → ((l < suc n) × (p l ≡ true)) ⊎ (l ≡ suc n) → l ≡ cond (ltb (least p n) n || p n) (least p n) (suc n)
      go (inl k) (inl f) =
          let e : l ≡ least p n = ih l (record { none_before = h.none_before; found = inl (k, f.1) }) in
          lower (least p n) (sym e) (omega arith)
      go (inl k) (inr e) = absurd (omega arith)
      go (inr k) (inl f) = let e : l ≡ n = omega (arith, f.0) in here (least p n) true (sym (top k)) (ap p (sym e) ∙ f.1) e
      go (inr k) (inr e) = here (least p n) false (sym (top k)) (h.none_before n (omega arith)) e

  pub least_is : (n l : ℕ) → Least n l → l ≡ least p n
  unfolding least
  least_is zero l h = ⊎_elim (λ f. absurd (omega (arith, f.0))) (λ e. e) h.found
  least_is (suc n) l h = least_step n l (least_is n) h

  least_has : (n : ℕ) → (l : ℕ) × Least n l
  least_has zero = (0, record { none_before = λ v k. absurd (omega arith); found = inr refl })
  least_has (suc n) = go (least_has n)
    where
      more : (l : ℕ) → Least n l → ((l < n) × (p l ≡ true)) ⊎ (l ≡ n) → (k : ℕ) × Least (suc n) k
      more l h (inl f) = (l, record { none_before = h.none_before; found = inl (omega (arith, f.0), f.1) })
      more l h (inr e) = ⊎_elim
          (λ t. (n, record { none_before = λ v k. h.none_before v (omega arith); found = inl (omega arith, t) }))
          (λ t. (suc n, record { none_before = λ v k. ⊎_elim (λ j. h.none_before v (omega arith)) (λ j. let q : v ≡ n = omega arith in ap p q ∙ t) (cases_lt v n); found = inr refl }))
          (cases_Bool (p n))

      go : (l : ℕ) × Least n l → (k : ℕ) × Least (suc n) k
      go x = more x.0 x.1 x.1.found

  pub least_fits : (n : ℕ) → Least n (least p n)
  least_fits n = let x = least_has n in let e = least_is n x.0 x.1 in rw e at x.1

  -- some number passes, so the least does
  pub least_passes : (n v : ℕ) → v < n → p v ≡ true → (least p n < n) × (p (least p n) ≡ true)
  least_passes n v l e = ⊎_elim (λ f. f) (λ f. absurd (false≢true (sym ((least_fits n).none_before v (omega arith)) ∙ e))) (least_fits n).found

  -- one passes and no other does: one is counted
  pub one_counted : (n w : ℕ) → w < n → p w ≡ true → ((v : ℕ) → v < n → p v ≡ true → v ≡ w) → count p n ≡ 1
  one_counted zero w l e u = absurd (omega arith)
  one_counted (suc n) w l e u = go (one_counted n w) (count_suc n) (cases_lt w n)
    where
      none : p n ≡ true → (v : ℕ) → v < n → p v ≡ false
      none t v k = ⊎_elim (λ x. absurd (omega (arith, u v (omega arith) x, u n (omega arith) t))) (λ x. x) (cases_Bool (p v))

      go : (w < n → p w ≡ true → ((v : ℕ) → v < n → p v ≡ true → v ≡ w) → count p n ≡ 1)
          → ((p n ≡ true) × (count p (suc n) ≡ 1 + count p n)) ⊎ ((p n ≡ false) × (count p (suc n) ≡ count p n))
          → (w < n) ⊎ (n ≤ w) → count p (suc n) ≡ 1
      go ih (inl s) b = s.1 ∙ ap (λ k. 1 + k) (count_zero n (none s.0))
      go ih (inr s) (inl k) = s.1 ∙ ih k e (λ v j. u v (omega arith))
      go ih (inr s) (inr k) = let q : n ≡ w = omega arith in absurd (false≢true (sym s.0 ∙ ap p q ∙ e))

  -- two are counted where two pass
  pub two_counted : (n u v : ℕ) → u < v → v < n → p u ≡ true → p v ≡ true → 2 ≤ count p n
  two_counted zero u v l k x y = absurd (omega arith)
  two_counted (suc n) u v l k x y = go (two_counted n u v l) (count_suc n) (cases_lt v n)
    where
      some : 0 < count p n
      some = ⊎_elim (λ z. absurd (false≢true (sym (none_counted n (omega arith) u (omega arith)) ∙ x))) (λ z. z) (cases_lt' (count p n))
        where
          cases_lt' : (c : ℕ) → (c < 1) ⊎ (0 < c)
          cases_lt' c = ⊎_elim inl (λ h. inr (omega arith)) (cases_lt c 1)

      go : (v < n → p u ≡ true → p v ≡ true → 2 ≤ count p n)
          → ((p n ≡ true) × (count p (suc n) ≡ 1 + count p n)) ⊎ ((p n ≡ false) × (count p (suc n) ≡ count p n))
          → (v < n) ⊎ (n ≤ v) → 2 ≤ count p (suc n)
      go ih (inl s) (inl j) = omega (arith, s.1, ih j x y)
      go ih (inl s) (inr j) = omega (arith, s.1, some)
      go ih (inr s) (inl j) = omega (arith, s.1, ih j x y)
      go ih (inr s) (inr j) = let q : n ≡ v = omega arith in absurd (false≢true (sym s.0 ∙ ap p q ∙ y))
