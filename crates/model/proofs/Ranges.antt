-- Numbers of a range that pass a test, against counting and the least that passes.
use Rattle.std.proofs.Common.{◌≡◌, ℕ, zero, suc, ◌+◌, ◌<◌, ◌≤◌, Bool, true, false, cond, ◌&&◌, leb, [], ◌∷◌, length, map, Some, None, Option, unwrap_or, sym, refl, ap, ◌∙◌, inl, inr, ⊎_elim, arith}
use Rattle.std.specs.List.{filter, range_with_len, sum_by}
use Rattle.std.specs.Option.{MatchOption}
use Rattle.std.proofs.lemmas.Bool.{cases_lt, and_from, and_left, and_right, le-leb, lt-leb}
use Rattle.std.proofs.lemmas.List.{map-id, length-append}
use Rattle.std.proofs.lemmas.List.FromFn.{filter_of_map_range_with_len_more, sum_by-map-range_with_len_more}
use Rattle.model.specs.Rows.{count, least}
use Rattle.model.proofs.Counts.{least_is}

module _ (p : ℕ → Bool) where
  counted_as : (n : ℕ) → length (filter p (map (λ x. x) (range_with_len 0 n))) ≡ count p n
  unfolding count
  counted_as zero = refl
  counted_as (suc n) =
      let next : suc n ≡ n + 1 = omega arith in
      ap (λ (k : ℕ). length (filter p (map (λ x. x) (range_with_len 0 k)))) next
      ∙ ap length (filter_of_map_range_with_len_more p (λ x. x) 0 n n (omega arith))
      ∙ length-append (filter p (map (λ x. x) (range_with_len 0 n))) (cond (p n) (n ∷ []) [])
      ∙ go (p n) (counted_as n)
    where
      go : (b : Bool) → length (filter p (map (λ x. x) (range_with_len 0 n))) ≡ count p n → length (filter p (map (λ x. x) (range_with_len 0 n))) + length (cond b (n ∷ []) []) ≡ cond b 1 0 + count p n
      go true e = omega arith
      go false e = omega arith

  -- a filter keeps as many numbers below n as are counted
  pub counted : (n : ℕ) → length (filter p (range_with_len 0 n)) ≡ count p n
  counted n = ap (λ xs. length (filter p xs)) (sym (map-id (range_with_len 0 n))) ∙ counted_as n

  summed_as : (n : ℕ) → sum_by (λ w. cond (p w) 1 0) (map (λ x. x) (range_with_len 0 n)) ≡ count p n
  unfolding count
  summed_as zero = refl
  summed_as (suc n) =
      let next : suc n ≡ n + 1 = omega arith in
      ap (λ (k : ℕ). sum_by (λ w. cond (p w) 1 0) (map (λ x. x) (range_with_len 0 k))) next
      ∙ sum_by-map-range_with_len_more (λ w. cond (p w) 1 0) (λ x. x) 0 n n (omega arith)
      ∙ omega (arith, summed_as n)

  -- a 1 for each number below n that passes, added up, is as many as are counted
  pub summed : (n : ℕ) → sum_by (λ w. cond (p w) 1 0) (range_with_len 0 n) ≡ count p n
  summed n = ap (λ xs. sum_by (λ w. cond (p w) 1 0) xs) (sym (map-id (range_with_len 0 n))) ∙ summed_as n

  -- the first that passes of the numbers from a to n, if any does
  abbrev pub IsFirst : ℕ → ℕ → Option ℕ → Type 0
  IsFirst a n r = MatchOption r ((k : ℕ) → a ≤ k → k < n → p k ≡ false)
      (λ i. (a ≤ i) × (i < n) × (p i ≡ true) × ((k : ℕ) → a ≤ k → k < i → p k ≡ false))

  -- from 0 on it is the least below n
  pub first_below : (n : ℕ) (r : Option ℕ) → IsFirst 0 n r → unwrap_or r n ≡ least p n
  first_below n None h = least_is p n n (record { none_before = λ v k. h v (omega arith) k; found = inr refl })
  first_below n (Some w) h = least_is p n w (record { none_before = λ v k. h.3 v (omega arith) k; found = inl (h.1, h.2) })

module _ (p : ℕ → Bool) where
  fails : (a n v : ℕ) → ((k : ℕ) → a ≤ k → k < n → p k ≡ false) → v < n → (leb a v && p v) ≡ false
  fails a n v h k = ⊎_elim (λ l. and_left (leb a v) (p v) (lt-leb a v l)) (λ l. and_right (leb a v) (p v) (h v l k)) (cases_lt v a)

  -- from 0 on it is the first that passes and is not below a
  from_zero : (a n : ℕ) (r : Option ℕ) → IsFirst p a n r → IsFirst (λ w. leb a w && p w) 0 n r
  from_zero a n None h = λ v z k. fails a n v h k
  from_zero a n (Some w) h = (omega arith, h.1, and_from (leb a w) (p w) (le-leb a w h.0) h.2, λ v z k. fails a w v h.3 k)

  -- so it is the least of those
  pub first_is_least : (a n : ℕ) (r : Option ℕ) → IsFirst p a n r → unwrap_or r n ≡ least (λ w. leb a w && p w) n
  first_is_least a n r h = first_below (λ w. leb a w && p w) n r (from_zero a n r h)
