-- Lists of number pairs: how they are counted and written, and that they hold just the pairs within the bounds.
use Rattle.std.proofs.Common.{◌≡◌, ℕ, zero, suc, ◌+◌, ◌-◌, ◌*◌, ◌<◌, ◌≤◌, Bool, true, false, cond, ◌||◌, eqb, ltb, leb, List, [], ◌∷◌, ◌++◌, map, length, take, drop, set, is_ok, Ok, Err, Result, sym, refl, ap, ◌∙◌, subst, ap₂, inl, inr, ⊎_elim, arith}
use lib.Seq.{sets, sets-eq}
use borrow.Rule.Slice.PartMut.{put_mid}
use Rattle.std.proofs.lemmas.List.Sums.{sum_by-cons}
use Rattle.std.specs.List.{range_with_len, sum_by, ContainsAt as Has, flat_map, AllByRecursion}
use Rattle.std.proofs.lemmas.List.FromFn.{length-map-range_with_len, map-range_with_len_more}
use Rattle.std.proofs.ByRecursion.{All-append, all-has, All-weaker, has_append_left, has_append_right}
use Rattle.std.proofs.lemmas.List.{append_assoc, length-append, length-map, map-set, map-append, take-map, drop-map, drop-drop, take_more_set}
use Rattle.std.proofs.lemmas.Bool.{cases_eq, leb-false, ltb-false, or_parts, true≢false}
use Rattle.model.specs.declared.refusals.Refusal.{Refusal}
use Rattle.model.specs.declared.refusals.Refusal.TheVariants.{PairBounds, CaseCount, ShortList}
use Rattle.settings.specs.Pairs.{row_from, row, pairs, fill_answer, laid, filled, Before, Ascending, Bounded, PairsListed}

-- a row of so many pairs
pub row_by_length : (sum x n : ℕ) → n ≡ sum - 2 * x → row_from x (x + 1) n ≡ row sum x
unfolding row
row_by_length sum x n e = ap (row_from x (x + 1)) e

pub length_row : (sum x : ℕ) → length (row sum x) ≡ sum - 2 * x
unfolding row row_from
length_row sum x = length-map-range_with_len (λ z. (x, z)) (x + 1) (sum - 2 * x)

-- the pairs by their first row
pub pairs_step : (x sum : ℕ) → x < sum → pairs x sum ≡ row sum x ++ pairs (x + 1) sum
unfolding pairs
pairs_step x sum h =
    let e : sum - x ≡ suc (sum - (x + 1)) = omega arith in ap (λ (n : ℕ). flat_map (row sum) (range_with_len x n)) e

pub pairs_none : (x sum : ℕ) → sum ≤ x → pairs x sum ≡ []
unfolding pairs
pairs_none x sum h = let e : sum - x ≡ 0 = omega arith in ap (λ (n : ℕ). flat_map (row sum) (range_with_len x n)) e

-- the pairs are counted by rows
rows_counted : (low n sum : ℕ) → sum_by (λ x. sum - 2 * x) (range_with_len low n) ≡ length (flat_map (row sum) (range_with_len low n))
rows_counted low zero sum = refl
rows_counted low (suc n) sum =
    sum_by-cons (λ x. sum - 2 * x) low (range_with_len (low + 1) n)
    ∙ ap₂ ◌+◌ (sym (length_row sum low)) (rows_counted (low + 1) n sum)
    ∙ sym (length-append (row sum low) (flat_map (row sum) (range_with_len (low + 1) n)))

pub pairs_by_rows : (low sum : ℕ) → sum_by (λ x. sum - 2 * x) (range_with_len low (sum - low)) ≡ length (pairs low sum)
unfolding pairs
pairs_by_rows low sum = rows_counted low (sum - low) sum

pub few_pairs : (low n sum : ℕ) → sum ≤ 510 → sum_by (λ x. sum - 2 * x) (range_with_len low n) ≤ 510 * n
few_pairs low zero sum h = omega arith
few_pairs low (suc n) sum h = omega (arith, sum_by-cons (λ x. sum - 2 * x) low (range_with_len (low + 1) n), few_pairs (low + 1) n sum h)

pub count_step : (x sum : ℕ) → x < sum → length (pairs x sum) ≡ (sum - 2 * x) + length (pairs (x + 1) sum)
count_step x sum h =
    ap length (pairs_step x sum h) ∙ length-append (row sum x) (pairs (x + 1) sum) ∙ ap (λ (n : ℕ). n + length (pairs (x + 1) sum)) (length_row sum x)

pub count_none : (x sum : ℕ) → sum ≤ x → length (pairs x sum) ≡ 0
count_none x sum h = ap length (pairs_none x sum h)

-- one list written after another
sets_append : {X : Type 0} (vs ws l : List X) (i : ℕ) → sets l i (vs ++ ws) ≡ sets (sets l i vs) (i + length vs) ws
sets_append [] ws l i = let e : i ≡ i + 0 = omega arith in ap (λ (n : ℕ). sets l n ws) e
sets_append (v ∷ vs) ws l i =
    let e : suc i + length vs ≡ i + suc (length vs) = omega arith in
    sets_append vs ws (set l i v) (suc i) ∙ ap (λ (n : ℕ). sets (sets (set l i v) (suc i) vs) n ws) e

module _ {P : Type 0} (f : P → ℕ × ℕ) where
  -- a row, written pair by pair
  pub row_begun : (xs : List P) (x : ℕ) → take 0 (map f xs) ≡ row_from x (x + 1) 0
  unfolding row_from
  row_begun xs x = refl

  pub row_further : (xs : List P) (i x : ℕ) (a : P) → i < length xs → f a ≡ (x, x + 1 + i)
      → take i (map f xs) ≡ row_from x (x + 1) i → take (i + 1) (map f (set xs i a)) ≡ row_from x (x + 1) (i + 1)
  unfolding row_from
  row_further xs i x a h e inv =
      ap (take (i + 1)) (map-set f xs i a) ∙ take_more_set (map f xs) i (f a) (omega (arith, length-map xs f))
      ∙ ap₂ (λ (l : List (ℕ × ℕ)) (p : ℕ × ℕ). l ++ p ∷ []) inv e
      ∙ sym (map-range_with_len_more (λ z. (x, z)) (x + 1) i (x + 1 + i) refl)

  -- a row in its place
  pub row_placed : (xs ys : List P) (i n : ℕ) (vs : List (ℕ × ℕ)) → map f ys ≡ vs → length vs ≡ n → i + n ≤ length xs → map f (put_mid i n xs ys) ≡ sets (map f xs) i vs
  row_placed xs ys i n vs e h room =
      map-append f (take i xs) (ys ++ drop n (drop i xs))
      ∙ ap₂ ◌++◌ (sym (take-map f i xs)) (map-append f ys (drop n (drop i xs)) ∙ ap₂ ◌++◌ e rest)
      ∙ sym (append_assoc (take i (map f xs)) vs (drop (i + length vs) (map f xs)))
      ∙ sym (sets-eq vs (map f xs) i (omega (arith, length-map xs f)))
    where
      rest : map f (drop n (drop i xs)) ≡ drop (i + length vs) (map f xs)
      rest = let k : i + length vs ≡ i + n = omega arith in ap (map f) (drop-drop n i xs) ∙ sym (drop-map f (i + n) xs) ∙ ap (λ (j : ℕ). drop j (map f xs)) (sym k)

  -- after a row is written, the later rows are left to write
  pub rows_more : (xs ys : List P) (i j x sum : ℕ) (all : List (ℕ × ℕ)) → x < sum
      → map f ys ≡ sets (map f xs) i (row sum x) → j ≡ i + (sum - 2 * x)
      → sets (map f xs) i (pairs x sum) ≡ all → sets (map f ys) j (pairs (x + 1) sum) ≡ all
  rows_more xs ys i j x sum all h e p inv =
      ap₂ (λ (l : List (ℕ × ℕ)) (n : ℕ). sets l n (pairs (x + 1) sum)) e (p ∙ ap (λ (n : ℕ). i + n) (sym (length_row sum x)))
      ∙ sym (ap (sets (map f xs) i) (pairs_step x sum h) ∙ sets_append (row sum x) (pairs (x + 1) sum) (map f xs) i) ∙ inv

  -- after the last row the pairs stand at the front
  pub rows_all : (xs : List P) (old : List (ℕ × ℕ)) (i x low sum : ℕ) → sum ≤ x → length (pairs low sum) ≤ length old
      → sets (map f xs) i (pairs x sum) ≡ sets old 0 (pairs low sum) → map f xs ≡ pairs low sum ++ drop (length (pairs low sum)) old
  rows_all xs old i x low sum h room inv =
      let e : 0 + length (pairs low sum) ≡ length (pairs low sum) = omega arith in
      sym (ap (sets (map f xs) i) (pairs_none x sum h)) ∙ inv
      ∙ sets-eq (pairs low sum) old 0 (omega arith) ∙ ap (λ (n : ℕ). pairs low sum ++ drop n old) e

-- three tests in a row, each with its refusal, were passed
passed : (a b d : Bool) (p q r : Refusal) (n : ℕ)
    → is_ok (cond a (Err p) (cond b (Err q) (cond d (Err r) (Ok n)))) ≡ true
    → (a ≡ false) × (b ≡ false) × (d ≡ false) × (Ok n ≡ cond a (Err p) (cond b (Err q) (cond d (Err r) (Ok n))))
passed true b d p q r n e = absurd (true≢false (sym e))
passed false true d p q r n e = absurd (true≢false (sym e))
passed false false true p q r n e = absurd (true≢false (sym e))
passed false false false p q r n e = (refl, refl, refl, refl)

-- what an acceptance says of the bounds and of the count
pub admitted : (low sum n : ℕ) → is_ok (fill_answer low sum n) ≡ true
    → (2 * low < sum) × (sum - low ≤ 255) × (length (pairs low sum) ≤ 4096) × (length (pairs low sum) ≤ n) × (Ok (length (pairs low sum)) ≡ fill_answer low sum n)
admitted low sum n h =
    let x = passed (eqb low 0 || (leb sum (2 * low) || ltb 255 (sum - low))) (ltb 4096 (length (pairs low sum))) (ltb n (length (pairs low sum)))
    PairBounds CaseCount ShortList (length (pairs low sum)) h in
    let y = or_parts (eqb low 0) (leb sum (2 * low) || ltb 255 (sum - low)) x.0 in
    let z = or_parts (leb sum (2 * low)) (ltb 255 (sum - low)) y.1 in
    (leb-false sum (2 * low) z.0, ltb-false 255 (sum - low) z.1, ltb-false 4096 (length (pairs low sum)) x.1, ltb-false n (length (pairs low sum)) x.2, x.3)

-- a refusal leaves the list
pub refused_leaves : {P : Type 0} (f : P → ℕ × ℕ) (xs : List P) (low sum : ℕ) (e : Refusal) → Err e ≡ fill_answer low sum (length xs) → map f xs ≡ filled low sum (map f xs)
unfolding filled
refused_leaves f xs low sum e h =
    ap (λ (r : Result ℕ Refusal). laid r (pairs low sum) (map f xs)) (h ∙ ap (fill_answer low sum) (sym (length-map xs f)))

-- an acceptance lays the pairs at its front
pub accepted_fills : {P : Type 0} (f : P → ℕ × ℕ) (xs : List P) (ys : List (ℕ × ℕ)) (low sum n : ℕ) → Ok n ≡ fill_answer low sum (length xs)
    → ys ≡ pairs low sum ++ drop n (map f xs) → ys ≡ filled low sum (map f xs)
unfolding filled
accepted_fills f xs ys low sum n h e =
    e ∙ ap (λ (r : Result ℕ Refusal). laid r (pairs low sum) (map f xs)) (h ∙ ap (fill_answer low sum) (sym (length-map xs f)))

-- a row holds only pairs within the bounds
row_bounded : (low sum x y n : ℕ) → low ≤ x → x < y → (0 < n → x + y + n ≤ sum + 1) → AllByRecursion (Bounded low sum) (row_from x y n)
unfolding row_from
row_bounded low sum x y zero a b h = tt
row_bounded low sum x y (suc n) a b h =
    let k : x + y + suc n ≤ sum + 1 = h (omega arith) in
    ((a, b, omega arith), row_bounded low sum x (y + 1) n a (omega arith) (λ _. omega arith))

rows_bounded : (low sum x n : ℕ) → low ≤ x → AllByRecursion (Bounded low sum) (flat_map (row sum) (range_with_len x n))
unfolding row
rows_bounded low sum x zero a = tt
rows_bounded low sum x (suc n) a =
    All-append (Bounded low sum) (row sum x) (flat_map (row sum) (range_with_len (x + 1) n))
    (row_bounded low sum x (x + 1) (sum - 2 * x) a (omega arith) (λ h. omega arith))
    (rows_bounded low sum (x + 1) n (omega arith))

-- a row holds every pair of its x
row_has : (x y n z : ℕ) → y ≤ z → z < y + n → Has (row_from x y n) (x, z)
unfolding row_from
row_has x y zero z a b = absurd (omega arith)
row_has x y (suc n) z a b =
    ⊎_elim
    (λ e. subst (λ (w : ℕ). Has ((x, y) ∷ row_from x (y + 1) n) (x, w)) (sym e) (0, omega arith, λ _. refl))
    (λ ne. has_append_right ((x, y) ∷ []) (row_from x (y + 1) n) (x, z) (row_has x (y + 1) n z (omega arith) (omega arith)))
    (cases_eq z y)

rows_have : (sum a n x y : ℕ) → a ≤ x → x < a + n → x < y → x + y ≤ sum → Has (flat_map (row sum) (range_with_len a n)) (x, y)
unfolding row
rows_have sum a zero x y h k l m = absurd (omega arith)
rows_have sum a (suc n) x y h k l m =
    ⊎_elim
    (λ e. has_append_left (row sum a) (flat_map (row sum) (range_with_len (a + 1) n)) (x, y)
    (subst (λ (w : ℕ). Has (row sum w) (x, y)) e (row_has x (x + 1) (sum - 2 * x) y (omega arith) (omega arith))))
    (λ ne. has_append_right (row sum a) (flat_map (row sum) (range_with_len (a + 1) n)) (x, y)
    (rows_have sum (a + 1) n x y (omega arith) (omega arith) l m))
    (cases_eq x a)

-- the pairs ascend
ascending_append : (ps qs : List (ℕ × ℕ)) → Ascending ps → Ascending qs → AllByRecursion (λ p. AllByRecursion (Before p) qs) ps → Ascending (ps ++ qs)
ascending_append [] qs a b h = b
ascending_append (p ∷ ps) qs a b h = (All-append (Before p) ps qs a.0 h.0, ascending_append ps qs a.1 b h.1)

row_after : (x y z n : ℕ) → y < z → AllByRecursion (Before (x, y)) (row_from x z n)
unfolding row_from
row_after x y z zero h = tt
row_after x y z (suc n) h = (inr (refl, h), row_after x y (z + 1) n (omega arith))

row_ascends : (x y n : ℕ) → Ascending (row_from x y n)
unfolding row_from
row_ascends x y zero = tt
row_ascends x y (suc n) = (row_after x y (y + 1) n (omega arith), row_ascends x (y + 1) n)

row_of : (x y n : ℕ) → AllByRecursion (λ p. p.0 ≡ x) (row_from x y n)
unfolding row_from
row_of x y zero = tt
row_of x y (suc n) = (refl, row_of x (y + 1) n)

rows_above : (sum x a n : ℕ) → x < a → AllByRecursion (λ p. x < p.0) (flat_map (row sum) (range_with_len a n))
unfolding row
rows_above sum x a zero h = tt
rows_above sum x a (suc n) h =
    All-append (λ p. x < p.0) (row sum a) (flat_map (row sum) (range_with_len (a + 1) n))
    (All-weaker (λ p. p.0 ≡ a) (λ p. x < p.0) (λ p e. omega arith) (row sum a) (row_of a (a + 1) (sum - 2 * a)))
    (rows_above sum x (a + 1) n (omega arith))

rows_ascend : (sum a n : ℕ) → Ascending (flat_map (row sum) (range_with_len a n))
unfolding row
rows_ascend sum a zero = tt
rows_ascend sum a (suc n) =
    let rest : List (ℕ × ℕ) = flat_map (row sum) (range_with_len (a + 1) n) in
    ascending_append (row sum a) rest (row_ascends a (a + 1) (sum - 2 * a)) (rows_ascend sum (a + 1) n)
    (All-weaker (λ p. p.0 ≡ a) (λ p. AllByRecursion (Before p) rest)
    (λ p e. All-weaker (λ q. a < q.0) (Before p) (λ q l. inl (omega arith)) rest (rows_above sum a (a + 1) n (omega arith)))
    (row sum a) (row_of a (a + 1) (sum - 2 * a)))

pub pairs_listed : PairsListed
unfolding pairs
pairs_listed low sum = (
  λ x y. (
    λ has. all-has (Bounded low sum) (pairs low sum) (x, y) (rows_bounded low sum low (sum - low) (omega arith)) has,
    λ b. rows_have sum low (sum - low) x y b.0 (omega arith) b.1 b.2,
  ),
  rows_ascend sum low (sum - low),
)
