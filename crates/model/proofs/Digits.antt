-- Binary digits of words, and the worlds of a row.
use Rattle.std.proofs.Common.{◌≡◌, ℕ, zero, suc, ◌+◌, ◌-◌, ◌*◌, ◌/◌, ◌%◌, ◌^◌, ◌<◌, ◌≤◌, Bool, true, false, cond, not, ◌&&◌, ◌||◌, eqb, ◌⊎◌, List, ◌++◌, length, take, drop, replicate, min, get_or, set, sym, refl, ap, ◌∙◌, subst, ap₂, inl, inr, ⊎_elim, add-zero, one-mul, arith, take_all, lit<}
use native.Mathlib.Nat.{div-eq_of_lt}
use lib.Bits.{bit_and, bit_or, bit_xor, and_shr, or_shr, xor_shr, and_mod, or_mod, xor_mod}
use lib.Arith.{lt-one}
use lib.Count.{ones, ones_in, ones_cat}
use lib.Pow.{mod-mod-pow}
use Rattle.std.proofs.lemmas.Nat.{pow_pos, field_of, shr_split, shr_below, div-add-mod', mod_below, div-mul-add, mod-mul-add, shl-shr, pow-add, pow_below, and_mask, one_shl}
use Rattle.std.proofs.lemmas.List.{get_or-set_same, get_or-set_other, get_or_past, get_or_append_left, get_or-append_right, get_or-take, get_or-drop, get_or-replicate, length-take-le}
use Rattle.std.proofs.lemmas.Bool.{cases_lt, cases_eq, cases_order, eq-eqb, ne_eqb, lt-ltb, le-ltb, cond-true, cond-false}
use Rattle.std.specs.List.{sum_by}
use Rattle.std.proofs.lemmas.List.Sums.{sum_by_more}
use Rattle.model.specs.Rows.{digit, bit, count, has_place, with_world, without_world, RowsAreSets}
use Rattle.model.proofs.Counts.{count_none, count_same, count_add}

-- a remainder by 2 is 0 or 1
pub two : (a : ℕ) → a < 2 → (a ≡ 0) ⊎ (a ≡ 1)
two a h = ⊎_elim (λ l. inl (omega arith)) (λ l. inr (omega arith)) (cases_lt a 1)

-- an operation on the digits of two numbers, by its laws under shift and remainder
digit_by : (op : ℕ → ℕ → ℕ) (f : Bool → Bool → Bool)
    → ((a b k : ℕ) → op a b / 2 ^ k ≡ op (a / 2 ^ k) (b / 2 ^ k)) → ((a b k : ℕ) → op a b % 2 ^ k ≡ op (a % 2 ^ k) (b % 2 ^ k))
    → ((x y : ℕ) → x < 2 → y < 2 → eqb (op x y) 1 ≡ f (eqb x 1) (eqb y 1))
    → (a b j : ℕ) → digit (op a b) j ≡ f (digit a j) (digit b j)
unfolding digit
digit_by op f shr rem bits a b j =
    ap (λ (x : ℕ). eqb (x % 2) 1) (shr a b j)
    ∙ ap (λ (x : ℕ). eqb x 1) (rem (a / 2 ^ j) (b / 2 ^ j) 1)
    ∙ bits (a / 2 ^ j % 2) (b / 2 ^ j % 2) (mod_below (a / 2 ^ j) 2 (lit< tt)) (mod_below (b / 2 ^ j) 2 (lit< tt))

-- what holds of the four pairs of binary digits holds of all
four : (P : ℕ → ℕ → Type 0) → P 0 0 → P 0 1 → P 1 0 → P 1 1 → (x y : ℕ) → x < 2 → y < 2 → P x y
four P a b c d x y h k = go (two x h) (two y k)
  where
    go : (x ≡ 0) ⊎ (x ≡ 1) → (y ≡ 0) ⊎ (y ≡ 1) → P x y
    go (inl e) (inl f) = rw (e, f) a
    go (inl e) (inr f) = rw (e, f) b
    go (inr e) (inl f) = rw (e, f) c
    go (inr e) (inr f) = rw (e, f) d

pub digit_and : (a b j : ℕ) → digit (bit_and a b) j ≡ (digit a j && digit b j)
digit_and = digit_by bit_and (λ x y. x && y) and_shr and_mod (four (λ x y. eqb (bit_and x y) 1 ≡ (eqb x 1 && eqb y 1)) refl refl refl refl)

pub digit_or : (a b j : ℕ) → digit (bit_or a b) j ≡ (digit a j || digit b j)
digit_or = digit_by bit_or (λ x y. x || y) or_shr or_mod (four (λ x y. eqb (bit_or x y) 1 ≡ (eqb x 1 || eqb y 1)) refl refl refl refl)

pub digit_xor : (a b j : ℕ) → digit (bit_xor a b) j ≡ cond (digit a j) (not (digit b j)) (digit b j)
digit_xor = digit_by bit_xor (λ x y. cond x (not y) y) xor_shr xor_mod (four (λ x y. eqb (bit_xor x y) 1 ≡ cond (eqb x 1) (not (eqb y 1)) (eqb y 1)) refl refl refl refl)

pub digit_zero : (j : ℕ) → digit 0 j ≡ false
unfolding digit
digit_zero j = ap (λ (x : ℕ). eqb (x % 2) 1) (div-eq_of_lt (pow_pos j))

-- 2 ^ j has the digit j alone
pub digit_power : (j i : ℕ) → digit (2 ^ j) i ≡ eqb i j
unfolding digit
digit_power j i = go (cases_order i j)
  where
    below : i < j → 2 ^ j / 2 ^ i ≡ 2 ^ (j - i - 1) * 2 + 0
    below h =
        let e : j ≡ (j - i - 1 + 1) + i = omega arith in
        ap (λ (x : ℕ). 2 ^ x / 2 ^ i) e ∙ ap (λ (x : ℕ). x / 2 ^ i) (pow-add 2 (j - i - 1 + 1) i) ∙ shl-shr (2 ^ (j - i - 1 + 1)) i
        ∙ pow-add 2 (j - i - 1) 1 ∙ sym (add-zero (2 ^ (j - i - 1) * 2))

    go : (i ≡ j) ⊎ ((i < j) ⊎ (j < i)) → eqb (2 ^ j / 2 ^ i % 2) 1 ≡ eqb i j
    go (inl e) = rw e (ap (λ (x : ℕ). eqb (x % 2) 1) (ap (λ (x : ℕ). x / 2 ^ j) (sym (one-mul (2 ^ j))) ∙ shl-shr 1 j) ∙ sym (eq-eqb j j refl))
    go (inr (inl h)) = ap (λ (x : ℕ). eqb (x % 2) 1) (below h) ∙ ap (λ (x : ℕ). eqb x 1) (mod-mul-add (2 ^ (j - i - 1)) 2 0 (lit< tt)) ∙ sym (ne_eqb i j (λ e. omega arith))
    go (inr (inr h)) = ap (λ (x : ℕ). eqb (x % 2) 1) (div-eq_of_lt (pow_below j i h)) ∙ sym (ne_eqb i j (λ e. omega arith))

-- a digit below k is not changed by the remainder by 2 ^ k
pub digit_mod : (n k j : ℕ) → j < k → digit (n % 2 ^ k) j ≡ digit n j
unfolding digit
digit_mod n k j h =
    let m : ℕ = k - j - 1 in
    let split : k ≡ (m + 1) + j = omega arith in
    ap (λ (x : ℕ). eqb (n % 2 ^ x / 2 ^ j % 2) 1) split
    ∙ ap (λ (x : ℕ). eqb (x % 2) 1) (field_of n (m + 1) j)
    ∙ ap (λ (x : ℕ). eqb x 1) (mod-mod-pow (n / 2 ^ j) m 1)

-- a quotient below 2 is the top digit
top_digit : (a : ℕ) → a < 2 → ones a ≡ cond (eqb (a % 2) 1) 1 0
unfolding ones ones_in
top_digit a h = ⊎_elim (λ e. rw e refl) (λ e. rw e refl) (two a h)

-- a number of k digits has as many ones as digits that are set
pub ones_digits : (k n : ℕ) → n < 2 ^ k → ones n ≡ count (digit n) k
unfolding count digit ones ones_in
ones_digits zero n h = ap ones (lt-one h)
ones_digits (suc k) n h =
    let low : n % 2 ^ k < 2 ^ k = mod_below n (2 ^ k) (pow_pos k) in
    let above : n / 2 ^ k < 2 = shr_below n 1 k (subst (λ x. n < 2 ^ x) (omega arith) h) in
    ap ones (sym (shr_split n k)) ∙ ones_cat k (n / 2 ^ k) (n % 2 ^ k) low
    ∙ ap₂ ◌+◌ (top_digit (n / 2 ^ k) above)
    (ones_digits k (n % 2 ^ k) low ∙ count_same k (digit (n % 2 ^ k)) (digit n) (λ j l. digit_mod n k j l))

-- the lowest k digits of a number, counted
pub ones_low : (k n : ℕ) → ones (bit_and n (2 ^ k - 1)) ≡ count (digit n) k
ones_low k n =
    ap ones (and_mask n k) ∙ ones_digits k (n % 2 ^ k) (mod_below n (2 ^ k) (pow_pos k))
    ∙ count_same k (digit (n % 2 ^ k)) (digit n) (λ j l. digit_mod n k j l)

-- the worlds of word i
bit_of_word : (row : List ℕ) (i j : ℕ) → j < 64 → bit row (64 * i + j) ≡ digit (get_or row i 0) j
bit_of_word row i j h =
    let place : 64 * i + j ≡ i * 64 + j = omega arith in
    ap₂ (λ (x y : ℕ). digit (get_or row x 0) y)
    (ap (λ (x : ℕ). x / 64) place ∙ div-mul-add i 64 j h)
    (ap (λ (x : ℕ). x % 64) place ∙ mod-mul-add i 64 j h)

-- the first k worlds of word i, counted after those of the words before it
pub count_word : (row : List ℕ) (i k : ℕ) → k ≤ 64 → count (bit row) (64 * i + k) ≡ count (bit row) (64 * i) + count (digit (get_or row i 0)) k
count_word row i k h =
    count_add (64 * i) k (bit row)
    ∙ ap (λ (x : ℕ). count (bit row) (64 * i) + x) (count_same k (λ j. bit row (64 * i + j)) (digit (get_or row i 0)) (λ j l. bit_of_word row i j (omega arith)))

-- a row with another word at the place of world w, that differs in its digit alone
module _ (row : List ℕ) (w x : ℕ) (b : Bool) (is : digit x (w % 64) ≡ b) (other : (i : ℕ) → (i ≡ w % 64 → ⊥) → digit x i ≡ digit (get_or row (w / 64) 0) i) where
  same_place : (v : ℕ) → v / 64 ≡ w / 64 → v % 64 ≡ w % 64 → v ≡ w
  same_place v e f = sym (div-add-mod' v 64) ∙ ap₂ (λ (q r : ℕ). q * 64 + r) e f ∙ div-add-mod' w 64

  bit_changed : w / 64 < length row → (v : ℕ) → bit (set row (w / 64) x) v ≡ cond (eqb v w) b (bit row v)
  bit_changed h v = go (cases_eq (v / 64) (w / 64)) (cases_eq (v % 64) (w % 64))
    where
      go : (v / 64 ≡ w / 64) ⊎ (v / 64 ≡ w / 64 → ⊥) → (v % 64 ≡ w % 64) ⊎ (v % 64 ≡ w % 64 → ⊥) → digit (get_or (set row (w / 64) x) (v / 64) 0) (v % 64) ≡ cond (eqb v w) b (digit (get_or row (v / 64) 0) (v % 64))
      go (inl e) (inl f) =
          ap₂ (λ (p q : ℕ). digit (get_or (set row (w / 64) x) p 0) q) e f ∙ ap (λ (y : ℕ). digit y (w % 64)) (get_or-set_same row (w / 64) x 0 h)
          ∙ is ∙ sym (cond-true (eqb v w) b _ (eq-eqb v w (same_place v e f)))
      go (inl e) (inr f) =
          ap (λ (p : ℕ). digit (get_or (set row (w / 64) x) p 0) (v % 64)) e ∙ ap (λ (y : ℕ). digit y (v % 64)) (get_or-set_same row (w / 64) x 0 h)
          ∙ other (v % 64) f ∙ ap (λ (p : ℕ). digit (get_or row p 0) (v % 64)) (sym e)
          ∙ sym (cond-false (eqb v w) b _ (ne_eqb v w (λ q. f (ap (λ (n : ℕ). n % 64) q))))
      go (inr e) f =
          ap (λ (y : ℕ). digit y (v % 64)) (get_or-set_other row (w / 64) (v / 64) x 0 e)
          ∙ sym (cond-false (eqb v w) b _ (ne_eqb v w (λ q. e (ap (λ (n : ℕ). n / 64) q))))

-- a world past the row's end is not in it
past_end : (row : List ℕ) (w v : ℕ) → length row ≤ w / 64 → bit row v ≡ cond (eqb v w) false (bit row v)
past_end row w v h = go (cases_eq v w)
  where
    go : (v ≡ w) ⊎ (v ≡ w → ⊥) → bit row v ≡ cond (eqb v w) false (bit row v)
    go (inl e) = ap (bit row) e ∙ ap (λ (y : ℕ). digit y (w % 64)) (get_or_past row (w / 64) 0 h) ∙ digit_zero (w % 64) ∙ sym (cond-true (eqb v w) false _ (eq-eqb v w e))
    go (inr e) = sym (cond-false (eqb v w) false _ (ne_eqb v w e))

module _ (row : List ℕ) (w v : ℕ) where
  -- the digit of w in a word made from its own
  own : (f : Bool → Bool) → f (digit (2 ^ (w % 64)) (w % 64)) ≡ f true
  own f = ap f (digit_power (w % 64) (w % 64) ∙ eq-eqb (w % 64) (w % 64) refl)

  others : (f : Bool → Bool) (i : ℕ) → (i ≡ w % 64 → ⊥) → f (digit (2 ^ (w % 64)) i) ≡ f false
  others f i ne = ap f (digit_power (w % 64) i ∙ ne_eqb i (w % 64) ne)

  bit_with : bit (with_world row w) v ≡ cond (eqb v w) (has_place row w) (bit row v)
  bit_with = ⊎_elim
      (λ h. rw (lt-ltb (w / 64) (length row) h) (bit_changed row w (bit_or (get_or row (w / 64) 0) (2 ^ (w % 64))) true
      (digit_or (get_or row (w / 64) 0) (2 ^ (w % 64)) (w % 64) ∙ own (λ y. digit (get_or row (w / 64) 0) (w % 64) || y) ∙ or_true (digit (get_or row (w / 64) 0) (w % 64)))
      (λ i ne. digit_or (get_or row (w / 64) 0) (2 ^ (w % 64)) i ∙ others (λ y. digit (get_or row (w / 64) 0) i || y) i ne ∙ or-false (digit (get_or row (w / 64) 0) i))
      h v))
      (λ h. rw (le-ltb (w / 64) (length row) h) (past_end row w v h))
      (cases_lt (w / 64) (length row))
    where
      or_true : (b : Bool) → (b || true) ≡ true
      or_true true = refl
      or_true false = refl

      or-false : (b : Bool) → (b || false) ≡ b
      or-false true = refl
      or-false false = refl

  bit_without : bit (without_world row w) v ≡ cond (eqb v w) false (bit row v)
  bit_without = ⊎_elim
      (λ h. rw (lt-ltb (w / 64) (length row) h) (bit_changed row w (bit_xor (get_or row (w / 64) 0) (bit_and (get_or row (w / 64) 0) (2 ^ (w % 64)))) false
      (each (w % 64) ∙ own (λ y. digit (get_or row (w / 64) 0) (w % 64) && not y) ∙ and_false (digit (get_or row (w / 64) 0) (w % 64)))
      (λ i ne. each i ∙ others (λ y. digit (get_or row (w / 64) 0) i && not y) i ne ∙ and-true (digit (get_or row (w / 64) 0) i))
      h v))
      (λ h. rw (le-ltb (w / 64) (length row) h) (past_end row w v h))
      (cases_lt (w / 64) (length row))
    where
      and_false : (b : Bool) → (b && false) ≡ false
      and_false true = refl
      and_false false = refl

      and-true : (b : Bool) → (b && true) ≡ b
      and-true true = refl
      and-true false = refl

      less : (x y : Bool) → cond x (not (x && y)) (x && y) ≡ (x && not y)
      less true y = refl
      less false y = refl

      each : (i : ℕ) → digit (bit_xor (get_or row (w / 64) 0) (bit_and (get_or row (w / 64) 0) (2 ^ (w % 64)))) i ≡ (digit (get_or row (w / 64) 0) i && not (digit (2 ^ (w % 64)) i))
      each i =
          digit_xor (get_or row (w / 64) 0) (bit_and (get_or row (w / 64) 0) (2 ^ (w % 64))) i
          ∙ ap (λ (y : Bool). cond (digit (get_or row (w / 64) 0) i) (not y) y) (digit_and (get_or row (w / 64) 0) (2 ^ (w % 64)) i)
          ∙ less (digit (get_or row (w / 64) 0) i) (digit (2 ^ (w % 64)) i)

pub rows_are_sets : RowsAreSets
rows_are_sets row w v = (bit_with row w v, bit_without row w v)

-- the test of a digit by shift and mask
pub tested : (word place : ℕ) → eqb (bit_and (word / 2 ^ place) 1) 1 ≡ digit word place
unfolding digit
tested word place = ap (λ (y : ℕ). eqb y 1) (and_mask (word / 2 ^ place) 1)

-- a whole word is counted
pub count_whole : (row : List ℕ) (i t x : ℕ) → t ≡ count (bit row) (64 * i) → x ≡ get_or row i 0 → x < 2 ^ 64 → t + ones x ≡ count (bit row) (64 * (i + 1))
count_whole row i t x e f h =
    let place : 64 * (i + 1) ≡ 64 * i + 64 = omega arith in
    ap₂ ◌+◌ e (ones_digits 64 x h ∙ ap (λ (y : ℕ). count (digit y) 64) f) ∙ sym (count_word row i 64 (omega arith)) ∙ ap (count (bit row)) (sym place)

-- and then a part of the last one
pub count_rest : (row : List ℕ) (i k t x : ℕ) → k < 64 → t ≡ count (bit row) (64 * i) → x ≡ get_or row i 0
    → t + ones (bit_and x ((1 * 2 ^ k) % 2 ^ 64 - 1)) ≡ count (bit row) (64 * i + k)
count_rest row i k t x h e f =
    ap₂ ◌+◌ e (ap (λ (y : ℕ). ones (bit_and x (y - 1))) (one_shl k 64 h) ∙ ones_low k x ∙ ap (λ (y : ℕ). count (digit y) k) f)
    ∙ sym (count_word row i k (omega arith))

-- the ones of the first k words, each of at most 64 digits; a word past the row's end has none
pub ones_of_words : (row : List ℕ) → ((i : ℕ) → get_or row i 0 < 2 ^ 64) → (k : ℕ) → sum_by ones (take k row) ≡ count (bit row) (64 * k)
unfolding ones
ones_of_words row fits zero = sym (count_none (bit row))
ones_of_words row fits (suc k) =
    let next : suc k ≡ k + 1 = omega arith in
    ap (λ (i : ℕ). sum_by ones (take i row)) next
    ∙ more (cases_lt k (length row))
    ∙ count_whole row k (sum_by ones (take k row)) (get_or row k 0) (ones_of_words row fits k) refl (fits k)
    ∙ ap (λ (i : ℕ). count (bit row) (64 * i)) (sym next)
  where
    more : (k < length row) ⊎ (length row ≤ k) → sum_by ones (take (k + 1) row) ≡ sum_by ones (take k row) + ones (get_or row k 0)
    more (inl h) = sum_by_more ones row k 0 h
    more (inr h) =
        ap (sum_by ones) (take_all (k + 1) row (omega arith) ∙ sym (take_all k row h))
        ∙ sym (add-zero (sum_by ones (take k row)))
        ∙ ap (λ (x : ℕ). sum_by ones (take k row) + ones x) (sym (get_or_past row k 0 h))

-- the front of a row, and zeros up to 64 words
pub front_and_zeros : (row : List ℕ) (kept i : ℕ) → kept ≡ min (length row) 64 → i < 64 → get_or (take kept row ++ drop kept (replicate 64 0)) i 0 ≡ get_or row i 0
front_and_zeros row kept i e h = ⊎_elim
    (λ l. get_or_append_left (take kept row) (drop kept (replicate 64 0)) 0 i (omega (arith, long)) ∙ get_or-take kept row i 0 l)
    (λ l. get_or-append_right (take kept row) (drop kept (replicate 64 0)) kept i 0 long l ∙ get_or-drop kept (replicate 64 0) (i - kept) 0 ∙ get_or-replicate 64 (kept + (i - kept)) 0 0 (omega arith) ∙ sym (get_or_past row i 0 (omega arith)))
    (cases_lt i kept)
  where
    long : length (take kept row) ≡ kept
    long = length-take-le kept row (omega arith)
