-- Rows put into a work area.
use Rattle.std.proofs.Common.{◌≡◌, ℕ, suc, ◌+◌, ◌-◌, ◌*◌, ◌<◌, ◌≤◌, List, ◌++◌, length, take, drop, sym, ap, ◌∙◌, ap₂, append_assoc, suc-mul, arith, length-append, length-drop, length-take, length-take-le, take-take, drop-drop, take_at, drop_at}
use lib.Seq.{take-append-le}
use Rattle.std.proofs.lemmas.List.{drop-take}
use borrow.Rule.Slice.PartMut.{put_mid}
use Rattle.std.proofs.lemmas.Nat.{mul-le}
use Rattle.evaluator.specs.Rows.{row_at, with_row}

-- row j stands before row i
pub row_fits : (j i r room : ℕ) → j < i → i * r ≤ room → j * r + r ≤ room
row_fits j i r room h l = omega (arith, mul-le (suc j) r i r h (omega arith), suc-mul j r)

-- the part of a work area that is lent as row i, and what it comes back as
module _ (xs : List ℕ) (r i : ℕ) where
  size : i * r + r - i * r ≡ r
  size = omega arith

  pub lent : take (i * r + r - i * r) (drop (i * r) xs) ≡ row_at xs r i
  unfolding row_at
  lent = ap (λ (k : ℕ). take k (drop (i * r) xs)) size

  pub put_back : (row : List ℕ) → put_mid (i * r) (i * r + r - i * r) xs row ≡ with_row xs r i row
  unfolding with_row
  put_back row = ap (λ (rest : List ℕ). take (i * r) xs ++ (row ++ rest)) (ap (λ (k : ℕ). drop k (drop (i * r) xs)) size ∙ drop-drop r (i * r) xs)

  pub lent_length : i * r + r ≤ length xs → length (take (i * r + r - i * r) (drop (i * r) xs)) ≡ r
  lent_length fits = simp (length-take, length-drop) (omega arith)

  module _ (fits : i * r + r ≤ length xs) (row : List ℕ) (full : length row ≡ r) where
    front : length (take (i * r) xs) ≡ i * r
    front = length-take-le (i * r) xs (omega arith)

    pub row_there : row_at (with_row xs r i row) r i ≡ row
    unfolding row_at with_row
    row_there =
        ap (take r) (drop_at (take (i * r) xs) (row ++ drop (i * r + r) xs) (i * r) front)
        ∙ take_at row (drop (i * r + r) xs) r full

    pub row_again : (other : List ℕ) → with_row (with_row xs r i row) r i other ≡ with_row xs r i other
    unfolding with_row
    row_again other =
        ap₂ (λ (a b : List ℕ). a ++ (other ++ b))
        (take_at (take (i * r) xs) (row ++ drop (i * r + r) xs) (i * r) front)
        (ap (drop (i * r + r)) (sym (append_assoc (take (i * r) xs) row (drop (i * r + r) xs)))
        ∙ drop_at (take (i * r) xs ++ row) (drop (i * r + r) xs) (i * r + r) (omega (arith, length-append (take (i * r) xs) row, front)))

    -- an earlier row stays
    pub row_before : (j : ℕ) → j < i → row_at (with_row xs r i row) r j ≡ row_at xs r j
    unfolding row_at with_row
    row_before j l =
        let b : j * r + r ≤ i * r = row_fits j i r (i * r) l (omega arith) in
        sym (drop-take (j * r) r (take (i * r) xs ++ (row ++ drop (i * r + r) xs)))
        ∙ ap (drop (j * r)) (take-append-le (j * r + r) (take (i * r) xs) (row ++ drop (i * r + r) xs) (omega (arith, front)) ∙ take-take (j * r + r) (i * r) xs b)
        ∙ drop-take (j * r) r xs
