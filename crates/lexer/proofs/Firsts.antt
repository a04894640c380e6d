-- The piece that bytes begin with, by the first of them.
use Rattle.std.proofs.Common.{◌≡◌, ℕ, suc, ◌+◌, ◌<◌, ◌≤◌, nat_lt, true, false, cond, List, [], ◌∷◌, length, take, drop, Some, None, Option, slice_get, sym, ap, ◌∙◌, subst, ⊎_elim, one-add, arith}
use Rattle.std.specs.List.{prefix_len}
use Rattle.std.proofs.lemmas.List.{length-take-le}
use Rattle.std.proofs.lemmas.List.Sums.{prefix_len-le-length, prefix_len_stops, prefix_len-drop_no, prefix_len-drop_all}
use Rattle.std.proofs.lemmas.Bool.{cases_Bool, cond-true, cond-false}
use Rattle.lexer.specs.declared.tokens.Class.{Class}
use Rattle.lexer.specs.declared.tokens.Class.TheVariants.{Space, Digit, Letter}
use Rattle.lexer.specs.declared.tokens.Sign.{Sign as Mark}
use Rattle.lexer.specs.Bytes.{belongs, sign_of}
use Rattle.lexer.specs.Tokens.{Piece, word, piece_at, numeral, mark, more, scan}
use borrow.Author.Tests.{ltb-true, ltb-false}
use Rattle.lexer.proofs.Scans.{scan_skip}

-- no space follows spaces
pub no_space : (bs : List ℕ) → prefix_len (belongs Space) (drop (prefix_len (belongs Space) bs) bs) ≡ 0
no_space bs = ⊎_elim inside outside (cases_Bool (nat_lt (prefix_len (belongs Space) bs) (length bs)))
  where
    inside : nat_lt (prefix_len (belongs Space) bs) (length bs) ≡ true → prefix_len (belongs Space) (drop (prefix_len (belongs Space) bs) bs) ≡ 0
    inside h = let lt : prefix_len (belongs Space) bs < length bs = ltb-true _ _ h in prefix_len-drop_no (belongs Space) bs (prefix_len (belongs Space) bs) 0 lt (prefix_len_stops (belongs Space) bs 0 lt)

    outside : nat_lt (prefix_len (belongs Space) bs) (length bs) ≡ false → prefix_len (belongs Space) (drop (prefix_len (belongs Space) bs) bs) ≡ 0
    outside h = prefix_len-drop_all (belongs Space) bs (prefix_len (belongs Space) bs) (ltb-false _ _ h)

module _ (c b : ℕ) (bs : List ℕ) (blank : prefix_len (belongs Space) (b ∷ bs) ≡ 0) where
  none_here : belongs Space b ≡ false
  none_here = ⊎_elim (λ e. absurd (omega (arith, blank, ap (λ t. cond t (1 + prefix_len (belongs Space) bs) 0) e))) (λ e. e) (cases_Bool (belongs Space b))

  -- a piece of k bytes after the first
  front : (p : Piece) (k : ℕ) → piece_at b bs ≡ p → more b bs ≡ k → k ≤ length bs → scan 0 c (b ∷ bs) ≡ record { piece = p; column = c } ∷ scan 0 (c + suc k) (drop k bs)
  front p k is size fits =
      cond-false (belongs Space b) _ _ none_here
      ∙ (λ i. record { piece = is i; column = c } ∷ scan (size i) (c + 1) bs)
      ∙ ap (λ l. record { piece = p; column = c } ∷ l) (scan_skip k (c + 1) bs fits ∙ ap (λ n. scan 0 n (drop k bs)) (let e : c + 1 + k ≡ c + suc k = omega arith in e))

  digits_at : belongs Digit b ≡ true → (n : ℕ) (p : Piece) → n ≡ prefix_len (belongs Digit) (b ∷ bs) → numeral (take n (b ∷ bs)) ≡ p → scan 0 c (b ∷ bs) ≡ record { piece = p; column = c } ∷ scan 0 (c + n) (drop n (b ∷ bs))
  digits_at d n p e is =
      let k : ℕ = prefix_len (belongs Digit) bs in
      let size : n ≡ suc k = e ∙ cond-true _ _ _ d ∙ one-add k in
      let P : ℕ → Type 0 = λ m. numeral (take m (b ∷ bs)) ≡ p → scan 0 c (b ∷ bs) ≡ record { piece = p; column = c } ∷ scan 0 (c + m) (drop m (b ∷ bs)) in
      subst P (sym size) (λ here. front p k (cond-true _ _ _ d ∙ here) (cond-true _ _ _ d) (prefix_len-le-length (belongs Digit) bs)) is

  module _ (d : belongs Digit b ≡ false) where
    letters_at : belongs Letter b ≡ true → (n : ℕ) → n ≡ prefix_len (belongs Letter) (b ∷ bs) → scan 0 c (b ∷ bs) ≡ record { piece = word (take n (b ∷ bs)); column = c } ∷ scan 0 (c + n) (drop n (b ∷ bs))
    letters_at l n e =
        let k : ℕ = prefix_len (belongs Letter) bs in
        let size : n ≡ suc k = e ∙ cond-true _ _ _ l ∙ one-add k in
        let P : ℕ → Type 0 = λ m. scan 0 c (b ∷ bs) ≡ record { piece = word (take m (b ∷ bs)); column = c } ∷ scan 0 (c + m) (drop m (b ∷ bs)) in
        subst P (sym size) (front _ k (cond-false _ _ _ d ∙ cond-true _ _ _ l) (cond-false _ _ _ d ∙ cond-true _ _ _ l) (prefix_len-le-length (belongs Letter) bs))

    mark_at : belongs Letter b ≡ false → (o : Option Mark) → o ≡ sign_of b → scan 0 c (b ∷ bs) ≡ record { piece = mark o; column = c } ∷ scan 0 (c + 1) bs
    mark_at l o e = front (mark o) 0 (cond-false _ _ _ d ∙ cond-false _ _ _ l ∙ ap mark (sym e)) (cond-false _ _ _ d ∙ cond-false _ _ _ l) (omega arith)

-- the bytes are the first and the others
pub front_is : (xs : List ℕ) (b : ℕ) → Some b ≡ slice_get xs 0 → xs ≡ b ∷ drop 1 xs
front_is [] b e = absurd (let z : Some b ≡ None = e in let q : ◌≡◌ {A = ℕ} 0 1 = cc in omega arith)
front_is (x ∷ xs) b e = let same : x ≡ b = cc in ap (λ y. y ∷ xs) same

-- a run of n bytes
module _ (k : Class) (xs : List ℕ) (n : ℕ) (e : n ≡ prefix_len (belongs k) xs) where
  pub sized : length (take n xs) ≡ n
  sized = length-take-le n xs (omega (arith, e, prefix_len-le-length (belongs k) xs))

  pub fits : length (take n xs) ≤ length xs
  fits = omega (arith, sized, e, prefix_len-le-length (belongs k) xs)

module _ (c : ℕ) (xs : List ℕ) (blank : prefix_len (belongs Space) xs ≡ 0) (b : ℕ) (some : Some b ≡ slice_get xs 0) where
  pub first_digits : belongs Digit b ≡ true → (n : ℕ) (p : Piece) → n ≡ prefix_len (belongs Digit) xs → numeral (take n xs) ≡ p → scan 0 c xs ≡ record { piece = p; column = c } ∷ scan 0 (c + length (take n xs)) (drop (length (take n xs)) xs)
  first_digits d n p e is =
      let P : List ℕ → Type 0 = λ l. prefix_len (belongs Space) l ≡ 0 → n ≡ prefix_len (belongs Digit) l → numeral (take n l) ≡ p → scan 0 c l ≡ record { piece = p; column = c } ∷ scan 0 (c + n) (drop n l) in
      subst P (sym (front_is xs b some)) (λ h. digits_at c b (drop 1 xs) h d n p) blank e is
      ∙ ap (λ m. record { piece = p; column = c } ∷ scan 0 (c + m) (drop m xs)) (sym (sized Digit xs n e))

  module _ (d : belongs Digit b ≡ false) where
    pub first_letters : belongs Letter b ≡ true → (n : ℕ) → n ≡ prefix_len (belongs Letter) xs → scan 0 c xs ≡ record { piece = word (take n xs); column = c } ∷ scan 0 (c + length (take n xs)) (drop (length (take n xs)) xs)
    first_letters l n e =
        let P : List ℕ → Type 0 = λ ys. prefix_len (belongs Space) ys ≡ 0 → n ≡ prefix_len (belongs Letter) ys → scan 0 c ys ≡ record { piece = word (take n ys); column = c } ∷ scan 0 (c + n) (drop n ys) in
        subst P (sym (front_is xs b some)) (λ h. letters_at c b (drop 1 xs) h d l n) blank e
        ∙ ap (λ m. record { piece = word (take n xs); column = c } ∷ scan 0 (c + m) (drop m xs)) (sym (sized Letter xs n e))

    pub first_mark : belongs Letter b ≡ false → (o : Option Mark) → o ≡ sign_of b → scan 0 c xs ≡ record { piece = mark o; column = c } ∷ scan 0 (c + 1) (drop 1 xs)
    first_mark l o e =
        let P : List ℕ → Type 0 = λ ys. prefix_len (belongs Space) ys ≡ 0 → scan 0 c ys ≡ record { piece = mark o; column = c } ∷ scan 0 (c + 1) (drop 1 ys) in
        subst P (sym (front_is xs b some)) (λ h. mark_at c b (drop 1 xs) h d l o e) blank
