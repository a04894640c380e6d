-- A line cut before a token, and completed after a space.
use Rattle.std.proofs.Common.{◌≡◌, ℕ, zero, suc, ◌+◌, ◌≤◌, Bool, true, false, cond, List, [], ◌∷◌, ◌++◌, length, take, sym, refl, ap, ◌∙◌, ⊎_elim, arith, length-append, length-take}
use Rattle.std.specs.List.{prefix_len}
use Rattle.std.proofs.lemmas.List.{take-take, take-append-le}
use Rattle.std.proofs.lemmas.List.Sums.{prefix_len-le-length}
use Rattle.std.proofs.lemmas.Bool.{cases_Bool, cond-true, cond-false}
use Rattle.lexer.specs.declared.tokens.Class.TheVariants.{Space, Digit, Letter}
use Rattle.lexer.specs.Bytes.{belongs, sign_of}
use Rattle.lexer.specs.Tokens.{Piece, word, done, Placed, numeral, mark, piece_at, more, scan}
use Rattle.grammar.specs.Grammar.{place}

-- a run of bytes goes no further before a space
module _ (p : ℕ → Bool) (blank : p 32 ≡ false) where
  leading_cut : (bs : List ℕ) (j : ℕ) (l : List ℕ) → prefix_len p bs ≤ j → prefix_len p (take j bs ++ 32 ∷ l) ≡ prefix_len p bs
  leading_cut bs zero l h = cond-false (p 32) (1 + prefix_len p l) 0 blank ∙ (let q : 0 ≡ prefix_len p bs = omega arith in q)
  leading_cut [] (suc j) l h = cond-false (p 32) (1 + prefix_len p l) 0 blank
  leading_cut (b ∷ bs) (suc j) l h = ⊎_elim (inside (leading_cut bs j l)) outside (cases_Bool (p b))
    where
      inside : (prefix_len p bs ≤ j → prefix_len p (take j bs ++ 32 ∷ l) ≡ prefix_len p bs) → p b ≡ true → prefix_len p (b ∷ (take j bs ++ 32 ∷ l)) ≡ prefix_len p (b ∷ bs)
      inside below e =
          let q = cond-true (p b) (1 + prefix_len p bs) 0 e in
          cond-true (p b) (1 + prefix_len p (take j bs ++ 32 ∷ l)) 0 e ∙ ap (λ n. 1 + n) (below (omega arith)) ∙ sym q

      outside : p b ≡ false → prefix_len p (b ∷ (take j bs ++ 32 ∷ l)) ≡ prefix_len p (b ∷ bs)
      outside e = cond-false (p b) (1 + prefix_len p (take j bs ++ 32 ∷ l)) 0 e ∙ sym (cond-false (p b) (1 + prefix_len p bs) 0 e)

  taken_cut : (bs : List ℕ) (j : ℕ) (l : List ℕ) → prefix_len p bs ≤ j → take (prefix_len p (take j bs ++ 32 ∷ l)) (take j bs ++ 32 ∷ l) ≡ take (prefix_len p bs) bs
  taken_cut bs j l h =
      let within = prefix_len-le-length p bs in
      let size = length-take j bs in
      ap (λ n. take n (take j bs ++ 32 ∷ l)) (leading_cut bs j l h)
      ∙ take-append-le (prefix_len p bs) (take j bs) (32 ∷ l) (omega arith) ∙ take-take (prefix_len p bs) j bs h

module _ (b : ℕ) where
  -- the piece that begins with b, and how many bytes it has after b, by whether b is a digit and a letter
  abbrev piece_by : Bool → Bool → List ℕ → Piece
  piece_by d l bs = cond d (numeral (b ∷ take (prefix_len (belongs Digit) bs) bs)) (cond l (word (b ∷ take (prefix_len (belongs Letter) bs) bs)) (mark (sign_of b)))

  abbrev more_by : Bool → Bool → List ℕ → ℕ
  more_by d l bs = cond d (prefix_len (belongs Digit) bs) (cond l (prefix_len (belongs Letter) bs) 0)

  -- it is within the line, and stays where the line is cut behind it
  record Run (d l : Bool) (bs : List ℕ) : Type 0 where
    within : more_by d l bs ≤ length bs
    same_piece : (j : ℕ) (m : List ℕ) → more_by d l bs ≤ j → piece_by d l (take j bs ++ 32 ∷ m) ≡ piece_by d l bs
    same_more : (j : ℕ) (m : List ℕ) → more_by d l bs ≤ j → more_by d l (take j bs ++ 32 ∷ m) ≡ more_by d l bs

  run : (d l : Bool) (bs : List ℕ) → Run d l bs
  run true l bs =
      record {
        within = prefix_len-le-length (belongs Digit) bs;
        same_piece = λ j m h. ap (λ ds. numeral (b ∷ ds)) (taken_cut (belongs Digit) refl bs j m h);
        same_more = λ j m h. leading_cut (belongs Digit) refl bs j m h;
      }
  run false true bs =
      record {
        within = prefix_len-le-length (belongs Letter) bs;
        same_piece = λ j m h. ap (λ ds. word (b ∷ ds)) (taken_cut (belongs Letter) refl bs j m h);
        same_more = λ j m h. leading_cut (belongs Letter) refl bs j m h;
      }
  run false false bs = record { within = omega arith; same_piece = λ j m h. refl; same_more = λ j m h. refl }

-- the pieces before `here` stay where the line is cut at its column and goes on after a space
pub record Cut (skip c : ℕ) (bs : List ℕ) (front : List Placed) (here : Placed) : Type 0 where
  pub place_of : ℕ
  pub column : here.column ≡ c + place_of
  pub past : skip ≤ place_of
  pub cut : (l : List ℕ) → scan skip c (take place_of bs ++ 32 ∷ l) ≡ front ++ scan 0 (c + place_of + 1) l

cut_here : (c : ℕ) (bs : List ℕ) (here : Placed) → c ≡ here.column → Cut 0 c bs [] here
cut_here c bs here e = record { place_of = 0; column = omega arith; past = omega arith; cut = λ l. ap (λ n. scan 0 n l) (let q : c + 1 ≡ c + 0 + 1 = omega arith in q) }

first_column : (p here : Placed) (ps rest : List Placed) → p ∷ ps ≡ here ∷ rest → p.column ≡ here.column
first_column p here ps rest e = let q : p ≡ here = cc in ap (λ (p : Placed). p.column) q

pub cuts : (skip c : ℕ) (bs : List ℕ) (front : List Placed) (here : Placed) (rest : List Placed) → skip ≤ length bs → scan skip c bs ≡ front ++ here ∷ rest → Cut skip c bs front here
cuts zero c [] [] here rest h e = cut_here c [] here (first_column (place done c) here [] rest e)
cuts zero c [] (p ∷ front) here rest h e = absurd (omega (arith, ap length e, length-append front (here ∷ rest)))
cuts (suc k) c [] front here rest h e = absurd (omega arith)
cuts (suc k) c (b ∷ bs) front here rest h e =
    let r = cuts k (c + 1) bs front here rest (omega arith) e in
    let at = r.column in let from = r.past in
    record {
      place_of = suc r.place_of;
      column = omega arith;
      past = omega arith;
      cut = λ l. r.cut l ∙ ap (λ n. front ++ scan 0 n l) (let q : c + 1 + r.place_of + 1 ≡ c + suc r.place_of + 1 = omega arith in q);
    }
cuts zero c (b ∷ bs) front here rest h e = ⊎_elim (blank (λ e. cuts 0 (c + 1) bs front here rest (omega arith) e)) (token (λ f e. cuts (more b bs) (c + 1) bs f here rest own.within e) front e) (cases_Bool (belongs Space b))
  where
    own : Run b (belongs Digit b) (belongs Letter b) bs
    own = run b (belongs Digit b) (belongs Letter b) bs

    blank : (scan 0 (c + 1) bs ≡ front ++ here ∷ rest → Cut 0 (c + 1) bs front here) → belongs Space b ≡ true → Cut 0 c (b ∷ bs) front here
    blank below s =
        let r = below (sym (cond-true (belongs Space b) (scan 0 (c + 1) bs) (place (piece_at b bs) c ∷ scan (more b bs) (c + 1) bs) s) ∙ e) in
        let at = r.column in
        record {
          place_of = suc r.place_of;
          column = omega arith;
          past = omega arith;
          cut = λ l.
              let bs' = take r.place_of bs ++ 32 ∷ l in
              cond-true (belongs Space b) (scan 0 (c + 1) bs') (place (piece_at b bs') c ∷ scan (more b bs') (c + 1) bs') s
              ∙ r.cut l ∙ ap (λ n. front ++ scan 0 n l) (let q : c + 1 + r.place_of + 1 ≡ c + suc r.place_of + 1 = omega arith in q);
        }

    token : ((f : List Placed) → scan (more b bs) (c + 1) bs ≡ f ++ here ∷ rest → Cut (more b bs) (c + 1) bs f here) → (f : List Placed) → scan 0 c (b ∷ bs) ≡ f ++ here ∷ rest → belongs Space b ≡ false → Cut 0 c (b ∷ bs) f here
    token below [] e s =
        let is = sym (cond-false (belongs Space b) (scan 0 (c + 1) bs) (place (piece_at b bs) c ∷ scan (more b bs) (c + 1) bs) s) ∙ e in
        cut_here c (b ∷ bs) here (first_column (place (piece_at b bs) c) here (scan (more b bs) (c + 1) bs) rest is)
    token below (p ∷ f) e s =
        let is : place (piece_at b bs) c ∷ scan (more b bs) (c + 1) bs ≡ p ∷ (f ++ here ∷ rest) = sym (cond-false (belongs Space b) (scan 0 (c + 1) bs) (place (piece_at b bs) c ∷ scan (more b bs) (c + 1) bs) s) ∙ e in
        let first : place (piece_at b bs) c ≡ p = cc in
        let later : scan (more b bs) (c + 1) bs ≡ f ++ here ∷ rest = cc in
        let r = below f later in
        let at = r.column in
        record {
          place_of = suc r.place_of;
          column = omega arith;
          past = omega arith;
          cut = λ l.
              let bs' = take r.place_of bs ++ 32 ∷ l in
              cond-false (belongs Space b) (scan 0 (c + 1) bs') (place (piece_at b bs') c ∷ scan (more b bs') (c + 1) bs') s
              ∙ (λ i. place (own.same_piece r.place_of l r.past i) c ∷ scan (own.same_more r.place_of l r.past i) (c + 1) bs')
              ∙ (λ i. first i ∷ r.cut l i)
              ∙ ap (λ n. p ∷ (f ++ scan 0 n l)) (let q : c + 1 + r.place_of + 1 ≡ c + suc r.place_of + 1 = omega arith in q);
        }
