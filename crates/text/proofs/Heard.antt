-- What each reader gives where the pieces begin as it wants them.
use Rattle.std.proofs.Common.{◌≡◌, ℕ, List, [], ◌∷◌, Some, Option, ap, ◌∙◌, arith}
use Rattle.lexer.specs.Bytes.{value_of}
use Rattle.lexer.specs.Tokens.{Piece, number, word, done, Placed}
use Rattle.formulas.specs.Reading.{parsed, Reader, bind, at, number_or, a_number, end_in, the_end}
use Rattle.lines.specs.Reading.{last_number, before, dates_after, the_dates, beginning_in, the_beginning, rest_of, following}
use Rattle.text.specs.Laws.{bare, Lists, no_more, one_more}
use Rattle.lines.proofs.Readings.{day_step}

some_piece : (q : Piece) (qs : List Piece) → [] ≡ q ∷ qs → ⊥
some_piece q qs e = let z : ◌≡◌ {A = ℕ} 0 1 = cc in omega arith

-- the first piece, and the others
split : (p : Placed) (ps : List Placed) (q : Piece) (qs : List Piece) → bare (p ∷ ps) ≡ q ∷ qs → (p.piece ≡ q) × (bare ps ≡ qs)
split p ps q qs e = parts p.piece (bare ps) e
  where
    parts : (a : Piece) (l : List Piece) → a ∷ l ≡ q ∷ qs → (a ≡ q) × (l ≡ qs)
    parts a l f = ((cc), (cc))

pub number_heard : (ps : List Placed) (ds : List ℕ) (qs : List Piece) → bare ps ≡ number ds ∷ qs → (rest : List Placed) × (a_number ps ≡ parsed (value_of ds) rest) × (bare rest ≡ qs)
unfolding a_number
number_heard [] ds qs e = absurd (some_piece (number ds) qs e)
number_heard (p ∷ ps) ds qs e = let s = split p ps (number ds) qs e in (ps, ap (λ q. number_or p.column q (λ n. parsed n ps) (at 14 p.column)) s.0, s.1)

pub end_heard : (ps : List Placed) → bare ps ≡ done ∷ [] → the_end ps ≡ parsed tt []
unfolding the_end
end_heard [] e = absurd (some_piece done [] e)
end_heard (p ∷ ps) e = ap (end_in p.column) (split p ps done [] e).0

pub last_heard : (ps : List Placed) (ds : List ℕ) → bare ps ≡ number ds ∷ done ∷ [] → last_number ps ≡ parsed (value_of ds) []
last_heard ps ds e =
    let n = number_heard ps ds (done ∷ []) e in
    ap (λ o. bind o (λ m r. bind (the_end r) (λ _. parsed m))) n.1 ∙ ap (λ o. bind o (λ _. parsed (value_of ds))) (end_heard n.0 n.2)

month_heard : (ps : List Placed) (m : List ℕ) (qs : List Piece) → bare ps ≡ number m ∷ qs → (rest : List Placed) × (the_dates ps ≡ dates_after (Some (value_of m)) rest) × (bare rest ≡ qs)
unfolding dates_after
month_heard [] m qs e = absurd (some_piece (number m) qs e)
month_heard (p ∷ ps) m qs e = let s = split p ps (number m) qs e in (ps, ap (λ q. number_or p.column q (λ n. dates_after (Some n) ps) (parsed [] [])) s.0, s.1)

dates_end : (ps : List Placed) → bare ps ≡ done ∷ [] → the_dates ps ≡ parsed [] []
unfolding dates_after
dates_end [] e = absurd (some_piece done [] e)
dates_end (p ∷ ps) e = ap (λ q. number_or p.column q (λ n. dates_after (Some n) ps) (parsed [] [])) (split p ps done [] e).0

pub dates_heard : {ds : List (ℕ × ℕ)} {qs : List Piece} → Lists ds qs → (ps : List Placed) → bare ps ≡ qs → the_dates ps ≡ parsed ds []
dates_heard no_more ps e = dates_end ps e
dates_heard (one_more {m} {d} {ds} {ps = qs} l) ps e =
    let a = month_heard ps m (number d ∷ qs) e in
    let b = number_heard a.0 d qs a.2 in
    a.1 ∙ day_step (value_of m) a.0 ∙ ap (λ o. bind o (λ n r. before ((value_of m, n) ∷ []) (the_dates r))) b.1 ∙ ap (before ((value_of m, value_of d) ∷ [])) (dates_heard l b.0 b.2)

pub beginning_heard : (ps : List Placed) (w : List ℕ) (qs : List Piece) → bare ps ≡ word w ∷ qs
    → (c : ℕ) × (rest : List Placed) × (the_beginning ps ≡ parsed (record { letters = w; column = c }) rest) × (bare rest ≡ qs)
unfolding the_beginning
beginning_heard [] w qs e = absurd (some_piece (word w) qs e)
beginning_heard (p ∷ ps) w qs e = let s = split p ps (word w) qs e in (p.column, ps, ap (λ q. beginning_in p.column q ps) s.0, s.1)

-- a line that begins with a word that is known is read as that word says
pub line_heard : {W X : Type 0} (known : List ℕ → Option W) (rest : W → Reader X) (ps : List Placed) (w : List ℕ) (qs : List Piece) (v : W) → bare ps ≡ word w ∷ qs → known w ≡ Some v
    → (rs : List Placed) × (following known rest (the_beginning ps) ≡ rest v rs) × (bare rs ≡ qs)
line_heard known rest ps w qs v e k =
    let b = beginning_heard ps w qs e in
    (b.1, ap (λ o. bind o (λ f. rest_of rest f.column (known f.letters))) b.2 ∙ ap (λ o. rest_of rest b.0 o b.1) k, b.3)
