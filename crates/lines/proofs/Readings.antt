-- Steps of the readers.
use Rattle.std.proofs.Common.{◌≡◌, ℕ, List, [], ◌∷◌, ◌++◌, Some, None, Option, sym, refl, ap, append_assoc}
use Rattle.lexer.specs.Tokens.{Piece, number, word, sign, bad, done, Placed}
use Rattle.formulas.specs.Reading.{Outcome, fault, parsed, Reader, bind, at, number_or, a_number, number_if}
use Rattle.lines.specs.Reading.{before, dates_after, the_dates}

pub before_none : (o : Outcome (List (ℕ × ℕ))) → before [] o ≡ o
before_none (fault e) = refl
before_none (parsed es ps) = refl

pub before_more : (ds : List (ℕ × ℕ)) (d : ℕ × ℕ) (o : Outcome (List (ℕ × ℕ))) → before ds (before (d ∷ []) o) ≡ before (ds ++ d ∷ []) o
before_more ds d (fault e) = refl
before_more ds d (parsed es ps) = ap (λ l. parsed l ps) (sym (append_assoc ds (d ∷ []) es))

-- a day is a number, with the other dates after it
pub day_step : (m : ℕ) (ps : List Placed) → dates_after (Some m) ps ≡ bind (a_number ps) (λ d r. before ((m, d) ∷ []) (the_dates r))
unfolding dates_after a_number
day_step m [] = refl
day_step m (p ∷ ps) = by_piece p.piece
  where
    by_piece : (q : Piece) → number_or p.column q (λ d. before ((m, d) ∷ []) (dates_after None ps)) (at 14 p.column) ≡ bind (number_or p.column q (λ n. parsed n ps) (at 14 p.column)) (λ d r. before ((m, d) ∷ []) (dates_after None r))
    by_piece (number ds) = refl
    by_piece (word w) = refl
    by_piece (sign s) = refl
    by_piece (bad n) = refl
    by_piece done = refl

-- what follows a month, or the end where there is none
abbrev pub after_month : Option ℕ → Reader (List (ℕ × ℕ))
after_month None ps = parsed [] []
after_month (Some m) ps = dates_after (Some m) ps

-- dates are a month, and what follows it
pub month_step : (ps : List Placed) → the_dates ps ≡ bind (number_if ps) after_month
unfolding dates_after number_if
month_step [] = refl
month_step (p ∷ ps) = by_piece p.piece
  where
    by_piece : (q : Piece) → number_or p.column q (λ m. dates_after (Some m) ps) (parsed [] []) ≡ bind (number_or p.column q (λ n. parsed (Some n) ps) (parsed None [])) after_month
    by_piece (number ds) = refl
    by_piece (word w) = refl
    by_piece (sign s) = refl
    by_piece (bad n) = refl
    by_piece done = refl
