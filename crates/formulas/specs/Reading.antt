-- How the pieces of a line are read, from the left.
use Rattle.std.specs.Prelude.{ℕ, cond, List, [], ◌∷◌, Some, None, Option, ◌==◌}
use Rattle.lexer.specs.declared.tokens.Sign.{Sign}
use Rattle.lexer.specs.Bytes.{value_of}
use Rattle.lexer.specs.Tokens.{Piece, number, word, sign, bad, done, Placed}
use Rattle.lexer.specs.Tiles.{byte_of}
use Rattle.lexer.specs.Faults.{Fault}

-- what a reader gives: a fault, or a value and the pieces that are left
pub data Outcome (X : Type 0) : Type 0 where
  fault : Fault → Outcome X
  parsed : X → List Placed → Outcome X

-- a reader takes pieces from the left; the last piece is always the end, so that none reads past it
abbrev pub Reader : Type 0 → Type 0
Reader X = List Placed → Outcome X

-- one reader after another: the first fault counts
abbrev pub bind : {X Y : Type 0} → Outcome X → (X → Reader Y) → Outcome Y
bind (fault e) k = fault e
bind (parsed x ps) k = k x ps

-- the fault n at the column c
abbrev pub at : {X : Type 0} → ℕ → ℕ → Outcome X
at n c = fault (record { number = n; column = c })

-- a number goes to k, and the line's end gives e; anything else is out of place
abbrev pub number_or : {X : Type 0} → ℕ → Piece → (ℕ → Outcome X) → Outcome X → Outcome X
number_or c (number ds) k e = k (value_of ds)
number_or c (word w) k e = at 14 c
number_or c (sign s) k e = at 14 c
number_or c (bad n) k e = at n c
number_or c done k e = e

-- a number
unfoldable pub a_number : Reader ℕ
a_number [] = at 14 0
a_number (p ∷ ps) = number_or p.column p.piece (λ n. parsed n ps) (at 14 p.column)

-- a number, or none at the line's end
unfoldable pub number_if : Reader (Option ℕ)
number_if [] = at 14 0
number_if (p ∷ ps) = number_or p.column p.piece (λ n. parsed (Some n) ps) (parsed None [])

-- the end, by the piece that stands there and its column
abbrev pub end_in : ℕ → Piece → Outcome (Unit {0})
end_in c (number ds) = at 14 c
end_in c (word w) = at 14 c
end_in c (sign s) = at 14 c
end_in c (bad n) = at n c
end_in c done = parsed tt []

-- nothing more
unfoldable pub the_end : Reader (Unit {0})
the_end [] = at 14 0
the_end (p ∷ ps) = end_in p.column p.piece

-- whether the sign s is next: its column, if it is
abbrev pub sign_in : Sign → List Placed → ℕ → Piece → Reader (Option ℕ)
sign_in s all c (number ds) ps = parsed None all
sign_in s all c (word w) ps = parsed None all
sign_in s all c (sign t) ps = cond (byte_of s == byte_of t) (parsed (Some c) ps) (parsed None all)
sign_in s all c (bad n) ps = at n c
sign_in s all c done ps = parsed None all

unfoldable pub perhaps : Sign → Reader (Option ℕ)
perhaps s [] = parsed None []
perhaps s (p ∷ ps) = sign_in s (p ∷ ps) p.column p.piece ps

-- the sign s, by the piece that stands there and its column
abbrev pub the_sign_in : Sign → ℕ → Piece → Reader ℕ
the_sign_in s c (number ds) ps = at 14 c
the_sign_in s c (word w) ps = at 14 c
the_sign_in s c (sign t) ps = cond (byte_of s == byte_of t) (parsed c ps) (at 14 c)
the_sign_in s c (bad n) ps = at n c
the_sign_in s c done ps = at 14 c

-- the sign s: its column
unfoldable pub the_sign : Sign → Reader ℕ
the_sign s [] = at 14 0
the_sign s (p ∷ ps) = the_sign_in s p.column p.piece ps
