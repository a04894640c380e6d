-- How the parts of a line are read.
use Rattle.std.specs.Prelude.{ℕ, List, [], ◌∷◌, ◌++◌, Some, None, Option}
use Rattle.lexer.specs.Tokens.{Piece, number, word, sign, bad, done}
use Rattle.formulas.specs.Reading.{Outcome, parsed, Reader, bind, at, number_or, a_number, the_end}

-- a number with nothing after it
abbrev pub last_number : Reader ℕ
last_number ps = bind (a_number ps) (λ n r. bind (the_end r) (λ _. parsed n))

-- dates in front of others
abbrev pub before : List (ℕ × ℕ) → Outcome (List (ℕ × ℕ)) → Outcome (List (ℕ × ℕ))
before ds o = bind o (λ es. parsed (ds ++ es))

-- months, each with a day after it, to the line's end; a month may wait for its day already
unfoldable pub dates_after : Option ℕ → Reader (List (ℕ × ℕ))
dates_after waiting [] = at 14 0
dates_after None (p ∷ ps) = number_or p.column p.piece (λ m. dates_after (Some m) ps) (parsed [] [])
dates_after (Some m) (p ∷ ps) = number_or p.column p.piece (λ d. before ((m, d) ∷ []) (dates_after None ps)) (at 14 p.column)

-- dates up to the end of the line
abbrev pub the_dates : Reader (List (ℕ × ℕ))
the_dates = dates_after None

-- a line's first word, with its column
pub record Beginning : Type 0 where
  pub letters : List ℕ
  pub column : ℕ

-- a first word, by the piece that stands there and its column
abbrev pub beginning_in : ℕ → Piece → Reader Beginning
beginning_in c (number ds) ps = at 17 c
beginning_in c (word w) ps = parsed (record { letters = w; column = c }) ps
beginning_in c (sign s) ps = at 17 c
beginning_in c (bad n) ps = at n c
beginning_in c done ps = at 17 c

-- the first word; any other token there is no word of the kind that is due
unfoldable pub the_beginning : Reader Beginning
the_beginning [] = at 17 0
the_beginning (p ∷ ps) = beginning_in p.column p.piece ps

-- what follows a word at the column c, if it is known
abbrev pub rest_of : {W X : Type 0} → (W → Reader X) → ℕ → Option W → Reader X
rest_of rest c None ps = at 17 c
rest_of rest c (Some w) ps = rest w ps

-- what follows a first word: it is one of those that are known, and says how the rest is read
abbrev pub following : {W X : Type 0} → (List ℕ → Option W) → (W → Reader X) → Outcome Beginning → Outcome X
following known rest o = bind o (λ b. rest_of rest b.column (known b.letters))
