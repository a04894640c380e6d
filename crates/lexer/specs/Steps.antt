-- What the tokenizer says of one step along a line.
use Rattle.std.specs.Prelude.{◌≡◌, ℕ, ◌+◌, ◌≤◌, List, [], ◌∷◌, length, drop}
use Rattle.lexer.specs.declared.tokens.Token.{Token}
use Rattle.lexer.specs.declared.tokens.Token.TheVariants.{Number, Word, Sign, End}
use Rattle.lexer.specs.declared.tokens.Lexeme.{Lexeme}
use Rattle.lexer.specs.Bytes.{value_of}
use Rattle.lexer.specs.Tokens.{Piece, number, word, sign, bad, done, Placed, scan}
use Rattle.lexer.specs.Faults.{Fault}

-- the piece that a token is
abbrev pub piece_of : Token → Piece
piece_of (Number d v) = number d.now
piece_of (Word w) = word w.now
piece_of (Sign s) = sign s
piece_of End = done

-- with its column
abbrev pub placed : Lexeme → Placed
placed x = record { piece = piece_of x.token; column = x.column }

-- how many bytes of the line it takes
abbrev pub size_of : Token → ℕ
size_of (Number d v) = length d.now
size_of (Word w) = length w.now
size_of (Sign s) = 1
size_of End = 0

-- nothing comes after the end
abbrev pub unless_end : Token → List Placed → List Placed
unless_end (Number d v) ps = ps
unless_end (Word w) ps = ps
unless_end (Sign s) ps = ps
unless_end End ps = []

-- a number has its value, and the end is not passed
abbrev pub Fine : Token → List Placed → List Placed → Type 0
Fine (Number d v) ps rest = v ≡ value_of d.now
Fine (Word w) ps rest = Unit {0}
Fine (Sign s) ps rest = Unit {0}
Fine End ps rest = rest ≡ ps

-- x is the first of the pieces, and the others are left after it
pub record Next (ps : List Placed) (x : Lexeme) (rest : List Placed) : Type 0 where
  pub first : ps ≡ placed x ∷ unless_end x.token rest
  pub fine : Fine x.token ps rest

-- the first piece is that fault
abbrev pub Stops : List Placed → Fault → Type 0
Stops ps e = (rest : List Placed) × (ps ≡ record { piece = bad e.number; column = e.column } ∷ rest)

-- t, of n bytes, stands at the front of bytes that begin at the column
pub record First (bytes : List ℕ) (column : ℕ) (t : Token) (n : ℕ) : Type 0 where
  pub next : Next (scan 0 column bytes) (record { token = t; column = column }) (scan 0 (column + n) (drop n bytes))
  pub within : n ≤ length bytes
