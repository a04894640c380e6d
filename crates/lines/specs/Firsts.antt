-- The first word of a line, and what is answered to a line.
use Rattle.std.specs.Prelude.{◌≡◌, ℕ, ◌<◌, cond, List, length, nat_le}
use Rattle.lexer.specs.Tokens.{Placed, pieces_from}
use Rattle.lexer.specs.Faults.{Fault}
use Rattle.formulas.specs.Reading.{Outcome, fault, parsed, at}
use Rattle.lines.specs.declared.firsts.FirstWord.{FirstWord}
use Rattle.lines.specs.Reading.{Beginning, the_beginning}

-- a line is refused for a fault, or accepted for what it says
pub data Answer (X : Type 0) : Type 0 where
  refused : Fault → Answer X
  accepted : X → Answer X

-- nothing is left then, since each kind of line is read to its end
abbrev pub answer : {X : Type 0} → Outcome X → Answer X
answer (fault e) = refused e
answer (parsed x ps) = accepted x

-- the first word of a line, which has at most 200 bytes
unfoldable pub first_word : List ℕ → Outcome Beginning
first_word line = cond (nat_le (length line) 200) (the_beginning (pieces_from line 0)) (at 11 0)

-- pieces begin with the word x, and the rest comes after it
pub record Begun (ps : List Placed) (x : FirstWord) (rest : List Placed) : Type 0 where
  pub is : the_beginning ps ≡ parsed (record { letters = x.word.now; column = x.column }) rest
  pub fewer : length rest < length ps
