-- Where a fault stands: what is before it can be completed, and together with the token there it cannot.
use Rattle.std.specs.Prelude.{◌≡◌, ℕ, ◌-◌, ◌≤◌, ◌⊎◌, List, [], ◌∷◌, ◌++◌, length, take}
use Rattle.theory.specs.declared.node.Node.{Node}
use Rattle.lexer.specs.Faults.{Fault}
use Rattle.lexer.specs.Tokens.{Piece, number, word, sign, bad, done, Placed, pieces_from}
use Rattle.formulas.specs.Reading.{fault, parsed, Reader}
use Rattle.formulas.specs.Sentences.{Sentence}
use Rattle.formulas.specs.Readers.{disjunction}
use Rattle.lines.specs.Reading.{the_beginning, following}
use Rattle.lines.specs.Firsts.{refused}
use Rattle.lines.specs.Settings.{Opening, setting_word, setting_rest, setting_of, read_setting}
use Rattle.lines.specs.Calls.{Request, call_word, call_rest, call_of, read_call}
use Rattle.grammar.specs.Grammar.{place, Disjunction}

-- a piece that is not the end
abbrev pub Inside : Piece → Type 0
Inside (number ds) = Unit {0}
Inside (word w) = Unit {0}
Inside (sign s) = Unit {0}
Inside (bad n) = Unit {0}
Inside done = ⊥

-- the last piece, and no other, is the end
pub data Ended : List Placed → Type 0 where
  end_alone : (c : ℕ) → Ended (place done c ∷ [])
  one_before : (p : Placed) {ps : List Placed} → Inside p.piece → Ended ps → Ended (p ∷ ps)

-- the pieces of each line are such
abbrev pub LinesEnd : Type 0
LinesEnd = (line : List ℕ) → Ended (pieces_from line 0)

-- at the column of the fault e stands the token `here`: a sentence begins with what is before it, none begins with that and the token, and the fault is the same whatever follows
pub record Breaks (n : ℕ) (ps : List Placed) (e : Fault) : Type 0 where
  pub front : List Placed
  pub here : Placed
  pub rest : List Placed
  pub split : ps ≡ front ++ here ∷ rest
  pub column : here.column ≡ e.column
  pub sentence : Sentence
  pub more : List Placed
  pub completable : Disjunction n sentence (front ++ more)
  pub stuck : (x : Sentence) (more : List Placed) → Disjunction n x (front ++ here ∷ more) → ⊥
  pub again : (more : List Placed) → disjunction n (front ++ here ∷ more) ≡ fault e

-- each fault of a formula is such a fault
abbrev pub FormulasBreak : Type 0
FormulasBreak = (n : ℕ) (ps : List Placed) (e : Fault) → Ended ps → disjunction n ps ≡ fault e → Breaks n ps e

-- setting lines and later lines as they are read from pieces: the limit of 200 bytes and the refusal where the node list is full are left out
abbrev pub a_setting : Reader Opening
a_setting ps = following setting_word setting_rest (the_beginning ps)

abbrev pub a_call : Reader Request
a_call ps = following call_word call_rest (the_beginning ps)

-- within 200 bytes lines are read so
abbrev pub LinesByPieces : Type 0
LinesByPieces = (line : List ℕ) → length line ≤ 200 → (setting_of line ≡ a_setting (pieces_from line 0)) × (call_of line ≡ a_call (pieces_from line 0))

-- at the column of the fault e stands the token `here`: the bytes before it, with a space and more bytes, are a line that is accepted;
-- each line whose tokens begin with those before it and that token has this fault, and so have the bytes up to the next token, with a space and whatever bytes
pub record LineBreaks {X : Type 0} (read : Reader X) (line : List ℕ) (e : Fault) : Type 0 where
  pub front : List Placed
  pub here : Placed
  pub rest : List Placed
  pub split : pieces_from line 0 ≡ front ++ here ∷ rest
  pub column : here.column ≡ e.column
  pub value : X
  pub more : List ℕ
  pub completable : read (pieces_from (take (e.column - 1) line ++ 32 ∷ more) 0) ≡ parsed value []
  pub stuck : (other : List ℕ) (after : List Placed) → pieces_from other 0 ≡ front ++ here ∷ after → read (pieces_from other 0) ≡ fault e
  pub stays : (next : Placed) (later : List Placed) (bytes : List ℕ) → rest ≡ next ∷ later → read (pieces_from (take (next.column - 1) line ++ 32 ∷ bytes) 0) ≡ fault e

-- each fault of a line is such a fault
abbrev pub LinesBreak : Type 0
LinesBreak =
    ((line : List ℕ) (e : Fault) → a_setting (pieces_from line 0) ≡ fault e → LineBreaks a_setting line e)
    × ((line : List ℕ) (e : Fault) → a_call (pieces_from line 0) ≡ fault e → LineBreaks a_call line e)

-- so each refusal of a line of at most 200 bytes is for such a fault, but for the 16 of a full node list
abbrev pub RefusalsBreak : Type 0
RefusalsBreak =
    ((line : List ℕ) (e : Fault) → length line ≤ 200 → read_setting line ≡ refused e → LineBreaks a_setting line e)
    × ((line : List ℕ) (ns : List Node) (e : Fault) → length line ≤ 200 → read_call line ns ≡ refused e → (e.number ≡ 16) ⊎ LineBreaks a_call line e)
