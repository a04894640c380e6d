-- What the readers say of a part of a line, by the pieces before it and those that are left.
use Rattle.std.specs.Prelude.{◌≡◌, ℕ, ◌<◌, ◌≤◌, List, length, take, Some, None, Option, Result, MatchResult}
use Rattle.lexer.specs.Tokens.{Placed}
use Rattle.lexer.specs.Faults.{Fault}
use Rattle.formulas.specs.declared.faults.FormulaFault.{FormulaFault}
use Rattle.formulas.specs.Faults.{of_formula}
use Rattle.formulas.specs.Reading.{Outcome, parsed, fault, Reader}
use Rattle.formulas.specs.Sentences.{Sentence}
use Rattle.formulas.specs.Readers.{sentence_of}
use Rattle.formulas.specs.Stores.{Store, write}

-- a reader gave x, and took a piece at least
pub record Gave {X : Type 0} (o : Outcome X) (x : X) (ps rest : List Placed) : Type 0 where
  pub is : o ≡ parsed x rest
  pub fewer : length rest < length ps

-- something was found, and took a piece at least, or nothing moved
abbrev pub Moved : Option ℕ → List Placed → List Placed → Type 0
Moved None ps rest = rest ≡ ps
Moved (Some c) ps rest = length rest < length ps

-- a reader looked for what may be there
pub record Looked (o : Outcome (Option ℕ)) (found : Option ℕ) (ps rest : List Placed) : Type 0 where
  pub is : o ≡ parsed found rest
  pub moved : Moved found ps rest

-- a reader stopped at a fault
abbrev pub Failed : {X : Type 0} → Outcome X → Fault → Type 0
Failed o e = o ≡ fault e

-- the first nodes are as they were
pub record Keeps (s t : Store) : Type 0 where
  pub front : take (length s.nodes) t.nodes ≡ s.nodes

-- a reader gave a sentence, which was written
pub record Wrote (o : Outcome Sentence) (ps rest : List Placed) (s t : Store) : Type 0 where
  pub is : o ≡ parsed (sentence_of o) rest
  pub written : t ≡ write (sentence_of o) s
  pub fewer : length rest ≤ length ps

-- what came of reading: a sentence that was written, or the fault
abbrev pub Reads : Reader Sentence → List Placed → List Placed → Result (Unit {0}) FormulaFault → Store → Store → Type 0
Reads read ps rest r s t = MatchResult r (λ _. Wrote (read ps) ps rest s t) (λ e. Failed (read ps) (of_formula e))
