-- Laws of reading: just the sentences of the grammar are read, and the nodes written mean what they say.
use Rattle.std.specs.Prelude.{◌≡◌, ℕ, ◌<◌, ◌≤◌, false, List, [], ◌∷◌, ◌++◌, length, slice_index_or}
use Rattle.lexer.specs.Tokens.{done, Placed}
use Rattle.theory.specs.declared.node.Node.{Node}
use Rattle.theory.specs.Formula.{formula, shape, Earlier}
use Rattle.formulas.specs.Reading.{parsed}
use Rattle.formulas.specs.Sentences.{Sentence, meant}
use Rattle.formulas.specs.Readers.{disjunction}
use Rattle.grammar.specs.Grammar.{place, Disjunction}
use Rattle.formulas.specs.Stores.{Store, write, last}
use Rattle.formulas.specs.Steps.{Keeps}

-- up to the end of a line just the sentences are read, each as what it writes
abbrev pub SentencesRead : Type 0
SentencesRead =
    (n : ℕ) (x : Sentence) (ps : List Placed) (c : ℕ)
    → (disjunction n (ps ++ place done c ∷ []) ≡ parsed x (place done c ∷ []) → Disjunction n x ps)
    × (Disjunction n x ps → disjunction n (ps ++ place done c ∷ []) ≡ parsed x (place done c ∷ []))

-- each node of t that is none of s names only nodes before it
abbrev pub NamesEarlier : Store → Store → Type 0
NamesEarlier s t = (none : Node) (i : ℕ) → length s.nodes ≤ i → i < length t.nodes → Earlier i (shape (slice_index_or t.nodes i none))

-- t is s with the nodes of x: the last of them stands for what x means, no node before them is altered, and each names only nodes before it
pub record Means (x : Sentence) (s t : Store) : Type 0 where
  pub says : formula t.nodes (last t) ≡ meant x
  pub keeps : Keeps s t
  pub earlier : NamesEarlier s t

-- where all its nodes found a place, they mean what the sentence means
abbrev pub SentencesMean : Type 0
SentencesMean = (x : Sentence) (s : Store) → (write x s).full ≡ false → Means x s (write x s)
