-- What a mark answers, and what it writes.
use Rattle.std.specs.Prelude.{◌≡◌, ℕ, ◌+◌, ◌*◌, true, cond, List, ◌++◌, length, drop, Decides, Result}
use Rattle.model.specs.declared.refusals.Refusal.{Refusal}
use Rattle.model.specs.Causes.{first, clear}
use Rattle.model.specs.Meaning.{Meaning}
use Rattle.model.specs.Rows.{words, count}
use Rattle.model.specs.Verdict.{survivors_of}
use Rattle.theory.specs.declared.node.Node.{Node}
use Rattle.theory.specs.Formula.{formula}
use Rattle.theory.specs.Truth.{Holds, holds}
use Rattle.evaluator.specs.declared.marks.Marked.{Marked}
use Rattle.evaluator.specs.Checks.{faults}
use Rattle.evaluator.specs.Rows.{row_bit, rows_of}

-- at how many surviving worlds the formula of node `root` is true, and how many survive
abbrev pub marked : Meaning → List Node → ℕ → Marked
marked m ns root = record { holding = count (holds m (formula ns root)) m.width; survivors = survivors_of m }

-- the first cause of refusal, or the two counts
abbrev pub answer : Meaning → List Node → ℕ → ℕ → ℕ → Result Marked Refusal
answer m ns used root room = first (faults m ns used root room) (marked m ns root)

-- the rows of nodes 0 to root and then what stood there; a refusal leaves the work area
abbrev pub area : Meaning → List Node → ℕ → ℕ → List ℕ → List ℕ
area m ns used root work =
    cond (clear (faults m ns used root (length work))) (rows_of m ns (root + 1) ++ drop ((root + 1) * words m.width) work) work

-- the root's row has exactly the surviving worlds where its formula is true
abbrev pub MarksTheTruth : Meaning → List Node → ℕ → List ℕ → Type 0
MarksTheTruth m ns root work = (w : ℕ) → Decides (row_bit work (words m.width) root w) ((m.survives w ≡ true) × Holds m (formula ns root) w)
