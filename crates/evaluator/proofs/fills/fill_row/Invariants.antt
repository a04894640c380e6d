use Rattle.std.proofs.Common.{◌≡◌}
use Rattle.theory.specs.Formula.{formula}
use Rattle.theory.specs.Truth.{holds}
use Rattle.evaluator.specs.Rows.{with_row, row_of}
use Rattle.evaluator.proofs.fills.fill_row.Given as goal

-- the row has the worlds so far where the node is true
abbrev pub invariant-loop-world : goal.invariant-loop-world
invariant-loop-world g l = l.work ≡ with_row l.initial.work l.words l.place (row_of (holds (g.M.Model.meaning l.model) (formula l.nodes l.place)) l.words l.world)
