use Rattle.std.proofs.Common.{◌≡◌, ◌*◌, ◌++◌, drop}
use Rattle.evaluator.specs.Rows.{rows_of}
use Rattle.evaluator.proofs.fills.fill_rows.Given as goal

-- the rows so far are written
abbrev pub invariant-loop-place : goal.invariant-loop-place
invariant-loop-place g l = l.work ≡ rows_of (g.M.Model.meaning l.model) l.nodes l.place ++ drop (l.place * l.words) l.initial.work
