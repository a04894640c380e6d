use Rattle.std.proofs.Common.{◌&&◌}
use Rattle.model.specs.Rows.{bit}
use Rattle.theory.specs.Truth.{reaches}
use Rattle.evaluator.proofs.Every.{Seen}
use Rattle.evaluator.proofs.truths.knows_value.Given as goal

-- the one value at the worlds so far of the row that the agent reaches, if there was one
abbrev pub invariant-loop-other : goal.invariant-loop-other
invariant-loop-other g l =
    Seen (g.M.Model.meaning l.model) l.quantity (λ v. reaches (g.M.Model.meaning l.model) l.agent l.world v && bit l.row v) l.other l.seen
