use Rattle.std.proofs.Common.{◌≡◌, ◌++◌, take, drop}
use Rattle.model.specs.Stages.{stage_of}
use Rattle.steps.specs.Requests.{actions}
use Rattle.steps.specs.Runs.{run, replies}
use Rattle.steps.proofs.lists.take_all.Given as goal

abbrev pub invariant-loop-place : goal.invariant-loop-place
invariant-loop-place g l =
    (stage_of g.S.Model.meaning g.S.Stage.takes l.stage ≡ run (actions (take l.place l.steps)) (stage_of g.S.Model.meaning g.S.Stage.takes l.initial.stage))
    × (l.answers ≡ replies (actions (take l.place l.steps)) (stage_of g.S.Model.meaning g.S.Stage.takes l.initial.stage) ++ drop l.place l.initial.answers)
