use Rattle.std.proofs.Common.{◌≡◌, take}
use Rattle.model.specs.Stages.{stage_of}
use Rattle.steps.specs.Requests.{actions}
use Rattle.steps.specs.Runs.{run}
use Rattle.steps.specs.Pairs.{answer_alike}
use Rattle.steps.proofs.pairs.take_on_both.Given as goal

abbrev pub invariant-loop-step : goal.invariant-loop-step
invariant-loop-step g l =
    (stage_of g.S.Model.meaning g.S.Stage.takes l.left ≡ run (actions (take l.step-index l.steps)) (stage_of g.S.Model.meaning g.S.Stage.takes l.initial.left))
    × (stage_of g.T.Model.meaning g.T.Stage.takes l.right ≡ run (actions (take l.step-index l.steps)) (stage_of g.T.Model.meaning g.T.Stage.takes l.initial.right))
    × (l.same ≡ answer_alike (actions (take l.step-index l.steps)) (stage_of g.S.Model.meaning g.S.Stage.takes l.initial.left) (stage_of g.T.Model.meaning g.T.Stage.takes l.initial.right))
