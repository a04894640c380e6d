use Rattle.model.specs.Stages.{stage_of}
use Rattle.steps.specs.Requests.{action_of}
use Rattle.steps.proofs.Idle.{reads_survivors_alone}
use Rattle.steps.proofs.requests.take_step.Goals as goal

pub returns-clause-reads_the_row_at_survivors_alone : goal.returns-clause-reads_the_row_at_survivors_alone
returns-clause-reads_the_row_at_survivors_alone g c =
    let before = stage_of g.S.Model.meaning g.S.Stage.takes c.args.stage.now in
    let after = stage_of g.S.Model.meaning g.S.Stage.takes c.dispatch.new.stage in
    reads_survivors_alone before (g.S.Model.lawful c.args.stage.now) (action_of c.args.step) c.dispatch.result after c.dispatch.ensures.takes_the_step
