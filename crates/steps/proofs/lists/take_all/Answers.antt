use Rattle.std.proofs.Common.{◌<◌, length, refl, arith}
use Rattle.model.specs.Stages.{stage_of}
use Rattle.steps.specs.Runs.{run, replies}
use Rattle.steps.proofs.Running.{run_more, replies_more}
use Rattle.steps.proofs.lists.take_all.Goals as goal

pub loop-place-init : goal.loop-place-init
unfolding run replies
loop-place-init g c = (refl, refl)

pub loop-place-preserved : goal.loop-place-preserved
loop-place-preserved g c =
    let s = stage_of g.S.Model.meaning g.S.Stage.takes c.args.stage.now in
    let s₁ = stage_of g.S.Model.meaning g.S.Stage.takes c.loop-place.stage in
    let s₂ = stage_of g.S.Model.meaning g.S.Stage.takes c.take_step.new.stage in
    let room : c.loop-place.place < length c.args.answers.now = omega arith in (
      run_more c.args.steps.now c.loop-place.place _ c.loop-place-test.true s s₁ s₂ c.loop-place.invariant.0 c.take_step.ensures.takes_the_step.leaves,
      replies_more c.args.steps.now c.loop-place.place _ c.loop-place-test.true s s₁ c.take_step.result c.args.answers.now c.loop-place.answers room
          c.loop-place.invariant.0 c.loop-place.invariant.1 c.take_step.ensures.takes_the_step.answers,
    )
