use Rattle.std.proofs.Common.{◌≡◌, Bool, ◌&&◌, take, sym, refl, ap, ◌∙◌}
use Rattle.std.proofs.lemmas.List.{take_all}
use Rattle.model.specs.Stages.{StageMeaning, stage_of}
use Rattle.steps.specs.Requests.{actions}
use Rattle.steps.specs.Runs.{run}
use Rattle.steps.specs.Pairs.{answer_alike}
use Rattle.steps.proofs.Running.{run_more}
use Rattle.steps.proofs.Both.{alike_none, alike_more, alike_itself}
use Rattle.steps.proofs.pairs.take_on_both.Goals as goal

pub loop-step-init : goal.loop-step-init
unfolding run
loop-step-init g c = (refl, refl, sym (alike_none _ _))

pub loop-step-preserved : goal.loop-step-preserved
loop-step-preserved g c =
    let s = stage_of g.S.Model.meaning g.S.Stage.takes c.args.left.now in
    let s₁ = stage_of g.S.Model.meaning g.S.Stage.takes c.loop-step.left in
    let s₂ = stage_of g.S.Model.meaning g.S.Stage.takes c.take_step-first.new.stage in
    let t = stage_of g.T.Model.meaning g.T.Stage.takes c.args.right.now in
    let t₁ = stage_of g.T.Model.meaning g.T.Stage.takes c.loop-step.right in
    let t₂ = stage_of g.T.Model.meaning g.T.Stage.takes c.take_step-second.new.stage in (
      run_more c.args.steps.now c.loop-step.step-index _ c.loop-step-test.true s s₁ s₂ c.loop-step.invariant.0 c.take_step-first.ensures.takes_the_step.leaves,
      run_more c.args.steps.now c.loop-step.step-index _ c.loop-step-test.true t t₁ t₂ c.loop-step.invariant.1 c.take_step-second.ensures.takes_the_step.leaves,
      ap (λ (b : Bool). c.loop-step.same && b) c.same_answer-same.ensures.compares
          ∙ alike_more c.args.steps.now c.loop-step.step-index _ c.loop-step-test.true s s₁ t t₁ c.loop-step.same c.take_step-first.result c.take_step-second.result
          c.loop-step.invariant.0 c.loop-step.invariant.1 c.loop-step.invariant.2 c.take_step-first.ensures.takes_the_step.answers c.take_step-second.ensures.takes_the_step.answers,
    )

pub returns-clause-equal_stages_stay_equal : goal.returns-clause-equal_stages_stay_equal
returns-clause-equal_stages_stay_equal g c = λ e.
    let s = stage_of g.S.Model.meaning g.S.Stage.takes c.args.left.now in
    let t = stage_of g.T.Model.meaning g.T.Stage.takes c.args.right.now in
    let steps = c.args.steps.now in
    let all : take c.loop-step.step-index steps ≡ steps = take_all c.loop-step.step-index steps c.loop-step-test.false in (
      c.loop-step.invariant.0 ∙ ap (λ xs. run (actions xs) s) all ∙ ap (run (actions steps)) e
          ∙ sym (c.loop-step.invariant.1 ∙ ap (λ xs. run (actions xs) t) all),
      c.loop-step.invariant.2 ∙ ap (λ xs. answer_alike (actions xs) s t) all
          ∙ ap (λ (z : StageMeaning). answer_alike (actions steps) s z) (sym e) ∙ alike_itself (actions steps) s,
    )
