use Rattle.std.proofs.Common.{sym, subst}
use Rattle.model.specs.Stages.{StageMeaning, stage_of}
use Rattle.steps.specs.Requests.{actions}
use Rattle.steps.specs.Runs.{SameWorlds}
use Rattle.steps.proofs.Running.{same_worlds}
use Rattle.steps.proofs.lists.take_steps.Goals as goal

pub returns-clause-keeps_the_worlds : goal.returns-clause-keeps_the_worlds
returns-clause-keeps_the_worlds g c =
    let s = stage_of g.S.Model.meaning g.S.Stage.takes c.args.stage.now in
    subst (λ (t : StageMeaning). SameWorlds s t) (sym c.take_all.ensures.takes_each_step) (same_worlds (actions c.args.steps.now) s)
