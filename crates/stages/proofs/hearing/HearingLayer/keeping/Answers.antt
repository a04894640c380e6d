use Rattle.model.specs.Rows.{bit}
use Rattle.stages.specs.Layers.{and_hears}
use Rattle.stages.proofs.Heard.{heard_every_world}
use Rattle.stages.proofs.hearing.HearingLayer.keeping.Goals as goal

pub returns : goal.returns
returns g c =
    let below = c.args.below in
    let all = heard_every_world (g.S.Model.meaning below) (g.S.Model.lawful below) (bit c.args.row) c.requires.has_every_world in
    record { is_the_stage_below_and_hears = λ i. record { model = all i; takes = and_hears (g.S.Stage.takes below) } }
