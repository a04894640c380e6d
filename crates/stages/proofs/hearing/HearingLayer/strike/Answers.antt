use mathlib.Core.Path.{ap, ◌∙◌}
use mathlib.Core.Bool.{Bool, ◌&&◌}
use Rattle.model.specs.Rows.{bit}
use Rattle.stages.specs.Layers.{and_hears}
use Rattle.stages.proofs.Heard.{heard_both_rows}
use Rattle.stages.proofs.hearing.HearingLayer.strike.Goals as goal

pub returns : goal.returns
returns g c =
    let below = c.args.self.now.below in
    let both = heard_both_rows (g.S.Model.meaning below) (g.S.Model.lawful below) (bit c.args.self.now.row) (bit c.args.row.now) (bit c.both_rows-self.result)
    (λ w h. c.both_rows-self.ensures.has_what_both_have w h ∙ ap (λ (x : Bool). bit c.args.self.now.row w && x) (c.whole_row.ensures.has_the_same_worlds w h)) in
    record { hears_the_row = λ i. record { model = both i; takes = and_hears (g.S.Stage.takes below) } }
