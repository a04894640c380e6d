use Rattle.std.proofs.Common.{◌≡◌, ap, ◌∙◌}
use Rattle.model.specs.Meaning.{replaced}
use Rattle.putting.specs.Layer.{and_puts, put_facts, put_rows}
use Rattle.putting.proofs.Puts.{none_put}
use Rattle.putting.proofs.layer.PuttingLayer.keeping.Goals as goal

pub returns : goal.returns
returns g c =
    let m = g.S.Model.meaning c.args.below in
    let none : replaced (put_facts m c.args.rows) (put_rows c.args.rows) m ≡ m =
    ap (λ rows. replaced (put_facts m rows) (put_rows rows) m) c.requires.keeps_none ∙ none_put m 16 in
    record { is_the_stage_below_and_puts = λ i. record { model = none i; takes = and_puts (g.S.Stage.takes c.args.below) } }
