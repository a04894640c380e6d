use Rattle.std.proofs.Common.{◌<◌, length, arith, rules}
use Rattle.model.specs.Rows.{bit}
use Rattle.putting.specs.Layer.{and_puts}
use Rattle.putting.proofs.Puts.{put_row_kept}
use Rattle.putting.proofs.layer.PuttingLayer.keep.Goals as goal

pub bounds-self-fact : goal.bounds-self-fact
bounds-self-fact g c = omega (arith, c.requires.is_a_fact, (g.S.Model.lawful c.args.self.now.below).few_facts)

pub returns : goal.returns
returns g c =
    let below = c.args.self.now.below in
    let law = g.S.Model.lawful below in
    let place : c.args.fact < length c.args.self.now.rows = search rules in
    let kept = put_row_kept (g.S.Model.meaning below) law c.args.self.now.rows c.args.fact c.whole_row.result c.requires.is_a_fact place (bit c.args.row.now)
    c.whole_row.ensures.has_the_same_worlds in
    record { puts_the_fact = λ i. record { model = kept i; takes = and_puts (g.S.Stage.takes below) } }
