use Rattle.std.proofs.Common.{◌≡◌, ◌-◌, arith}
use Rattle.model.specs.Stages.{stage_of}
use Rattle.looking.specs.Slots.{kept}
use Rattle.looking.proofs.Over.{over_down}
use Rattle.looking.proofs.layer.LookingLayer.hand_down.Goals as goal

pub returns : goal.returns
returns g c =
    let table = c.args.self.now.table in
    let none : 16 - table.used ≡ 0 = omega (arith, c.requires.is_full) in
    record {
      takes_the_look_below = over_down (kept table) (stage_of g.S.Model.meaning g.S.Stage.takes c.args.self.now.below)
          (stage_of g.S.Model.meaning g.S.Stage.takes c.look.new.self) c.args.agent c.args.row.now (16 - table.used) c.look.result none c.look.ensures.looks_at_the_row;
    }
