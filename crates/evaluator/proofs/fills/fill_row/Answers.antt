use Rattle.std.proofs.Common.{◌≡◌, replicate, sym, refl, ap, ◌∙◌, ap₂, arith}
use lib.ListN.{length-replicate}
use Rattle.theory.specs.Formula.{formula}
use Rattle.theory.specs.Truth.{holds}
use Rattle.evaluator.specs.Rows.{with_row, row_of}
use Rattle.evaluator.proofs.Written.{length_row, row_none, row_yes, row_no, ready_kept, rewritten, added}
use Rattle.evaluator.proofs.fills.fill_row.Goals as goal
use Rattle.evaluator.proofs.fills.fill_row.Goals.{then-holds_at, else-holds_at}

pub loop-world-init : goal.loop-world-init
loop-world-init g c =
    let r = c.args.words in
    c.clear_row.ensures
    ∙ sym (rewritten (g.M.Model.meaning c.args.model.now) c.args.nodes.now c.args.place r c.args.work.now c.clear_row.new.work (replicate r 0) (replicate r 0)
    (with_row c.clear_row.new.work r c.args.place (replicate r 0)) c.requires.room (length-replicate r 0) c.clear_row.ensures refl)
    ∙ ap (with_row c.clear_row.new.work r c.args.place) (sym (row_none (holds (g.M.Model.meaning c.args.model.now) (formula c.args.nodes.now c.args.place)) r))

pub holds_at-requires : goal.holds_at-requires
holds_at-requires g c =
    let m = g.M.Model.meaning c.args.model.now in
    let r = c.args.words in
    let p = holds m (formula c.args.nodes.now c.args.place) in
    ready_kept m c.args.nodes.now c.args.place r c.clear_row.new.work c.loop-world.work (row_of p r c.loop-world.world)
    (ready_kept m c.args.nodes.now c.args.place r c.args.work.now c.clear_row.new.work (replicate r 0) c.requires (length-replicate r 0) c.clear_row.ensures c.clear_row.auto.work)
    (length_row p r c.loop-world.world) c.loop-world.invariant c.loop-world.auto.work

pub loop-world-preserved : goal.loop-world-preserved
loop-world-preserved g c =
    let m = g.M.Model.meaning c.args.model.now in
    let r = c.args.words in
    let p = holds m (formula c.args.nodes.now c.args.place) in
    let put = with_row c.clear_row.new.work r c.args.place in
    elim c.if-holds_at.branch [
      | then-holds_at w ↦ w.work-is
          ∙ added m c.args.nodes.now c.args.place r c.clear_row.new.work c.loop-world.work (row_of p r c.loop-world.world) w.add_to_row.new.work c.loop-world.world
          (omega (arith, c.requires.room, c.clear_row.auto.work)) (length_row p r c.loop-world.world) c.loop-world.invariant w.add_to_row.ensures
          ∙ ap put (row_yes p r c.loop-world.world (sym c.holds_at.ensures ∙ w.if-holds_at.true))
      | else-holds_at w ↦ w.work-is ∙ c.loop-world.invariant ∙ ap put (row_no p r c.loop-world.world (sym c.holds_at.ensures ∙ w.if-holds_at.false))
    ]

pub returns : goal.returns
returns g c =
    let m = g.M.Model.meaning c.args.model.now in
    let r = c.args.words in
    let p = holds m (formula c.args.nodes.now c.args.place) in
    let last : c.loop-world.world ≡ m.width = omega arith in
    rewritten m c.args.nodes.now c.args.place r c.args.work.now c.clear_row.new.work (replicate r 0) (row_of p r c.loop-world.world) c.loop-world.work
    c.requires.room (length-replicate r 0) c.clear_row.ensures c.loop-world.invariant
    ∙ ap (with_row c.args.work.now r c.args.place) (ap₂ (row_of p) c.requires.per_row last)
