use Rattle.std.proofs.Common.{length, get_or, sym, ◌∙◌, arith}
use Rattle.theory.specs.Formula.{shape}
use Rattle.evaluator.specs.Checks.{no_node}
use Rattle.evaluator.proofs.Nodes.{sound_earlier, rows_there}
use Rattle.evaluator.proofs.Written.{ready_says}
use Rattle.evaluator.proofs.fills.holds_at.Goals as goal

pub is_true-requires : goal.is_true-requires
is_true-requires g c =
    rows_there c.args.place c.args.rows.words (length c.args.rows.work.now) (shape (get_or c.args.nodes.now c.args.place no_node)) (omega (arith, c.requires.room))
    (sound_earlier (g.M.Model.meaning c.args.model.now) c.args.place (get_or c.args.nodes.now c.args.place no_node) c.requires.sound_node)

pub returns-then-survives : goal.returns-then-survives
returns-then-survives g c =
    c.is_true.ensures
    ∙ ready_says (g.M.Model.meaning c.args.model.now) (g.M.Model.lawful c.args.model.now) c.args.nodes.now c.args.place c.args.rows.words c.args.world c.args.rows.work.now
    c.requires (sym c.if-survives.ensures)
