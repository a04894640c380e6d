use Rattle.std.proofs.Common.{ℕ, List, ap, ◌∙◌}
use Rattle.model.specs.Rows.{with_world}
use Rattle.evaluator.specs.Rows.{with_row}
use Rattle.evaluator.proofs.Areas.{lent, put_back}
use Rattle.evaluator.proofs.rows.add_to_row.Goals as goal

pub returns : goal.returns
returns c =
    put_back c.args.work.now c.args.words c.args.node c.add_world.new.row
    ∙ ap (with_row c.args.work.now c.args.words c.args.node)
    (c.add_world.ensures.sets_the_bit ∙ ap (λ (row : List ℕ). with_world row c.args.world) (lent c.args.work.now c.args.words c.args.node))
