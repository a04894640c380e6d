use Rattle.std.proofs.Common.{ℕ, replicate, ap, ◌∙◌}
use Rattle.evaluator.specs.Rows.{with_row}
use Rattle.evaluator.proofs.Areas.{lent_length, put_back}
use Rattle.evaluator.proofs.rows.clear_row.Goals as goal

pub returns : goal.returns
returns c =
    put_back c.args.work.now c.args.words c.args.node c.fill.new.self
    ∙ ap (with_row c.args.work.now c.args.words c.args.node)
    (c.fill.ensures.after (λ _ e. e) ∙ ap (λ (k : ℕ). replicate k 0) (lent_length c.args.work.now c.args.words c.args.node c.requires))
