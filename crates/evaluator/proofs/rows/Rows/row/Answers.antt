use Rattle.evaluator.proofs.Areas.{lent}
use Rattle.evaluator.proofs.rows.Rows.row.Goals as goal

pub returns : goal.returns
returns c = lent c.args.self.work.now c.args.self.words c.args.node
