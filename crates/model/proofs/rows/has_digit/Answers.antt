use Rattle.model.proofs.Digits.{tested}
use Rattle.model.proofs.rows.has_digit.Goals as goal

pub returns : goal.returns
returns c = tested c.args.word c.args.place
