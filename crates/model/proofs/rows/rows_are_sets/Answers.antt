use Rattle.model.proofs.Digits.{rows_are_sets}
use Rattle.model.proofs.rows.rows_are_sets.Goals as goal

pub returns : goal.returns
returns c = record { rows_are_sets = rows_are_sets }
