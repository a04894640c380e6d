use Rattle.std.proofs.Common.{rules}
use Rattle.formulas.specs.Reading.{the_sign}
use Rattle.formulas.proofs.parts.expect_sign.Goals as goal

pub returns-in-Sign : goal.returns-in-Sign
unfolding the_sign
returns-in-Sign c = (c.in_ok-x.x.column, search rules)
