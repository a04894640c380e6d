use Rattle.std.proofs.Common.{None, sym}
use Rattle.lexer.proofs.Firsts.{first_digits, first_mark}
use Rattle.lexer.proofs.tokens.first_token.Goals as goal

pub returns-in-None : goal.returns-in-None
returns-in-None c = (_, first_digits c.args.column c.args.bytes.now c.requires c.in-Some.first.now c.in-Some.ensures.value (sym c.if-is.ensures) c.run.result _ c.run.ensures.is_the_run c.in-None.ensures)

pub returns-in-None-sign_of : goal.returns-in-None-sign_of
returns-in-None-sign_of c = (_, first_mark c.args.column c.args.bytes.now c.requires c.in-Some.first.now c.in-Some.ensures.value (sym c.if-is.ensures) (sym c.if-is-2.ensures) None c.in-None-sign_of.ensures)
