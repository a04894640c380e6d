-- What is wrong with a line: a number, and a column from 1 (0 where there is none).
use Rattle.std.specs.Prelude.{ℕ}
use Rattle.lexer.specs.declared.tokens.TokenFault.{TokenFault}
use Rattle.lexer.specs.declared.tokens.TokenFault.TheVariants as token

-- a fault
pub record Fault : Type 0 where
  pub number : ℕ
  pub column : ℕ

-- 12: a byte that starts no token; 13: a number too large
abbrev pub of_token : TokenFault → Fault
of_token (token.Byte c) = record { number = 12; column = c }
of_token (token.Number c) = record { number = 13; column = c }
