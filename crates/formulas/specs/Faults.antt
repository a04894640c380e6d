-- What is wrong with a formula, by its number and column.
use Rattle.lexer.specs.Faults.{Fault, of_token}
use Rattle.formulas.specs.declared.faults.FormulaFault.{FormulaFault}
use Rattle.formulas.specs.declared.faults.FormulaFault.TheVariants as formula

-- 12 and 13 are the token's; 14: a token out of place; 15: a level too many
abbrev pub of_formula : FormulaFault → Fault
of_formula (formula.Token e) = of_token e
of_formula (formula.Place c) = record { number = 14; column = c }
of_formula (formula.Level c) = record { number = 15; column = c }
