-- What is wrong with a whole line, by its number and column.
use Rattle.lexer.specs.Faults.{Fault}
use Rattle.formulas.specs.Faults.{of_formula}
use Rattle.lines.specs.declared.faults.LineFault.{LineFault}
use Rattle.lines.specs.declared.faults.LineFault.TheVariants as whole

-- 11: a line too long; 12 to 15 are the formula's; 16: the node list is full; 17: a first token that is no word of the kind that is due
abbrev pub of_line : LineFault → Fault
of_line whole.Long = record { number = 11; column = 0 }
of_line (whole.Formula e) = of_formula e
of_line whole.Full = record { number = 16; column = 0 }
of_line (whole.Word c) = record { number = 17; column = c }
