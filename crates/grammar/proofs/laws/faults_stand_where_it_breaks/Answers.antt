use Rattle.grammar.proofs.Broken.{formulas_break}
use Rattle.grammar.proofs.Completed.{lines_end, lines_break, lines_by_pieces, refusals_break}
use Rattle.grammar.proofs.laws.faults_stand_where_it_breaks.Goals as goal

pub returns : goal.returns
returns c = record { ends_lines = lines_end; breaks_formulas = formulas_break; reads_by_pieces = lines_by_pieces; breaks_lines = lines_break; refuses_what_breaks = refusals_break }
