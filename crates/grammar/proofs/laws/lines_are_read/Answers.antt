use Rattle.grammar.proofs.Accepted.{settings_read, calls_read}
use Rattle.grammar.proofs.laws.lines_are_read.Goals as goal

pub returns : goal.returns
returns c = record { reads_just_the_settings = settings_read; reads_just_the_calls = calls_read }
