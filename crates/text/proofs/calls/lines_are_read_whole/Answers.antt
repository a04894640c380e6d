use Rattle.text.proofs.Whole.{lines_read}
use Rattle.text.proofs.calls.lines_are_read_whole.Goals as goal

pub returns : goal.returns
returns c = record { reads_whole_lines = lines_read }
