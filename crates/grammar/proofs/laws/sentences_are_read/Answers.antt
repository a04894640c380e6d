use Rattle.grammar.proofs.Sound.{sentences_read}
use Rattle.grammar.proofs.Meaning.{sentences_mean}
use Rattle.grammar.proofs.laws.sentences_are_read.Goals as goal

pub returns : goal.returns
returns c = record { reads_just_the_sentences = sentences_read; writes_what_they_mean = sentences_mean }
