use Rattle.std.proofs.Common.{refl}
use Rattle.std.specs.Fmt.{digits}
use Rattle.settings.specs.Pairs.{row_from, row, pairs, pairs_of}
use Rattle.lines.specs.Settings.{setting_word}
use Rattle.lines.specs.Firsts.{first_word}
use Rattle.formulas.specs.Reading.{a_number, the_end}
use Rattle.lines.specs.Reading.{the_beginning}
use Rattle.lexer.specs.Tokens.{pieces_from}
use Rattle.listing.specs.Listing.{first_filled, entries_from}
use Rattle.listing.proofs.laws.known_settings.Goals as goal

-- the definitions compute
pub returns : goal.returns
unfolding digits row_from row pairs pairs_of setting_word first_word a_number the_end the_beginning pieces_from first_filled entries_from
returns c = record { lists_known_settings = (refl, (refl, (refl, (refl, (refl, tt))))) }
