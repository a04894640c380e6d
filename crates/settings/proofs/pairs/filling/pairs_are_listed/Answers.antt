use Rattle.settings.proofs.Listing.{pairs_listed}
use Rattle.settings.proofs.pairs.filling.pairs_are_listed.Goals as goal

pub returns : goal.returns
returns c = record { lists_the_pairs = pairs_listed }
