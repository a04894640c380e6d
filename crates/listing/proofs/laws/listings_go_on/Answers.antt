use Rattle.listing.proofs.GoingOn.{goes_on, stays_refused}
use Rattle.listing.proofs.laws.listings_go_on.Goals as goal

pub returns : goal.returns
returns c = record { goes_on = goes_on; stays_refused = stays_refused }
