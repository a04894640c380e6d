-- What a sheet holds.
use Rattle.std.specs.Prelude.{map, Ok, Err, vec_items, Result}
use Rattle.listing.specs.declared.outcomes.Refused.{Refused as Cause}
use Rattle.listing.specs.declared.sheets.Sheet.{Sheet}
use Rattle.listing.specs.Outcomes.{Refused}
use Rattle.listing.specs.Listing.{Page}
use Rattle.listing.specs.Readings.{refused_in, entry_in}

abbrev pub page_of : Sheet → Page
page_of s = record { header = s.header; entries = map entry_in (vec_items s.entries) }

-- the page, unless a refusal came in its place
abbrev pub settled : Result (Unit {0}) Cause → Page → Result Page Refused
settled (Ok _) p = Ok p
settled (Err r) p = Err (refused_in r)
