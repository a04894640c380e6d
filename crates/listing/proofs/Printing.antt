-- The text of the entries of a sheet.
use Rattle.std.proofs.Common.{◌≡◌, List, [], ◌∷◌, ◌++◌, map, refl, ap}
use Rattle.std.specs.List.{flat_map}
use Rattle.listing.specs.declared.outcomes.Entry.{Entry}
use Rattle.listing.specs.Texts.{numbered, printed}
use Rattle.listing.specs.Readings.{entry_in}

pub printed_in : (es : List Entry) → printed (map entry_in es) ≡ flat_map (λ e. numbered (entry_in e) ++ 10 ∷ []) es
printed_in [] = refl
printed_in (e ∷ es) = ap (λ l. (numbered (entry_in e) ++ 10 ∷ []) ++ l) (printed_in es)
