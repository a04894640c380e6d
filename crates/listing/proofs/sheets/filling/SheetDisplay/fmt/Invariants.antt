use Rattle.std.proofs.Common.{◌∷◌, [], ◌++◌, take}
use Rattle.std.specs.Fmt.{IsPlainFormatter, HasWritten}
use Rattle.std.specs.List.{flat_map}
use Rattle.listing.specs.Texts.{heading, numbered}
use Rattle.listing.specs.Readings.{entry_in}
use Rattle.listing.proofs.sheets.filling.SheetDisplay.fmt.Given as goal

-- so far the header and the entries before this one are written
abbrev pub invariant-loop-entry : goal.invariant-loop-entry
invariant-loop-entry g l =
    IsPlainFormatter l.fn.f → HasWritten g.W.Write.write_str_gives l.fn.f (heading l.self.header ++ flat_map (λ e. numbered (entry_in e) ++ 10 ∷ []) (take l.entry-index l.self.entries.items)) l.f
