use Rattle.std.proofs.Common.{take}
use Rattle.std.specs.Fmt.{IsPlainFormatter, HasWritten}
use Rattle.listing.specs.Texts.{fields}
use Rattle.listing.specs.Readings.{quantities_in}
use Rattle.listing.proofs.outcomes.QuantitiesDisplay.fmt.Given as goal

-- so far the values before this one are written
abbrev pub invariant-loop-value : goal.invariant-loop-value
invariant-loop-value g l = IsPlainFormatter l.initial.f → HasWritten g.W.Write.write_str_gives l.initial.f (fields (take l.value-index (quantities_in l.self))) l.f
