use Rattle.std.proofs.Common.{◌≡◌, ◌≤◌}
use Rattle.listing.specs.Lines.{lines_left, size_left}
use Rattle.listing.specs.Listing.{first_filled}
use Rattle.listing.proofs.texts.walking.LinesIterator.next.Given as goal

-- the first line that is not blank is yet to come
abbrev pub invariant-loop-self : goal.invariant-loop-self
invariant-loop-self l = (first_filled l.self.number (lines_left l.self.rest) ≡ first_filled l.initial.self.number (lines_left l.initial.self.rest)) × (size_left l.self.rest ≤ size_left l.initial.self.rest)

abbrev pub decreases-loop-self : goal.decreases-loop-self
decreases-loop-self l = size_left l.self.rest
