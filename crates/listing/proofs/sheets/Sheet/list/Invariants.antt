use Rattle.std.proofs.Common.{◌≡◌, ◌+◌, ◌≤◌, ◌++◌, Some, map, vec_items, vec_len}
use Rattle.listing.specs.Findings.{header_of}
use Rattle.listing.specs.Lines.{lines_left, size_left}
use Rattle.listing.specs.Listing.{entries_from}
use Rattle.listing.specs.Readings.{entry_in}
use Rattle.listing.proofs.sheets.Sheet.list.Given as goal

-- what is listed and what is to come make up the same entries at each turn
abbrev pub invariant-loop-number : goal.invariant-loop-number
invariant-loop-number g l =
    (goal.iterator-loop-number g).can_next l.number-iterator
    × (goal.iterator-loop-number g).is_finite l.number-iterator
    × (map entry_in (vec_items l.self.entries) ++ entries_from (g.M.Model.meaning l.model) l.number-iterator.number (lines_left l.number-iterator.rest)
    ≡ entries_from (g.M.Model.meaning l.model) l.fn.lines.number (lines_left l.fn.lines.rest))
    × (vec_len l.self.entries + size_left l.number-iterator.rest ≤ 16385)
    × (l.self.header ≡ Some (header_of (g.M.Model.meaning l.model)))
