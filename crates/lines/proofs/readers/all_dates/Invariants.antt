use Rattle.std.proofs.Common.{◌≡◌, ◌+◌, ◌*◌, ◌≤◌, length}
use Rattle.lines.specs.Dates.{days_of, count}
use Rattle.lines.specs.Reading.{before, the_dates}
use Rattle.lines.proofs.readers.all_dates.Given as goal

-- each date takes two pieces of the line
abbrev pub invariant-loop-found : goal.invariant-loop-found
invariant-loop-found l =
    record {
      room : 2 * count l.dates + length l.cursor ≤ 201;
      so_far : the_dates l.initial.cursor ≡ before (days_of l.dates) (the_dates l.cursor);
    }

abbrev pub decreases-loop-found : goal.decreases-loop-found
decreases-loop-found l = length l.cursor
