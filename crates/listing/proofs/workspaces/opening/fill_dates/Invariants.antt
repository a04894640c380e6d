use Rattle.std.proofs.Common.{◌≡◌, map, take, drop, vec_items, vec_len, vec_capacity}
use Rattle.settings.specs.Dates.{are_dates}
use Rattle.settings.specs.Readings.{date_numbers}
use Rattle.lines.specs.Dates.{month_day}
use Rattle.listing.proofs.workspaces.opening.fill_dates.Given as goal

-- the numbers so far are dates and stand in the list
abbrev pub invariant-loop-day : goal.invariant-loop-day
invariant-loop-day l =
    (map date_numbers (vec_items l.dates) ≡ map month_day (take l.day-index l.days))
    × (are_dates (map month_day l.days) ≡ are_dates (map month_day (drop l.day-index l.days)))
    × (vec_len l.dates ≡ l.day-index)
    × (vec_capacity l.dates ≡ vec_capacity l.initial.dates)
