-- The dates that a list holds, as month and day.
use Rattle.std.specs.Prelude.{ℕ, List, map, vec_items, vec_len}
use Rattle.lines.specs.declared.dates.MonthDay.{MonthDay}
use Rattle.lines.specs.declared.dates.DateList.{DateList}

-- a date
abbrev pub month_day : MonthDay → ℕ × ℕ
month_day d = (d.month, d.day)

-- the dates of a list, in order
abbrev pub days_of : DateList → List (ℕ × ℕ)
days_of l = map month_day (vec_items l.items)

-- how many they are
abbrev pub count : DateList → ℕ
count l = vec_len l.items
