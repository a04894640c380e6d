-- What the readers say of one step along a list of dates.
use Rattle.std.specs.Prelude.{◌≡◌, ◌+◌, ◌≤◌, List, [], ◌∷◌, length}
use Rattle.lexer.specs.Tokens.{Placed}
use Rattle.lines.specs.declared.dates.MonthDay.{MonthDay}
use Rattle.lines.specs.Dates.{month_day}
use Rattle.lines.specs.Reading.{before, the_dates}

-- the dates are d and those that are left, and d took two pieces at least
pub record Dated (ps : List Placed) (d : MonthDay) (rest : List Placed) : Type 0 where
  pub is : the_dates ps ≡ before (month_day d ∷ []) (the_dates rest)
  pub onward : length rest + 2 ≤ length ps
