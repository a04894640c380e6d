-- Dates, month and day, of which one agent is told the month and the other the day.
use Rattle.std.specs.Prelude.{ℕ, Bool, true, cond, ◌&&◌, List, [], ◌∷◌, Ok, Err, Result, ◌==◌, nat_le}
use Rattle.model.specs.declared.refusals.Refusal.{Refusal}
use Rattle.model.specs.declared.refusals.Refusal.TheVariants.{BadDate}
use Rattle.model.specs.Meaning.{Meaning}
use Rattle.settings.specs.Results.{on_ok}
use Rattle.settings.specs.Settings.{set_up}
use Rattle.settings.specs.Cases.{listed, checked}

-- the month for number 0, the day for number 1: what agents 0 and 1 are told, and what quantities 0 and 1 are
abbrev pub date_told : ℕ × ℕ → ℕ → ℕ
date_told d i = cond (i == 0) d.0 d.1

-- the model of a list of dates
abbrev pub dates_meaning : List (ℕ × ℕ) → Meaning
dates_meaning ds = set_up (listed 2 2 date_told date_told ds)

-- a month from 1 to 12 and a day from 1 to 31
abbrev pub is_date : ℕ × ℕ → Bool
is_date d = (nat_le 1 d.0 && nat_le d.0 12) && (nat_le 1 d.1 && nat_le d.1 31)

-- the date, if it is one
abbrev pub date_of : ℕ × ℕ → Result (ℕ × ℕ) Refusal
date_of d = cond (is_date d) (Ok d) (Err BadDate)

-- all are dates
unfoldable pub are_dates : List (ℕ × ℕ) → Bool
are_dates [] = true
are_dates (d ∷ ds) = is_date d && are_dates ds

-- the model of a list of 1 to 4,096, if all are dates
unfoldable pub dates_of : List (ℕ × ℕ) → Result Meaning Refusal
dates_of ds = cond (are_dates ds) (on_ok dates_meaning (checked ds)) (Err BadDate)
