-- The dates of a line, one after another.
use Rattle.std.proofs.Common.{◌≡◌, ℕ, ◌+◌, ◌<◌, ◌≤◌, Bool, true, ◌&&◌, List, [], ◌∷◌, ◌++◌, map, length, get_or, take, drop, sym, ap, ◌∙◌, ap₂}
use Rattle.std.proofs.lemmas.List.{drop_more, drop_all, map_more, map-append}
use Rattle.settings.specs.declared.dates.Date.{Date}
use Rattle.settings.specs.Dates.{is_date, are_dates}
use Rattle.settings.specs.Readings.{date_numbers}
use Rattle.lines.specs.declared.dates.MonthDay.{MonthDay}
use Rattle.lines.specs.Dates.{month_day}

module _ (days : List MonthDay) (i : ℕ) where
  -- what the date at hand decides
  pub dates_at : (d : MonthDay) (b : Bool) → i < length days → is_date (month_day (get_or days i d)) ≡ b → are_dates (map month_day (drop i days)) ≡ (b && are_dates (map month_day (drop (i + 1) days)))
  unfolding are_dates
  dates_at d b h e =
      ap (λ (l : List MonthDay). are_dates (map month_day l)) (drop_more days i d h)
      ∙ ap (λ (t : Bool). t && are_dates (map month_day (drop (i + 1) days))) e

  pub dates_end : length days ≤ i → are_dates (map month_day (drop i days)) ≡ true
  unfolding are_dates
  dates_end h = ap (λ (l : List MonthDay). are_dates (map month_day l)) (drop_all i days h)

  -- one date more in the list
  pub dates_pushed : (d : MonthDay) (x : Date) (before after : List Date) → i < length days → map date_numbers before ≡ map month_day (take i days) → date_numbers x ≡ month_day (get_or days i d)
      → after ≡ before ++ x ∷ [] → map date_numbers after ≡ map month_day (take (i + 1) days)
  dates_pushed d x before after h b e p =
      ap (map date_numbers) p ∙ map-append date_numbers before (x ∷ []) ∙ ap₂ (λ (l : List (ℕ × ℕ)) (y : ℕ × ℕ). l ++ y ∷ []) b e ∙ sym (map_more month_day days i d h)
