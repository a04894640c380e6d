-- Setting lines, and what they say.
use Rattle.std.specs.Prelude.{ℕ, cond, List, [], Some, None, Ok, Err, codes, Option, Result}
use Rattle.std.specs.Str.{bytes_eq}
use Rattle.formulas.specs.Reading.{Outcome, parsed, Reader, bind, a_number}
use Rattle.lines.specs.declared.faults.LineFault.{LineFault}
use Rattle.lines.specs.declared.settings.Setting.{Setting}
use Rattle.lines.specs.declared.settings.Setting.TheVariants as setting
use Rattle.lines.specs.declared.settings.SettingWord.{SettingWord}
use Rattle.lines.specs.declared.settings.SettingWord.TheVariants as sets
use Rattle.lines.specs.Faults.{of_line}
use Rattle.lines.specs.Reading.{last_number, the_dates, following}
use Rattle.lines.specs.Firsts.{Answer, refused, accepted, answer, first_word}

-- what a setting line says: a low number and a sum, a list of dates as month and day, or how many agents there are
pub data Opening : Type 0 where
  pairs : ℕ → ℕ → Opening
  dates : List (ℕ × ℕ) → Opening
  circle : ℕ → Opening
  queue : ℕ → Opening

-- the words that a setting line begins with
unfoldable pub setting_word : List ℕ → Option SettingWord
setting_word w =
    cond (bytes_eq w (codes "pairs")) (Some sets.Pairs)
    (cond (bytes_eq w (codes "dates")) (Some sets.Dates)
    (cond (bytes_eq w (codes "circle")) (Some sets.Circle)
    (cond (bytes_eq w (codes "queue")) (Some sets.Queue) None)))

-- what follows each of them
abbrev pub setting_rest : SettingWord → Reader Opening
setting_rest sets.Pairs ps = bind (a_number ps) (λ l r. bind (last_number r) (λ s. parsed (pairs l s)))
setting_rest sets.Dates ps = bind (the_dates ps) (λ ds. parsed (dates ds))
setting_rest sets.Circle ps = bind (last_number ps) (λ k. parsed (circle k))
setting_rest sets.Queue ps = bind (last_number ps) (λ k. parsed (queue k))

-- a setting line
abbrev pub setting_of : List ℕ → Outcome Opening
setting_of line = following setting_word setting_rest (first_word line)

-- what is answered to it
abbrev pub read_setting : List ℕ → Answer Opening
read_setting line = answer (setting_of line)

-- what a setting says, with the dates of the list
abbrev pub opening_for : Setting → List (ℕ × ℕ) → Opening
opening_for (setting.Pairs l s) ds = pairs l s
opening_for setting.Dates ds = dates ds
opening_for (setting.Circle k) ds = circle k
opening_for (setting.Queue k) ds = queue k

-- the answer that a result is, with the dates of the list
abbrev pub opening_of : Result Setting LineFault → List (ℕ × ℕ) → Answer Opening
opening_of (Ok x) ds = accepted (opening_for x ds)
opening_of (Err e) ds = refused (of_line e)

-- the dates that a setting lists
abbrev pub days_among : Opening → List (ℕ × ℕ)
days_among (pairs l s) = []
days_among (dates ds) = ds
days_among (circle k) = []
days_among (queue k) = []

-- the dates that an answer lists
abbrev pub days_in : Answer Opening → List (ℕ × ℕ)
days_in (refused e) = []
days_in (accepted o) = days_among o
