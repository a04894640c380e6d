-- What the program's values stand for.
use Rattle.std.specs.Prelude.{ℕ, List}
use Rattle.model.specs.Meaning.{Meaning}
use Rattle.settings.specs.declared.cases.CaseList.{CaseList}
use Rattle.settings.specs.declared.hats.Hats.{Hats}
use Rattle.settings.specs.declared.pairs.Pair.{Pair}
use Rattle.settings.specs.declared.dates.Date.{Date}
use Rattle.settings.specs.Settings.{set_up}
use Rattle.settings.specs.Hats.{hats}

-- what a circle or a queue means
abbrev pub hats_meaning : Hats → Meaning
hats_meaning h = set_up (hats h.sight h.agents)

-- the records of a list of cases
abbrev pub records : {R : Type 0} → CaseList R → List R
records l = l.cases.now

-- the numbers of a pair
abbrev pub numbers : Pair → ℕ × ℕ
numbers p = (p.x, p.y)

-- the month and the day of a date
abbrev pub date_numbers : Date → ℕ × ℕ
date_numbers d = (d.month, d.day)
