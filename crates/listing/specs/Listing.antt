-- The listing of a puzzle text.
use Rattle.std.specs.Prelude.{ℕ, ◌+◌, cond, List, [], ◌∷◌, ◌++◌, length, Some, None, Ok, Err, Option, Result, nat_lt}
use Rattle.model.specs.declared.refusals.Refusal.{Refusal}
use Rattle.model.specs.Meaning.{Meaning}
use Rattle.model.specs.Refusals.{number_of}
use Rattle.model.specs.Verdict.{verdict_of}
use Rattle.settings.specs.declared.sight.Sight.TheVariants.{Circle, Queue}
use Rattle.settings.specs.Hats.{hats_of}
use Rattle.settings.specs.Pairs.{pairs_of}
use Rattle.settings.specs.Dates.{dates_of}
use Rattle.lexer.specs.Faults.{Fault}
use Rattle.lines.specs.Firsts.{Answer, refused, accepted}
use Rattle.lines.specs.Settings as setting
use Rattle.text.specs.Calls as call
use Rattle.listing.specs.declared.outcomes.Header.{Header}
use Rattle.listing.specs.Outcomes.{Refused, Outcome, refusal, Entry}
use Rattle.listing.specs.Findings.{header_of, outcome_of}
use Rattle.listing.specs.Lines.{blank, lines_of}
use Rattle.listing.specs.Texts.{heading, printed}

-- a refusal by its number and column
abbrev pub refused_for : ℕ → ℕ → Refused
refused_for n c = record { number = n; column = c }

-- a line's fault has its column; a setting's refusal has none
abbrev pub of_fault : Fault → Refused
of_fault f = refused_for f.number f.column

abbrev pub of_refusal : Refusal → Refused
of_refusal r = refused_for (number_of r) 0

-- what a listing holds: its first line, where the setting was accepted, and then its other lines
pub record Page : Type 0 where
  pub header : Option Header
  pub entries : List Entry

-- a listing of one refusal, at line n
abbrev pub refusing : ℕ → Refused → Page
refusing n r = record { header = None; entries = record { number = n; outcome = refusal r } ∷ [] }

-- what is said of a later line
abbrev pub answered : Meaning → Answer call.Request → Outcome
answered m (refused f) = refusal (of_fault f)
answered m (accepted call.verdict) = outcome_of m (verdict_of m)

-- an entry for each line that is not blank, the first of the lines having number n
unfoldable pub entries_from : Meaning → ℕ → List (List ℕ) → List Entry
entries_from m n [] = []
entries_from m n (l ∷ ls) = cond (blank l) (entries_from m (n + 1) ls) (record { number = n; outcome = answered m (call.read_call l) } ∷ entries_from m (n + 1) ls)

-- the page of a model, and of the lines from number n on
abbrev pub played : Meaning → ℕ → List (List ℕ) → Page
played m n ls = record { header = Some (header_of m); entries = entries_from m n ls }

-- the model that a setting asks for
abbrev pub model_of : setting.Opening → Result Meaning Refusal
model_of (setting.pairs low sum) = pairs_of low sum
model_of (setting.dates ds) = dates_of ds
model_of (setting.circle k) = hats_of Circle k
model_of (setting.queue k) = hats_of Queue k

-- the page of a setting, if there is a model for it
abbrev pub plays : Result Meaning Refusal → ℕ → List (List ℕ) → Result Page Refused
plays (Ok m) n ls = Ok (played m n ls)
plays (Err r) n ls = Err (of_refusal r)

-- the page of a setting line, if it is accepted
abbrev pub sets : Answer setting.Opening → ℕ → List (List ℕ) → Result Page Refused
sets (refused f) n ls = Err (of_fault f)
sets (accepted o) n ls = plays (model_of o) n ls

-- a setting that is refused ends the listing, with its line's number
abbrev pub begun : ℕ → Result Page Refused → Page
begun n (Ok p) = p
begun n (Err r) = refusing n r

-- the first line that is not blank, its number, and the lines after it
pub record Filled : Type 0 where
  pub number : ℕ
  pub line : List ℕ
  pub rest : List (List ℕ)

unfoldable pub first_filled : ℕ → List (List ℕ) → Option Filled
first_filled n [] = None
first_filled n (l ∷ ls) = cond (blank l) (first_filled (n + 1) ls) (Some (record { number = n; line = l; rest = ls }))

-- that line is the setting; a text with no such line is refused whole
abbrev pub opened : Option Filled → Page
opened None = refusing 0 (refused_for 17 0)
opened (Some x) = begun x.number (sets (setting.read_setting x.line) (x.number + 1) x.rest)

-- the page of a puzzle text, which has at most 16,384 bytes
abbrev pub page : List ℕ → Page
page text = cond (nat_lt 16384 (length text)) (refusing 0 (refused_for 10 0)) (opened (first_filled 1 (lines_of text)))

-- the bytes of a page
abbrev pub written : Page → List ℕ
written p = heading p.header ++ printed p.entries

-- the listing of a puzzle text
abbrev pub listing : List ℕ → List ℕ
listing text = written (page text)
