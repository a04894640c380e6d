-- What the program's values say of a line.
use Rattle.std.specs.Prelude.{ℕ, List, take}
use Rattle.lines.specs.Faults.{of_line}
use Rattle.listing.specs.declared.outcomes.Refused.{Refused as Cause}
use Rattle.listing.specs.declared.outcomes.Refused.TheVariants as cause
use Rattle.listing.specs.declared.outcomes.Quantities.{Quantities}
use Rattle.listing.specs.declared.outcomes.Outcome.{Outcome as Finding}
use Rattle.listing.specs.declared.outcomes.Outcome.TheVariants as finding
use Rattle.listing.specs.declared.outcomes.Entry.{Entry as Line}
use Rattle.listing.specs.Outcomes.{Refused, Outcome, contradiction, unique, rivals, refusal, Entry}
use Rattle.listing.specs.Listing.{refused_for, of_fault, of_refusal}

-- a text too long is refused with 10, one without a setting with 17
abbrev pub refused_in : Cause → Refused
refused_in cause.LongText = refused_for 10 0
refused_in cause.NoSetting = refused_for 17 0
refused_in (cause.Line f) = of_fault (of_line f)
refused_in (cause.Setting r) = of_refusal r

-- the values that there are, of the eight places
abbrev pub quantities_in : Quantities → List ℕ
quantities_in q = take q.count q.values

abbrev pub outcome_in : Finding → Outcome
outcome_in finding.Contradiction = contradiction
outcome_in (finding.Unique w q) = unique w (quantities_in q)
outcome_in (finding.Rivals n u v) = rivals n u v
outcome_in (finding.Refusal n c) = refusal (refused_for n c)

abbrev pub entry_in : Line → Entry
entry_in e = record { number = e.number; outcome = outcome_in e.outcome }
