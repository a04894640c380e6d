-- What a listing says of a model.
use Rattle.std.specs.Prelude.{ℕ, List, map}
use Rattle.std.specs.List.{range_with_len}
use Rattle.model.specs.Meaning.{Meaning}
use Rattle.model.specs.declared.verdict.Verdict.{Verdict}
use Rattle.model.specs.declared.verdict.Verdict.TheVariants as found
use Rattle.listing.specs.declared.outcomes.Header.{Header}
use Rattle.listing.specs.declared.outcomes.Quantities.{Quantities}
use Rattle.listing.specs.Outcomes.{Outcome, contradiction, unique, rivals}

abbrev pub header_of : Meaning → Header
header_of m = record { worlds = m.width; agents = m.agents; facts = m.facts; quantities = m.quantities }

-- the values of a model's quantities at world w
unfoldable pub quantities_at : Meaning → ℕ → List ℕ
quantities_at m w = map (λ q. m.quantity q w) (range_with_len 0 m.quantities)

-- the same in places for eight; at a place past the last quantity a model answers 0
unfoldable pub kept_at : Meaning → ℕ → Quantities
kept_at m w = record { values = map (λ q. m.quantity q w) (range_with_len 0 8); count = m.quantities }

-- a verdict as it is listed: a unique world comes with its quantities
abbrev pub outcome_of : Meaning → Verdict → Outcome
outcome_of m found.Contradiction = contradiction
outcome_of m (found.Unique w) = unique w (quantities_at m w)
outcome_of m (found.Rivals n u v) = rivals n u v
