-- The same steps on two stages.
use Rattle.std.specs.Prelude.{◌≡◌, ℕ, Bool, true, ◌&&◌, List, [], ◌∷◌, Ok, Err, Result, ◌==◌}
use Rattle.std.specs.Result.{result_eq}
use Rattle.std.specs.contracts.prelude.UnitPartialEq.TheImpl as UnitEq
use Rattle.model.specs.contracts.refusals.RefusalPartialEq.TheImpl as RefusalEq
use Rattle.model.specs.declared.refusals.Refusal.{Refusal}
use Rattle.model.specs.Actions.{Action}
use Rattle.model.specs.Refusals.{number_of}
use Rattle.model.specs.Stages.{StageMeaning, answer, after}

-- the number that is reported of an answer: 0, or the refusal's
abbrev pub reported : Result (Unit {0}) Refusal → ℕ
reported (Ok _) = 0
reported (Err e) = number_of e

-- the two answers are the same value: both accept, or both refuse for one cause
abbrev pub same_result : Result (Unit {0}) Refusal → Result (Unit {0}) Refusal → Bool
same_result = result_eq UnitEq.eq-value.it RefusalEq.eq-value.it

-- the two stages answer each step alike
unfoldable pub answer_alike : List Action → StageMeaning → StageMeaning → Bool
answer_alike [] s t = true
answer_alike (a ∷ xs) s t = reported (answer a s) == reported (answer a t) && answer_alike xs (after a s) (after a t)

-- two stages of equal meaning before have equal meaning after, and have answered alike
abbrev pub StayEqual : StageMeaning → StageMeaning → Bool → StageMeaning → StageMeaning → Type 0
StayEqual s t same s' t' = s ≡ t → (s' ≡ t') × (same ≡ true)
