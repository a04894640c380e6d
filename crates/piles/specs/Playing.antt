-- What steps on a whole stage come to.
use Rattle.std.specs.Prelude.{◌≡◌, ℕ, true, List, [], ◌∷◌, Result}
use Rattle.model.specs.declared.refusals.Refusal.{Refusal}
use Rattle.model.specs.declared.refusals.Refusal.TheVariants.{ShortList}
use Rattle.model.specs.declared.verdict.Verdict.{Verdict}
use Rattle.model.specs.Causes.{first}
use Rattle.model.specs.Meaning.{Meaning}
use Rattle.model.specs.Stages.{StageMeaning}
use Rattle.model.specs.Verdict.{verdict_of}
use Rattle.steps.specs.declared.requests.Step.{Step}
use Rattle.steps.specs.Requests.{actions}
use Rattle.steps.specs.Runs.{run, no_room, answers_after}

-- the model m as a stage that hears, takes so many looks and puts
abbrev pub full_stage : ℕ → Meaning → StageMeaning
full_stage looks m = record { model = m; takes = record { hears = true; looks = looks; puts = true } }

-- the steps are played on a stage of meaning s: the verdict at the end is r, and a list of answers is altered to `after`
pub record Played (s : StageMeaning) (steps : List Step) (before : List (Result (Unit {0}) Refusal)) (r : Result Verdict Refusal)
    (after : List (Result (Unit {0}) Refusal)) : Type 0 where
  pub ends_with_the_verdict : r ≡ first ((no_room steps before, ShortList) ∷ []) (verdict_of (run (actions steps) s).model)
  pub writes_the_answers : after ≡ answers_after steps before s
