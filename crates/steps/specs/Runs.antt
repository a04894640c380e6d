-- Lists of steps on any stage.
use Rattle.std.specs.Prelude.{◌≡◌, ℕ, Bool, true, cond, List, [], ◌∷◌, ◌++◌, length, drop, Result, nat_lt}
use Rattle.model.specs.declared.refusals.Refusal.{Refusal}
use Rattle.model.specs.Actions.{Action}
use Rattle.model.specs.Stages.{StageMeaning, answer, after}
use Rattle.steps.specs.declared.requests.Step.{Step}
use Rattle.steps.specs.Requests.{actions}

-- the stage after a list of steps, each accepted or refused
unfoldable pub run : List Action → StageMeaning → StageMeaning
run [] s = s
run (a ∷ xs) s = run xs (after a s)

-- what the steps answer
unfoldable pub replies : List Action → StageMeaning → List (Result (Unit {0}) Refusal)
replies [] s = []
replies (a ∷ xs) s = answer a s ∷ replies xs (after a s)

-- the worlds of s' are those of s, under their numbers: there are xs many, a survivor was one before, and has its quantities
pub record SameWorlds (s s' : StageMeaning) : Type 0 where
  pub same_width : s'.model.width ≡ s.model.width
  pub only_fewer : (w : ℕ) → s'.model.survives w ≡ true → s.model.survives w ≡ true
  pub same_quantities : (q w : ℕ) → s'.model.survives w ≡ true → s'.model.quantity q w ≡ s.model.quantity q w

-- the list of answers is shorter than that of steps
abbrev pub no_room : List Step → List (Result (Unit {0}) Refusal) → Bool
no_room steps answers = nat_lt (length answers) (length steps)

-- the stage after the steps, if there is room for the answers
abbrev pub stage_after : List Step → List (Result (Unit {0}) Refusal) → StageMeaning → StageMeaning
stage_after steps answers s = cond (no_room steps answers) s (run (actions steps) s)

-- the answers, and then what stood there; a refusal leaves the list
abbrev pub answers_after : List Step → List (Result (Unit {0}) Refusal) → StageMeaning → List (Result (Unit {0}) Refusal)
answers_after steps answers s = cond (no_room steps answers) answers (replies (actions steps) s ++ drop (length steps) answers)
