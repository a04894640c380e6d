-- A step reads its row at surviving worlds alone.
use Rattle.std.specs.Prelude.{◌≡◌, ℕ, true, List, Result}
use Rattle.model.specs.declared.refusals.Refusal.{Refusal}
use Rattle.model.specs.Actions.{Action, row_of}
use Rattle.model.specs.Rows.{bit}
use Rattle.model.specs.Stages.{StageMeaning, Steps, short}

-- the step with another row
abbrev pub with_row : List ℕ → Action → Action
with_row row (Action.hear _) = Action.hear row
with_row row (Action.look p _) = Action.look p row
with_row row (Action.put f _) = Action.put f row

-- what a step answered and left, it would also have answered and left with any row that has the same surviving worlds
abbrev pub ReadsSurvivorsAlone : Action → StageMeaning → Result (Unit {0}) Refusal → StageMeaning → Type 0
ReadsSurvivorsAlone a s r s' = (row : List ℕ) → short row s.model ≡ short (row_of a) s.model
    → ((w : ℕ) → s.model.survives w ≡ true → bit row w ≡ bit (row_of a) w) → Steps (with_row row a) s r s'
