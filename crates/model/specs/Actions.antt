-- The steps that a stage can be asked to take.
use Rattle.std.specs.Prelude.{ℕ, List}

-- a step, with the words of its row: hear it, look at it as agent p, put fact f by it
pub data Action : Type 0 where
  hear : List ℕ → Action
  look : ℕ → List ℕ → Action
  put : ℕ → List ℕ → Action

-- the row of a step
abbrev pub row_of : Action → List ℕ
row_of (Action.hear row) = row
row_of (Action.look p row) = row
row_of (Action.put f row) = row
