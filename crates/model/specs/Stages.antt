-- What a stage means, and what each step answers and leaves.
use Rattle.std.specs.Prelude.{◌≡◌, ℕ, ◌-◌, Bool, cond, not, List, [], ◌∷◌, length, Result, ◌==◌, nat_le, nat_lt}
use Rattle.model.specs.declared.refusals.Refusal.{Refusal}
use Rattle.model.specs.declared.refusals.Refusal.TheVariants.{NoSuch, NotTaken, ShortRow}
use Rattle.model.specs.Actions.{Action, row_of}
use Rattle.model.specs.Causes.{Causes, first, clear}
use Rattle.model.specs.Meaning.{Meaning, heard, looked, put}
use Rattle.model.specs.Rows.{bit, words}

-- which steps a stage takes: whether it hears, how many looks it still takes, whether it puts
pub record Takes : Type 0 where
  pub hears : Bool
  pub looks : ℕ
  pub puts : Bool

-- what a stage means, a model that can also take steps
pub record StageMeaning : Type 0 where
  pub model : Meaning
  pub takes : Takes

-- the meaning of the stage x, from what it means as a model and which steps it takes
abbrev pub stage_of : {X : Type 0} → (X → Meaning) → (X → Takes) → X → StageMeaning
stage_of meaning takes x = record { model = meaning x; takes = takes x }

-- the row has fewer words than a row of the model's worlds
abbrev pub short : List ℕ → Meaning → Bool
short row m = nat_lt (length row) (words m.width)

-- why a step is refused whatever its row: there is no such agent or fact, or the stage does not take it
abbrev pub other_causes : Action → StageMeaning → Causes
other_causes (Action.hear _) s = (not s.takes.hears, NotTaken) ∷ []
other_causes (Action.look p _) s = (nat_le s.model.agents p, NoSuch) ∷ ((s.takes.looks == 0), NotTaken) ∷ []
other_causes (Action.put f _) s = (nat_le s.model.facts f, NoSuch) ∷ (not s.takes.puts, NotTaken) ∷ []

-- why a step is refused, in order
abbrev pub causes : Action → StageMeaning → Causes
causes a s = (short (row_of a) s.model, ShortRow) ∷ other_causes a s

-- one look fewer
abbrev pub one_look_less : Takes → Takes
one_look_less t = record { hears = t.hears; looks = t.looks - 1; puts = t.puts }

-- what an accepted step leaves
abbrev pub taken : Action → StageMeaning → StageMeaning
taken (Action.hear row) s = record { model = heard (bit row) s.model; takes = s.takes }
taken (Action.look p row) s = record { model = looked p (bit row) s.model; takes = one_look_less s.takes }
taken (Action.put f row) s = record { model = put f (bit row) s.model; takes = s.takes }

-- what a step answers
abbrev pub answer : Action → StageMeaning → Result (Unit {0}) Refusal
answer a s = first (causes a s) tt

-- what a step leaves; a refusal leaves the stage
abbrev pub after : Action → StageMeaning → StageMeaning
after a s = cond (clear (causes a s)) (taken a s) s

-- a stage of meaning s takes the step a: it gives the answer r, and then means s'
pub record Steps (a : Action) (s : StageMeaning) (r : Result (Unit {0}) Refusal) (s' : StageMeaning) : Type 0 where
  pub answers : r ≡ answer a s
  pub leaves : s' ≡ after a s
