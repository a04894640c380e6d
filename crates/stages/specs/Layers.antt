-- What the floor and the hearing layer mean, from what stands below them.
use Rattle.std.specs.Prelude.{true, false}
use Rattle.model.specs.Meaning.{Meaning, heard}
use Rattle.model.specs.Rows.{bit}
use Rattle.model.specs.Stages.{Takes, StageMeaning}
use Rattle.stages.specs.declared.floor.Floor.{Floor}
use Rattle.stages.specs.declared.hearing.HearingLayer.{HearingLayer}

-- no step is taken
abbrev pub no_steps : Takes
no_steps = record { hears = false; looks = 0; puts = false }

-- a model as a stage that takes no step
abbrev pub floor_stage : Meaning → StageMeaning
floor_stage m = record { model = m; takes = no_steps }

-- the floor means its model, where `of` is what the model means
abbrev pub floor_meaning : {M : Type 0} → (M → Meaning) → Floor M → Meaning
floor_meaning of f = of f.model

abbrev pub floor_takes : {M : Type 0} → Floor M → Takes
floor_takes _ = no_steps

-- the steps that are taken, and hearing
abbrev pub and_hears : Takes → Takes
and_hears t = record { hears = true; looks = t.looks; puts = t.puts }

-- the stage s, that hears
abbrev pub hearing_stage : StageMeaning → StageMeaning
hearing_stage s = record { model = s.model; takes = and_hears s.takes }

-- a hearing layer means what is below it, once its row is heard
abbrev pub hearing_meaning : {S : Type 0} → (S → Meaning) → HearingLayer S → Meaning
hearing_meaning of l = heard (bit l.row) (of l.below)

abbrev pub hearing_takes : {S : Type 0} → (S → Takes) → HearingLayer S → Takes
hearing_takes of l = and_hears (of l.below)
