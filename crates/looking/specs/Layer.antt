-- What a looking layer means, from what stands below it.
use Rattle.std.specs.Prelude.{ℕ, ◌+◌, ◌-◌}
use Rattle.model.specs.Meaning.{Meaning, refined}
use Rattle.model.specs.Stages.{Takes, StageMeaning}
use Rattle.looking.specs.declared.layer.LookingLayer.{LookingLayer}
use Rattle.looking.specs.Slots.{kept}
use Rattle.looking.specs.Looks.{told}

-- the steps that are taken, and n looks more
abbrev pub and_looks : ℕ → Takes → Takes
and_looks n t = record { hears = t.hears; looks = n + t.looks; puts = t.puts }

-- the stage s, that takes 16 looks more
abbrev pub looking_stage : StageMeaning → StageMeaning
looking_stage s = record { model = s.model; takes = and_looks 16 s.takes }

-- a looking layer means what is below it, with what the looks that it keeps tell apart
abbrev pub looking_meaning : {S : Type 0} → (S → Meaning) → LookingLayer S → Meaning
looking_meaning of l = refined (told (kept l.table)) (of l.below)

-- its looks are its empty slots, and those below
abbrev pub looking_takes : {S : Type 0} → (S → Takes) → LookingLayer S → Takes
looking_takes of l = and_looks (16 - l.table.used) (of l.below)
