-- What a putting layer means, from what stands below it.
use Rattle.std.specs.Prelude.{ℕ, Bool, true, false, ◌&&◌, List, is_some, Some, None, Option, nat_lt, slice_index_or}
use Rattle.model.specs.Meaning.{Meaning, replaced}
use Rattle.model.specs.Rows.{bit}
use Rattle.model.specs.Stages.{Takes, StageMeaning}
use Rattle.putting.specs.declared.layer.PuttingLayer.{PuttingLayer}

-- the steps that are taken, and putting
abbrev pub and_puts : Takes → Takes
and_puts t = record { hears = t.hears; looks = t.looks; puts = true }

-- the stage s, that puts
abbrev pub putting_stage : StageMeaning → StageMeaning
putting_stage s = record { model = s.model; takes = and_puts s.takes }

-- the facts of m for which a row is kept
abbrev pub put_facts : Meaning → List (Option (List ℕ)) → ℕ → Bool
put_facts m rows f = nat_lt f m.facts && is_some (slice_index_or rows f None)

-- the worlds of a row, if one is kept
abbrev pub worlds_of : Option (List ℕ) → ℕ → Bool
worlds_of (Some row) w = bit row w
worlds_of None w = false

-- the worlds at which a fact was put
abbrev pub put_rows : List (Option (List ℕ)) → ℕ → ℕ → Bool
put_rows rows f = worlds_of (slice_index_or rows f None)

-- a putting layer means what is below it, with the facts that were put
abbrev pub putting_meaning : {S : Type 0} → (S → Meaning) → PuttingLayer S → Meaning
putting_meaning of l = replaced (put_facts (of l.below) l.rows) (put_rows l.rows) (of l.below)

abbrev pub putting_takes : {S : Type 0} → (S → Takes) → PuttingLayer S → Takes
putting_takes of l = and_puts (of l.below)
