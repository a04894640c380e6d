-- What a table of slots holds.
use Rattle.std.specs.Prelude.{◌≡◌, ◌+◌, ◌<◌, ◌≤◌, List, take, replicate, slice_set}
use Rattle.looking.specs.declared.slots.Slots.{Slots}

-- every slot is empty
abbrev pub Blank : {X : Type 0} → X → Slots X → Type 0
Blank x t = (t.used ≡ 0) × (t.slots ≡ replicate 16 x)

-- u is t with x in the next slot
abbrev pub Filled : {X : Type 0} → Slots X → X → Slots X → Type 0
Filled t x u = (u.slots ≡ slice_set t.slots t.used x) × (u.used ≡ t.used + 1)

-- what a loan of the next slot comes to: if a slot was empty it now holds what was last written there, else all is as it was
abbrev pub Fills : {X : Type 0} → Slots X → X → Slots X → Type 0
Fills t x u = t.used < 16 → Filled t x u

abbrev pub Stays : {X : Type 0} → Slots X → Slots X → Type 0
Stays t u = 16 ≤ t.used → u ≡ t

-- what the filled slots hold
abbrev pub kept : {X : Type 0} → Slots X → List X
kept t = take t.used t.slots
