use Rattle.std.proofs.Common.{◌≡◌, ℕ, ◌-◌, ◌<◌, List, [], ◌∷◌, ◌++◌, true, take, is_some, Some, None, Option, sym, refl, ◌∙◌, ap₂, arith}
use Rattle.std.proofs.lemmas.List.{take_more_set}
use Rattle.std.proofs.lemmas.Bool.{ltb-true}
use Rattle.std.specs.Option.{OnSome}
use Rattle.model.specs.Stages.{StageMeaning, stage_of}
use Rattle.looking.specs.declared.looks.Slot.{Slot}
use Rattle.looking.specs.declared.slots.Slots.{Slots}
use Rattle.looking.specs.Slots.{kept, Filled}
use Rattle.looking.proofs.Over.{over, over_more}
use Rattle.looking.proofs.layer.LookingLayer.keep.Goals as goal

-- a table with one slot more filled keeps one look more
over_filled : (t u : Slots Slot) (new : Slot) (s : StageMeaning) → t.used < 16 → Filled t new u → over (kept u) (16 - u.used) s ≡ over (kept t ++ (new ∷ [])) (16 - t.used - 1) s
over_filled t u new s room f =
    let slots : kept u ≡ kept t ++ (new ∷ []) = ap₂ (λ (k : ℕ) (ss : List Slot). take k ss) f.1 f.0 ∙ take_more_set t.slots t.used new (omega (arith, t.whole)) in
    let rest : 16 - u.used ≡ 16 - t.used - 1 = omega (arith, f.1) in
    ap₂ (λ (ss : List Slot) (n : ℕ). over ss n s) slots rest

-- what follows where a value was answered
on_some : {P Q : Type 0} (r : Option (Unit {0})) → (is_some r ≡ true → P → Q) → OnSome r P → OnSome r Q
on_some None f p = tt
on_some (Some x) f p = f refl p

pub returns-clause-takes_the_look : goal.returns-clause-takes_the_look
returns-clause-takes_the_look g c =
    let table = c.args.self.now.table in
    let below = c.args.self.now.below in
    let s = stage_of g.S.Model.meaning g.S.Stage.takes below in
    on_some c.keep.result (λ some new.
    let room : table.used < 16 = ltb-true table.used 16 (sym c.keep.ensures.keeps_while_a_slot_is_empty ∙ some) in
    over_filled table c.keep.new.self new.0 s room new.2
    ∙ over_more (kept table) (16 - table.used) s (g.S.Model.lawful below) c.args.agent c.args.row.now new.0 new.1 (omega arith)) c.keep.ensures.fills_the_next_slot
