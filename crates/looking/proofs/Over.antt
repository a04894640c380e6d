-- Looks kept in a layer, and a look handed down.
use Rattle.std.proofs.Common.{◌≡◌, ℕ, ◌+◌, ◌-◌, ◌<◌, Bool, true, false, cond, ◌&&◌, ◌||◌, eqb, List, [], ◌∷◌, ◌++◌, Result, sym, refl, ap, ◌∙◌, arith}
use mathlib.Core.Bool.{or_assoc, or_comm}
use Rattle.model.specs.declared.refusals.Refusal.{Refusal}
use Rattle.model.specs.Actions.{Action}
use Rattle.model.specs.Causes.{Causes, clear, first}
use Rattle.model.specs.Meaning.{Meaning, Lawful, refined, looked, differ}
use Rattle.model.specs.Rows.{bit}
use Rattle.model.specs.Stages.{StageMeaning, causes, taken, Steps}
use Rattle.model.proofs.Steps.{same_answers, gone_bits_idle, lawful_refined}
use Rattle.looking.specs.declared.looks.Slot.{Slot}
use Rattle.looking.specs.Looks.{tells, told, HoldsLook}
use Rattle.looking.specs.FairLooks.{told_splits}
use Rattle.looking.specs.Layer.{and_looks}
use Rattle.looking.proofs.Told.{told_push}

-- a layer that keeps these looks and has n empty slots, over the stage s
abbrev pub over : List Slot → ℕ → StageMeaning → StageMeaning
over ss n s = record { model = refined (told ss) s.model; takes = and_looks n s.takes }

-- one look more kept is one look more taken
pub over_more : (ss : List Slot) (n : ℕ) (s : StageMeaning) → Lawful s.model → (p : ℕ) (row : List ℕ) (new : Slot) → HoldsLook p row new → 0 < n
    → over (ss ++ (new ∷ [])) (n - 1) s ≡ taken (Action.look p row) (over ss n s)
over_more ss n s law p row new holds some = λ i. record { model = models i; takes = record { hears = s.takes.hears; looks = fewer i; puts = s.takes.puts } }
  where
    m : Meaning
    m = s.model

    fewer : (n - 1 + s.takes.looks) ≡ (n + s.takes.looks - 1)
    fewer = omega arith

    models : refined (told (ss ++ (new ∷ []))) m ≡ looked p (bit row) (refined (told ss) m)
    models =
        same_answers m (λ w. refl) (λ a u v. ap (λ b. m.distinguishes a u v || b) (told_push a u v ss new) ∙ sym (or_assoc (m.distinguishes a u v) (told ss a u v) (tells new a u v))) (λ f w. refl) (λ q w. refl)
        ∙ ap (λ (a : ℕ). looked a (bit new.row) (refined (told ss) m)) holds.by
        ∙ (gone_bits_idle (refined (told ss) m) (lawful_refined m (told ss) (told_splits ss) law) (bit new.row) (bit row)
        (λ w e. holds.at w (omega (arith, law.within w e, law.few_worlds)))).1 p

-- with no slot empty a look is taken below
pub over_down : (ss : List Slot) (s s' : StageMeaning) (p : ℕ) (row : List ℕ) (n : ℕ) (r : Result (Unit {0}) Refusal) → n ≡ 0
    → Steps (Action.look p row) s r s' → Steps (Action.look p row) (over ss n s) r (over ss n s')
over_down ss s s' p row n r none steps = record {
  answers = steps.answers ∙ ap (λ (t : ℕ). first (why t) tt) (sym looks);
  leaves = ap (λ (t : StageMeaning). over ss n t) steps.leaves ∙ both (clear (causes (Action.look p row) s)) ∙ ap (λ (t : ℕ). cond (clear (why t)) (taken (Action.look p row) (over ss n s)) (over ss n s)) (sym looks);
}
  where
    looks : n + s.takes.looks ≡ s.takes.looks
    looks = omega arith

    why : ℕ → Causes
    why t = causes (Action.look p row) (record { model = s.model; takes = record { hears = s.takes.hears; looks = t; puts = s.takes.puts } })

    or_swap : (x y z : Bool) → (x || y || z) ≡ (x || z || y)
    or_swap x y z = or_assoc x y z ∙ ap (λ (b : Bool). x || b) (or_comm y z) ∙ sym (or_assoc x z y)

    fewer : (n + (s.takes.looks - 1)) ≡ (n + s.takes.looks - 1)
    fewer = omega arith

    models : refined (told ss) (looked p (bit row) s.model) ≡ looked p (bit row) (refined (told ss) s.model)
    models = same_answers s.model (λ w. refl) (λ a u v. or_swap (s.model.distinguishes a u v) (eqb a p && differ (bit row u) (bit row v)) (told ss a u v)) (λ f w. refl) (λ q w. refl)

    both : (b : Bool) → over ss n (cond b (taken (Action.look p row) s) s) ≡ cond b (taken (Action.look p row) (over ss n s)) (over ss n s)
    both true = λ i. record { model = models i; takes = record { hears = s.takes.hears; looks = fewer i; puts = s.takes.puts } }
    both false = refl
