-- A row's bits at worlds that do not survive make no difference to a step.
use Rattle.std.proofs.Common.{◌≡◌, ℕ, Bool, true, cond, List, ◌∷◌, Result, sym, refl, ap, ◌∙◌, ap₂}
use Rattle.model.specs.declared.refusals.Refusal.{Refusal}
use Rattle.model.specs.declared.refusals.Refusal.TheVariants.{ShortRow}
use Rattle.model.specs.Actions.{Action, row_of}
use Rattle.model.specs.Causes.{Causes, first, clear}
use Rattle.model.specs.Meaning.{Meaning, Lawful}
use Rattle.model.specs.Rows.{bit}
use Rattle.model.specs.Stages.{StageMeaning, Steps, short, other_causes, causes, taken, one_look_less}
use Rattle.model.proofs.Steps.{gone_bits_idle}
use Rattle.steps.specs.Rows.{with_row, ReadsSurvivorsAlone}

row_with : (a : Action) (row : List ℕ) → row_of (with_row row a) ≡ row
row_with (Action.hear _) row = refl
row_with (Action.look p _) row = refl
row_with (Action.put f _) row = refl

same_others : (a : Action) (row : List ℕ) (s : StageMeaning) → other_causes (with_row row a) s ≡ other_causes a s
same_others (Action.hear _) row s = refl
same_others (Action.look p _) row s = refl
same_others (Action.put f _) row s = refl

module _ (s : StageMeaning) (law : Lawful s.model) where
  same_taken : (a : Action) (row : List ℕ) → ((w : ℕ) → s.model.survives w ≡ true → bit row w ≡ bit (row_of a) w) → taken (with_row row a) s ≡ taken a s
  same_taken (Action.hear r) row h = ap (λ (m : Meaning). record { model = m; takes = s.takes }) (gone_bits_idle s.model law (bit row) (bit r) h).0
  same_taken (Action.look p r) row h = ap (λ (m : Meaning). record { model = m; takes = one_look_less s.takes }) ((gone_bits_idle s.model law (bit row) (bit r) h).1 p)
  same_taken (Action.put f r) row h = ap (λ (m : Meaning). record { model = m; takes = s.takes }) ((gone_bits_idle s.model law (bit row) (bit r) h).2 f)

  pub reads_survivors_alone : (a : Action) (r : Result (Unit {0}) Refusal) (s' : StageMeaning) → Steps a s r s' → ReadsSurvivorsAlone a s r s'
  reads_survivors_alone a r s' step row e h =
      let why : causes (with_row row a) s ≡ causes a s =
      ap₂ (λ (b : Bool) (cs : Causes). (b, ShortRow) ∷ cs) (ap (λ (x : List ℕ). short x s.model) (row_with a row) ∙ e) (same_others a row s) in
      record {
        answers = step.answers ∙ ap (λ (cs : Causes). first cs tt) (sym why);
        leaves = step.leaves ∙ ap₂ (λ (cs : Causes) (t : StageMeaning). cond (clear cs) t s) (sym why) (sym (same_taken a row h));
      }
