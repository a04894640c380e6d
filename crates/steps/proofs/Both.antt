-- The same steps on two stages, step by step.
use Rattle.std.proofs.Common.{◌≡◌, ℕ, ◌+◌, ◌<◌, Bool, true, false, ◌&&◌, eqb, List, [], ◌∷◌, ◌++◌, length, get_or, take, sym, refl, ap, ◌∙◌, ap₂}
use mathlib.Core.Bool.{not, and-true, and_assoc}
use Rattle.std.specs.Prelude.{Ok, Err, Result, cond, nat_le, ◌==◌}
use Rattle.model.specs.declared.refusals.Refusal.{Refusal}
use Rattle.model.specs.declared.refusals.Refusal.TheVariants.{ShortRow, NoSuch, NotTaken}
use Rattle.std.proofs.lemmas.List.{map_more}
use Rattle.std.proofs.lemmas.Bool.{and_from, eq-eqb}
use Rattle.model.specs.Actions.{Action}
use Rattle.model.specs.Stages as Stages
use Rattle.model.specs.Stages.{StageMeaning, answer, after}
use Rattle.steps.specs.declared.requests.Step.{Step}
use Rattle.steps.specs.Requests.{action_of, actions}
use Rattle.steps.specs.Runs.{run}
use Rattle.steps.specs.Pairs.{reported, same_result, answer_alike}

-- the two stages report the same of a step
abbrev pub report_alike : Action → StageMeaning → StageMeaning → Bool
report_alike a s t = eqb (reported (answer a s)) (reported (answer a t))

pub alike_none : (s t : StageMeaning) → answer_alike [] s t ≡ true
unfolding answer_alike
alike_none s t = refl

pub alike_push : (xs : List Action) (a : Action) (s t : StageMeaning) → answer_alike (xs ++ (a ∷ [])) s t ≡ (answer_alike xs s t && report_alike a (run xs s) (run xs t))
unfolding run answer_alike
alike_push [] a s t = and-true (report_alike a s t)
alike_push (x ∷ xs) a s t =
    ap (λ (b : Bool). report_alike x s t && b) (alike_push xs a (after x s) (after x t))
    ∙ sym (and_assoc (report_alike x s t) (answer_alike xs (after x s) (after x t)) (report_alike a (run xs (after x s)) (run xs (after x t))))

-- the four answers of a stage
data Reply : Type 0 where
  accepted : Reply
  short : Reply
  absent : Reply
  closed : Reply

abbrev result_of : Reply → Result (Unit {0}) Refusal
result_of accepted = Ok tt
result_of short = Err ShortRow
result_of absent = Err NoSuch
result_of closed = Err NotTaken

-- an answer is the first cause that applies of those that a step can have
one_of_four : (b c d : Bool) → (r : Reply) × (cond b (Err ShortRow) (cond c (Err NoSuch) (cond d (Err NotTaken) (Ok tt))) ≡ result_of r)
one_of_four true c d = (short, refl)
one_of_four false true d = (absent, refl)
one_of_four false false true = (closed, refl)
one_of_four false false false = (accepted, refl)

reply_of : (a : Action) (s : StageMeaning) → (r : Reply) × (answer a s ≡ result_of r)
reply_of (Action.hear row) s = one_of_four (Stages.short row s.model) false (not s.takes.hears)
reply_of (Action.look p row) s = one_of_four (Stages.short row s.model) (nat_le s.model.agents p) (s.takes.looks == 0)
reply_of (Action.put f row) s = one_of_four (Stages.short row s.model) (nat_le s.model.facts f) (not s.takes.puts)

-- answers of stages are equal where they report the same, since none names a node
same_replies : (q r : Reply) → same_result (result_of q) (result_of r) ≡ eqb (reported (result_of q)) (reported (result_of r))
same_replies accepted accepted = refl
same_replies accepted short = refl
same_replies accepted absent = refl
same_replies accepted closed = refl
same_replies short accepted = refl
same_replies short short = refl
same_replies short absent = refl
same_replies short closed = refl
same_replies absent accepted = refl
same_replies absent short = refl
same_replies absent absent = refl
same_replies absent closed = refl
same_replies closed accepted = refl
same_replies closed short = refl
same_replies closed absent = refl
same_replies closed closed = refl

same_answers : (a b : Action) (s t : StageMeaning) → same_result (answer a s) (answer b t) ≡ eqb (reported (answer a s)) (reported (answer b t))
same_answers a b s t =
    let q = reply_of a s in
    let r = reply_of b t in
    rw (q.1, r.1) (same_replies q.0 r.0)

pub alike_more : (steps : List Step) (i : ℕ) (d : Step) → i < length steps → (s s₁ t t₁ : StageMeaning) (same : Bool) (x y : Result (Unit {0}) Refusal)
    → s₁ ≡ run (actions (take i steps)) s → t₁ ≡ run (actions (take i steps)) t → same ≡ answer_alike (actions (take i steps)) s t
    → x ≡ answer (action_of (get_or steps i d)) s₁ → y ≡ answer (action_of (get_or steps i d)) t₁
    → (same && same_result x y) ≡ answer_alike (actions (take (i + 1) steps)) s t
alike_more steps i d there s s₁ t t₁ same x y e f g h k =
    let a = action_of (get_or steps i d) in
    let first = run (actions (take i steps)) s in
    let second = run (actions (take i steps)) t in
    ap₂ ◌&&◌ g (ap₂ same_result (h ∙ ap (answer a) e) (k ∙ ap (answer a) f) ∙ same_answers a a first second)
    ∙ sym (alike_push (actions (take i steps)) a s t) ∙ ap (λ (xs : List Action). answer_alike xs s t) (sym (map_more action_of steps i d there))

pub alike_itself : (xs : List Action) (s : StageMeaning) → answer_alike xs s s ≡ true
unfolding answer_alike
alike_itself [] s = refl
alike_itself (x ∷ xs) s = and_from _ _ (eq-eqb (reported (answer x s)) (reported (answer x s)) refl) (alike_itself xs (after x s))
