-- Lists of steps, step by step.
use Rattle.std.proofs.Common.{◌≡◌, ℕ, suc, ◌+◌, ◌<◌, Bool, true, false, cond, List, [], ◌∷◌, ◌++◌, length, get_or, take, drop, set, Result, sym, refl, ap, ◌∙◌, append_assoc, arith}
use Rattle.std.proofs.lemmas.List.{map_more, set_at, drop_more, length-map, length-take-le}
use Rattle.std.proofs.lemmas.Bool.{and_parts, cond-true}
use Rattle.model.specs.declared.refusals.Refusal.{Refusal}
use Rattle.model.specs.Actions.{Action}
use Rattle.model.specs.Causes.{clear}
use Rattle.model.specs.Stages.{StageMeaning, causes, taken, answer, after}
use Rattle.steps.specs.declared.requests.Step.{Step}
use Rattle.steps.specs.Requests.{action_of, actions}
use Rattle.steps.specs.Runs.{run, replies, SameWorlds}

-- one step more
pub run_push : (xs : List Action) (a : Action) (s : StageMeaning) → run (xs ++ (a ∷ [])) s ≡ after a (run xs s)
unfolding run
run_push [] a s = refl
run_push (x ∷ xs) a s = run_push xs a (after x s)

replies_push : (xs : List Action) (a : Action) (s : StageMeaning) → replies (xs ++ (a ∷ [])) s ≡ replies xs s ++ (answer a (run xs s) ∷ [])
unfolding run replies
replies_push [] a s = refl
replies_push (x ∷ xs) a s = ap (λ rs. answer x s ∷ rs) (replies_push xs a (after x s))

length_replies : (xs : List Action) (s : StageMeaning) → length (replies xs s) ≡ length xs
unfolding replies
length_replies [] s = refl
length_replies (x ∷ xs) s = ap suc (length_replies xs (after x s))

-- the first steps of a list, and then the next
module _ (steps : List Step) (i : ℕ) (d : Step) (there : i < length steps) (s : StageMeaning) where
  more : actions (take (i + 1) steps) ≡ actions (take i steps) ++ (action_of (get_or steps i d) ∷ [])
  more = map_more action_of steps i d there

  pub run_more : (s₁ s₂ : StageMeaning) → s₁ ≡ run (actions (take i steps)) s → s₂ ≡ after (action_of (get_or steps i d)) s₁ → s₂ ≡ run (actions (take (i + 1) steps)) s
  run_more s₁ s₂ e f =
      f ∙ ap (after (action_of (get_or steps i d))) e ∙ sym (run_push (actions (take i steps)) (action_of (get_or steps i d)) s)
      ∙ ap (λ (xs : List Action). run xs s) (sym more)

  pub replies_more : (s₁ : StageMeaning) (r : Result (Unit {0}) Refusal) (old written : List (Result (Unit {0}) Refusal)) → i < length old
      → s₁ ≡ run (actions (take i steps)) s → written ≡ replies (actions (take i steps)) s ++ drop i old → r ≡ answer (action_of (get_or steps i d)) s₁
      → set written i r ≡ replies (actions (take (i + 1) steps)) s ++ drop (i + 1) old
  replies_more s₁ r old written room e f g =
      let front = replies (actions (take i steps)) s in
      let long : length front ≡ i =
      length_replies (actions (take i steps)) s ∙ length-map (take i steps) action_of ∙ length-take-le i steps (omega arith) in
      ap (λ ys. set ys i r) (f ∙ ap (λ ys. front ++ ys) (drop_more old i r room))
      ∙ set_at front (get_or old i r) (drop (i + 1) old) r i long
      ∙ ap (λ (x : Result (Unit {0}) Refusal). front ++ (x ∷ drop (i + 1) old)) (g ∙ ap (answer (action_of (get_or steps i d))) e)
      ∙ sym (append_assoc front (answer (action_of (get_or steps i d)) (run (actions (take i steps)) s) ∷ []) (drop (i + 1) old))
      ∙ ap (λ ys. ys ++ drop (i + 1) old) (sym (ap (λ (xs : List Action). replies xs s) more ∙ replies_push (actions (take i steps)) (action_of (get_or steps i d)) s))

-- a step keeps the worlds
after_taken : (a : Action) (s : StageMeaning) → SameWorlds s (taken a s)
after_taken (Action.hear row) s = record {
  same_width = refl;
  only_fewer = λ w e. (and_parts _ _ e).0;
  same_quantities = λ q w e. cond-true _ _ _ (and_parts (s.model.survives w) _ e).1;
}
after_taken (Action.look p row) s = record { same_width = refl; only_fewer = λ w e. e; same_quantities = λ q w e. refl }
after_taken (Action.put f row) s = record { same_width = refl; only_fewer = λ w e. e; same_quantities = λ q w e. refl }

after_worlds : (a : Action) (s : StageMeaning) → SameWorlds s (after a s)
after_worlds a s = go (clear (causes a s))
  where
    go : (b : Bool) → SameWorlds s (cond b (taken a s) s)
    go true = after_taken a s
    go false = record { same_width = refl; only_fewer = λ w e. e; same_quantities = λ q w e. refl }

-- no list of steps renumbers a world or brings one back
pub same_worlds : (xs : List Action) (s : StageMeaning) → SameWorlds s (run xs s)
unfolding run
same_worlds [] s = record { same_width = refl; only_fewer = λ w e. e; same_quantities = λ q w e. refl }
same_worlds (x ∷ xs) s =
    let one = after_worlds x s in
    let rest = same_worlds xs (after x s) in
    record {
      same_width = rest.same_width ∙ one.same_width;
      only_fewer = λ w e. one.only_fewer w (rest.only_fewer w e);
      same_quantities = λ q w e. rest.same_quantities q w e ∙ one.same_quantities q w (rest.only_fewer w e);
    }
