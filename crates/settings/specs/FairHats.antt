-- Circles and queues mean lawful models.
use Rattle.std.specs.Prelude.{◌≡◌, ℕ, ◌^◌, ◌<◌, ◌≤◌, Bool, true, false, not, Decides, refl}
use Rattle.std.proofs.Common.{sym, ◌∙◌, arith, pow_mono}
use Rattle.std.proofs.lemmas.Nat.{pow_pos}
use Rattle.std.proofs.lemmas.Bool.{true≢false}
use Rattle.model.specs.Meaning.{Lawful, differ}
use Rattle.model.specs.Rows.{digit, implies}
use Rattle.model.proofs.Counts.{count_le}
use Rattle.model.proofs.Deciding.{decides_it, decides_implies, decides_every}
use Rattle.settings.specs.declared.sight.Sight.{Sight}
use Rattle.settings.specs.Settings.{set_up}
use Rattle.settings.specs.FairSettings.{lawful_setting}
use Rattle.settings.specs.Hats.{sees, agrees, hats}

-- the two worlds have the same digit at every fact below k that the agent sees
abbrev pub Agree : Sight → ℕ → ℕ → ℕ → ℕ → Type 0
Agree s k i u v = (f : ℕ) → f < k → sees s i f ≡ true → digit u f ≡ digit v f

same_decides : (a b : Bool) → Decides (not (differ a b)) (a ≡ b)
same_decides true true = (λ _. refl, λ _. refl)
same_decides true false = (λ e. absurd (true≢false (sym e)), λ e. absurd (true≢false e))
same_decides false true = (λ e. absurd (true≢false (sym e)), λ e. absurd (true≢false (sym e)))
same_decides false false = (λ _. refl, λ _. refl)

-- the test of agreement decides it
pub agrees_decides : (s : Sight) (k i u v : ℕ) → Decides (agrees s k i u v) (Agree s k i u v)
unfolding agrees
agrees_decides s k i u v =
    decides_every (λ f. implies (sees s i f) (not (differ (digit u f) (digit v f)))) (λ f. sees s i f ≡ true → digit u f ≡ digit v f)
    (λ f. decides_implies (sees s i f) (not (differ (digit u f) (digit v f))) (decides_it (sees s i f)) (same_decides (digit u f) (digit v f))) k

pub lawful_hats : (s : Sight) (k : ℕ) → 1 ≤ k → k ≤ 12 → Lawful (set_up (hats s k))
lawful_hats s k some few =
    let top : 2 ^ k ≤ 2 ^ 12 = pow_mono few in
    lawful_setting (hats s k) (record {
      some_world = pow_pos k;
      few_worlds = top;
      some_agent = some;
      few_agents = few;
      few_facts = omega arith;
      few_quantities = omega arith;
      quantity_fits = λ q w _ _. omega (arith, count_le (digit w) k);
      reflexive = λ p w. (agrees_decides s k p w w).1 (λ f _ _. refl);
      symmetric = λ p u v a. (agrees_decides s k p v u).1 (λ f h e. sym ((agrees_decides s k p u v).0 a f h e));
      transitive = λ p u v w a b.
          (agrees_decides s k p u w).1 (λ f h e. (agrees_decides s k p u v).0 a f h e ∙ (agrees_decides s k p v w).0 b f h e);
    })
