-- Lists of cases mean lawful models, whatever the kind of record.
use Rattle.std.specs.Prelude.{ℕ, zero, suc, ◌≤◌, List, [], ◌∷◌, map, length, slice_index, refl}
use Rattle.std.proofs.Common.{sym, ◌∙◌, arith}
use Rattle.std.proofs.lemmas.Bool.{eqb-true, eq-eqb}
use Rattle.model.specs.Meaning.{Lawful}
use Rattle.settings.specs.Settings.{set_up}
use Rattle.settings.specs.FairSettings.{lawful_setting}
use Rattle.settings.specs.Cases.{Kind, listed}

-- the values of a list are small where those of each record are
pub map_small : {R : Type 0} (f : R → ℕ) → ((r : R) → f r ≤ 65535) → (xs : List R) (i : ℕ) → slice_index (map f xs) i ≤ 65535
map_small f h [] i = omega arith
map_small f h (x ∷ xs) zero = h x
map_small f h (x ∷ xs) (suc i) = map_small f h xs i

pub lawful_listed : {R : Type 0} {agents quantities : ℕ} → Kind agents quantities → (told amount : R → ℕ → ℕ) → ((r : R) (q : ℕ) → amount r q ≤ 65535)
    → (cases : List R) → 1 ≤ length cases → length cases ≤ 4096 → Lawful (set_up (listed agents quantities told amount cases))
lawful_listed {R} {agents} {quantities} kind told amount small cases some few =
    lawful_setting (listed agents quantities told amount cases) (record {
      some_world = some;
      few_worlds = few;
      some_agent = kind.some_agent;
      few_agents = kind.few_agents;
      few_facts = omega arith;
      few_quantities = kind.few_quantities;
      quantity_fits = λ q w _ _. map_small (λ r. amount r q) (λ r. small r q) cases w;
      reflexive = λ p w. eq-eqb (at p w) (at p w) refl;
      symmetric = λ p u v a. eq-eqb (at p v) (at p u) (sym (eqb-true (at p u) (at p v) a));
      transitive = λ p u v w a b. eq-eqb (at p u) (at p w) (eqb-true (at p u) (at p v) a ∙ eqb-true (at p v) (at p w) b);
    })
  where
    at : ℕ → ℕ → ℕ
    at p w = slice_index (map (λ r. told r p) cases) w
