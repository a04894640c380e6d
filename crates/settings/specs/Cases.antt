-- Lists of cases, for any kind of record.
use Rattle.std.specs.Prelude.{ℕ, ◌≤◌, false, cond, ◌&&◌, List, map, length, Ok, Err, Result, ◌==◌, nat_le, slice_index}
use Rattle.model.specs.declared.refusals.Refusal.{Refusal}
use Rattle.model.specs.declared.refusals.Refusal.TheVariants.{CaseCount}
use Rattle.settings.specs.Settings.{Setting}

-- how many agents and quantities a kind of record may have
pub record Kind (agents quantities : ℕ) : Type 0 where
  pub some_agent : 1 ≤ agents
  pub few_agents : agents ≤ 12
  pub few_quantities : quantities ≤ 8

-- a world for each record, and no facts; worlds are alike for an agent that was told the same number at both.
-- `told r p` is what agent p was told, `amount r q` the value of quantity q
abbrev pub listed : {R : Type 0} → ℕ → ℕ → (R → ℕ → ℕ) → (R → ℕ → ℕ) → List R → Setting
listed agents quantities told amount cases = record {
  width = length cases;
  agents = agents;
  facts = 0;
  quantities = quantities;
  alike = λ p u v. (slice_index (map (λ r. told r p) cases) u == slice_index (map (λ r. told r p) cases) v);
  fact = λ _ _. false;
  quantity = λ q w. slice_index (map (λ r. amount r q) cases) w;
}

-- the list, if it has 1 to 4,096 cases
abbrev pub checked : {R : Type 0} → List R → Result (List R) Refusal
checked cases = cond (nat_le 1 (length cases) && nat_le (length cases) 4096) (Ok cases) (Err CaseCount)
