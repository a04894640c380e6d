-- Settings: all worlds survive, and what holds at a world is given outright.
use Rattle.std.specs.Prelude.{◌≡◌, ℕ, ◌<◌, ◌≤◌, Bool, true, cond, not, ◌&&◌, nat_lt}
use Rattle.model.specs.Meaning.{Meaning}

-- the parts of a setting; they count only within its sizes
pub record Setting : Type 0 where
  -- how many worlds, agents, facts and quantities there are
  pub width : ℕ
  pub agents : ℕ
  pub facts : ℕ
  pub quantities : ℕ
  -- `alike p u v`: agent p cannot tell the worlds u and v apart
  pub alike : ℕ → ℕ → ℕ → Bool
  -- `fact f w`: fact f is true at world w
  pub fact : ℕ → ℕ → Bool
  -- `quantity q w`: the value of quantity q at world w
  pub quantity : ℕ → ℕ → ℕ

-- what the setting means: every world survives; what is out of range does not survive, is distinguished, is false and is 0
abbrev pub set_up : Setting → Meaning
set_up s = record {
  width = s.width;
  agents = s.agents;
  facts = s.facts;
  quantities = s.quantities;
  survives = λ w. nat_lt w s.width;
  distinguishes = λ p u v. not (nat_lt p s.agents && (nat_lt u s.width && (nat_lt v s.width && s.alike p u v)));
  fact = λ f w. nat_lt f s.facts && (nat_lt w s.width && s.fact f w);
  quantity = λ q w. cond (nat_lt q s.quantities && nat_lt w s.width) (s.quantity q w) 0;
}

-- what makes a setting a lawful model: its bounds, and that being alike is an equivalence
pub record Fair (s : Setting) : Type 0 where
  pub some_world : 1 ≤ s.width
  pub few_worlds : s.width ≤ 4096
  pub some_agent : 1 ≤ s.agents
  pub few_agents : s.agents ≤ 12
  pub few_facts : s.facts ≤ 16
  pub few_quantities : s.quantities ≤ 8
  pub quantity_fits : (q w : ℕ) → q < s.quantities → w < s.width → s.quantity q w ≤ 65535
  pub reflexive : (p w : ℕ) → s.alike p w w ≡ true
  pub symmetric : (p u v : ℕ) → s.alike p u v ≡ true → s.alike p v u ≡ true
  pub transitive : (p u v w : ℕ) → s.alike p u v ≡ true → s.alike p v w ≡ true → s.alike p u w ≡ true
