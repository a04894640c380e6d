-- What a model means: which worlds survive, what each agent distinguishes, what holds where.
use Rattle.std.specs.Prelude.{◌≡◌, ℕ, ◌<◌, ◌≤◌, Bool, true, false, cond, not, ◌&&◌, ◌||◌, ◌==◌}

-- a model's answers, for all numbers
pub record Meaning : Type 0 where
  -- how many worlds, agents, facts and quantities there are
  pub width : ℕ
  pub agents : ℕ
  pub facts : ℕ
  pub quantities : ℕ
  -- `survives w`: world w is still possible
  pub survives : ℕ → Bool
  -- `distinguishes p u v`: agent p can tell the worlds u and v apart
  pub distinguishes : ℕ → ℕ → ℕ → Bool
  -- `fact f w`: fact f is true at world w
  pub fact : ℕ → ℕ → Bool
  -- `quantity q w`: the value of quantity q at world w
  pub quantity : ℕ → ℕ → ℕ

-- agent p cannot tell the worlds u and v apart
abbrev pub Alike : Meaning → ℕ → ℕ → ℕ → Type 0
Alike m p u v = m.distinguishes p u v ≡ false

-- the law of every model: its bounds, its answers out of range, and that being alike is an equivalence on the surviving worlds
pub record Lawful (m : Meaning) : Type 0 where
  pub some_world : 1 ≤ m.width
  pub few_worlds : m.width ≤ 4096
  pub some_agent : 1 ≤ m.agents
  pub few_agents : m.agents ≤ 12
  pub few_facts : m.facts ≤ 16
  pub few_quantities : m.quantities ≤ 8
  -- what is out of range does not survive, is distinguished, is false and is 0
  pub within : (w : ℕ) → m.survives w ≡ true → w < m.width
  pub alike_agent : (p u v : ℕ) → Alike m p u v → p < m.agents
  pub alike_left : (p u v : ℕ) → Alike m p u v → m.survives u ≡ true
  pub alike_right : (p u v : ℕ) → Alike m p u v → m.survives v ≡ true
  pub fact_there : (f w : ℕ) → m.fact f w ≡ true → (f < m.facts) × (m.survives w ≡ true)
  pub quantity_gone : (q w : ℕ) → m.survives w ≡ false → m.quantity q w ≡ 0
  pub quantity_absent : (q w : ℕ) → m.quantities ≤ q → m.quantity q w ≡ 0
  pub quantity_fits : (q w : ℕ) → m.quantity q w ≤ 65535
  pub reflexive : (p w : ℕ) → p < m.agents → m.survives w ≡ true → Alike m p w w
  pub symmetric : (p u v : ℕ) → Alike m p u v → Alike m p v u
  pub transitive : (p u v w : ℕ) → Alike m p u v → Alike m p v w → Alike m p u w

-- an announcement is heard: only the worlds of the row go on surviving
abbrev pub heard : (ℕ → Bool) → Meaning → Meaning
heard row m = record {
  width = m.width;
  agents = m.agents;
  facts = m.facts;
  quantities = m.quantities;
  survives = λ w. m.survives w && row w;
  distinguishes = λ p u v. m.distinguishes p u v || not (row u && row v);
  fact = λ f w. m.fact f w && row w;
  quantity = λ q w. cond (row w) (m.quantity q w) 0;
}

-- exactly one of the two
abbrev pub differ : Bool → Bool → Bool
differ x y = cond x (not y) y

-- agent p looks: it now also distinguishes two worlds of which the row has just one
abbrev pub looked : ℕ → (ℕ → Bool) → Meaning → Meaning
looked p row m = record {
  width = m.width;
  agents = m.agents;
  facts = m.facts;
  quantities = m.quantities;
  survives = m.survives;
  distinguishes = λ a u v. m.distinguishes a u v || (a == p && differ (row u) (row v));
  fact = m.fact;
  quantity = m.quantity;
}

-- fact f is put: it is true exactly at the surviving worlds of the row
abbrev pub put : ℕ → (ℕ → Bool) → Meaning → Meaning
put f row m = record {
  width = m.width;
  agents = m.agents;
  facts = m.facts;
  quantities = m.quantities;
  survives = m.survives;
  distinguishes = m.distinguishes;
  fact = λ g w. cond (g == f) (m.survives w && row w) (m.fact g w);
  quantity = m.quantity;
}

-- each agent also distinguishes what it is now told apart
abbrev pub refined : (ℕ → ℕ → ℕ → Bool) → Meaning → Meaning
refined apart m = record {
  width = m.width;
  agents = m.agents;
  facts = m.facts;
  quantities = m.quantities;
  survives = m.survives;
  distinguishes = λ a u v. m.distinguishes a u v || apart a u v;
  fact = m.fact;
  quantity = m.quantity;
}

-- the facts that are chosen are true exactly at the surviving worlds of their rows
abbrev pub replaced : (ℕ → Bool) → (ℕ → ℕ → Bool) → Meaning → Meaning
replaced chosen rows m = record {
  width = m.width;
  agents = m.agents;
  facts = m.facts;
  quantities = m.quantities;
  survives = m.survives;
  distinguishes = m.distinguishes;
  fact = λ g w. cond (chosen g) (m.survives w && rows g w) (m.fact g w);
  quantity = m.quantity;
}

-- a row's bits at worlds that do not survive make no difference to a step
abbrev pub GoneBitsIdle : Type 0
GoneBitsIdle = (m : Meaning) → Lawful m → (r r' : ℕ → Bool) → ((w : ℕ) → m.survives w ≡ true → r w ≡ r' w)
    → (heard r m ≡ heard r' m) × ((p : ℕ) → looked p r m ≡ looked p r' m) × ((f : ℕ) → put f r m ≡ put f r' m)

-- a step keeps the law; a put asks for a fact that is there
abbrev pub LawKept : Type 0
LawKept = (m : Meaning) → Lawful m → (r : ℕ → Bool)
    → Lawful (heard r m) × ((p : ℕ) → Lawful (looked p r m)) × ((f : ℕ) → f < m.facts → Lawful (put f r m))
