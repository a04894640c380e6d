-- Agents in a circle or in a queue; fact i belongs to agent i.
use Rattle.std.specs.Prelude.{ℕ, ◌^◌, Bool, cond, not, ◌&&◌, Ok, Err, Result, ◌==◌, nat_le, nat_lt}
use Rattle.model.specs.declared.refusals.Refusal.{Refusal}
use Rattle.model.specs.declared.refusals.Refusal.TheVariants.{AgentCount}
use Rattle.model.specs.Meaning.{Meaning, differ}
use Rattle.model.specs.Rows.{digit, implies, every, count}
use Rattle.settings.specs.declared.sight.Sight.{Sight}
use Rattle.settings.specs.declared.sight.Sight.TheVariants.{Circle, Queue}
use Rattle.settings.specs.Settings.{Setting, set_up}

-- agent i sees fact f: every fact but its own, or only the facts before its own
abbrev pub sees : Sight → ℕ → ℕ → Bool
sees Circle i f = not (f == i)
sees Queue i f = nat_lt f i

-- of k facts, each that agent i sees is true at both worlds u and v or at neither
unfoldable pub agrees : Sight → ℕ → ℕ → ℕ → ℕ → Bool
agrees s k i u v = every (λ f. implies (sees s i f) (not (differ (digit u f) (digit v f)))) k

-- k agents: a world for each choice of true facts, and quantity 0 is the number of true facts
abbrev pub hats : Sight → ℕ → Setting
hats s k = record {
  width = 2 ^ k;
  agents = k;
  facts = k;
  quantities = 1;
  alike = agrees s k;
  fact = λ f w. digit w f;
  quantity = λ _ w. count (digit w) k;
}

-- the model of 1 to 12 agents
abbrev pub hats_of : Sight → ℕ → Result Meaning Refusal
hats_of s k = cond (nat_le 1 k && nat_le k 12) (Ok (set_up (hats s k))) (Err AgentCount)
