-- What the node list keeps when a call line is answered.
use Rattle.std.proofs.Common.{◌≡◌, length, take, sym, ap, ◌∙◌}
use Rattle.formulas.specs.Stores.{Store}
use Rattle.formulas.specs.Steps.{Keeps}
use Rattle.formulas.proofs.Keep.{keeps_refl}
use Rattle.lines.specs.Calls.{holding}

-- what is kept of the same nodes is kept, and they keep themselves
pub keeps_from : (s s' t : Store) → s' ≡ holding s.nodes → Keeps s' t → Keeps s t
keeps_from s s' t e k = record { front = ap (λ r. take (length r.nodes) t.nodes) (sym e) ∙ k.front ∙ ap (λ r. r.nodes) e }

pub held_keeps : (s t : Store) → t ≡ holding s.nodes → Keeps s t
held_keeps s t e = keeps_from s t t e (keeps_refl t)
