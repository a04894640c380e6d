-- What is written goes behind the nodes that were there.
use Rattle.std.proofs.Common.{◌≤◌, length, take, sym, ap, ◌∙◌, arith, length-take}
use Rattle.std.proofs.lemmas.List.{take-take, take_all}
use Rattle.formulas.specs.Stores.{Store}
use Rattle.formulas.specs.Steps.{Keeps}

pub keeps_refl : (s : Store) → Keeps s s
keeps_refl s = record { front = take_all (length s.nodes) s.nodes (omega arith) }

pub keeps_trans : (s t u : Store) → Keeps s t → Keeps t u → Keeps s u
keeps_trans s t u a b =
    let shorter : length s.nodes ≤ length t.nodes = omega (arith, ap length a.front, length-take (length s.nodes) t.nodes) in
    record { front = sym (take-take (length s.nodes) (length t.nodes) u.nodes shorter) ∙ ap (take (length s.nodes)) b.front ∙ a.front }
