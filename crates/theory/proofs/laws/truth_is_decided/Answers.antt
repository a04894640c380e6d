use Rattle.theory.proofs.Truths.{truth_decided}
use Rattle.theory.proofs.laws.truth_is_decided.Goals as goal

pub returns : goal.returns
returns c = record { truth_is_decided = truth_decided }
