use Rattle.model.proofs.Digits.{ones_digits}
use Rattle.settings.proofs.hats.answers.true_facts.Goals as goal

pub returns : goal.returns
returns c = record { counts = ones_digits c.args.facts c.args.world c.requires.is_a_world }
