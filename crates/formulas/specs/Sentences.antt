-- Sentences: formulas as they are written, and the formulas that they mean.
use Rattle.std.specs.Prelude.{ℕ}
use Rattle.theory.specs.Formula.{Formula}

-- true; f n; q n=v; ~x; x&y; x|y; K p x; V p.q/x, where V p.q is V p.q/true
pub data Sentence : Type 0 where
  truth : Sentence
  fact : ℕ → Sentence
  equals : ℕ → ℕ → Sentence
  neg : Sentence → Sentence
  both : Sentence → Sentence → Sentence
  either : Sentence → Sentence → Sentence
  knows : ℕ → Sentence → Sentence
  values : ℕ → ℕ → Sentence → Sentence

-- x or y: not both are false
abbrev pub or : Formula → Formula → Formula
or φ ψ = Formula.neg (Formula.both (Formula.neg φ) (Formula.neg ψ))

-- the formula that a sentence means
abbrev pub meant : Sentence → Formula
meant Sentence.truth = Formula.top
meant (Sentence.fact n) = Formula.fact n
meant (Sentence.equals q v) = Formula.equals q v
meant (Sentence.neg x) = Formula.neg (meant x)
meant (Sentence.both x y) = Formula.both (meant x) (meant y)
meant (Sentence.either x y) = or (meant x) (meant y)
meant (Sentence.knows p x) = Formula.knows p (meant x)
meant (Sentence.values p q x) = Formula.value p q (meant x)
