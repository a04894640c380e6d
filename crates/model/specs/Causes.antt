-- Causes of refusal in their order: the first that applies is the one reported.
use Rattle.std.specs.Prelude.{Bool, true, cond, not, ◌&&◌, List, [], ◌∷◌, Ok, Err, Result}
use Rattle.model.specs.declared.refusals.Refusal.{Refusal}

-- each cause with whether it applies
abbrev pub Causes : Type 0
Causes = List (Bool × Refusal)

-- the first cause that applies, or else the answer
abbrev pub first : {A : Type 0} → Causes → A → Result A Refusal
first [] x = Ok x
first (c ∷ cs) x = cond c.0 (Err c.1) (first cs x)

-- no cause applies
abbrev pub clear : Causes → Bool
clear [] = true
clear (c ∷ cs) = not c.0 && clear cs
