-- What looks tell apart, look by look.
use Rattle.std.proofs.Common.{◌≡◌, ℕ, ◌||◌, List, [], ◌∷◌, ◌++◌, sym, refl, ap, ◌∙◌}
use mathlib.Core.Bool.{or-false, or_assoc}
use Rattle.std.specs.List.{list_any}
use Rattle.looking.specs.declared.looks.Slot.{Slot}
use Rattle.looking.specs.Looks.{tells, told}

module _ (p u v : ℕ) where
  -- one look more
  pub told_push : (ss : List Slot) (s : Slot) → told (ss ++ (s ∷ [])) p u v ≡ (told ss p u v || tells s p u v)
  told_push [] s = or-false (tells s p u v)
  told_push (x ∷ ss) s = ap (λ b. tells x p u v || b) (told_push ss s) ∙ sym (or_assoc (tells x p u v) (told ss p u v) (tells s p u v))

  -- some look tells
  pub told_any : (ss : List Slot) → told ss p u v ≡ list_any (λ s. tells s p u v) ss
  told_any [] = refl
  told_any (x ∷ ss) = ap (λ b. tells x p u v || b) (told_any ss)
