-- What a line can be completed with.
use Rattle.std.proofs.Common.{◌≡◌, ℕ, List, [], ◌∷◌, ◌++◌, None, codes, sym, refl, subst}
use Rattle.lexer.specs.declared.tokens.Sign.TheVariants as mark
use Rattle.lexer.specs.Tokens.{Piece, number, word, sign, done, Placed}
use Rattle.formulas.specs.Reading.{parsed, perhaps}
use Rattle.grammar.specs.Grammar.{place}

-- what may follow an operand: nothing that goes on with it
pub record Closes (rest : List Placed) : Type 0 where
  pub and : perhaps mark.And rest ≡ parsed None rest
  pub or : perhaps mark.Or rest ≡ parsed None rest
  pub slash : perhaps mark.Slash rest ≡ parsed None rest

-- a zero, `true`, a sign that is due, or the first word of a short line
pub data Filler : Type 0 where
  zero_here : Filler
  true_here : Filler
  equals_here : Filler
  dot_here : Filler
  close_here : Filler
  circle_here : Filler
  verdict_here : Filler

abbrev pub filled : Filler → Piece
filled zero_here = number (48 ∷ [])
filled true_here = word (codes "true")
filled equals_here = sign mark.Equals
filled dot_here = sign mark.Dot
filled close_here = sign mark.Close
filled circle_here = word (codes "circle")
filled verdict_here = word (codes "verdict")

filler_closes : (f : Filler) (c : ℕ) (l : List Placed) → Closes (place (filled f) c ∷ l)
unfolding perhaps
filler_closes zero_here c l = record { and = refl; or = refl; slash = refl }
filler_closes true_here c l = record { and = refl; or = refl; slash = refl }
filler_closes equals_here c l = record { and = refl; or = refl; slash = refl }
filler_closes dot_here c l = record { and = refl; or = refl; slash = refl }
filler_closes close_here c l = record { and = refl; or = refl; slash = refl }
filler_closes circle_here c l = record { and = refl; or = refl; slash = refl }
filler_closes verdict_here c l = record { and = refl; or = refl; slash = refl }

-- ms is fs, at any columns, with `after` behind it
pub data Puts : List Filler → List Placed → List Placed → Type 0 where
  none_more : {after : List Placed} → Puts [] after after
  one_more : {fs : List Filler} {ms after : List Placed} (f : Filler) (c : ℕ) → Puts fs ms after → Puts (f ∷ fs) (place (filled f) c ∷ ms) after

pub puts_none : {ms after : List Placed} → Puts [] ms after → ms ≡ after
puts_none none_more = refl

pub puts_first : {f : Filler} {fs : List Filler} {ms after : List Placed} → Puts (f ∷ fs) ms after → (P : List Placed → Type 0) → ((c : ℕ) (l : List Placed) → Puts fs l after → P (place (filled f) c ∷ l)) → P ms
puts_first (one_more {fs} {ms} f c p) P go = go c ms p

-- some fillers, and then others
pub record Parts (fs gs : List Filler) (ms after : List Placed) : Type 0 where
  pub mid : List Placed
  pub first : Puts fs ms mid
  pub second : Puts gs mid after

pub parts : (fs gs : List Filler) (ms after : List Placed) → Puts (fs ++ gs) ms after → Parts fs gs ms after
parts [] gs ms after p = record { mid = ms; first = none_more; second = p }
parts (f ∷ fs) gs ms after p =
    puts_first p (λ l. Parts (f ∷ fs) gs l after)
    (λ c l q. let s = parts fs gs l after q in record { mid = s.mid; first = one_more f c s.first; second = s.second })

-- whether a reader reads a part of a line or up to its end
pub data Extent : Type 0 where
  part : Extent
  whole : Extent

-- what may follow what it reads: nothing that goes on with an operand, or the line's end alone
abbrev pub After : Extent → List Placed → Type 0
After part after = Closes after
After whole after = (c : ℕ) × (after ≡ place done c ∷ [])

-- what is left of that
abbrev pub left : Extent → List Placed → List Placed
left part after = after
left whole after = []

pub end_closes : (c : ℕ) → Closes (place done c ∷ [])
unfolding perhaps
end_closes c = record { and = refl; or = refl; slash = refl }

after_closes : (k : Extent) (after : List Placed) → After k after → Closes after
after_closes part after c = c
after_closes whole after e = let P : List Placed → Type 0 = λ l. Closes l in subst P (sym e.1) (end_closes e.0)

-- fillers and what may follow go on with no operand
pub puts_close : (k : Extent) (fs : List Filler) (ms after : List Placed) → After k after → Puts fs ms after → Closes ms
puts_close k [] ms after a p = let P : List Placed → Type 0 = λ l. Closes l in subst P (sym (puts_none p)) (after_closes k after a)
puts_close k (f ∷ fs) ms after a p = puts_first p (λ l. Closes l) (λ c l q. filler_closes f c l)
