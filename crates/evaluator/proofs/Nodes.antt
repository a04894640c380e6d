-- Sound nodes.
use Rattle.std.proofs.Common.{◌≡◌, ℕ, ◌*◌, ◌<◌, ◌≤◌, Bool, true, false, not, ◌&&◌, ltb, leb, refl, ap, ap₂}
use Rattle.std.proofs.lemmas.Bool.{and_parts, ltb-true}
use Rattle.model.specs.Meaning.{Meaning}
use Rattle.theory.specs.declared.node.Node.{Node}
use Rattle.theory.specs.declared.node.Shape.{Shape}
use Rattle.theory.specs.declared.node.Shape.TheVariants as node
use Rattle.theory.specs.Formula.{Formula, shape, build, Earlier}
use Rattle.model.specs.Rows.{implies, every}
use Rattle.theory.specs.Truth.{reaches, everywhere, constant, truth, holds}
use Rattle.evaluator.specs.Checks.{sound, names_there}
use Rattle.evaluator.specs.Rows.{says, RowsThere}
use Rattle.evaluator.proofs.Areas.{row_fits}

-- what is there names only earlier nodes
there_earlier : (m : Meaning) (i : ℕ) (s : Shape) → names_there m i s ≡ true → Earlier i s
there_earlier m i node.Top h = tt
there_earlier m i (node.Fact f) h = tt
there_earlier m i (node.Equals q x) h = tt
there_earlier m i (node.Not j) h = ltb-true j i h
there_earlier m i (node.Both j k) h = let p = and_parts (ltb j i) (ltb k i) h in (ltb-true j i p.0, ltb-true k i p.1)
there_earlier m i (node.Knows p j) h = ltb-true j i (and_parts (ltb p m.agents) (ltb j i) h).1
there_earlier m i (node.Value p q j) h = ltb-true j i (and_parts (ltb p m.agents && ltb q m.quantities) (ltb j i) h).1

pub sound_earlier : (m : Meaning) (i : ℕ) (n : Node) → sound m i n ≡ true → Earlier i (shape n)
sound_earlier m i n h = there_earlier m i (shape n) (and_parts (leb n.kind 6) (names_there m i (shape n)) h).1

-- earlier rows are in a work area that has a row for the node too
pub rows_there : (i r room : ℕ) (s : Shape) → i * r ≤ room → Earlier i s → RowsThere s r room
rows_there i r room node.Top l h = tt
rows_there i r room (node.Fact f) l h = tt
rows_there i r room (node.Equals q x) l h = tt
rows_there i r room (node.Not j) l h = row_fits j i r room h l
rows_there i r room (node.Both j k) l h = (row_fits j i r room h.0 l, row_fits k i r room h.1 l)
rows_there i r room (node.Knows p j) l h = row_fits j i r room h l
rows_there i r room (node.Value p q j) l h = row_fits j i r room h l

module _ (m : Meaning) where
  -- what a shape says goes by the named nodes alone
  pub says_same : (f g : ℕ → ℕ → Bool) (i : ℕ) (s : Shape) (w : ℕ) → Earlier i s → ((j : ℕ) → j < i → f j ≡ g j) → says m f s w ≡ says m g s w
  says_same f g i node.Top w h e = refl
  says_same f g i (node.Fact x) w h e = refl
  says_same f g i (node.Equals q x) w h e = refl
  says_same f g i (node.Not j) w h e = ap (λ (t : ℕ → Bool). not (t w)) (e j h)
  says_same f g i (node.Both j k) w h e = ap₂ (λ (t u : ℕ → Bool). t w && u w) (e j h.0) (e k h.1)
  says_same f g i (node.Knows p j) w h e = ap (everywhere m p w) (e j h)
  says_same f g i (node.Value p q j) w h e = ap (λ (t : ℕ → Bool). constant m q (λ v. reaches m p w v && t v)) (e j h)

  -- what is said of worlds that are reached is said of worlds that survive
  there_implies : (s d t : Bool) → implies (s && d) (s && t) ≡ implies (s && d) t
  there_implies true d t = refl
  there_implies false d t = refl

  there_and : (s d t : Bool) → ((s && d) && (s && t)) ≡ ((s && d) && t)
  there_and true d t = refl
  there_and false d t = refl

  -- where the rows have exactly the surviving worlds at which their formulas are true, a shape says whether its formula is true
  pub says_true : (f : ℕ → Formula) (s : Shape) (w : ℕ) → m.survives w ≡ true → says m (λ j. holds m (f j)) s w ≡ truth m (build f s) w
  says_true f node.Top w h = refl
  says_true f (node.Fact x) w h = refl
  says_true f (node.Equals q x) w h = refl
  says_true f (node.Not j) w h = ap (λ (b : Bool). not (b && truth m (f j) w)) h
  says_true f (node.Both j k) w h = ap (λ (b : Bool). (b && truth m (f j) w) && (b && truth m (f k) w)) h
  says_true f (node.Knows p j) w h =
      ap (λ (t : ℕ → Bool). every t m.width) (λ i v. there_implies (m.survives v) (not (m.distinguishes p w v)) (truth m (f j) v) i)
  says_true f (node.Value p q j) w h =
      ap (constant m q) (λ i v. there_and (m.survives v) (not (m.distinguishes p w v)) (truth m (f j) v) i)
