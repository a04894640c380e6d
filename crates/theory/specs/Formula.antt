-- Formulas, and the formula that a node of a list stands for.
use Rattle.std.specs.Prelude.{ℕ, ◌<◌, List, [], ◌∷◌, ◌++◌, get_or, slice_index_or}
use Rattle.theory.specs.declared.node.Node.{Node}
use Rattle.theory.specs.declared.node.Shape.{Shape}
use Rattle.theory.specs.declared.node.Shape.TheVariants as node

-- the truth; fact f; quantity q is v; not φ; φ and ψ; agent p knows that φ; agent p knows the value of quantity q if φ
pub data Formula : Type 0 where
  top : Formula
  fact : ℕ → Formula
  equals : ℕ → ℕ → Formula
  neg : Formula → Formula
  both : Formula → Formula → Formula
  knows : ℕ → Formula → Formula
  value : ℕ → ℕ → Formula → Formula

-- what a node says if its kind is 0, 1 and so on to 6
abbrev pub shapes : Node → List Shape
shapes n = node.Top ∷ node.Fact n.a ∷ node.Equals n.a n.b ∷ node.Not n.a ∷ node.Both n.a n.b
    ∷ node.Knows n.a n.b ∷ node.Value n.a n.b n.c ∷ []

-- what a node says; a kind above 6 is refused before it is read
abbrev pub shape : Node → Shape
shape n = slice_index_or (shapes n) n.kind node.Top

-- the formula of a shape, where `at i` is the formula of node i
abbrev pub build : (ℕ → Formula) → Shape → Formula
build at node.Top = Formula.top
build at (node.Fact f) = Formula.fact f
build at (node.Equals q v) = Formula.equals q v
build at (node.Not i) = Formula.neg (at i)
build at (node.Both i j) = Formula.both (at i) (at j)
build at (node.Knows p i) = Formula.knows p (at i)
build at (node.Value p q i) = Formula.value p q (at i)

-- a shape names only nodes below k
abbrev pub Earlier : ℕ → Shape → Type 0
Earlier k node.Top = Unit {0}
Earlier k (node.Fact f) = Unit {0}
Earlier k (node.Equals q v) = Unit {0}
Earlier k (node.Not i) = i < k
Earlier k (node.Both i j) = (i < k) × (j < k)
Earlier k (node.Knows p i) = i < k
Earlier k (node.Value p q i) = i < k

-- each node's formula is appended, built from the earlier ones
unfoldable pub grow : List Formula → List Node → List Formula
grow fs [] = fs
grow fs (n ∷ ns) = grow (fs ++ (build (λ i. get_or fs i Formula.top) (shape n) ∷ [])) ns

-- the formulas of a list's nodes, and that of node i
abbrev pub formulas : List Node → List Formula
formulas ns = grow [] ns

abbrev pub formula : List Node → ℕ → Formula
formula ns i = slice_index_or (formulas ns) i Formula.top
