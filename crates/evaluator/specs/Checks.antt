-- Which lists of nodes are evaluated, and the causes of refusal in their order.
use Rattle.std.specs.Prelude.{◌≡◌, ℕ, ◌+◌, ◌*◌, ◌<◌, ◌≤◌, Bool, true, not, ◌&&◌, List, [], ◌∷◌, length, nat_le, nat_lt, slice_index_or}
use Rattle.model.specs.declared.refusals.Refusal.TheVariants.{NodeCount, BadNode, ShortWork}
use Rattle.model.specs.Causes.{Causes}
use Rattle.model.specs.Meaning.{Meaning}
use Rattle.model.specs.Rows.{words, least}
use Rattle.theory.specs.declared.node.Node.{Node}
use Rattle.theory.specs.declared.node.Shape.{Shape}
use Rattle.theory.specs.declared.node.Shape.TheVariants as node
use Rattle.theory.specs.Formula.{shape}

-- some nodes are used, no more than there are nor than 4,096, and the root is one of them
abbrev pub usable : ℕ → ℕ → ℕ → Bool
usable len used root = nat_lt 0 used && nat_le used len && nat_le used 4096 && nat_lt root used

-- the agents, facts and quantities that a node names are there, and the nodes stand before its place
abbrev pub names_there : Meaning → ℕ → Shape → Bool
names_there m place node.Top = true
names_there m place (node.Fact f) = nat_lt f m.facts
names_there m place (node.Equals q v) = nat_lt q m.quantities
names_there m place (node.Not i) = nat_lt i place
names_there m place (node.Both i j) = nat_lt i place && nat_lt j place
names_there m place (node.Knows p i) = nat_lt p m.agents && nat_lt i place
names_there m place (node.Value p q i) = nat_lt p m.agents && nat_lt q m.quantities && nat_lt i place

-- the node has a kind, and names what is there
abbrev pub sound : Meaning → ℕ → Node → Bool
sound m place n = nat_le n.kind 6 && names_there m place (shape n)

-- what is read past the end of a list
abbrev pub no_node : Node
no_node = record { kind = 0; a = 0; b = 0; c = 0 }

-- the node at a place is not sound
abbrev pub unsound : Meaning → List Node → ℕ → Bool
unsound m ns i = not (sound m i (slice_index_or ns i no_node))

-- the lowest used node that is not sound, or their number
abbrev pub first_bad : Meaning → List Node → ℕ → ℕ
first_bad m ns used = least (unsound m ns) used

-- why the list is not evaluated in a work area of so many words
abbrev pub faults : Meaning → List Node → ℕ → ℕ → ℕ → Causes
faults m ns used root room =
    (not (usable (length ns) used root), NodeCount)
    ∷ (nat_lt (first_bad m ns used) used, BadNode (first_bad m ns used))
    ∷ (nat_lt room ((root + 1) * words m.width), ShortWork) ∷ []

-- the first n nodes can be evaluated in a work area of so many words
pub record Fillable (m : Meaning) (ns : List Node) (n room : ℕ) : Type 0 where
  pub within : n ≤ length ns
  pub few : n ≤ 4096
  pub sound_nodes : (i : ℕ) → i < n → sound m i (slice_index_or ns i no_node) ≡ true
  pub enough : n * words m.width ≤ room
