-- The node list, and how sentences are written to it.
use Rattle.std.specs.Prelude.{ℕ, ◌-◌, Bool, true, false, cond, List, [], ◌∷◌, ◌++◌, length, take, vec_items, nat_lt}
use Rattle.theory.specs.declared.node.Node.{Node}
use Rattle.theory.specs.declared.node.Shape.TheVariants as node
use Rattle.theory.specs.Shapes.{node_of}
use Rattle.formulas.specs.declared.nodes.NodeList.{NodeList}
use Rattle.formulas.specs.Sentences.{Sentence, truth, fact, equals, neg, both, either, knows, values}

-- nodes, and whether one found no place
pub record Store : Type 0 where
  pub nodes : List Node
  pub full : Bool

-- what a list holds
abbrev pub store_of : NodeList → Store
store_of l = record { nodes = vec_items l.items; full = l.full }

-- a node more, if there is a place for it: the list has 4,096
unfoldable pub put : Store → Node → Store
put s n =
    cond (nat_lt (length s.nodes) 4096) (record { nodes = s.nodes ++ n ∷ []; full = s.full })
    (record { nodes = s.nodes; full = true })

-- the node written last
abbrev pub last : Store → ℕ
last s = length s.nodes - 1

-- the first nodes alone
abbrev pub kept : ℕ → Store → Store
kept n s = record { nodes = take n s.nodes; full = false }

-- a node more, made from the one written last
abbrev pub and_then : Store → (ℕ → Node) → Store
and_then s f = put s (f (last s))

-- not a, not b, and, not, where b was written last: what stands for a or b
abbrev pub or_nodes : ℕ → Store → Store
or_nodes a s = and_then (and_then (put (put s (node_of (node.Not a))) (node_of (node.Not (last s)))) (λ y. node_of (node.Both (y - 1) y))) (λ x. node_of (node.Not x))

-- the nodes of a sentence, in order of completion
abbrev pub write : Sentence → Store → Store
write truth s = put s (node_of node.Top)
write (fact n) s = put s (node_of (node.Fact n))
write (equals q v) s = put s (node_of (node.Equals q v))
write (neg x) s = and_then (write x s) (λ i. node_of (node.Not i))
write (both x y) s = and_then (write y (write x s)) (λ j. node_of (node.Both (last (write x s)) j))
write (either x y) s = or_nodes (last (write x s)) (write y (write x s))
write (knows p x) s = and_then (write x s) (λ i. node_of (node.Knows p i))
write (values p q x) s = and_then (write x s) (λ i. node_of (node.Value p q i))
