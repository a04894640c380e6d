-- Nodes read as what they say, and back.
use Rattle.std.specs.Prelude.{◌≡◌, Ok, Err, cond, Result, nat_le}
use Rattle.theory.specs.declared.node.Node.{Node}
use Rattle.theory.specs.declared.node.Shape.{Shape}
use Rattle.theory.specs.declared.node.Shape.TheVariants as node
use Rattle.theory.specs.declared.node.UnknownKind.{UnknownKind}
use Rattle.theory.specs.Formula.{shape}

-- the node says r, or its kind is above 6
abbrev pub Reads : Node → Result Shape UnknownKind → Type 0
Reads n r = r ≡ cond (nat_le n.kind 6) (Ok (shape n)) (Err (record { 0 = n.kind }))

-- the node that says s; numbers that its kind does not use are 0
abbrev pub node_of : Shape → Node
node_of node.Top = record { kind = 0; a = 0; b = 0; c = 0 }
node_of (node.Fact f) = record { kind = 1; a = f; b = 0; c = 0 }
node_of (node.Equals q v) = record { kind = 2; a = q; b = v; c = 0 }
node_of (node.Not i) = record { kind = 3; a = i; b = 0; c = 0 }
node_of (node.Both i j) = record { kind = 4; a = i; b = j; c = 0 }
node_of (node.Knows p i) = record { kind = 5; a = p; b = i; c = 0 }
node_of (node.Value p q i) = record { kind = 6; a = p; b = q; c = i }
