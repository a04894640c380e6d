-- Rows of nodes in a work area, one after another.
use Rattle.std.specs.Prelude.{◌≡◌, ℕ, zero, suc, ◌+◌, ◌*◌, ◌<◌, ◌≤◌, Bool, true, cond, not, ◌&&◌, List, [], ◌++◌, length, take, drop, replicate, ◌==◌, slice_index_or}
use Rattle.model.specs.Meaning.{Meaning}
use Rattle.model.specs.Rows.{words, bit, with_world}
use Rattle.theory.specs.declared.node.Node.{Node}
use Rattle.theory.specs.declared.node.Shape.{Shape}
use Rattle.theory.specs.declared.node.Shape.TheVariants as node
use Rattle.theory.specs.Formula.{formula}
use Rattle.theory.specs.Truth.{reaches, everywhere, constant, holds}
use Rattle.evaluator.specs.Checks.{sound, no_node}

-- row i of a work area with r words to a row, and the work area with another row in its place
unfoldable pub row_at : List ℕ → ℕ → ℕ → List ℕ
row_at work r i = take r (drop (i * r) work)

unfoldable pub with_row : List ℕ → ℕ → ℕ → List ℕ → List ℕ
with_row work r i row = take (i * r) work ++ (row ++ drop (i * r + r) work)

-- world w is in row i
abbrev pub row_bit : List ℕ → ℕ → ℕ → ℕ → Bool
row_bit work r i w = bit (row_at work r i) w

-- the row of r words with the worlds below n that pass the test
unfoldable pub row_of : (ℕ → Bool) → ℕ → ℕ → List ℕ
row_of p r zero = replicate r 0
row_of p r (suc n) = cond (p n) (with_world (row_of p r n) n) (row_of p r n)

-- the row of node i: the surviving worlds where its formula is true
abbrev pub node_row : Meaning → List Node → ℕ → List ℕ
node_row m ns i = row_of (holds m (formula ns i)) (words m.width) m.width

-- the rows of the nodes below n, end to end
unfoldable pub rows_of : Meaning → List Node → ℕ → List ℕ
rows_of m ns zero = []
rows_of m ns (suc n) = rows_of m ns n ++ node_row m ns n

-- whether a shape is true at a surviving world, where `at i v` says whether node i is true at v
abbrev pub says : Meaning → (ℕ → ℕ → Bool) → Shape → ℕ → Bool
says m at node.Top w = true
says m at (node.Fact f) w = m.fact f w
says m at (node.Equals q x) w = m.quantity q w == x
says m at (node.Not i) w = not (at i w)
says m at (node.Both i j) w = at i w && at j w
says m at (node.Knows p i) w = everywhere m p w (at i)
says m at (node.Value p q i) w = constant m q (λ v. reaches m p w v && at i v)

-- a work area of so many words, with r to a row, has a row for node i
abbrev pub HasRow : ℕ → ℕ → ℕ → Type 0
HasRow i r room = i * r + r ≤ room

-- the rows that a shape names are in a work area of so many words
abbrev pub RowsThere : Shape → ℕ → ℕ → Type 0
RowsThere node.Top r room = Unit {0}
RowsThere (node.Fact f) r room = Unit {0}
RowsThere (node.Equals q x) r room = Unit {0}
RowsThere (node.Not i) r room = HasRow i r room
RowsThere (node.Both i j) r room = HasRow i r room × HasRow j r room
RowsThere (node.Knows p i) r room = HasRow i r room
RowsThere (node.Value p q i) r room = HasRow i r room

-- node i can be evaluated in a work area with r words to a row, where the rows of the nodes before it stand
pub record Ready (m : Meaning) (ns : List Node) (i r : ℕ) (work : List ℕ) : Type 0 where
  pub within : i < length ns
  pub sound_node : sound m i (slice_index_or ns i no_node) ≡ true
  pub per_row : r ≡ words m.width
  pub room : i * r + r ≤ length work
  pub written : (j : ℕ) → j < i → row_at work r j ≡ node_row m ns j
