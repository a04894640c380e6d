-- Only facts that are there are put.
use Rattle.std.specs.Prelude.{◌≡◌, ℕ, ◌<◌, true, List, is_some, None, Option, nat_lt, slice_index_or}
use Rattle.std.proofs.lemmas.Bool.{and_parts, ltb-true}
use Rattle.model.specs.Meaning.{Meaning}
use Rattle.putting.specs.Layer.{put_facts}

pub put_facts_there : (m : Meaning) (rows : List (Option (List ℕ))) (f : ℕ) → put_facts m rows f ≡ true → f < m.facts
put_facts_there m rows f e = ltb-true f m.facts (and_parts (nat_lt f m.facts) (is_some (slice_index_or rows f None)) e).0
