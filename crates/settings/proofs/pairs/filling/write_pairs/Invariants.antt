use Rattle.std.proofs.Common.{◌≡◌, ◌+◌, map, length}
use lib.Seq.{sets}
use Rattle.settings.specs.Pairs.{pairs}
use Rattle.settings.specs.Readings.{numbers}
use Rattle.settings.proofs.pairs.filling.write_pairs.Given as goal

abbrev pub invariant-loop-x : goal.invariant-loop-x
invariant-loop-x l =
    (l.start + length (pairs l.x l.sum) ≡ length (pairs l.low l.sum))
    × (sets (map numbers l.list) l.start (pairs l.x l.sum) ≡ sets (map numbers l.initial.list) 0 (pairs l.low l.sum))
