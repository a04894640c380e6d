use Rattle.std.proofs.Common.{◌≡◌, ◌+◌, map, length, take}
use Rattle.settings.specs.Pairs.{row_from}
use Rattle.settings.specs.Readings.{numbers}
use Rattle.settings.proofs.pairs.filling.write_row.Given as goal

-- the pairs up to this place are written
abbrev pub invariant-loop-place : goal.invariant-loop-place
invariant-loop-place l = (length l.row ≡ length l.initial.row) × (take l.place (map numbers l.row) ≡ row_from l.x (l.x + 1) l.place)
