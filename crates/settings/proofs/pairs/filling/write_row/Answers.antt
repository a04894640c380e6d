use Rattle.std.proofs.Common.{refl, arith, length-set}
use Rattle.settings.proofs.Listing.{row_begun, row_further}
use Rattle.settings.specs.Readings.{numbers}
use Rattle.settings.proofs.pairs.filling.write_row.Goals as goal

pub loop-place-init : goal.loop-place-init
loop-place-init c = (refl, row_begun numbers c.args.row.now c.args.x)

pub loop-place-preserved : goal.loop-place-preserved
loop-place-preserved c = (
  simp length-set c.loop-place.invariant.0,
  row_further numbers c.loop-place.row c.loop-place.place c.args.x c.new.result (omega (arith, c.loop-place.invariant.0)) c.new.ensures.holds_its_numbers c.loop-place.invariant.1,
)
