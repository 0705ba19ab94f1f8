use Rattle.tx_cells.proofs.Placed.{put_more}
use Rattle.tx_cells.proofs.places.places_of.Goals as goal

pub loop-place-preserved : goal.loop-place-preserved
loop-place-preserved g c = (
  c.put.ensures.full,
  put_more c.args.cells.now c.loop-place.place c.index-cells-place.result c.loop-place.places.items c.put.new.places.items c.loop-place-test.true c.loop-place.auto.place c.index-cells-place.is (rw (← c.t.ensures) c.put.ensures.put) c.loop-place.invariant.1,
)
