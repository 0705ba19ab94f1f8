use Rattle.std.proofs.Common.{drop}
use Rattle.tx_cells.specs.Places.{AreAt}
use Rattle.tx_cells.proofs.places.places_of.Given as goal

abbrev pub invariant-loop-place : goal.invariant-loop-place
invariant-loop-place g l = AreAt l.cells (drop l.place l.cells) l.places.items
