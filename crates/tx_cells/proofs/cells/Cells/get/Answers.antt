use Rattle.std.proofs.Common.{◌≡◌, ◌∙◌, arith, sym}
use Rattle.std.proofs.lemmas.Option.{get_or_from_slice_get, slice_get_within}
use Rattle.tx_cells.proofs.Placed.{found_at}
use Rattle.tx_cells.proofs.cells.Cells.get.Goals as goal

pub index-requires-3 : goal.index-requires-3
index-requires-3 g c =
    let found = found_at c.self.inside.cells.items c.self.inside.places.items c.args.t c.index.result c.index-2.result.now c.in_ok-place.place c.index.ensures.place c.index.ensures.within c.index-2.ensures c.in_ok-place.was c.self.invariant.0 in
    omega (arith, c.self.inside.cells.ok, slice_get_within c.self.inside.cells.items c.in_ok-place.place found.0 found.1)

pub returns : goal.returns
returns g c =
    let found = found_at c.self.inside.cells.items c.self.inside.places.items c.args.t c.index.result c.index-2.result.now c.in_ok-place.place c.index.ensures.place c.index.ensures.within c.index-2.ensures c.in_ok-place.was c.self.invariant.0 in
    let same : found.0 ≡ c.index-3.result.now = sym (get_or_from_slice_get c.self.inside.cells.items c.in_ok-place.place found.0 c.index-3.result.now found.1) ∙ sym c.index-3.ensures in
    rw (← same, ← c.self.view_is) (found.2, found.3)
