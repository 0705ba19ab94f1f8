use Rattle.std.proofs.Common.{sym, subst, arith, List}
use Rattle.oletx_session.specs.declared.piece.Piece.{Piece}
use Rattle.oletx_session.proofs.Pieces.{CutTo, cut_out}
use Rattle.oletx_session.proofs.queue.keep_first.Goals as goal

pub loop-place-preserved : goal.loop-place-preserved
loop-place-preserved c =
    let past = c.loop-place.invariant in
    let ps = c.loop-place.pieces.items in
    let place = c.loop-place.place in
    let P : List Piece → Type 0 = λ xs. CutTo c.args.c c.args.d c.args.keep c.loop-place.kept place c.args.pieces.now.items xs in
    record {
      so_far =
          subst P (sym c.remove.ensures.items)
          (cut_out c.args.c c.args.d c.args.keep c.loop-place.kept place c.args.pieces.now.items ps c.index.result.now past.so_far (omega arith) c.index.ensures (sym c.if-not-is_on.ensures) c.if-kept-keep.false);
      few = omega (arith, past.few, c.remove.ensures.len);
      capacity = omega (arith, past.capacity, c.remove.ensures.capacity);
    }
