use Rattle.std.proofs.Common.{◌≡◌, ◌+◌, map, drop, arith, ap, sym, subst, ◌∙◌, List, [], ℕ}
use Rattle.std.proofs.Math.ListN.{drop_of_length-le}
use Rattle.oletx_frames.specs.Feeding.{Reading}
use Rattle.oletx_session.specs.Queues.{bytes_in, on_way}
use Rattle.oletx_session.proofs.Counting.{Counts, count_end, count_enough, count_given, count_start, lane_off, same_counts}
use Rattle.oletx_session.proofs.crossing.count_frames.Goals as goal
use Rattle.oletx_session.proofs.crossing.count_frames.Goals.{then-frames-keep+then-is_on+in-Msg, then-frames-keep+then-is_on+in_default, else-frames-keep, else-frames-keep-via-then-frames-keep+else-is_on, else-frames-keep-via-else-frames-keep}

pub loop-piece-init : goal.loop-piece-init
loop-piece-init c = record {
  counts = λ n some whole.
      count_start n c.args.keep c.new-reader.result whole.messages (map bytes_in (on_way c.args.c c.args.d c.args.pieces.now)) (ap (λ (r : Reading). r.held) c.new-reader.ensures)
      (ap (λ (r : Reading). r.ended) c.new-reader.ensures) whole.valid whole.pieces;
  few = omega arith;
  within = omega arith;
}

pub loop-piece-preserved : goal.loop-piece-preserved
loop-piece-preserved c =
    let so_far = c.loop-piece.invariant in
    let ps = c.args.pieces.now in
    let i = c.loop-piece.piece-index in
    let old = c.loop-piece.reader in
    let frames = c.loop-piece.frames in
    let count = c.loop-piece.count in
    let piece = c.piece-item.result in
    let within = c.loop-piece-test.true in
    let left = map bytes_in (on_way c.args.c c.args.d (drop (i + 1) ps)) in
    elim c.if-frames-keep.branch [
      | then-frames-keep+then-is_on+in-Msg w ↦ record {
        counts = λ n some whole.
            same_counts n c.args.keep c.if-frames-keep.reader w.feed.new.self c.if-frames-keep.frames (frames + 1) c.if-frames-keep.count (count + 1) left whole.messages w.reader-is w.frames-is w.count-is
            ((count_given c.args.c c.args.d n c.args.keep old w.feed.new.self frames count i ps piece w.bytes.result.now w.feed.result whole.messages some within
            c.piece-item.is (sym w.is_on.ensures ∙ w.if-is_on.true) (so_far.counts n some whole) w.if-frames-keep.true w.bytes.ensures w.feed.ensures.feeds).0 w.in-Msg.field-0 w.in-Msg.is);
        few = omega (arith, w.frames-is, w.if-frames-keep.true);
        within = omega (arith, w.count-is, so_far.within);
      }
      | then-frames-keep+then-is_on+in_default w ↦ record {
        counts = λ n some whole.
            same_counts n c.args.keep c.if-frames-keep.reader w.feed.new.self c.if-frames-keep.frames frames c.if-frames-keep.count (count + 1) left whole.messages w.reader-is w.frames-is w.count-is
            ((count_given c.args.c c.args.d n c.args.keep old w.feed.new.self frames count i ps piece w.bytes.result.now w.feed.result whole.messages some within
            c.piece-item.is (sym w.is_on.ensures ∙ w.if-is_on.true) (so_far.counts n some whole) w.if-frames-keep.true w.bytes.ensures w.feed.ensures.feeds).1 w.in_default.not-Msg);
        few = omega (arith, w.frames-is, so_far.few);
        within = omega (arith, w.count-is, so_far.within);
      }
      | else-frames-keep w ↦ record {
        counts = λ n some whole.
            same_counts n c.args.keep c.if-frames-keep.reader old c.if-frames-keep.frames frames c.if-frames-keep.count count left whole.messages w.reader-is w.frames-is w.count-is
            (elim w.else-frames-keep.branch [
              | else-frames-keep-via-then-frames-keep+else-is_on v ↦ (let P : List (List ℕ) → Type 0 = λ xs. Counts n c.args.keep old frames count xs whole.messages in
                  subst P (lane_off c.args.c c.args.d ps i piece within c.piece-item.is (sym v.is_on.ensures ∙ v.if-is_on.false)) (so_far.counts n some whole))
              | else-frames-keep-via-else-frames-keep v ↦ count_enough n c.args.keep old frames count (map bytes_in (on_way c.args.c c.args.d (drop i ps))) left whole.messages (so_far.counts n some whole)
                  v.if-frames-keep.false
            ]);
        few = omega (arith, w.frames-is, so_far.few);
        within = omega (arith, w.count-is, so_far.within);
      }
    ]

pub returns : goal.returns
returns c = λ n some whole.
    let P : List (List ℕ) → Type 0 = λ xs. Counts n c.args.keep c.loop-piece.reader c.loop-piece.frames c.loop-piece.count xs whole.messages in
    let end : drop c.loop-piece.piece-index c.args.pieces.now ≡ [] = drop_of_length-le c.args.pieces.now c.loop-piece-test.false in
    count_end n c.args.keep c.loop-piece.reader c.loop-piece.frames c.loop-piece.count whole.messages some
    (subst P (ap (λ xs. map bytes_in (on_way c.args.c c.args.d xs)) end) (c.loop-piece.invariant.counts n some whole))
