use Rattle.std.proofs.Common.{◌≤◌, ℕ, drop, map}
use Rattle.oletx_session.specs.Crossing.{AreCutUp}
use Rattle.oletx_session.specs.Queues.{bytes_in, on_way}
use Rattle.oletx_session.proofs.Counting.{Counts}
use Rattle.oletx_session.proofs.crossing.count_frames.Given as goal

abbrev pub invariant-loop-piece : goal.invariant-loop-piece
invariant-loop-piece l = record {
  counts : (n : ℕ) → 1 ≤ n → (whole : AreCutUp n (on_way l.c l.d l.pieces))
      → Counts n l.keep l.reader l.frames l.count (map bytes_in (on_way l.c l.d (drop l.piece-index l.pieces))) whole.messages;
  few : l.frames ≤ l.keep;
  within : l.count ≤ l.piece-index;
}
