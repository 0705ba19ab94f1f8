use Rattle.std.proofs.Common.{◌≡◌, ◌≤◌, ℕ, [], None, map, vec_capacity, vec_len}
use Rattle.oletx_session.specs.Crossing.{AreCutUp}
use Rattle.oletx_session.specs.Queues.{AreSameElse, bytes_in, on_way}
use Rattle.oletx_session.proofs.Receiving.{AreLeft}
use Rattle.oletx_session.proofs.crossing.take_message.Given as goal

abbrev pub invariant-loop-piece : goal.invariant-loop-piece
invariant-loop-piece l = record {
  reads : (n : ℕ) → 1 ≤ n → (whole : AreCutUp n (on_way l.c l.d l.initial.pieces.items))
      → AreLeft n l.reader.held (map bytes_in (on_way l.c l.d l.pieces.items)) whole.messages × (l.reader.ended ≡ None);
  untouched : (n : ℕ) → 1 ≤ n → (whole : AreCutUp n (on_way l.c l.d l.initial.pieces.items)) → whole.messages ≡ [] → l.pieces.items ≡ l.initial.pieces.items;
  others : AreSameElse l.c l.d l.initial.pieces.items l.pieces.items;
  few : vec_len l.pieces ≤ vec_len l.initial.pieces;
  capacity : vec_capacity l.initial.pieces ≤ vec_capacity l.pieces;
}

abbrev pub decreases-loop-piece : goal.decreases-loop-piece
decreases-loop-piece l = vec_len l.pieces
