use Rattle.std.proofs.Common.{◌≡◌, ◌≤◌, ◌+◌, ◌++◌, length, map, vec_capacity, vec_len}
use Rattle.std.specs.Slice.Iter.{chunks_rest, chunks_size}
use Rattle.oletx_session.specs.Crossing.{cut, most_pieces}
use Rattle.oletx_session.specs.Queues.{AreSameElse, bytes_in, on_way}
use Rattle.oletx_session.proofs.crossing.put_frame.Given as goal

abbrev pub invariant-loop-part : goal.invariant-loop-part
invariant-loop-part l = record {
  size : chunks_size l.part-iterator ≡ l.size;
  short : length (chunks_rest l.part-iterator) ≤ 40;
  put : map bytes_in (on_way l.c l.d l.pieces.items) ++ cut l.size (chunks_rest l.part-iterator) ≡ map bytes_in (on_way l.c l.d l.initial.pieces.items) ++ cut l.size l.frame;
  others : AreSameElse l.c l.d l.initial.pieces.items l.pieces.items;
  few : vec_len l.pieces + length (cut l.size (chunks_rest l.part-iterator)) ≤ vec_len l.initial.pieces + most_pieces l.size;
  room : vec_len l.initial.pieces + most_pieces l.size ≤ vec_capacity l.pieces;
  capacity : vec_capacity l.initial.pieces ≤ vec_capacity l.pieces;
}
