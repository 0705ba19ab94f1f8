use Rattle.std.proofs.Common.{◌≤◌, ◌-◌, vec_capacity, vec_len}
use Rattle.oletx_session.proofs.Pieces.{CutTo}
use Rattle.oletx_session.proofs.queue.keep_first.Given as goal

abbrev pub invariant-loop-place : goal.invariant-loop-place
invariant-loop-place l = record {
  so_far : CutTo l.c l.d l.keep l.kept l.place l.initial.pieces.items l.pieces.items;
  few : vec_len l.pieces ≤ vec_len l.initial.pieces;
  capacity : vec_capacity l.initial.pieces ≤ vec_capacity l.pieces;
}

abbrev pub decreases-loop-place : goal.decreases-loop-place
decreases-loop-place l = vec_len l.pieces - l.place
