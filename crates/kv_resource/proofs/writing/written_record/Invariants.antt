use Rattle.std.proofs.Common.{◌≡◌, ◌+◌, ◌*◌, ◌++◌, take, drop, length, false}
use Rattle.std.specs.Prelude.{replicate}
use Rattle.std.specs.List.{flat_map}
use Rattle.kv_resource.specs.Bytes.{front_bytes, write_bytes}
use Rattle.kv_resource.specs.Notes.{record_with}
use Rattle.kv_resource.proofs.writing.written_record.Given as goal

abbrev pub invariant-loop-i : goal.invariant-loop-i
invariant-loop-i l = record {
  front : take (11 + 12 * l.i) l.bytes ≡ front_bytes l.transaction.t.value (record_with false l.d) ++ flat_map write_bytes (take l.i l.writes);
  rest : drop (11 + 12 * l.i) l.bytes ≡ drop (11 + 12 * l.i) (replicate 511 0);
  long : length l.bytes ≡ 511;
}
