use Rattle.std.proofs.Common.{◌≡◌, ◌+◌, ◌*◌, ◌++◌, take, drop, map, length}
use Rattle.std.specs.Prelude.{replicate}
use Rattle.std.specs.List.{flat_map}
use Rattle.dtx_values.specs.RecoveryInfo.{pair_bytes, pair_of}
use Rattle.dtx_model.specs.Log.{record_of}
use Rattle.coordinator_log.specs.Spelling.{front_bytes}
use Rattle.coordinator_log.proofs.writing.write_record.Given as goal

abbrev pub invariant-loop-i : goal.invariant-loop-i
invariant-loop-i l = record {
  front : take (19 + 20 * l.i) l.into ≡ front_bytes (record_of l.r) ++ flat_map pair_bytes (map pair_of (take l.i l.pairs));
  rest : drop (19 + 20 * l.i) l.into ≡ drop (19 + 20 * l.i) (replicate (length l.fn.into) 0);
  long : length l.into ≡ 511;
}
