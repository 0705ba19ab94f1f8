use Rattle.std.proofs.Common.{◌≡◌, drop}
use Rattle.std.specs.Prelude.{find}
use Rattle.dtx_values.specs.TxIds.{number_of}
use Rattle.kv_resource.specs.Store.{is_busy_record, open_records}
use Rattle.kv_resource.proofs.slots.busy_slot.Given as goal

abbrev pub invariant-loop-slot : goal.invariant-loop-slot
invariant-loop-slot l = find (is_busy_record (number_of l.t, l.e.value) l.key) (open_records l.slots) ≡ find (is_busy_record (number_of l.t, l.e.value) l.key) (open_records (drop l.slot-index l.slots))
