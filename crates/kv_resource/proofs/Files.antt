-- A store is a slotted file.
use Rattle.std.proofs.Common.{◌≡◌, ℕ, List, refl}
use Rattle.slotted.specs.Slotted.{gated, held_by, slots_by, slots_in}
use Rattle.slotted.proofs.SlotReads.{HoldsBy}
use Rattle.slotted.proofs.SlotWrites.{ReadsSlots}
use Rattle.kv_resource.specs.Bytes.{kv_has, kv_head, kv_record_at, kv_slots}

each_slot : (b : List ℕ) → kv_slots b ≡ slots_by (gated kv_record_at) 1024 (Rattle.std.proofs.Common.drop 512 b)
unfolding kv_slots slots_in
each_slot b = refl

-- its slots are gated
pub kv_reads : ReadsSlots kv_record_at kv_slots
kv_reads = record { each = each_slot }

each_file : (b : List ℕ) → kv_has b ≡ held_by kv_head kv_slots b
unfolding kv_has
each_file b = refl

-- it holds what stands in them
pub kv_file : HoldsBy kv_head kv_slots kv_has
kv_file = record { each = each_file }
