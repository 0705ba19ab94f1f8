-- A log is a slotted file.
use Rattle.std.proofs.Common.{◌≡◌, ℕ, zero, suc, ◌+◌, List, [], ◌∷◌, take, drop, Result, Ok, Err, Some, None, refl, ap}
use Rattle.dtx_model.specs.Log.{CommitRecord, Slot, ◌>>=◌, head, log_has, record_at, records_at, same_at, slot_at, slots_at, slots_of}
use Rattle.slotted.specs.Slotted.{gated, held_by, held_from, slots_by}
use Rattle.slotted.proofs.SlotReads.{HoldsBy}
use Rattle.slotted.proofs.SlotWrites.{ReadsSlots}

-- a log's slots, one behind the other, are gated
slots_too : (n : ℕ) (b : List ℕ) → slots_at n b ≡ slots_by (gated record_at) n b
unfolding slots_at slot_at slots_by
slots_too zero b = refl
slots_too (suc n) b = ap (λ (ss : List Slot). gated record_at (take 512 b) ∷ ss) (slots_too n (drop 512 b))

each_slot : (b : List ℕ) → slots_of b ≡ slots_by (gated record_at) 1024 (drop 512 b)
unfolding slots_of
each_slot b = slots_too 1024 (drop 512 b)

-- its slots are gated
pub log_reads : ReadsSlots record_at slots_of
log_reads = record { each = each_slot }

-- the records of slots are what stands in them
records_too : (place : ℕ) (ss : List Slot) → records_at place ss ≡ held_from place ss
records_too place [] = refl
records_too place (Ok None ∷ ss) = records_too (place + 512) ss
records_too place (Ok (Some r) ∷ ss) = ap (λ (x : Result (List CommitRecord) ℕ). x >>= λ rs. Ok (r ∷ rs)) (records_too (place + 512) ss)
records_too place (Err p ∷ ss) = refl

each_file : (b : List ℕ) → log_has b ≡ held_by head slots_of b
unfolding log_has
each_file b = ap (λ (x : Result (List CommitRecord) ℕ). same_at 0 head (take 512 b) >>= λ _. x) (records_too 512 (slots_of b))

-- it holds what stands in them
pub log_file : HoldsBy head slots_of log_has
log_file = record { each = each_file }
