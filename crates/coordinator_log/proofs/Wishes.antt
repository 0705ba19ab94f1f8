-- What a crash leaves of a log on a disk that does with it as it is wished.
use Rattle.std.proofs.Common.{◌≡◌, ◌⊎◌, ◌≤◌, ◌<◌, ◌+◌, ◌*◌, ℕ, true, false, cond, nat_le, List, [], ◌∷◌, length, set, Ok, Some, None, refl, sym, ap, subst, ◌∙◌, inl, inr, arith}
use Rattle.std.proofs.lemmas.Bool.Decides.{nat_tests}
use Rattle.std.proofs.lemmas.List.{length-replicate}
use Rattle.dtx_values.specs.declared.Image.{Image}
use Rattle.dtx_values.specs.declared.Image.TheVariants.{Lose, Keep, Torn}
use Rattle.outside.specs.Disk.{overwritten}
use Rattle.outside.specs.Faults.{Rose}
use Rattle.outside.specs.Images.{AreSame, Images, after_sync, after_write, spoilt, wished}
use Rattle.dtx_model.specs.Log.{CommitRecord, Slot, record_at, slots_of}
use Rattle.slotted.proofs.SlotWrites.{IsBehindBy, along, body_torn, cleared_stage, done_stage, same_bytes, set_same, shut_stage, then_same, torn_at}
use Rattle.coordinator_log.specs.Slots.{HasSlots, IsClosed}
use Rattle.coordinator_log.specs.Stop.{is_found_after_append, is_found_after_free}
use Rattle.coordinator_log.proofs.Files.{log_reads}

-- after a sync the three images are the same
pub synced_same : (d e : Images) → e ≡ after_sync d → AreSame e
synced_same d e is = subst (λ (d : Images). AreSame d) (sym is) (record { synced = refl; torn = refl })

-- from a count that is as before, a fault rose too; or what holds unless one did
pub unless_rose : {B C : Type 0} (m n now : ℕ) → m ≡ n → (B → C) → Rose m now ⊎ B → Rose n now ⊎ C
unless_rose m n now is f (inl rose) = inl (subst (λ (k : ℕ). Rose k now) is rose)
unless_rose m n now is f (inr b) = inr (f b)

-- a torn gate isn't open
torn_gate : (gate : ℕ) → 1 < gate → gate ≡ 1 → ⊥
torn_gate gate more is = omega arith

-- whatever is wished after a write behind a closed gate, the slots are as they were
pub body_wished : (i : Image) (k at : ℕ) (b bytes : List ℕ) (d : Images) → k < 1024 → at ≡ 513 + 512 * k → IsClosed k b → 524800 ≤ length b → length bytes ≡ 511 → b ≡ d.kept → AreSame d
    → HasSlots b (slots_of b) (wished i (after_write at bytes d))
body_wished Lose k at b bytes d lt a closed room long is same = same_bytes b d.synced (same.synced ∙ sym is)
body_wished Keep k at b bytes d lt a closed room long is same =
    let put : overwritten d.kept at bytes ≡ overwritten b at bytes = ap (λ (c : List ℕ). overwritten c at bytes) (sym is) in
    (body_torn log_reads k b (overwritten d.kept at bytes) lt closed (torn_at log_reads k at b (overwritten d.kept at bytes) bytes lt a room long put)).0
body_wished Torn k at b bytes d lt a closed room long is same =
    let bad : List ℕ = spoilt (length bytes) in
    let put : overwritten d.torn at bad ≡ overwritten b at bad = ap (λ (c : List ℕ). overwritten c at bad) (same.torn ∙ sym is) in
    (body_torn log_reads k b (overwritten d.torn at bad) lt closed (torn_at log_reads k at b (overwritten d.torn at bad) bad lt a room (length-replicate (length bytes) 0xA5 ∙ long) put)).0

-- before the write of its gate no record is found
pub not_yet : (i : Image) (n : ℕ) → n < 2 → is_found_after_append i n ≡ false
not_yet Lose n lt = refl
not_yet Keep n lt = grind (arith, nat_tests)
not_yet Torn n lt = refl

-- whatever is wished after its gate was written, a record is found where the stop says so
pub gate_wished : (i : Image) (n k at : ℕ) (b b1 : List ℕ) (r : CommitRecord) (d : Images) → 2 ≤ n → k < 1024 → at ≡ 512 + 512 * k → IsClosed k b → IsBehindBy record_at slots_of k r b b1 → at + 1 ≤ length b1 → b1 ≡ d.kept → AreSame d
    → HasSlots b (cond (is_found_after_append i n) (set (slots_of b) k (Ok (Some r))) (slots_of b)) (wished i (after_write at (1 ∷ []) d))
gate_wished Lose n k at b b1 r d le lt a closed behind room is same = along b b1 d.synced (slots_of b) (same.synced ∙ sym is) behind.same
gate_wished Keep n k at b b1 r d le lt a closed behind room is same =
    let now : nat_le 2 n ≡ true = grind (arith, nat_tests) in
    let put : overwritten d.kept at (1 ∷ []) ≡ overwritten b1 at (1 ∷ []) = ap (λ (c : List ℕ). overwritten c at (1 ∷ [])) (sym is) in
    rw now (done_stage log_reads k lt b b1 r closed behind at (overwritten d.kept at (1 ∷ [])) a put room)
gate_wished Torn n k at b b1 r d le lt a closed behind room is same =
    let put : overwritten d.torn at (0xA5 ∷ []) ≡ overwritten b1 at (0xA5 ∷ []) = ap (λ (c : List ℕ). overwritten c at (0xA5 ∷ [])) (same.torn ∙ sym is) in
    let shut = shut_stage log_reads 0xA5 k at b1 (overwritten d.torn at (0xA5 ∷ [])) (torn_gate 0xA5 (omega arith)) lt a put room in
    then_same b b1 _ (slots_of b) behind.same (record { same_head = shut.same_head; slots = shut.slots ∙ ap (λ (x : List Slot). set x k (Ok None)) behind.same.slots ∙ set_same log_reads k b (Ok None) closed })

-- whatever is wished after a gate was closed, its record is found where the stop says so
pub clear_wished : (i : Image) (k at : ℕ) (b : List ℕ) (d : Images) → k < 1024 → at ≡ 512 + 512 * k → at + 1 ≤ length b → b ≡ d.kept → AreSame d
    → HasSlots b (cond (is_found_after_free i) (slots_of b) (set (slots_of b) k (Ok None))) (wished i (after_write at (0 ∷ []) d))
clear_wished Lose k at b d lt a room is same = same_bytes b d.synced (same.synced ∙ sym is)
clear_wished Keep k at b d lt a room is same = cleared_stage log_reads k at b _ lt a (ap (λ (c : List ℕ). overwritten c at (0 ∷ [])) (sym is)) room
clear_wished Torn k at b d lt a room is same = shut_stage log_reads 0xA5 k at b _ (torn_gate 0xA5 (omega arith)) lt a (ap (λ (c : List ℕ). overwritten c at (0xA5 ∷ [])) (same.torn ∙ sym is)) room
