-- A record that is marked, byte by byte.
use Rattle.std.proofs.Common.{◌≡◌, inl, inr, ℕ, ◌+◌, ◌*◌, ◌≤◌, ◌<◌, Bool, true, false, eqb, List, [], ◌∷◌, length, get_or, take, drop, set, Result, Ok, Err, Some, refl, sym, ap, subst, ◌∙◌, arith}
use Rattle.std.proofs.lemmas.Bool.{cases_eq}
use Rattle.std.proofs.lemmas.Bool.Decides.{nat_tests}
use Rattle.std.specs.Int.{w32, from_le_bytes}
use Rattle.std.proofs.lemmas.List.{drop-drop, drop-take, get_or-take, get_or-drop, take-take}
use Rattle.outside.specs.Disk.{Follows, IsOnly, IsTorn, overwritten}
use Rattle.outside.proofs.Writing.{IsTorn-overwritten}
use Rattle.dtx_model.specs.Log.{◌>>=◌}
use Rattle.slotted.specs.Slotted.{HasSlotsBy, IsEitherBy, IsSlotBy, gated}
use Rattle.slotted.proofs.SlotWrites.{from_only, gate_open, last_put, last_torn, open_slot, set_same, slot, slot_is}
use Rattle.kv_resource.specs.Bytes.{KvRecord, kv_record_at, kv_slots, number32, unmarked_at, with_mark}
use Rattle.kv_resource.proofs.Files.{kv_reads}

-- the bytes between the gate and the epoch
front_of : (s : List ℕ) → take 506 (drop 1 s) ≡ drop 1 (take 507 (take 511 s))
front_of s = sym (ap (drop 1) (take-take 507 511 s (omega arith)) ∙ drop-take 1 506 s)

-- the epoch
epoch_of : (s : List ℕ) → number32 (drop 506 (drop 1 s)) ≡ number32 (drop 507 (take 511 s))
unfolding number32
epoch_of s = ap (λ (l : List ℕ). from_le_bytes w32 (take 4 l)) (drop-drop 506 1 s) ∙ ap (from_le_bytes w32) (sym (take-take 4 4 (drop 507 s) (omega arith)) ∙ ap (take 4) (sym (drop-take 507 4 s)))

-- the mark
mark_of : (s : List ℕ) → get_or (drop 1 s) 510 0 ≡ get_or s 511 0
mark_of s = get_or-drop 1 s 510 0

-- what is read behind an open gate, of the bytes before the mark and of the mark
unmarked_of : (x : Result KvRecord ℕ) (m : Bool) (r : KvRecord) → (x >>= λ u. Ok (with_mark m u)) >>= (λ u. Ok (Some u)) ≡ Ok (Some r) → (u : KvRecord) × (x ≡ Ok u) × (r ≡ with_mark m u)
unmarked_of (Ok u) m r e = (u, refl, cc)
unmarked_of (Err p) m r e = absurd cc

-- a slot of which at most the mark changed has the same record, with the mark that is there now
pub marked_slot : (s c : List ℕ) (r : KvRecord) → take 511 c ≡ take 511 s → gated kv_record_at s ≡ Ok (Some r) → gated kv_record_at c ≡ Ok (Some (with_mark (eqb (get_or c 511 0) 1) r))
unfolding kv_record_at
marked_slot s c r same was =
    let gate : get_or s 0 0 ≡ 1 = gate_open kv_record_at s r was in
    let gate_too : get_or c 0 0 ≡ 1 = sym (get_or-take 511 c 0 0 (omega arith)) ∙ ap (λ (l : List ℕ). get_or l 0 0) same ∙ get_or-take 511 s 0 0 (omega arith) ∙ gate in
    let u = unmarked_of (unmarked_at (number32 (drop 506 (drop 1 s))) (take 506 (drop 1 s))) (eqb (get_or (drop 1 s) 510 0) 1) r (sym (open_slot kv_record_at s gate) ∙ was) in
    let fronts : take 506 (drop 1 c) ≡ take 506 (drop 1 s) = front_of c ∙ ap (λ (l : List ℕ). drop 1 (take 507 l)) same ∙ sym (front_of s) in
    let epochs : number32 (drop 506 (drop 1 c)) ≡ number32 (drop 506 (drop 1 s)) = epoch_of c ∙ ap (λ (l : List ℕ). number32 (drop 507 l)) same ∙ sym (epoch_of s) in
    let front : unmarked_at (number32 (drop 506 (drop 1 c))) (take 506 (drop 1 c)) ≡ Ok u.0 = (λ j. unmarked_at (epochs j) (fronts j)) ∙ u.1 in
    let now : kv_record_at (drop 1 c) ≡ Ok (with_mark (eqb (get_or (drop 1 c) 510 0) 1) u.0) = rw front refl in
    let is : with_mark (eqb (get_or (drop 1 c) 510 0) 1) u.0 ≡ with_mark (eqb (get_or c 511 0) 1) r =
    ap (λ (n : ℕ). with_mark (eqb n 1) u.0) (mark_of c) ∙ ap (with_mark (eqb (get_or c 511 0) 1)) (sym u.2) in
    open_slot kv_record_at c gate_too ∙ ap (λ (x : Result KvRecord ℕ). x >>= λ r. Ok (Some r)) (now ∙ ap (λ (q : KvRecord). Ok q) is)

-- while a record is marked it is as before, or marked
pub mark_stage : (k at : ℕ) (b : List ℕ) (r : KvRecord) (old new : List ℕ → Type 0) → k < 1024 → at ≡ 1023 + 512 * k → IsSlotBy kv_slots k (Ok (Some r)) b → r.marked ≡ false → IsOnly b old → Follows (IsTorn at 1) old new
    → (c : List ℕ) → new c → IsEitherBy kv_slots b k (Ok (Some (with_mark true r))) c
mark_stage k at b r old new lt a open_at unmarked only follows c left =
    let torn = last_torn kv_reads k b c lt (subst (λ (j : ℕ). IsTorn j 1 b c) a (from_only at 1 b old new only follows c left)) in
    let was : gated kv_record_at (slot k b) ≡ Ok (Some r) = sym (slot_is kv_reads k b lt) ∙ open_at in
    let now = marked_slot (slot k b) (slot k c) r torn.1 was in
    elim (cases_eq (get_or (slot k c) 511 0) 1) [
      | inl is ↦
          let test : eqb (get_or (slot k c) 511 0) 1 ≡ true = grind (arith, nat_tests) in
          inr (record { same_head = torn.0.same_head; slots = torn.0.slots ∙ ap (set (kv_slots b) k) (now ∙ ap (λ (m : Bool). Ok (Some (with_mark m r))) test) })
      | inr not ↦
          let test : eqb (get_or (slot k c) 511 0) 1 ≡ false = grind (arith, nat_tests) in
          let same : with_mark false r ≡ r = ap (λ (m : Bool). with_mark m r) (sym unmarked) in
          inl (record {
            same_head = torn.0.same_head;
            slots = torn.0.slots ∙ ap (set (kv_slots b) k) (now ∙ ap (λ (m : Bool). Ok (Some (with_mark m r))) test ∙ ap (λ (q : KvRecord). Ok (Some q)) same) ∙ set_same kv_reads k b (Ok (Some r)) open_at;
          })
    ]

-- once the mark is written the record is marked
pub marked_stage : (k at : ℕ) (b c : List ℕ) (r : KvRecord) → k < 1024 → at ≡ 1023 + 512 * k → IsSlotBy kv_slots k (Ok (Some r)) b → c ≡ overwritten b at (1 ∷ []) → at + 1 ≤ length b
    → HasSlotsBy kv_slots b (set (kv_slots b) k (Ok (Some (with_mark true r)))) c
marked_stage k at b c r lt a open_at written_is room =
    let torn = last_torn kv_reads k b c lt (subst (λ (j : ℕ). IsTorn j 1 b c) a (IsTorn-overwritten b at 1 (1 ∷ []) c written_is refl room)) in
    let was : gated kv_record_at (slot k b) ≡ Ok (Some r) = sym (slot_is kv_reads k b lt) ∙ open_at in
    let now = marked_slot (slot k b) (slot k c) r torn.1 was in
    let one : get_or (slot k c) 511 0 ≡ 1 = last_put 1 k at b c a written_is room in
    record { same_head = torn.0.same_head; slots = torn.0.slots ∙ ap (set (kv_slots b) k) (now ∙ ap (λ (n : ℕ). Ok (Some (with_mark (eqb n 1) r))) one) }
