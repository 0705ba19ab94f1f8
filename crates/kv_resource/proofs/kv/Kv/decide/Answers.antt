use Rattle.std.specs.Prelude.{position}
use Rattle.std.proofs.Common.{◌≡◌, ◌∙◌, ap, sym, subst, arith, true, false, not, get_or, List, Some, None, Ok, Err}
use Rattle.dtx_values.specs.TxIds.{number_of}
use Rattle.kv_resource.specs.Bytes.{KvRecord, with_mark}
use Rattle.kv_resource.specs.Images.{IsKept, TurnsSlot}
use Rattle.kv_resource.specs.Notes.{record_with}
use Rattle.kv_resource.specs.Store.{KvDraft, KvMemory, KvState, Pair, has_marked, is_draft_of, is_marked_record, is_record_of, is_unmarked, on_open}
use Rattle.kv_resource.proofs.Finding.{Slots, find_first, found_draft, is_first, lowest_mark, lowest_unmarked, next_facts, none_draft, none_first}
use Rattle.std.proofs.lemmas.List.{get_or-set_same}
use Rattle.kv_resource.proofs.Noting.{fresh_is, half_handed, hand_broken, hand_done, hand_full, hand_marked, hand_nothing, hand_stopped, handed, not_handed, room_is}
use Rattle.kv_resource.proofs.kv.Kv.decide.Goals as goal

pub store-requires-clause-up : goal.store-requires-clause-up
store-requires-clause-up g c =
    let old = c.args.self.now in
    let p : Pair = (number_of c.args.t, c.args.e.value) in
    let view = c.self.view_is in
    let kept = subst (λ (s : KvState g.row.D.Denot). IsKept g.D.Disk.honest (g.D.Disk.seen s.disk) (g.D.Disk.image s.disk) (g.D.Disk.size s.disk) s.memory) view c.self.invariant.0 in
    let q = is_record_of p in
    let seen_slots = c.slot_of.ensures ∙ ap (λ (l : Slots). position (on_open q) l) (c.deref.ensures.value ∙ ap (λ s. s.memory.slots) view) in
    let nowhere = none_first q old.memory.slots (sym (sym c.in_default.is ∙ seen_slots)) in
    let unmarked : has_marked old.memory p ≡ false = ap is_marked_record nowhere.1 in
    let seen_draft = c.draft_at.ensures ∙ ap (λ (l : List KvDraft). position (is_draft_of p) l) (c.deref-2.ensures.value ∙ ap (λ s. s.memory.drafts) view) in
    let at = found_draft p old.memory.drafts c.in-Some-draft_at.i (sym (sym c.in-Some-draft_at.is ∙ seen_draft)) in
    let room = room_is old.memory.stopped _ c.in-Some-free_slot.k (sym c.free_slot.ensures ∙ c.in-Some-free_slot.is) in
    room.0

pub store-requires-clause-draft : goal.store-requires-clause-draft
store-requires-clause-draft g c =
    let old = c.args.self.now in
    let p : Pair = (number_of c.args.t, c.args.e.value) in
    let view = c.self.view_is in
    let kept = subst (λ (s : KvState g.row.D.Denot). IsKept g.D.Disk.honest (g.D.Disk.seen s.disk) (g.D.Disk.image s.disk) (g.D.Disk.size s.disk) s.memory) view c.self.invariant.0 in
    let q = is_record_of p in
    let seen_slots = c.slot_of.ensures ∙ ap (λ (l : Slots). position (on_open q) l) (c.deref.ensures.value ∙ ap (λ s. s.memory.slots) view) in
    let nowhere = none_first q old.memory.slots (sym (sym c.in_default.is ∙ seen_slots)) in
    let unmarked : has_marked old.memory p ≡ false = ap is_marked_record nowhere.1 in
    let seen_draft = c.draft_at.ensures ∙ ap (λ (l : List KvDraft). position (is_draft_of p) l) (c.deref-2.ensures.value ∙ ap (λ s. s.memory.drafts) view) in
    let at = found_draft p old.memory.drafts c.in-Some-draft_at.i (sym (sym c.in-Some-draft_at.is ∙ seen_draft)) in
    let room = room_is old.memory.stopped _ c.in-Some-free_slot.k (sym c.free_slot.ensures ∙ c.in-Some-free_slot.is) in
    at.1.inside

pub store-requires-clause-slot : goal.store-requires-clause-slot
store-requires-clause-slot g c =
    let old = c.args.self.now in
    let p : Pair = (number_of c.args.t, c.args.e.value) in
    let view = c.self.view_is in
    let kept = subst (λ (s : KvState g.row.D.Denot). IsKept g.D.Disk.honest (g.D.Disk.seen s.disk) (g.D.Disk.image s.disk) (g.D.Disk.size s.disk) s.memory) view c.self.invariant.0 in
    let q = is_record_of p in
    let seen_slots = c.slot_of.ensures ∙ ap (λ (l : Slots). position (on_open q) l) (c.deref.ensures.value ∙ ap (λ s. s.memory.slots) view) in
    let nowhere = none_first q old.memory.slots (sym (sym c.in_default.is ∙ seen_slots)) in
    let unmarked : has_marked old.memory p ≡ false = ap is_marked_record nowhere.1 in
    let seen_draft = c.draft_at.ensures ∙ ap (λ (l : List KvDraft). position (is_draft_of p) l) (c.deref-2.ensures.value ∙ ap (λ s. s.memory.drafts) view) in
    let at = found_draft p old.memory.drafts c.in-Some-draft_at.i (sym (sym c.in-Some-draft_at.is ∙ seen_draft)) in
    let room = room_is old.memory.stopped _ c.in-Some-free_slot.k (sym c.free_slot.ensures ∙ c.in-Some-free_slot.is) in
    (next_facts old.memory.slots c.in-Some-free_slot.k room.1).0

pub store-requires-clause-closed : goal.store-requires-clause-closed
store-requires-clause-closed g c =
    let old = c.args.self.now in
    let p : Pair = (number_of c.args.t, c.args.e.value) in
    let view = c.self.view_is in
    let kept = subst (λ (s : KvState g.row.D.Denot). IsKept g.D.Disk.honest (g.D.Disk.seen s.disk) (g.D.Disk.image s.disk) (g.D.Disk.size s.disk) s.memory) view c.self.invariant.0 in
    let q = is_record_of p in
    let seen_slots = c.slot_of.ensures ∙ ap (λ (l : Slots). position (on_open q) l) (c.deref.ensures.value ∙ ap (λ s. s.memory.slots) view) in
    let nowhere = none_first q old.memory.slots (sym (sym c.in_default.is ∙ seen_slots)) in
    let unmarked : has_marked old.memory p ≡ false = ap is_marked_record nowhere.1 in
    let seen_draft = c.draft_at.ensures ∙ ap (λ (l : List KvDraft). position (is_draft_of p) l) (c.deref-2.ensures.value ∙ ap (λ s. s.memory.drafts) view) in
    let at = found_draft p old.memory.drafts c.in-Some-draft_at.i (sym (sym c.in-Some-draft_at.is ∙ seen_draft)) in
    let room = room_is old.memory.stopped _ c.in-Some-free_slot.k (sym c.free_slot.ensures ∙ c.in-Some-free_slot.is) in
    (next_facts old.memory.slots c.in-Some-free_slot.k room.1).1

pub mark-requires-clause-unmarked : goal.mark-requires-clause-unmarked
mark-requires-clause-unmarked g c =
    let old = c.args.self.now in
    let p : Pair = (number_of c.args.t, c.args.e.value) in
    let view = c.self.view_is in
    let kept = subst (λ (s : KvState g.row.D.Denot). IsKept g.D.Disk.honest (g.D.Disk.seen s.disk) (g.D.Disk.image s.disk) (g.D.Disk.size s.disk) s.memory) view c.self.invariant.0 in
    let q = is_record_of p in
    let seen_slots = c.slot_of.ensures ∙ ap (λ (l : Slots). position (on_open q) l) (c.deref.ensures.value ∙ ap (λ s. s.memory.slots) view) in
    let f = is_first q old.memory.slots c.in-Some.k (sym (sym c.in-Some.is ∙ seen_slots)) in
    let mark : has_marked old.memory p ≡ f.r.marked = lowest_mark p old.memory.slots c.in-Some.k f in
    let seen_mark : c.is_marked.result ≡ f.r.marked = c.is_marked.ensures ∙ ap (λ (l : Slots). on_open (λ r. r.marked) (get_or l c.in-Some.k None)) (c.deref-in-Some.ensures.value ∙ ap (λ s. s.memory.slots) view) ∙ ap (on_open (λ r. r.marked)) f.is in
    ap (on_open is_unmarked) f.is ∙ ap not (sym seen_mark ∙ c.if-is_marked.false)

pub returns-then-is_marked : goal.returns-then-is_marked
returns-then-is_marked g c =
    let old = c.args.self.now in
    let p : Pair = (number_of c.args.t, c.args.e.value) in
    let view = c.self.view_is in
    let kept = subst (λ (s : KvState g.row.D.Denot). IsKept g.D.Disk.honest (g.D.Disk.seen s.disk) (g.D.Disk.image s.disk) (g.D.Disk.size s.disk) s.memory) view c.self.invariant.0 in
    let q = is_record_of p in
    let seen_slots = c.slot_of.ensures ∙ ap (λ (l : Slots). position (on_open q) l) (c.deref.ensures.value ∙ ap (λ s. s.memory.slots) view) in
    let f = is_first q old.memory.slots c.in-Some.k (sym (sym c.in-Some.is ∙ seen_slots)) in
    let mark : has_marked old.memory p ≡ f.r.marked = lowest_mark p old.memory.slots c.in-Some.k f in
    let seen_mark : c.is_marked.result ≡ f.r.marked = c.is_marked.ensures ∙ ap (λ (l : Slots). on_open (λ r. r.marked) (get_or l c.in-Some.k None)) (c.deref-in-Some.ensures.value ∙ ap (λ s. s.memory.slots) view) ∙ ap (on_open (λ r. r.marked)) f.is in
    hand_marked g.D.Disk.honest g.D.Disk.seen g.D.Disk.image g.D.Disk.size g.D.Disk.faults old p kept c.in-Some.k f (mark ∙ sym seen_mark ∙ c.if-is_marked.true)

pub returns-then-self : goal.returns-then-self
returns-then-self g c =
    let old = c.args.self.now in
    let p : Pair = (number_of c.args.t, c.args.e.value) in
    let view = c.self.view_is in
    let kept = subst (λ (s : KvState g.row.D.Denot). IsKept g.D.Disk.honest (g.D.Disk.seen s.disk) (g.D.Disk.image s.disk) (g.D.Disk.size s.disk) s.memory) view c.self.invariant.0 in
    let q = is_record_of p in
    let seen_slots = c.slot_of.ensures ∙ ap (λ (l : Slots). position (on_open q) l) (c.deref.ensures.value ∙ ap (λ s. s.memory.slots) view) in
    let f = is_first q old.memory.slots c.in-Some.k (sym (sym c.in-Some.is ∙ seen_slots)) in
    let mark : has_marked old.memory p ≡ f.r.marked = lowest_mark p old.memory.slots c.in-Some.k f in
    let seen_mark : c.is_marked.result ≡ f.r.marked = c.is_marked.ensures ∙ ap (λ (l : Slots). on_open (λ r. r.marked) (get_or l c.in-Some.k None)) (c.deref-in-Some.ensures.value ∙ ap (λ s. s.memory.slots) view) ∙ ap (on_open (λ r. r.marked)) f.is in
    hand_stopped g.D.Disk.honest g.D.Disk.seen g.D.Disk.image g.D.Disk.size g.D.Disk.faults old p kept c.in-Some.k f (mark ∙ sym seen_mark ∙ c.if-is_marked.false) (sym (ap (λ s. s.memory.stopped) view) ∙ c.if-self.true)

pub returns-in-Ok : goal.returns-in-Ok
returns-in-Ok g c =
    let old = c.args.self.now in
    let p : Pair = (number_of c.args.t, c.args.e.value) in
    let view = c.self.view_is in
    let kept = subst (λ (s : KvState g.row.D.Denot). IsKept g.D.Disk.honest (g.D.Disk.seen s.disk) (g.D.Disk.image s.disk) (g.D.Disk.size s.disk) s.memory) view c.self.invariant.0 in
    let q = is_record_of p in
    let seen_slots = c.slot_of.ensures ∙ ap (λ (l : Slots). position (on_open q) l) (c.deref.ensures.value ∙ ap (λ s. s.memory.slots) view) in
    let f = is_first q old.memory.slots c.in-Some.k (sym (sym c.in-Some.is ∙ seen_slots)) in
    let mark : has_marked old.memory p ≡ f.r.marked = lowest_mark p old.memory.slots c.in-Some.k f in
    let seen_mark : c.is_marked.result ≡ f.r.marked = c.is_marked.ensures ∙ ap (λ (l : Slots). on_open (λ r. r.marked) (get_or l c.in-Some.k None)) (c.deref-in-Some.ensures.value ∙ ap (λ s. s.memory.slots) view) ∙ ap (on_open (λ r. r.marked)) f.is in
    let unmarked = mark ∙ sym seen_mark ∙ c.if-is_marked.false in
    let lowest = lowest_unmarked p old.memory.slots c.in-Some.k f (sym mark ∙ unmarked) in
    hand_done g.D.Disk.honest g.D.Disk.seen g.D.Disk.image g.D.Disk.size g.D.Disk.faults old p kept c.in-Some.k lowest (sym (ap (λ s. s.memory.stopped) view) ∙ c.if-self.false) c.mark.new.self (find_first q old.memory.slots c.in-Some.k f).1 unmarked c.in-Ok.field-0 (c.in-Ok.ensures lowest.r lowest.is)

pub returns-in-Err : goal.returns-in-Err
returns-in-Err g c =
    let old = c.args.self.now in
    let p : Pair = (number_of c.args.t, c.args.e.value) in
    let view = c.self.view_is in
    let kept = subst (λ (s : KvState g.row.D.Denot). IsKept g.D.Disk.honest (g.D.Disk.seen s.disk) (g.D.Disk.image s.disk) (g.D.Disk.size s.disk) s.memory) view c.self.invariant.0 in
    let q = is_record_of p in
    let seen_slots = c.slot_of.ensures ∙ ap (λ (l : Slots). position (on_open q) l) (c.deref.ensures.value ∙ ap (λ s. s.memory.slots) view) in
    let f = is_first q old.memory.slots c.in-Some.k (sym (sym c.in-Some.is ∙ seen_slots)) in
    let mark : has_marked old.memory p ≡ f.r.marked = lowest_mark p old.memory.slots c.in-Some.k f in
    let seen_mark : c.is_marked.result ≡ f.r.marked = c.is_marked.ensures ∙ ap (λ (l : Slots). on_open (λ r. r.marked) (get_or l c.in-Some.k None)) (c.deref-in-Some.ensures.value ∙ ap (λ s. s.memory.slots) view) ∙ ap (on_open (λ r. r.marked)) f.is in
    let unmarked = mark ∙ sym seen_mark ∙ c.if-is_marked.false in
    let lowest = lowest_unmarked p old.memory.slots c.in-Some.k f (sym mark ∙ unmarked) in
    hand_broken g.D.Disk.honest g.D.Disk.seen g.D.Disk.image g.D.Disk.size g.D.Disk.faults old p kept c.in-Some.k lowest (sym (ap (λ s. s.memory.stopped) view) ∙ c.if-self.false) c.mark.new.self (find_first q old.memory.slots c.in-Some.k f).1 unmarked c.in-Err.field-0 (c.in-Err.ensures lowest.r lowest.is)

pub returns-in_default-draft_at : goal.returns-in_default-draft_at
returns-in_default-draft_at g c =
    let old = c.args.self.now in
    let p : Pair = (number_of c.args.t, c.args.e.value) in
    let view = c.self.view_is in
    let kept = subst (λ (s : KvState g.row.D.Denot). IsKept g.D.Disk.honest (g.D.Disk.seen s.disk) (g.D.Disk.image s.disk) (g.D.Disk.size s.disk) s.memory) view c.self.invariant.0 in
    let q = is_record_of p in
    let seen_slots = c.slot_of.ensures ∙ ap (λ (l : Slots). position (on_open q) l) (c.deref.ensures.value ∙ ap (λ s. s.memory.slots) view) in
    let nowhere = none_first q old.memory.slots (sym (sym c.in_default.is ∙ seen_slots)) in
    let unmarked : has_marked old.memory p ≡ false = ap is_marked_record nowhere.1 in
    let seen_draft = c.draft_at.ensures ∙ ap (λ (l : List KvDraft). position (is_draft_of p) l) (c.deref-2.ensures.value ∙ ap (λ s. s.memory.drafts) view) in
    let nobody = none_draft p old.memory.drafts 0 0 (sym (sym c.in_default-draft_at.is ∙ seen_draft)) in
    hand_nothing g.D.Disk.honest g.D.Disk.seen g.D.Disk.image g.D.Disk.size g.D.Disk.faults old p kept nowhere.0 unmarked nobody.1 nobody.2

pub returns-in_default-free_slot : goal.returns-in_default-free_slot
returns-in_default-free_slot g c =
    let old = c.args.self.now in
    let p : Pair = (number_of c.args.t, c.args.e.value) in
    let view = c.self.view_is in
    let kept = subst (λ (s : KvState g.row.D.Denot). IsKept g.D.Disk.honest (g.D.Disk.seen s.disk) (g.D.Disk.image s.disk) (g.D.Disk.size s.disk) s.memory) view c.self.invariant.0 in
    let q = is_record_of p in
    let seen_slots = c.slot_of.ensures ∙ ap (λ (l : Slots). position (on_open q) l) (c.deref.ensures.value ∙ ap (λ s. s.memory.slots) view) in
    let nowhere = none_first q old.memory.slots (sym (sym c.in_default.is ∙ seen_slots)) in
    let unmarked : has_marked old.memory p ≡ false = ap is_marked_record nowhere.1 in
    let seen_draft = c.draft_at.ensures ∙ ap (λ (l : List KvDraft). position (is_draft_of p) l) (c.deref-2.ensures.value ∙ ap (λ s. s.memory.drafts) view) in
    let at = found_draft p old.memory.drafts c.in-Some-draft_at.i (sym (sym c.in-Some-draft_at.is ∙ seen_draft)) in
    rw c.drop_draft.ensures (hand_full g.D.Disk.honest g.D.Disk.seen g.D.Disk.image g.D.Disk.size g.D.Disk.faults old p kept nowhere.0 unmarked c.in-Some-draft_at.i at.0 at.1 (sym c.free_slot.ensures ∙ c.in_default-free_slot.is))

pub returns-in-Err-store : goal.returns-in-Err-store
returns-in-Err-store g c =
    let old = c.args.self.now in
    let p : Pair = (number_of c.args.t, c.args.e.value) in
    let view = c.self.view_is in
    let kept = subst (λ (s : KvState g.row.D.Denot). IsKept g.D.Disk.honest (g.D.Disk.seen s.disk) (g.D.Disk.image s.disk) (g.D.Disk.size s.disk) s.memory) view c.self.invariant.0 in
    let q = is_record_of p in
    let seen_slots = c.slot_of.ensures ∙ ap (λ (l : Slots). position (on_open q) l) (c.deref.ensures.value ∙ ap (λ s. s.memory.slots) view) in
    let nowhere = none_first q old.memory.slots (sym (sym c.in_default.is ∙ seen_slots)) in
    let unmarked : has_marked old.memory p ≡ false = ap is_marked_record nowhere.1 in
    let seen_draft = c.draft_at.ensures ∙ ap (λ (l : List KvDraft). position (is_draft_of p) l) (c.deref-2.ensures.value ∙ ap (λ s. s.memory.drafts) view) in
    let at = found_draft p old.memory.drafts c.in-Some-draft_at.i (sym (sym c.in-Some-draft_at.is ∙ seen_draft)) in
    let room = room_is old.memory.stopped _ c.in-Some-free_slot.k (sym c.free_slot.ensures ∙ c.in-Some-free_slot.is) in
    not_handed g.D.Disk.honest g.D.Disk.seen g.D.Disk.image g.D.Disk.size g.D.Disk.faults old p kept nowhere.0 unmarked c.in-Some-draft_at.i at.0 at.1 c.in-Some-free_slot.k room.0 room.1 c.store.new.self c.in-Err-store.field-0 (c.in-Err-store.ensures at.0 at.1.is)

pub mark-requires-2-clause-up : goal.mark-requires-2-clause-up
mark-requires-2-clause-up g c =
    let old = c.args.self.now in
    let p : Pair = (number_of c.args.t, c.args.e.value) in
    let view = c.self.view_is in
    let kept = subst (λ (s : KvState g.row.D.Denot). IsKept g.D.Disk.honest (g.D.Disk.seen s.disk) (g.D.Disk.image s.disk) (g.D.Disk.size s.disk) s.memory) view c.self.invariant.0 in
    let q = is_record_of p in
    let seen_slots = c.slot_of.ensures ∙ ap (λ (l : Slots). position (on_open q) l) (c.deref.ensures.value ∙ ap (λ s. s.memory.slots) view) in
    let nowhere = none_first q old.memory.slots (sym (sym c.in_default.is ∙ seen_slots)) in
    let unmarked : has_marked old.memory p ≡ false = ap is_marked_record nowhere.1 in
    let seen_draft = c.draft_at.ensures ∙ ap (λ (l : List KvDraft). position (is_draft_of p) l) (c.deref-2.ensures.value ∙ ap (λ s. s.memory.drafts) view) in
    let at = found_draft p old.memory.drafts c.in-Some-draft_at.i (sym (sym c.in-Some-draft_at.is ∙ seen_draft)) in
    let room = room_is old.memory.stopped _ c.in-Some-free_slot.k (sym c.free_slot.ensures ∙ c.in-Some-free_slot.is) in
    let mid = c.store.new.self in
    let recorded = c.in-Ok-store.ensures at.0 at.1.is in
    let fresh = fresh_is old.memory p c.in-Some-draft_at.i at.0 at.1 in
    let there : get_or mid.memory.slots c.in-Some-free_slot.k None ≡ Some (record_with false at.0) =
    ap (λ (y : KvMemory). get_or y.slots c.in-Some-free_slot.k None) recorded.done ∙ get_or-set_same old.memory.slots c.in-Some-free_slot.k (Some (record_with false at.0)) None (omega (arith, (next_facts old.memory.slots c.in-Some-free_slot.k room.1).0, kept.many)) in
    ap (λ (y : KvMemory). y.stopped) recorded.done

pub mark-requires-2-clause-slot : goal.mark-requires-2-clause-slot
mark-requires-2-clause-slot g c =
    let old = c.args.self.now in
    let p : Pair = (number_of c.args.t, c.args.e.value) in
    let view = c.self.view_is in
    let kept = subst (λ (s : KvState g.row.D.Denot). IsKept g.D.Disk.honest (g.D.Disk.seen s.disk) (g.D.Disk.image s.disk) (g.D.Disk.size s.disk) s.memory) view c.self.invariant.0 in
    let q = is_record_of p in
    let seen_slots = c.slot_of.ensures ∙ ap (λ (l : Slots). position (on_open q) l) (c.deref.ensures.value ∙ ap (λ s. s.memory.slots) view) in
    let nowhere = none_first q old.memory.slots (sym (sym c.in_default.is ∙ seen_slots)) in
    let unmarked : has_marked old.memory p ≡ false = ap is_marked_record nowhere.1 in
    let seen_draft = c.draft_at.ensures ∙ ap (λ (l : List KvDraft). position (is_draft_of p) l) (c.deref-2.ensures.value ∙ ap (λ s. s.memory.drafts) view) in
    let at = found_draft p old.memory.drafts c.in-Some-draft_at.i (sym (sym c.in-Some-draft_at.is ∙ seen_draft)) in
    let room = room_is old.memory.stopped _ c.in-Some-free_slot.k (sym c.free_slot.ensures ∙ c.in-Some-free_slot.is) in
    let mid = c.store.new.self in
    let recorded = c.in-Ok-store.ensures at.0 at.1.is in
    let fresh = fresh_is old.memory p c.in-Some-draft_at.i at.0 at.1 in
    let there : get_or mid.memory.slots c.in-Some-free_slot.k None ≡ Some (record_with false at.0) =
    ap (λ (y : KvMemory). get_or y.slots c.in-Some-free_slot.k None) recorded.done ∙ get_or-set_same old.memory.slots c.in-Some-free_slot.k (Some (record_with false at.0)) None (omega (arith, (next_facts old.memory.slots c.in-Some-free_slot.k room.1).0, kept.many)) in
    (next_facts old.memory.slots c.in-Some-free_slot.k room.1).0

pub mark-requires-2-clause-unmarked : goal.mark-requires-2-clause-unmarked
mark-requires-2-clause-unmarked g c =
    let old = c.args.self.now in
    let p : Pair = (number_of c.args.t, c.args.e.value) in
    let view = c.self.view_is in
    let kept = subst (λ (s : KvState g.row.D.Denot). IsKept g.D.Disk.honest (g.D.Disk.seen s.disk) (g.D.Disk.image s.disk) (g.D.Disk.size s.disk) s.memory) view c.self.invariant.0 in
    let q = is_record_of p in
    let seen_slots = c.slot_of.ensures ∙ ap (λ (l : Slots). position (on_open q) l) (c.deref.ensures.value ∙ ap (λ s. s.memory.slots) view) in
    let nowhere = none_first q old.memory.slots (sym (sym c.in_default.is ∙ seen_slots)) in
    let unmarked : has_marked old.memory p ≡ false = ap is_marked_record nowhere.1 in
    let seen_draft = c.draft_at.ensures ∙ ap (λ (l : List KvDraft). position (is_draft_of p) l) (c.deref-2.ensures.value ∙ ap (λ s. s.memory.drafts) view) in
    let at = found_draft p old.memory.drafts c.in-Some-draft_at.i (sym (sym c.in-Some-draft_at.is ∙ seen_draft)) in
    let room = room_is old.memory.stopped _ c.in-Some-free_slot.k (sym c.free_slot.ensures ∙ c.in-Some-free_slot.is) in
    let mid = c.store.new.self in
    let recorded = c.in-Ok-store.ensures at.0 at.1.is in
    let fresh = fresh_is old.memory p c.in-Some-draft_at.i at.0 at.1 in
    let there : get_or mid.memory.slots c.in-Some-free_slot.k None ≡ Some (record_with false at.0) =
    ap (λ (y : KvMemory). get_or y.slots c.in-Some-free_slot.k None) recorded.done ∙ get_or-set_same old.memory.slots c.in-Some-free_slot.k (Some (record_with false at.0)) None (omega (arith, (next_facts old.memory.slots c.in-Some-free_slot.k room.1).0, kept.many)) in
    ap (on_open is_unmarked) there

pub returns-in-Ok-mark : goal.returns-in-Ok-mark
returns-in-Ok-mark g c =
    let old = c.args.self.now in
    let p : Pair = (number_of c.args.t, c.args.e.value) in
    let view = c.self.view_is in
    let kept = subst (λ (s : KvState g.row.D.Denot). IsKept g.D.Disk.honest (g.D.Disk.seen s.disk) (g.D.Disk.image s.disk) (g.D.Disk.size s.disk) s.memory) view c.self.invariant.0 in
    let q = is_record_of p in
    let seen_slots = c.slot_of.ensures ∙ ap (λ (l : Slots). position (on_open q) l) (c.deref.ensures.value ∙ ap (λ s. s.memory.slots) view) in
    let nowhere = none_first q old.memory.slots (sym (sym c.in_default.is ∙ seen_slots)) in
    let unmarked : has_marked old.memory p ≡ false = ap is_marked_record nowhere.1 in
    let seen_draft = c.draft_at.ensures ∙ ap (λ (l : List KvDraft). position (is_draft_of p) l) (c.deref-2.ensures.value ∙ ap (λ s. s.memory.drafts) view) in
    let at = found_draft p old.memory.drafts c.in-Some-draft_at.i (sym (sym c.in-Some-draft_at.is ∙ seen_draft)) in
    let room = room_is old.memory.stopped _ c.in-Some-free_slot.k (sym c.free_slot.ensures ∙ c.in-Some-free_slot.is) in
    let mid = c.store.new.self in
    let recorded = c.in-Ok-store.ensures at.0 at.1.is in
    let fresh = fresh_is old.memory p c.in-Some-draft_at.i at.0 at.1 in
    let there : get_or mid.memory.slots c.in-Some-free_slot.k None ≡ Some (record_with false at.0) =
    ap (λ (y : KvMemory). get_or y.slots c.in-Some-free_slot.k None) recorded.done ∙ get_or-set_same old.memory.slots c.in-Some-free_slot.k (Some (record_with false at.0)) None (omega (arith, (next_facts old.memory.slots c.in-Some-free_slot.k room.1).0, kept.many)) in
    let turns = subst (λ (r : KvRecord). TurnsSlot g.D.Disk.honest g.D.Disk.image g.D.Disk.faults mid c.mark-2.new.self c.in-Some-free_slot.k (Some (with_mark true r)) mid.memory.drafts mid.earlier (Ok c.in-Ok-mark.field-0)) fresh (c.in-Ok-mark.ensures (record_with false at.0) there) in
    handed g.D.Disk.honest g.D.Disk.seen g.D.Disk.image g.D.Disk.size g.D.Disk.faults old p kept nowhere.0 unmarked c.in-Some-draft_at.i at.0 at.1 c.in-Some-free_slot.k room.0 room.1 mid c.in-Ok-store.field-0 recorded c.mark-2.new.self c.in-Ok-mark.field-0 turns

pub returns-in-Err-mark : goal.returns-in-Err-mark
returns-in-Err-mark g c =
    let old = c.args.self.now in
    let p : Pair = (number_of c.args.t, c.args.e.value) in
    let view = c.self.view_is in
    let kept = subst (λ (s : KvState g.row.D.Denot). IsKept g.D.Disk.honest (g.D.Disk.seen s.disk) (g.D.Disk.image s.disk) (g.D.Disk.size s.disk) s.memory) view c.self.invariant.0 in
    let q = is_record_of p in
    let seen_slots = c.slot_of.ensures ∙ ap (λ (l : Slots). position (on_open q) l) (c.deref.ensures.value ∙ ap (λ s. s.memory.slots) view) in
    let nowhere = none_first q old.memory.slots (sym (sym c.in_default.is ∙ seen_slots)) in
    let unmarked : has_marked old.memory p ≡ false = ap is_marked_record nowhere.1 in
    let seen_draft = c.draft_at.ensures ∙ ap (λ (l : List KvDraft). position (is_draft_of p) l) (c.deref-2.ensures.value ∙ ap (λ s. s.memory.drafts) view) in
    let at = found_draft p old.memory.drafts c.in-Some-draft_at.i (sym (sym c.in-Some-draft_at.is ∙ seen_draft)) in
    let room = room_is old.memory.stopped _ c.in-Some-free_slot.k (sym c.free_slot.ensures ∙ c.in-Some-free_slot.is) in
    let mid = c.store.new.self in
    let recorded = c.in-Ok-store.ensures at.0 at.1.is in
    let fresh = fresh_is old.memory p c.in-Some-draft_at.i at.0 at.1 in
    let there : get_or mid.memory.slots c.in-Some-free_slot.k None ≡ Some (record_with false at.0) =
    ap (λ (y : KvMemory). get_or y.slots c.in-Some-free_slot.k None) recorded.done ∙ get_or-set_same old.memory.slots c.in-Some-free_slot.k (Some (record_with false at.0)) None (omega (arith, (next_facts old.memory.slots c.in-Some-free_slot.k room.1).0, kept.many)) in
    let turns = subst (λ (r : KvRecord). TurnsSlot g.D.Disk.honest g.D.Disk.image g.D.Disk.faults mid c.mark-2.new.self c.in-Some-free_slot.k (Some (with_mark true r)) mid.memory.drafts mid.earlier (Err c.in-Err-mark.field-0)) fresh (c.in-Err-mark.ensures (record_with false at.0) there) in
    half_handed g.D.Disk.honest g.D.Disk.seen g.D.Disk.image g.D.Disk.size g.D.Disk.faults old p kept nowhere.0 unmarked c.in-Some-draft_at.i at.0 at.1 c.in-Some-free_slot.k room.0 room.1 mid c.in-Ok-store.field-0 recorded c.mark-2.new.self c.in-Err-mark.field-0 turns
