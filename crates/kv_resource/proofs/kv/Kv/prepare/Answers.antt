use Rattle.std.specs.Prelude.{position}
use Rattle.std.proofs.Common.{◌≡◌, ◌∙◌, ap, sym, subst, refl, true, false, get_or, List, None}
use Rattle.dtx_values.specs.TxIds.{number_of}
use Rattle.kv_resource.specs.Images.{IsKept}
use Rattle.kv_resource.specs.Store.{KvDraft, KvState, Pair, has_marked, is_draft_of, is_marked_record, is_record_of, on_open}
use Rattle.kv_resource.proofs.Finding.{Slots, found_draft, is_first, lowest_mark, next_facts, none_draft, none_first}
use Rattle.kv_resource.proofs.Noting.{not_prepared, prepare_full, prepare_nothing, prepare_slot, prepared, room_is}
use Rattle.kv_resource.proofs.kv.Kv.prepare.Goals as goal

pub store-requires-clause-up : goal.store-requires-clause-up
store-requires-clause-up g c =
    let old = c.args.self.now in
    let p : Pair = (number_of c.args.t, c.args.e.value) in
    let view = c.self.view_is in
    let kept = subst (λ (s : KvState g.row.D.Denot). IsKept g.D.Disk.honest (g.D.Disk.seen s.disk) (g.D.Disk.image s.disk) (g.D.Disk.size s.disk) s.memory) view c.self.invariant.0 in
    let q = is_record_of p in
    let seen_slots = c.slot_of.ensures ∙ ap (λ (l : Slots). position (on_open q) l) (c.deref.ensures.value ∙ ap (λ s. s.memory.slots) view) in
    let nowhere = none_first q old.memory.slots (sym (sym c.in_default.is ∙ seen_slots)) in
    let unmarked : has_marked old.memory p ≡ false = ap is_marked_record nowhere.1 in
    let seen_draft = c.draft_at.ensures ∙ ap (λ (l : List KvDraft). position (is_draft_of p) l) (c.deref-2.ensures.value ∙ ap (λ s. s.memory.drafts) view) in
    let at = found_draft p old.memory.drafts c.in-Some-draft_at.i (sym (sym c.in-Some-draft_at.is ∙ seen_draft)) in
    let room = room_is old.memory.stopped _ c.in-Some-free_slot.k (sym c.free_slot.ensures ∙ c.in-Some-free_slot.is) in
    room.0

pub store-requires-clause-draft : goal.store-requires-clause-draft
store-requires-clause-draft g c =
    let old = c.args.self.now in
    let p : Pair = (number_of c.args.t, c.args.e.value) in
    let view = c.self.view_is in
    let kept = subst (λ (s : KvState g.row.D.Denot). IsKept g.D.Disk.honest (g.D.Disk.seen s.disk) (g.D.Disk.image s.disk) (g.D.Disk.size s.disk) s.memory) view c.self.invariant.0 in
    let q = is_record_of p in
    let seen_slots = c.slot_of.ensures ∙ ap (λ (l : Slots). position (on_open q) l) (c.deref.ensures.value ∙ ap (λ s. s.memory.slots) view) in
    let nowhere = none_first q old.memory.slots (sym (sym c.in_default.is ∙ seen_slots)) in
    let unmarked : has_marked old.memory p ≡ false = ap is_marked_record nowhere.1 in
    let seen_draft = c.draft_at.ensures ∙ ap (λ (l : List KvDraft). position (is_draft_of p) l) (c.deref-2.ensures.value ∙ ap (λ s. s.memory.drafts) view) in
    let at = found_draft p old.memory.drafts c.in-Some-draft_at.i (sym (sym c.in-Some-draft_at.is ∙ seen_draft)) in
    let room = room_is old.memory.stopped _ c.in-Some-free_slot.k (sym c.free_slot.ensures ∙ c.in-Some-free_slot.is) in
    at.1.inside

pub store-requires-clause-slot : goal.store-requires-clause-slot
store-requires-clause-slot g c =
    let old = c.args.self.now in
    let p : Pair = (number_of c.args.t, c.args.e.value) in
    let view = c.self.view_is in
    let kept = subst (λ (s : KvState g.row.D.Denot). IsKept g.D.Disk.honest (g.D.Disk.seen s.disk) (g.D.Disk.image s.disk) (g.D.Disk.size s.disk) s.memory) view c.self.invariant.0 in
    let q = is_record_of p in
    let seen_slots = c.slot_of.ensures ∙ ap (λ (l : Slots). position (on_open q) l) (c.deref.ensures.value ∙ ap (λ s. s.memory.slots) view) in
    let nowhere = none_first q old.memory.slots (sym (sym c.in_default.is ∙ seen_slots)) in
    let unmarked : has_marked old.memory p ≡ false = ap is_marked_record nowhere.1 in
    let seen_draft = c.draft_at.ensures ∙ ap (λ (l : List KvDraft). position (is_draft_of p) l) (c.deref-2.ensures.value ∙ ap (λ s. s.memory.drafts) view) in
    let at = found_draft p old.memory.drafts c.in-Some-draft_at.i (sym (sym c.in-Some-draft_at.is ∙ seen_draft)) in
    let room = room_is old.memory.stopped _ c.in-Some-free_slot.k (sym c.free_slot.ensures ∙ c.in-Some-free_slot.is) in
    (next_facts old.memory.slots c.in-Some-free_slot.k room.1).0

pub store-requires-clause-closed : goal.store-requires-clause-closed
store-requires-clause-closed g c =
    let old = c.args.self.now in
    let p : Pair = (number_of c.args.t, c.args.e.value) in
    let view = c.self.view_is in
    let kept = subst (λ (s : KvState g.row.D.Denot). IsKept g.D.Disk.honest (g.D.Disk.seen s.disk) (g.D.Disk.image s.disk) (g.D.Disk.size s.disk) s.memory) view c.self.invariant.0 in
    let q = is_record_of p in
    let seen_slots = c.slot_of.ensures ∙ ap (λ (l : Slots). position (on_open q) l) (c.deref.ensures.value ∙ ap (λ s. s.memory.slots) view) in
    let nowhere = none_first q old.memory.slots (sym (sym c.in_default.is ∙ seen_slots)) in
    let unmarked : has_marked old.memory p ≡ false = ap is_marked_record nowhere.1 in
    let seen_draft = c.draft_at.ensures ∙ ap (λ (l : List KvDraft). position (is_draft_of p) l) (c.deref-2.ensures.value ∙ ap (λ s. s.memory.drafts) view) in
    let at = found_draft p old.memory.drafts c.in-Some-draft_at.i (sym (sym c.in-Some-draft_at.is ∙ seen_draft)) in
    let room = room_is old.memory.stopped _ c.in-Some-free_slot.k (sym c.free_slot.ensures ∙ c.in-Some-free_slot.is) in
    (next_facts old.memory.slots c.in-Some-free_slot.k room.1).1

pub returns-then-is_marked : goal.returns-then-is_marked
returns-then-is_marked g c =
    let old = c.args.self.now in
    let p : Pair = (number_of c.args.t, c.args.e.value) in
    let view = c.self.view_is in
    let kept = subst (λ (s : KvState g.row.D.Denot). IsKept g.D.Disk.honest (g.D.Disk.seen s.disk) (g.D.Disk.image s.disk) (g.D.Disk.size s.disk) s.memory) view c.self.invariant.0 in
    let q = is_record_of p in
    let seen_slots = c.slot_of.ensures ∙ ap (λ (l : Slots). position (on_open q) l) (c.deref.ensures.value ∙ ap (λ s. s.memory.slots) view) in
    let f = is_first q old.memory.slots c.in-Some.k (sym (sym c.in-Some.is ∙ seen_slots)) in
    let mark : has_marked old.memory p ≡ f.r.marked = lowest_mark p old.memory.slots c.in-Some.k f in
    let seen_mark : c.is_marked.result ≡ f.r.marked = c.is_marked.ensures ∙ ap (λ (l : Slots). on_open (λ r. r.marked) (get_or l c.in-Some.k None)) (c.deref-in-Some.ensures.value ∙ ap (λ s. s.memory.slots) view) ∙ ap (on_open (λ r. r.marked)) f.is in
    prepare_slot g.D.Disk.honest g.D.Disk.seen g.D.Disk.image g.D.Disk.size g.D.Disk.faults old p kept c.in-Some.k f true old.memory.stopped (mark ∙ sym seen_mark ∙ c.if-is_marked.true) refl

pub returns-then-self : goal.returns-then-self
returns-then-self g c =
    let old = c.args.self.now in
    let p : Pair = (number_of c.args.t, c.args.e.value) in
    let view = c.self.view_is in
    let kept = subst (λ (s : KvState g.row.D.Denot). IsKept g.D.Disk.honest (g.D.Disk.seen s.disk) (g.D.Disk.image s.disk) (g.D.Disk.size s.disk) s.memory) view c.self.invariant.0 in
    let q = is_record_of p in
    let seen_slots = c.slot_of.ensures ∙ ap (λ (l : Slots). position (on_open q) l) (c.deref.ensures.value ∙ ap (λ s. s.memory.slots) view) in
    let f = is_first q old.memory.slots c.in-Some.k (sym (sym c.in-Some.is ∙ seen_slots)) in
    let mark : has_marked old.memory p ≡ f.r.marked = lowest_mark p old.memory.slots c.in-Some.k f in
    let seen_mark : c.is_marked.result ≡ f.r.marked = c.is_marked.ensures ∙ ap (λ (l : Slots). on_open (λ r. r.marked) (get_or l c.in-Some.k None)) (c.deref-in-Some.ensures.value ∙ ap (λ s. s.memory.slots) view) ∙ ap (on_open (λ r. r.marked)) f.is in
    prepare_slot g.D.Disk.honest g.D.Disk.seen g.D.Disk.image g.D.Disk.size g.D.Disk.faults old p kept c.in-Some.k f false true (mark ∙ sym seen_mark ∙ c.if-is_marked.false) (sym (ap (λ s. s.memory.stopped) view) ∙ c.if-self.true)

pub returns-in-Some : goal.returns-in-Some
returns-in-Some g c =
    let old = c.args.self.now in
    let p : Pair = (number_of c.args.t, c.args.e.value) in
    let view = c.self.view_is in
    let kept = subst (λ (s : KvState g.row.D.Denot). IsKept g.D.Disk.honest (g.D.Disk.seen s.disk) (g.D.Disk.image s.disk) (g.D.Disk.size s.disk) s.memory) view c.self.invariant.0 in
    let q = is_record_of p in
    let seen_slots = c.slot_of.ensures ∙ ap (λ (l : Slots). position (on_open q) l) (c.deref.ensures.value ∙ ap (λ s. s.memory.slots) view) in
    let f = is_first q old.memory.slots c.in-Some.k (sym (sym c.in-Some.is ∙ seen_slots)) in
    let mark : has_marked old.memory p ≡ f.r.marked = lowest_mark p old.memory.slots c.in-Some.k f in
    let seen_mark : c.is_marked.result ≡ f.r.marked = c.is_marked.ensures ∙ ap (λ (l : Slots). on_open (λ r. r.marked) (get_or l c.in-Some.k None)) (c.deref-in-Some.ensures.value ∙ ap (λ s. s.memory.slots) view) ∙ ap (on_open (λ r. r.marked)) f.is in
    prepare_slot g.D.Disk.honest g.D.Disk.seen g.D.Disk.image g.D.Disk.size g.D.Disk.faults old p kept c.in-Some.k f false false (mark ∙ sym seen_mark ∙ c.if-is_marked.false) (sym (ap (λ s. s.memory.stopped) view) ∙ c.if-self.false)

pub returns-in_default-draft_at : goal.returns-in_default-draft_at
returns-in_default-draft_at g c =
    let old = c.args.self.now in
    let p : Pair = (number_of c.args.t, c.args.e.value) in
    let view = c.self.view_is in
    let kept = subst (λ (s : KvState g.row.D.Denot). IsKept g.D.Disk.honest (g.D.Disk.seen s.disk) (g.D.Disk.image s.disk) (g.D.Disk.size s.disk) s.memory) view c.self.invariant.0 in
    let q = is_record_of p in
    let seen_slots = c.slot_of.ensures ∙ ap (λ (l : Slots). position (on_open q) l) (c.deref.ensures.value ∙ ap (λ s. s.memory.slots) view) in
    let nowhere = none_first q old.memory.slots (sym (sym c.in_default.is ∙ seen_slots)) in
    let unmarked : has_marked old.memory p ≡ false = ap is_marked_record nowhere.1 in
    let seen_draft = c.draft_at.ensures ∙ ap (λ (l : List KvDraft). position (is_draft_of p) l) (c.deref-2.ensures.value ∙ ap (λ s. s.memory.drafts) view) in
    let nobody = none_draft p old.memory.drafts 0 0 (sym (sym c.in_default-draft_at.is ∙ seen_draft)) in
    prepare_nothing g.D.Disk.honest g.D.Disk.seen g.D.Disk.image g.D.Disk.size g.D.Disk.faults old p kept nowhere.0 unmarked nobody.1 nobody.2

pub returns-in_default-free_slot : goal.returns-in_default-free_slot
returns-in_default-free_slot g c =
    let old = c.args.self.now in
    let p : Pair = (number_of c.args.t, c.args.e.value) in
    let view = c.self.view_is in
    let kept = subst (λ (s : KvState g.row.D.Denot). IsKept g.D.Disk.honest (g.D.Disk.seen s.disk) (g.D.Disk.image s.disk) (g.D.Disk.size s.disk) s.memory) view c.self.invariant.0 in
    let q = is_record_of p in
    let seen_slots = c.slot_of.ensures ∙ ap (λ (l : Slots). position (on_open q) l) (c.deref.ensures.value ∙ ap (λ s. s.memory.slots) view) in
    let nowhere = none_first q old.memory.slots (sym (sym c.in_default.is ∙ seen_slots)) in
    let unmarked : has_marked old.memory p ≡ false = ap is_marked_record nowhere.1 in
    let seen_draft = c.draft_at.ensures ∙ ap (λ (l : List KvDraft). position (is_draft_of p) l) (c.deref-2.ensures.value ∙ ap (λ s. s.memory.drafts) view) in
    let at = found_draft p old.memory.drafts c.in-Some-draft_at.i (sym (sym c.in-Some-draft_at.is ∙ seen_draft)) in
    rw c.drop_draft.ensures (prepare_full g.D.Disk.honest g.D.Disk.seen g.D.Disk.image g.D.Disk.size g.D.Disk.faults old p kept nowhere.0 unmarked c.in-Some-draft_at.i at.0 at.1 (sym c.free_slot.ensures ∙ c.in_default-free_slot.is))

pub returns-in-Ok : goal.returns-in-Ok
returns-in-Ok g c =
    let old = c.args.self.now in
    let p : Pair = (number_of c.args.t, c.args.e.value) in
    let view = c.self.view_is in
    let kept = subst (λ (s : KvState g.row.D.Denot). IsKept g.D.Disk.honest (g.D.Disk.seen s.disk) (g.D.Disk.image s.disk) (g.D.Disk.size s.disk) s.memory) view c.self.invariant.0 in
    let q = is_record_of p in
    let seen_slots = c.slot_of.ensures ∙ ap (λ (l : Slots). position (on_open q) l) (c.deref.ensures.value ∙ ap (λ s. s.memory.slots) view) in
    let nowhere = none_first q old.memory.slots (sym (sym c.in_default.is ∙ seen_slots)) in
    let unmarked : has_marked old.memory p ≡ false = ap is_marked_record nowhere.1 in
    let seen_draft = c.draft_at.ensures ∙ ap (λ (l : List KvDraft). position (is_draft_of p) l) (c.deref-2.ensures.value ∙ ap (λ s. s.memory.drafts) view) in
    let at = found_draft p old.memory.drafts c.in-Some-draft_at.i (sym (sym c.in-Some-draft_at.is ∙ seen_draft)) in
    let room = room_is old.memory.stopped _ c.in-Some-free_slot.k (sym c.free_slot.ensures ∙ c.in-Some-free_slot.is) in
    prepared g.D.Disk.honest g.D.Disk.seen g.D.Disk.image g.D.Disk.size g.D.Disk.faults old p kept nowhere.0 unmarked c.in-Some-draft_at.i at.0 at.1 c.in-Some-free_slot.k room.0 room.1 c.store.new.self c.in-Ok.field-0 (c.in-Ok.ensures at.0 at.1.is)

pub returns-in-Err : goal.returns-in-Err
returns-in-Err g c =
    let old = c.args.self.now in
    let p : Pair = (number_of c.args.t, c.args.e.value) in
    let view = c.self.view_is in
    let kept = subst (λ (s : KvState g.row.D.Denot). IsKept g.D.Disk.honest (g.D.Disk.seen s.disk) (g.D.Disk.image s.disk) (g.D.Disk.size s.disk) s.memory) view c.self.invariant.0 in
    let q = is_record_of p in
    let seen_slots = c.slot_of.ensures ∙ ap (λ (l : Slots). position (on_open q) l) (c.deref.ensures.value ∙ ap (λ s. s.memory.slots) view) in
    let nowhere = none_first q old.memory.slots (sym (sym c.in_default.is ∙ seen_slots)) in
    let unmarked : has_marked old.memory p ≡ false = ap is_marked_record nowhere.1 in
    let seen_draft = c.draft_at.ensures ∙ ap (λ (l : List KvDraft). position (is_draft_of p) l) (c.deref-2.ensures.value ∙ ap (λ s. s.memory.drafts) view) in
    let at = found_draft p old.memory.drafts c.in-Some-draft_at.i (sym (sym c.in-Some-draft_at.is ∙ seen_draft)) in
    let room = room_is old.memory.stopped _ c.in-Some-free_slot.k (sym c.free_slot.ensures ∙ c.in-Some-free_slot.is) in
    rw c.drop_draft-in-Err.ensures (not_prepared g.D.Disk.honest g.D.Disk.seen g.D.Disk.image g.D.Disk.size g.D.Disk.faults old p kept nowhere.0 unmarked c.in-Some-draft_at.i at.0 at.1 c.in-Some-free_slot.k room.0 room.1 c.store.new.self c.in-Err.field-0 (c.in-Err.ensures at.0 at.1.is))
