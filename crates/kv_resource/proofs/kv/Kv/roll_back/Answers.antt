use Rattle.std.specs.Prelude.{position}
use Rattle.std.proofs.Common.{◌≡◌, ◌∙◌, ap, sym, subst, refl, Bool, ◌||◌, true, false, get_or, None, Result, Ok, Err}
use Rattle.outside.specs.declared.failure.Failed.{Failed}
use Rattle.dtx_values.specs.TxIds.{number_of}
use Rattle.kv_resource.specs.Images.{IsKept, TurnsSlot}
use Rattle.kv_resource.specs.Store.{KvState, Pair, has_unmarked, is_unmarked, is_unmarked_of, on_open, with_drafts, without_draft}
use Rattle.kv_resource.proofs.Finding.{Slots, is_first, no_mark, none_first}
use Rattle.kv_resource.proofs.Noting.{not_rolled_back, rollback_idle, rolled_back}
use Rattle.kv_resource.proofs.kv.Kv.roll_back.Goals as goal

-- whatever it is
always : (b : Bool) → (b || true) ≡ true
always true = refl
always false = refl

-- the work was done, or broken off
by_result : {Y : Type 0} (X : Result (Unit {0}) Failed → Type 0) → ((u : Unit {0}) → X (Ok u) → Y) → ((fl : Failed) → X (Err fl) → Y) → (r : Result (Unit {0}) Failed) → X r → Y
by_result X done failed (Ok u) x = done u x
by_result X done failed (Err fl) x = failed fl x

pub close-requires-clause-unmarked : goal.close-requires-clause-unmarked
close-requires-clause-unmarked g c =
    let old = c.args.self.now in
    let p : Pair = (number_of c.args.t, c.args.e.value) in
    let dropped = c.drop_draft.ensures in
    let mid = subst (λ (s : KvState g.row.D.Denot). IsKept g.D.Disk.honest (g.D.Disk.seen s.disk) (g.D.Disk.image s.disk) (g.D.Disk.size s.disk) s.memory) (c.self.view_is ∙ dropped) c.self.invariant.0 in
    let kept : IsKept g.D.Disk.honest (g.D.Disk.seen old.disk) (g.D.Disk.image old.disk) (g.D.Disk.size old.disk) old.memory = record { stored = mid.stored; whole = mid.whole; room = mid.room; many = mid.many } in
    let slots = ap (λ s. s.memory.slots) (c.self.view_is ∙ dropped) in
    let stopped = ap (λ s. s.memory.stopped) (c.self.view_is ∙ dropped) in
    let q = is_unmarked_of p in
    let seen_slots = c.unmarked_slot_of.ensures ∙ ap (λ (l : Slots). position (on_open q) l) (c.deref.ensures.value ∙ slots) in
    let f = is_first q old.memory.slots c.in-Some.k (sym (sym c.in-Some.is ∙ seen_slots)) in
    ap (λ s. on_open is_unmarked (get_or s.memory.slots c.in-Some.k None)) dropped ∙ ap (on_open is_unmarked) f.is ∙ no_mark p f.r f.passes

pub returns-in_default : goal.returns-in_default
returns-in_default g c =
    let old = c.args.self.now in
    let p : Pair = (number_of c.args.t, c.args.e.value) in
    let dropped = c.drop_draft.ensures in
    let mid = subst (λ (s : KvState g.row.D.Denot). IsKept g.D.Disk.honest (g.D.Disk.seen s.disk) (g.D.Disk.image s.disk) (g.D.Disk.size s.disk) s.memory) (c.self.view_is ∙ dropped) c.self.invariant.0 in
    let kept : IsKept g.D.Disk.honest (g.D.Disk.seen old.disk) (g.D.Disk.image old.disk) (g.D.Disk.size old.disk) old.memory = record { stored = mid.stored; whole = mid.whole; room = mid.room; many = mid.many } in
    let slots = ap (λ s. s.memory.slots) (c.self.view_is ∙ dropped) in
    let stopped = ap (λ s. s.memory.stopped) (c.self.view_is ∙ dropped) in
    let q = is_unmarked_of p in
    let seen_slots = c.unmarked_slot_of.ensures ∙ ap (λ (l : Slots). position (on_open q) l) (c.deref.ensures.value ∙ slots) in
    rw dropped (rollback_idle g.D.Disk.honest g.D.Disk.seen g.D.Disk.image g.D.Disk.size g.D.Disk.faults old p kept old.memory.stopped false refl (none_first q old.memory.slots (sym (sym c.in_default.is ∙ seen_slots))).0 (always old.memory.stopped))

pub returns-then-self : goal.returns-then-self
returns-then-self g c =
    let old = c.args.self.now in
    let p : Pair = (number_of c.args.t, c.args.e.value) in
    let dropped = c.drop_draft.ensures in
    let mid = subst (λ (s : KvState g.row.D.Denot). IsKept g.D.Disk.honest (g.D.Disk.seen s.disk) (g.D.Disk.image s.disk) (g.D.Disk.size s.disk) s.memory) (c.self.view_is ∙ dropped) c.self.invariant.0 in
    let kept : IsKept g.D.Disk.honest (g.D.Disk.seen old.disk) (g.D.Disk.image old.disk) (g.D.Disk.size old.disk) old.memory = record { stored = mid.stored; whole = mid.whole; room = mid.room; many = mid.many } in
    let slots = ap (λ s. s.memory.slots) (c.self.view_is ∙ dropped) in
    let stopped = ap (λ s. s.memory.stopped) (c.self.view_is ∙ dropped) in
    let q = is_unmarked_of p in
    let seen_slots = c.unmarked_slot_of.ensures ∙ ap (λ (l : Slots). position (on_open q) l) (c.deref.ensures.value ∙ slots) in
    rw dropped (rollback_idle g.D.Disk.honest g.D.Disk.seen g.D.Disk.image g.D.Disk.size g.D.Disk.faults old p kept true (has_unmarked old.memory p) (sym stopped ∙ c.if-self.true) refl refl)

pub returns : goal.returns
returns g c =
    let old = c.args.self.now in
    let p : Pair = (number_of c.args.t, c.args.e.value) in
    let dropped = c.drop_draft.ensures in
    let mid = subst (λ (s : KvState g.row.D.Denot). IsKept g.D.Disk.honest (g.D.Disk.seen s.disk) (g.D.Disk.image s.disk) (g.D.Disk.size s.disk) s.memory) (c.self.view_is ∙ dropped) c.self.invariant.0 in
    let kept : IsKept g.D.Disk.honest (g.D.Disk.seen old.disk) (g.D.Disk.image old.disk) (g.D.Disk.size old.disk) old.memory = record { stored = mid.stored; whole = mid.whole; room = mid.room; many = mid.many } in
    let slots = ap (λ s. s.memory.slots) (c.self.view_is ∙ dropped) in
    let stopped = ap (λ s. s.memory.stopped) (c.self.view_is ∙ dropped) in
    let q = is_unmarked_of p in
    let seen_slots = c.unmarked_slot_of.ensures ∙ ap (λ (l : Slots). position (on_open q) l) (c.deref.ensures.value ∙ slots) in
    let f = is_first q old.memory.slots c.in-Some.k (sym (sym c.in-Some.is ∙ seen_slots)) in
    let turns = subst (λ (s : KvState g.row.D.Denot). TurnsSlot g.D.Disk.honest g.D.Disk.image g.D.Disk.faults s c.close.new.self c.in-Some.k None s.memory.drafts s.earlier c.close.result) dropped c.close.ensures in
    by_result (λ (r : Result (Unit {0}) Failed). TurnsSlot g.D.Disk.honest g.D.Disk.image g.D.Disk.faults (with_drafts (without_draft p old.memory.drafts) old) c.close.new.self c.in-Some.k None (without_draft p old.memory.drafts) old.earlier r)
    (λ u. rolled_back g.D.Disk.honest g.D.Disk.seen g.D.Disk.image g.D.Disk.size g.D.Disk.faults old p kept c.in-Some.k f (sym stopped ∙ c.if-self.false) c.close.new.self u) (λ fl. not_rolled_back g.D.Disk.honest g.D.Disk.seen g.D.Disk.image g.D.Disk.size g.D.Disk.faults old p kept c.in-Some.k f (sym stopped ∙ c.if-self.false) c.close.new.self fl) c.close.result turns
