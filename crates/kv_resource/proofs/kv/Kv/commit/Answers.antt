use Rattle.std.specs.Prelude.{position}
use Rattle.std.proofs.Common.{◌∙◌, ap, sym, subst}
use Rattle.dtx_values.specs.TxIds.{number_of}
use Rattle.kv_resource.specs.Images.{IsKept}
use Rattle.kv_resource.specs.Store.{KvState, Pair, is_unmarked, is_unmarked_of, on_open}
use Rattle.kv_resource.proofs.Finding.{Slots, find_first, is_first, no_mark, none_first}
use Rattle.kv_resource.proofs.Noting.{commit_nothing, commit_stopped, committed, uncommitted}
use Rattle.kv_resource.proofs.kv.Kv.commit.Goals as goal

pub mark-requires-clause-unmarked : goal.mark-requires-clause-unmarked
mark-requires-clause-unmarked g c =
    let old = c.args.self.now in
    let p : Pair = (number_of c.args.t, c.args.e.value) in
    let view = c.self.view_is in
    let kept = subst (λ (s : KvState g.row.D.Denot). IsKept g.D.Disk.honest (g.D.Disk.seen s.disk) (g.D.Disk.image s.disk) (g.D.Disk.size s.disk) s.memory) view c.self.invariant.0 in
    let q = is_unmarked_of p in
    let seen_slots = c.unmarked_slot_of.ensures ∙ ap (λ (l : Slots). position (on_open q) l) (c.deref.ensures.value ∙ ap (λ s. s.memory.slots) view) in
    let f = is_first q old.memory.slots c.in-Some.k (sym (sym c.in-Some.is ∙ seen_slots)) in
    ap (on_open is_unmarked) f.is ∙ no_mark p f.r f.passes

pub returns-in_default : goal.returns-in_default
returns-in_default g c =
    let old = c.args.self.now in
    let p : Pair = (number_of c.args.t, c.args.e.value) in
    let view = c.self.view_is in
    let kept = subst (λ (s : KvState g.row.D.Denot). IsKept g.D.Disk.honest (g.D.Disk.seen s.disk) (g.D.Disk.image s.disk) (g.D.Disk.size s.disk) s.memory) view c.self.invariant.0 in
    let q = is_unmarked_of p in
    let seen_slots = c.unmarked_slot_of.ensures ∙ ap (λ (l : Slots). position (on_open q) l) (c.deref.ensures.value ∙ ap (λ s. s.memory.slots) view) in
    commit_nothing g.D.Disk.honest g.D.Disk.seen g.D.Disk.image g.D.Disk.size g.D.Disk.faults old p kept (none_first q old.memory.slots (sym (sym c.in_default.is ∙ seen_slots))).0

pub returns-then-self : goal.returns-then-self
returns-then-self g c =
    let old = c.args.self.now in
    let p : Pair = (number_of c.args.t, c.args.e.value) in
    let view = c.self.view_is in
    let kept = subst (λ (s : KvState g.row.D.Denot). IsKept g.D.Disk.honest (g.D.Disk.seen s.disk) (g.D.Disk.image s.disk) (g.D.Disk.size s.disk) s.memory) view c.self.invariant.0 in
    let q = is_unmarked_of p in
    let seen_slots = c.unmarked_slot_of.ensures ∙ ap (λ (l : Slots). position (on_open q) l) (c.deref.ensures.value ∙ ap (λ s. s.memory.slots) view) in
    let f = is_first q old.memory.slots c.in-Some.k (sym (sym c.in-Some.is ∙ seen_slots)) in
    commit_stopped g.D.Disk.honest g.D.Disk.seen g.D.Disk.image g.D.Disk.size g.D.Disk.faults old p kept (find_first q old.memory.slots c.in-Some.k f).1 (sym (ap (λ s. s.memory.stopped) view) ∙ c.if-self.true)

pub returns-in-Ok : goal.returns-in-Ok
returns-in-Ok g c =
    let old = c.args.self.now in
    let p : Pair = (number_of c.args.t, c.args.e.value) in
    let view = c.self.view_is in
    let kept = subst (λ (s : KvState g.row.D.Denot). IsKept g.D.Disk.honest (g.D.Disk.seen s.disk) (g.D.Disk.image s.disk) (g.D.Disk.size s.disk) s.memory) view c.self.invariant.0 in
    let q = is_unmarked_of p in
    let seen_slots = c.unmarked_slot_of.ensures ∙ ap (λ (l : Slots). position (on_open q) l) (c.deref.ensures.value ∙ ap (λ s. s.memory.slots) view) in
    let f = is_first q old.memory.slots c.in-Some.k (sym (sym c.in-Some.is ∙ seen_slots)) in
    committed g.D.Disk.honest g.D.Disk.seen g.D.Disk.image g.D.Disk.size g.D.Disk.faults old p kept c.in-Some.k f (sym (ap (λ s. s.memory.stopped) view) ∙ c.if-self.false) c.mark.new.self c.in-Ok.field-0 (c.in-Ok.ensures f.r f.is)

pub returns-in-Err : goal.returns-in-Err
returns-in-Err g c =
    let old = c.args.self.now in
    let p : Pair = (number_of c.args.t, c.args.e.value) in
    let view = c.self.view_is in
    let kept = subst (λ (s : KvState g.row.D.Denot). IsKept g.D.Disk.honest (g.D.Disk.seen s.disk) (g.D.Disk.image s.disk) (g.D.Disk.size s.disk) s.memory) view c.self.invariant.0 in
    let q = is_unmarked_of p in
    let seen_slots = c.unmarked_slot_of.ensures ∙ ap (λ (l : Slots). position (on_open q) l) (c.deref.ensures.value ∙ ap (λ s. s.memory.slots) view) in
    let f = is_first q old.memory.slots c.in-Some.k (sym (sym c.in-Some.is ∙ seen_slots)) in
    uncommitted g.D.Disk.honest g.D.Disk.seen g.D.Disk.image g.D.Disk.size g.D.Disk.faults old p kept c.in-Some.k f (sym (ap (λ s. s.memory.stopped) view) ∙ c.if-self.false) c.mark.new.self c.in-Err.field-0 (c.in-Err.ensures f.r f.is)
