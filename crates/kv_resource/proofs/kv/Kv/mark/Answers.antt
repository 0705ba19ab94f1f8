use Rattle.std.proofs.Common.{◌≡◌, ◌∙◌, ◌++◌, ap, sym, subst, true, ℕ, vec_capacity, None, Some, Option, get_or, set, take, drop, length}
use Rattle.std.proofs.lemmas.List.{length-set, take_at}
use Rattle.kv_resource.specs.Bytes.{KvRecord, with_mark}
use Rattle.kv_resource.specs.Store.{KvMemory, is_unmarked, on_open}
use Rattle.kv_resource.specs.Table.{IsTabled}
use Rattle.kv_resource.proofs.Finding.{Slots, open_is}
use Rattle.kv_resource.proofs.Turning.{AtSlot, broken, kept_stopped, kept_turned, on_disk, only, turned}
use Rattle.kv_resource.proofs.Under.{no_mark}
use Rattle.kv_resource.proofs.kv.Kv.mark.Goals as goal

-- a record that is there is the one that is there
same_record : (s : Option KvRecord) (q r : KvRecord) → s ≡ Some q → s ≡ Some r → q ≡ r
same_record s q r e f = cc

-- a Vec whose slice was written
written : (xs ys zs : Slots) (n : ℕ) → n ≡ length xs → ys ≡ zs → length zs ≡ length xs → take n (ys ++ drop (length ys) xs) ≡ zs
written xs ys zs n all is long = take_at ys (drop (length ys) xs) n (ap length is ∙ long ∙ sym all) ∙ is

pub invariant_of-self : goal.invariant_of-self
invariant_of-self g c =
    let m : KvMemory = record { slots = c.self.inside.slots.items; drafts = c.self.inside.drafts.items; stopped = c.self.inside.stopped } in
    let at : AtSlot g.D.Disk.honest g.D.Disk.seen g.D.Disk.image g.D.Disk.size g.D.Disk.faults c.self.inside.disk c.mark-result.new.disk m c.args.k = record { kept = c.self.invariant.0; up = ap (λ s. s.memory.stopped) c.self.view_is ∙ c.requires.up; lt = c.requires.slot } in
    let o = open_is is_unmarked (get_or m.slots c.args.k None) (ap (λ s. on_open is_unmarked (get_or s.memory.slots c.args.k None)) c.self.view_is ∙ c.requires.unmarked) in
    let marked : c.mark_slot.new.slots ≡ set m.slots c.args.k (Some (with_mark true o.0)) =
    c.mark_slot.ensures o.0 (ap (λ (l : Slots). get_or l c.args.k None) c.deref_mut.ensures.value ∙ o.1) ∙ ap (λ (l : Slots). set l c.args.k (Some (with_mark true o.0))) c.deref_mut.ensures.value in
    let is = written m.slots c.mark_slot.new.slots (set m.slots c.args.k (Some (with_mark true o.0))) c.self.inside.slots.len c.self.inside.slots.ok.0 marked (length-set m.slots c.args.k (Some (with_mark true o.0))) in
    let seen = c.deref.ensures.value in
    let rows = c.put_marked.ensures o.0 (ap (λ (l : Slots). get_or l c.args.k None) seen ∙ o.1) in
    let tabled = subst (λ (l : Slots). IsTabled c.put_marked.new.rows.items (vec_capacity c.put_marked.new.rows) l) (ap (λ (l : Slots). set l c.args.k (Some (with_mark true o.0))) seen ∙ sym is) rows in
    (kept_turned at (Some (with_mark true o.0)) c.in-Ok.field-0 (λ h. c.in-Ok.ensures.puts h (only at h) o.0 (on_disk at h (Some o.0) o.1) (no_mark (Some o.0) o.2)) c.in-Ok.ensures.works _ m.drafts is, tabled)

pub invariant_of-self-in-Err : goal.invariant_of-self-in-Err
invariant_of-self-in-Err g c =
    let m : KvMemory = record { slots = c.self.inside.slots.items; drafts = c.self.inside.drafts.items; stopped = c.self.inside.stopped } in
    let at : AtSlot g.D.Disk.honest g.D.Disk.seen g.D.Disk.image g.D.Disk.size g.D.Disk.faults c.self.inside.disk c.mark-result.new.disk m c.args.k = record { kept = c.self.invariant.0; up = ap (λ s. s.memory.stopped) c.self.view_is ∙ c.requires.up; lt = c.requires.slot } in
    let o = open_is is_unmarked (get_or m.slots c.args.k None) (ap (λ s. on_open is_unmarked (get_or s.memory.slots c.args.k None)) c.self.view_is ∙ c.requires.unmarked) in
    (kept_stopped at (Some (with_mark true o.0)) _ (λ h. c.in-Err.ensures.puts h (only at h) o.0 (on_disk at h (Some o.0) o.1) (no_mark (Some o.0) o.2)) c.in-Err.ensures.works m.drafts, c.self.invariant.1)

pub returns-in-Ok : goal.returns-in-Ok
returns-in-Ok g c r e =
    let m : KvMemory = record { slots = c.self.inside.slots.items; drafts = c.self.inside.drafts.items; stopped = c.self.inside.stopped } in
    let at : AtSlot g.D.Disk.honest g.D.Disk.seen g.D.Disk.image g.D.Disk.size g.D.Disk.faults c.self.inside.disk c.mark-result.new.disk m c.args.k = record { kept = c.self.invariant.0; up = ap (λ s. s.memory.stopped) c.self.view_is ∙ c.requires.up; lt = c.requires.slot } in
    let o = open_is is_unmarked (get_or m.slots c.args.k None) (ap (λ s. on_open is_unmarked (get_or s.memory.slots c.args.k None)) c.self.view_is ∙ c.requires.unmarked) in
    let same : r ≡ o.0 = same_record (get_or m.slots c.args.k None) r o.0 (ap (λ s. get_or s.memory.slots c.args.k None) c.self.view_is ∙ e) o.1 in
    let marked : c.mark_slot.new.slots ≡ set m.slots c.args.k (Some (with_mark true o.0)) =
    c.mark_slot.ensures o.0 (ap (λ (l : Slots). get_or l c.args.k None) c.deref_mut.ensures.value ∙ o.1) ∙ ap (λ (l : Slots). set l c.args.k (Some (with_mark true o.0))) c.deref_mut.ensures.value in
    let is = written m.slots c.mark_slot.new.slots (set m.slots c.args.k (Some (with_mark true o.0))) c.self.inside.slots.len c.self.inside.slots.ok.0 marked (length-set m.slots c.args.k (Some (with_mark true o.0))) in
    rw (← c.self.view_is, c.in-Ok.is, same) (turned at (Some (with_mark true o.0)) c.in-Ok.field-0 (λ h. c.in-Ok.ensures.puts h (only at h) o.0 (on_disk at h (Some o.0) o.1) (no_mark (Some o.0) o.2)) c.in-Ok.ensures.works _ m.drafts is _ _)

pub returns-in-Err : goal.returns-in-Err
returns-in-Err g c r e =
    let m : KvMemory = record { slots = c.self.inside.slots.items; drafts = c.self.inside.drafts.items; stopped = c.self.inside.stopped } in
    let at : AtSlot g.D.Disk.honest g.D.Disk.seen g.D.Disk.image g.D.Disk.size g.D.Disk.faults c.self.inside.disk c.mark-result.new.disk m c.args.k = record { kept = c.self.invariant.0; up = ap (λ s. s.memory.stopped) c.self.view_is ∙ c.requires.up; lt = c.requires.slot } in
    let o = open_is is_unmarked (get_or m.slots c.args.k None) (ap (λ s. on_open is_unmarked (get_or s.memory.slots c.args.k None)) c.self.view_is ∙ c.requires.unmarked) in
    let same : r ≡ o.0 = same_record (get_or m.slots c.args.k None) r o.0 (ap (λ s. get_or s.memory.slots c.args.k None) c.self.view_is ∙ e) o.1 in
    rw (← c.self.view_is, c.in-Err.is, same) (broken at (Some (with_mark true o.0)) c.in-Err.field-0 (λ h. c.in-Err.ensures.puts h (only at h) o.0 (on_disk at h (Some o.0) o.1) (no_mark (Some o.0) o.2)) c.in-Err.ensures.works m.drafts _ _)

pub put_marked-requires-clause-unmarked : goal.put_marked-requires-clause-unmarked
put_marked-requires-clause-unmarked g c =
    ap (λ (l : Slots). on_open is_unmarked (get_or l c.args.k None)) c.deref.ensures.value ∙ ap (λ s. on_open is_unmarked (get_or s.memory.slots c.args.k None)) c.self.view_is ∙ c.requires.unmarked

pub put_marked-requires-clause-tabled : goal.put_marked-requires-clause-tabled
put_marked-requires-clause-tabled g c = subst (λ (l : Slots). IsTabled c.self.inside.table.items (vec_capacity c.self.inside.table) l) (sym c.deref.ensures.value) c.self.invariant.1
