use Rattle.std.proofs.Common.{◌≡◌, ◌<◌, ◌∙◌, ap, sym, arith, ℕ, zero, suc, [], ◌∷◌, false, None, Some, List, get_or, set, length}
use Rattle.kv_resource.specs.Bytes.{KvRecord}
use Rattle.kv_resource.specs.Notes.{record_with}
use Rattle.kv_resource.specs.Store.{KvDraft, KvMemory}
use Rattle.kv_resource.specs.Table.{is_marked_slot}
use Rattle.kv_resource.proofs.Turning.{AtSlot, broken, kept_stopped, kept_turned, on_disk, only, turned}
use Rattle.kv_resource.proofs.Under.{stays_tabled}
use Rattle.kv_resource.proofs.kv.Kv.store.Goals as goal

-- what stands at a place of a list, whatever it is read with
one_draft : (ds : List KvDraft) (i : ℕ) (d e : KvDraft) → i < length ds → d ≡ get_or ds i d → e ≡ get_or ds i e → d ≡ e
one_draft [] i d e lt a b = absurd (omega arith)
one_draft (x ∷ ds) zero d e lt a b = a ∙ sym b
one_draft (x ∷ ds) (suc i) d e lt a b = one_draft ds i d e (omega arith) a b

pub invariant_of-self : goal.invariant_of-self
invariant_of-self g c =
    let m : KvMemory = record { slots = c.self.inside.slots.items; drafts = c.self.inside.drafts.items; stopped = c.self.inside.stopped } in
    let at : AtSlot g.D.Disk.honest g.D.Disk.seen g.D.Disk.image g.D.Disk.size g.D.Disk.faults c.self.inside.disk c.store-result.new.disk m c.args.k = record { kept = c.self.invariant.0; up = ap (λ s. s.memory.stopped) c.self.view_is ∙ c.requires.up; lt = c.requires.slot } in
    let closed : get_or m.slots c.args.k None ≡ None = ap (λ s. get_or s.memory.slots c.args.k None) c.self.view_is ∙ c.requires.closed in
    let within : c.args.i < length m.drafts = omega (arith, ap (λ s. length s.memory.drafts) c.self.view_is, c.requires.draft) in
    let draft : c.remove-draft.result ≡ c.index.result.now = one_draft m.drafts c.args.i c.remove-draft.result c.index.result.now within c.remove-draft.ensures.value c.index.ensures in
    let is : set m.slots c.args.k (Some c.new.result) ≡ set m.slots c.args.k (Some (record_with false c.index.result.now)) = ap (λ (r : KvRecord). set m.slots c.args.k (Some r)) (c.new.ensures ∙ ap (record_with false) draft) in (
      kept_turned at (Some (record_with false c.index.result.now)) c.in-Ok.field-0 (λ h. c.in-Ok.ensures.puts h (only at h) (on_disk at h None closed)) c.in-Ok.ensures.works _ c.remove-draft.new.self.items is,
      stays_tabled _ _ m.slots c.args.k (Some c.new.result) c.self.invariant.1 (ap is_marked_slot closed) (ap (λ (r : KvRecord). r.marked) c.new.ensures),
    )

pub invariant_of-self-in-Err : goal.invariant_of-self-in-Err
invariant_of-self-in-Err g c =
    let m : KvMemory = record { slots = c.self.inside.slots.items; drafts = c.self.inside.drafts.items; stopped = c.self.inside.stopped } in
    let at : AtSlot g.D.Disk.honest g.D.Disk.seen g.D.Disk.image g.D.Disk.size g.D.Disk.faults c.self.inside.disk c.store-result.new.disk m c.args.k = record { kept = c.self.invariant.0; up = ap (λ s. s.memory.stopped) c.self.view_is ∙ c.requires.up; lt = c.requires.slot } in
    let closed : get_or m.slots c.args.k None ≡ None = ap (λ s. get_or s.memory.slots c.args.k None) c.self.view_is ∙ c.requires.closed in
    let within : c.args.i < length m.drafts = omega (arith, ap (λ s. length s.memory.drafts) c.self.view_is, c.requires.draft) in
    (kept_stopped at (Some (record_with false c.index.result.now)) _ (λ h. c.in-Err.ensures.puts h (only at h) (on_disk at h None closed)) c.in-Err.ensures.works m.drafts, c.self.invariant.1)

pub returns-in-Ok : goal.returns-in-Ok
returns-in-Ok g c d e =
    let m : KvMemory = record { slots = c.self.inside.slots.items; drafts = c.self.inside.drafts.items; stopped = c.self.inside.stopped } in
    let at : AtSlot g.D.Disk.honest g.D.Disk.seen g.D.Disk.image g.D.Disk.size g.D.Disk.faults c.self.inside.disk c.store-result.new.disk m c.args.k = record { kept = c.self.invariant.0; up = ap (λ s. s.memory.stopped) c.self.view_is ∙ c.requires.up; lt = c.requires.slot } in
    let closed : get_or m.slots c.args.k None ≡ None = ap (λ s. get_or s.memory.slots c.args.k None) c.self.view_is ∙ c.requires.closed in
    let within : c.args.i < length m.drafts = omega (arith, ap (λ s. length s.memory.drafts) c.self.view_is, c.requires.draft) in
    let draft : c.remove-draft.result ≡ c.index.result.now = one_draft m.drafts c.args.i c.remove-draft.result c.index.result.now within c.remove-draft.ensures.value c.index.ensures in
    let is : set m.slots c.args.k (Some c.new.result) ≡ set m.slots c.args.k (Some (record_with false c.index.result.now)) = ap (λ (r : KvRecord). set m.slots c.args.k (Some r)) (c.new.ensures ∙ ap (record_with false) draft) in
    let same : d ≡ c.index.result.now = one_draft m.drafts c.args.i d c.index.result.now within (e ∙ sym (ap (λ s. get_or s.memory.drafts c.args.i d) c.self.view_is)) c.index.ensures in
    let left = c.remove-draft.ensures.items in
    rw (← c.self.view_is, c.in-Ok.is, same, ← left, c.min-self-inside.ensures) (turned at (Some (record_with false c.index.result.now)) c.in-Ok.field-0 (λ h. c.in-Ok.ensures.puts h (only at h) (on_disk at h None closed)) c.in-Ok.ensures.works _ c.remove-draft.new.self.items is c.self.inside.earlier _)

pub returns-in-Err : goal.returns-in-Err
returns-in-Err g c d e =
    let m : KvMemory = record { slots = c.self.inside.slots.items; drafts = c.self.inside.drafts.items; stopped = c.self.inside.stopped } in
    let at : AtSlot g.D.Disk.honest g.D.Disk.seen g.D.Disk.image g.D.Disk.size g.D.Disk.faults c.self.inside.disk c.store-result.new.disk m c.args.k = record { kept = c.self.invariant.0; up = ap (λ s. s.memory.stopped) c.self.view_is ∙ c.requires.up; lt = c.requires.slot } in
    let closed : get_or m.slots c.args.k None ≡ None = ap (λ s. get_or s.memory.slots c.args.k None) c.self.view_is ∙ c.requires.closed in
    let within : c.args.i < length m.drafts = omega (arith, ap (λ s. length s.memory.drafts) c.self.view_is, c.requires.draft) in
    let same : d ≡ c.index.result.now = one_draft m.drafts c.args.i d c.index.result.now within (e ∙ sym (ap (λ s. get_or s.memory.drafts c.args.i d) c.self.view_is)) c.index.ensures in
    rw (← c.self.view_is, c.in-Err.is, same) (broken at (Some (record_with false c.index.result.now)) c.in-Err.field-0 (λ h. c.in-Err.ensures.puts h (only at h) (on_disk at h None closed)) c.in-Err.ensures.works _ _ _)
