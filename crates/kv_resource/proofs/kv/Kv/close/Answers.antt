use Rattle.std.proofs.Common.{◌∙◌, ap, refl, None, Some, get_or}
use Rattle.kv_resource.specs.Store.{KvMemory, is_unmarked, on_open}
use Rattle.kv_resource.proofs.Finding.{open_is}
use Rattle.kv_resource.proofs.Turning.{AtSlot, broken, kept_stopped, kept_turned, on_disk, only, turned}
use Rattle.kv_resource.proofs.Under.{no_mark, stays_tabled}
use Rattle.kv_resource.proofs.kv.Kv.close.Goals as goal

pub invariant_of-self : goal.invariant_of-self
invariant_of-self g c =
    let m : KvMemory = record { slots = c.self.inside.slots.items; drafts = c.self.inside.drafts.items; stopped = c.self.inside.stopped } in
    let at : AtSlot g.D.Disk.honest g.D.Disk.seen g.D.Disk.image g.D.Disk.size g.D.Disk.faults c.self.inside.disk c.close-result.new.disk m c.args.k = record { kept = c.self.invariant.0; up = ap (λ s. s.memory.stopped) c.self.view_is ∙ c.requires.up; lt = c.requires.slot } in
    let o = open_is is_unmarked (get_or m.slots c.args.k None) (ap (λ s. on_open is_unmarked (get_or s.memory.slots c.args.k None)) c.self.view_is ∙ c.requires.unmarked) in
    let unmarked = no_mark (get_or m.slots c.args.k None) (ap (λ s. on_open is_unmarked (get_or s.memory.slots c.args.k None)) c.self.view_is ∙ c.requires.unmarked) in (
      kept_turned at None c.in-Ok.field-0 (λ h. c.in-Ok.ensures.puts h (only at h) o.0 (on_disk at h (Some o.0) o.1)) c.in-Ok.ensures.works _ m.drafts refl,
      stays_tabled _ _ m.slots c.args.k None c.self.invariant.1 unmarked refl,
    )

pub invariant_of-self-in-Err : goal.invariant_of-self-in-Err
invariant_of-self-in-Err g c =
    let m : KvMemory = record { slots = c.self.inside.slots.items; drafts = c.self.inside.drafts.items; stopped = c.self.inside.stopped } in
    let at : AtSlot g.D.Disk.honest g.D.Disk.seen g.D.Disk.image g.D.Disk.size g.D.Disk.faults c.self.inside.disk c.close-result.new.disk m c.args.k = record { kept = c.self.invariant.0; up = ap (λ s. s.memory.stopped) c.self.view_is ∙ c.requires.up; lt = c.requires.slot } in
    let o = open_is is_unmarked (get_or m.slots c.args.k None) (ap (λ s. on_open is_unmarked (get_or s.memory.slots c.args.k None)) c.self.view_is ∙ c.requires.unmarked) in
    (kept_stopped at None _ (λ h. c.in-Err.ensures.puts h (only at h) o.0 (on_disk at h (Some o.0) o.1)) c.in-Err.ensures.works m.drafts, c.self.invariant.1)

pub returns-in-Ok : goal.returns-in-Ok
returns-in-Ok g c =
    let m : KvMemory = record { slots = c.self.inside.slots.items; drafts = c.self.inside.drafts.items; stopped = c.self.inside.stopped } in
    let at : AtSlot g.D.Disk.honest g.D.Disk.seen g.D.Disk.image g.D.Disk.size g.D.Disk.faults c.self.inside.disk c.close-result.new.disk m c.args.k = record { kept = c.self.invariant.0; up = ap (λ s. s.memory.stopped) c.self.view_is ∙ c.requires.up; lt = c.requires.slot } in
    let o = open_is is_unmarked (get_or m.slots c.args.k None) (ap (λ s. on_open is_unmarked (get_or s.memory.slots c.args.k None)) c.self.view_is ∙ c.requires.unmarked) in
    rw (← c.self.view_is, c.in-Ok.is) (turned at None c.in-Ok.field-0 (λ h. c.in-Ok.ensures.puts h (only at h) o.0 (on_disk at h (Some o.0) o.1)) c.in-Ok.ensures.works _ m.drafts refl _ _)

pub returns-in-Err : goal.returns-in-Err
returns-in-Err g c =
    let m : KvMemory = record { slots = c.self.inside.slots.items; drafts = c.self.inside.drafts.items; stopped = c.self.inside.stopped } in
    let at : AtSlot g.D.Disk.honest g.D.Disk.seen g.D.Disk.image g.D.Disk.size g.D.Disk.faults c.self.inside.disk c.close-result.new.disk m c.args.k = record { kept = c.self.invariant.0; up = ap (λ s. s.memory.stopped) c.self.view_is ∙ c.requires.up; lt = c.requires.slot } in
    let o = open_is is_unmarked (get_or m.slots c.args.k None) (ap (λ s. on_open is_unmarked (get_or s.memory.slots c.args.k None)) c.self.view_is ∙ c.requires.unmarked) in
    rw (← c.self.view_is, c.in-Err.is) (broken at None c.in-Err.field-0 (λ h. c.in-Err.ensures.puts h (only at h) o.0 (on_disk at h (Some o.0) o.1)) c.in-Err.ensures.works m.drafts _ _)
