use Rattle.std.proofs.Common.{ℕ, ◌≡◌, None, true, is_some}
use Rattle.std.specs.Option.{option_map}
use Rattle.dtx_model.specs.Log.{first_of, record_of}
use Rattle.dtx_values.specs.TxIds.{number_of}
use Rattle.dtx_model.specs.Promotes.{identifier_of}
use Rattle.coordinator_log.specs.Slots.{open_records}
use Rattle.world_parts.specs.AtLog.{Acts, IsFit, Keeps, kept_after}
use Rattle.world_parts.proofs.at_log.AtLog.free.Goals as goal
use Rattle.std.proofs.Common.{sym, subst, ap, ◌∙◌, inl, Err, refl}
use Rattle.std.specs.Prelude.{IfSome}
use Rattle.coordinator_log.specs.State.{LogState}
use Rattle.world_parts.proofs.Freeing.{images_of, lost_id, never_lost, records_of}
use Rattle.dtx_model.specs.Steps.{Done, StoppedNow, StoppedBefore}
use Rattle.coordinator_log.specs.declared.refusal.LogRefusal.{LogRefusal}
use Rattle.coordinator_log.specs.declared.refusal.LogRefusal.TheVariants.{Stopped as Refused, NoSuch}
use Rattle.world_parts.specs.AtLog.{Kept}
use Rattle.world_parts.proofs.ActLeaves.{left_before, left_freed, left_now}
use Rattle.world_parts.proofs.Answering.{acts_before, acts_freed, acts_now, broken_refused, freeing, kept_freed, kept_unfreed, lost_refused, lost_unbroken, may_release, never_both, none_refused, refused_unbroken, unchanged_by, was_up}
use Rattle.world_parts.proofs.Fitting.{keeps_freed, keeps_unfreed, slots_freed, slots_lost}
use Rattle.world_parts.proofs.Keeping.{one_kept, runs_still}
use Rattle.world_parts.proofs.Wished.{wished_free, wished_same, wished_up}
use Rattle.world_parts.specs.Prepared.{Names}

pub stop-requires-clause-up : goal.stop-requires-clause-up
stop-requires-clause-up g c = runs_still c.args.core.now.state c.requires.finished

pub stop-requires-in-Err-Stopped-clause-up : goal.stop-requires-in-Err-Stopped-clause-up
stop-requires-in-Err-Stopped-clause-up g c = runs_still c.args.core.now.state c.requires.finished

-- the record was freed
pub returns-in-Ok-clause-acts : goal.returns-in-Ok-clause-acts
returns-in-Ok-clause-acts g c =
    let inside : Kept = record { ours = option_map record_of c.self.inside.ours; unsure = c.self.inside.unsure; life = c.self.inside.life } in
    let freed = c.freed.ensures.kept ∙ kept_freed (number_of c.args.core.now.transaction) c.args.core.now.state c.args.self.now c.requires.votes in
    let P : Kept → Type 0 = λ x. Acts g.D.Disk.faults (number_of c.args.core.now.transaction) c.args.core.now.state x c.args.out.now c.args.log.now c.freed.new.core.state c.freed.new.self c.freed.new.out c.free.new.self in
    subst P c.self.view_is (acts_freed g.D.Disk.faults (number_of c.args.core.now.transaction) c.args.core.now.state inside c.args.out.now c.args.log.now c.freed.new.core.state c.freed.new.self c.freed.new.out c.free.new.self
    c.requires.votes c.requires.finished c.freed.ensures.state c.freed.ensures.out (λ x. none_refused c.free.result c.in-Ok.field-0 c.in-Ok.is (c.free.ensures.stopped.1 x))
    c.in-Ok.ensures.up c.in-Ok.ensures.smooth (λ f. c.in-Ok.ensures.counted)
    (let Q : Kept → Type 0 = λ x. c.freed.new.self ≡ kept_after (number_of c.args.core.now.transaction) c.args.core.now.state Done x in subst Q (sym c.self.view_is) freed))

-- the log has no such record: nothing is left to free
pub returns-in-Err-NoSuch-clause-acts : goal.returns-in-Err-NoSuch-clause-acts
returns-in-Err-NoSuch-clause-acts g c =
    let lost = lost_id c.free.result c.args.id c.in-Err-NoSuch.field-0-0 (c.in-Err-NoSuch.is ∙ ap (λ (e : LogRefusal). Err e) c.in-Err-NoSuch.field-0-is) c.free.ensures.only in
    let same : c.free.new.self ≡ c.args.log.now = unchanged_by c.free.result (NoSuch c.args.id) (lost_unbroken c.args.id) lost c.free.ensures.unchanged in
    let inside : Kept = record { ours = option_map record_of c.self.inside.ours; unsure = c.self.inside.unsure; life = c.self.inside.life } in
    let freed = c.freed-in-Err-NoSuch.ensures.kept ∙ kept_freed (number_of c.args.core.now.transaction) c.args.core.now.state c.args.self.now c.requires.votes in
    let P : Kept → Type 0 = λ x. Acts g.D.Disk.faults (number_of c.args.core.now.transaction) c.args.core.now.state x c.args.out.now c.args.log.now c.freed-in-Err-NoSuch.new.core.state c.freed-in-Err-NoSuch.new.self c.freed-in-Err-NoSuch.new.out c.free.new.self in
    subst P c.self.view_is (acts_freed g.D.Disk.faults (number_of c.args.core.now.transaction) c.args.core.now.state inside c.args.out.now c.args.log.now c.freed-in-Err-NoSuch.new.core.state c.freed-in-Err-NoSuch.new.self c.freed-in-Err-NoSuch.new.out c.free.new.self
    c.requires.votes c.requires.finished c.freed-in-Err-NoSuch.ensures.state c.freed-in-Err-NoSuch.ensures.out (λ x. lost_refused c.free.result c.args.id lost (c.free.ensures.stopped.1 x))
    (ap (λ (l : LogState g.row.D.Denot). l.is_up) same ∙ (c.free.ensures.none.0 lost).0) (ap (λ (l : LogState g.row.D.Denot). g.D.Disk.faults l.disk) same)
    (λ f. absurd (f (ap (λ n. first_of n (open_records c.args.log.now.slots)) (sym c.requires.own) ∙ (c.free.ensures.none.0 lost).2)))
    (let Q : Kept → Type 0 = λ x. c.freed-in-Err-NoSuch.new.self ≡ kept_after (number_of c.args.core.now.transaction) c.args.core.now.state Done x in subst Q (sym c.self.view_is) freed))

-- the log was stopped by the free
pub returns-in-Err-StoppedNow-clause-acts : goal.returns-in-Err-StoppedNow-clause-acts
returns-in-Err-StoppedNow-clause-acts g c =
    let broken = c.in-Err-StoppedNow.is ∙ ap (λ (e : LogRefusal). Err e) c.in-Err-StoppedNow.field-0-is in
    let inside : Kept = record { ours = option_map record_of c.self.inside.ours; unsure = c.self.inside.unsure; life = c.self.inside.life } in
    let kept : Kept = record { ours = inside.ours; unsure = true; life = inside.life } in
    let P : Kept → Type 0 = λ x. Acts g.D.Disk.faults (number_of c.args.core.now.transaction) c.args.core.now.state x c.args.out.now c.args.log.now c.stop.new.core.state kept c.stop.new.out c.free.new.self in
    subst P c.self.view_is (acts_now g.D.Disk.faults (number_of c.args.core.now.transaction) c.args.core.now.state inside c.args.out.now c.args.log.now c.stop.new.core.state kept c.stop.new.out c.free.new.self 2
    (may_release c.args.core.now.state StoppedNow c.requires.finished refl) c.stop.ensures.state c.stop.ensures.out
    (λ x. broken_refused c.free.result broken (c.free.ensures.stopped.1 x)) (c.free.ensures.stopped_now broken).0 (freeing c.args.core.now.state c.requires.votes)
    (c.free.ensures.cause broken) (c.free.ensures.used broken) (kept_unfreed (number_of c.args.core.now.transaction) c.args.core.now.state inside c.requires.votes))

-- the log was found stopped
pub returns-in-Err-Stopped-clause-acts : goal.returns-in-Err-Stopped-clause-acts
returns-in-Err-Stopped-clause-acts g c =
    let refused = c.in-Err-Stopped.is ∙ ap (λ (e : LogRefusal). Err e) c.in-Err-Stopped.field-0-is in
    let inside : Kept = record { ours = option_map record_of c.self.inside.ours; unsure = c.self.inside.unsure; life = c.self.inside.life } in
    let P : Kept → Type 0 = λ x. Acts g.D.Disk.faults (number_of c.args.core.now.transaction) c.args.core.now.state x c.args.out.now c.args.log.now c.stop-in-Err-Stopped.new.core.state x c.stop-in-Err-Stopped.new.out c.free.new.self in
    subst P c.self.view_is (acts_before g.D.Disk.faults (number_of c.args.core.now.transaction) c.args.core.now.state inside c.args.out.now c.args.log.now c.stop-in-Err-Stopped.new.core.state inside c.stop-in-Err-Stopped.new.out c.free.new.self
    (may_release c.args.core.now.state StoppedBefore c.requires.finished refl) c.stop-in-Err-Stopped.ensures.state c.stop-in-Err-Stopped.ensures.out (c.free.ensures.stopped.0 refused)
    (unchanged_by c.free.result Refused refused_unbroken refused c.free.ensures.unchanged) refl)

pub returns-in-Ok-clause-leaves : goal.returns-in-Ok-clause-leaves
returns-in-Ok-clause-leaves g c =
    let id = identifier_of (number_of c.args.core.now.transaction) in
    let from : LogState g.row.D.Denot = c.args.log.now in
    let records = records_of id c.args.id (open_records c.free.new.self.slots) (open_records from.slots) c.requires.own c.in-Ok.ensures.records in
    left_freed g.D.Disk.honest g.D.Disk.image (number_of c.args.core.now.transaction) c.args.core.now.state c.args.self.now c.args.log.now c.freed.new.core.state c.freed.new.self c.free.new.self c.requires.finished c.requires.ours c.freed.ensures.state c.freed.ensures.kept
    (λ honest.
    let up = was_up from.is_up (λ d. none_refused c.free.result c.in-Ok.field-0 c.in-Ok.is (c.free.ensures.stopped.1 (inl d))) in
    keeps_freed g.D.Disk.image id c.args.self.now.ours c.args.self.now.unsure c.args.self.now.unsure from c.free.new.self (c.requires.fits honest up) records (c.in-Ok.ensures.durable honest))
    (slots_freed id c.args.self.now.ours from c.free.new.self records)

pub returns-in-Err-NoSuch-clause-leaves : goal.returns-in-Err-NoSuch-clause-leaves
returns-in-Err-NoSuch-clause-leaves g c =
    let id = identifier_of (number_of c.args.core.now.transaction) in
    let from : LogState g.row.D.Denot = c.args.log.now in
    let lost = lost_id c.free.result c.args.id c.in-Err-NoSuch.field-0-0 (c.in-Err-NoSuch.is ∙ ap (λ (e : LogRefusal). Err e) c.in-Err-NoSuch.field-0-is) c.free.ensures.only in
    let same : c.free.new.self ≡ from = unchanged_by c.free.result (NoSuch c.args.id) (lost_unbroken c.args.id) lost c.free.ensures.unchanged in
    let kept = one_kept id c.args.core.now.state c.args.self.now c.requires.finished c.requires.ours in
    let why = c.free.ensures.none.0 lost in
    let N : ℕ → Type 0 = λ i. first_of i (open_records from.slots) ≡ None in
    left_freed g.D.Disk.honest g.D.Disk.image (number_of c.args.core.now.transaction) c.args.core.now.state c.args.self.now c.args.log.now c.freed-in-Err-NoSuch.new.core.state c.freed-in-Err-NoSuch.new.self c.free.new.self c.requires.finished c.requires.ours c.freed-in-Err-NoSuch.ensures.state c.freed-in-Err-NoSuch.ensures.kept
    (λ honest. absurd (never_lost id c.args.self.now.ours c.args.self.now.unsure (open_records from.slots) kept.0 kept.1 (c.requires.fits honest why.0) (subst N c.requires.own why.2)))
    (slots_lost id c.args.self.now.ours from c.free.new.self same)

pub returns-in-Err-StoppedNow-clause-leaves : goal.returns-in-Err-StoppedNow-clause-leaves
returns-in-Err-StoppedNow-clause-leaves g c =
    let t = (number_of c.args.core.now.transaction) in
    let id = identifier_of t in
    let broken = c.in-Err-StoppedNow.is ∙ ap (λ (e : LogRefusal). Err e) c.in-Err-StoppedNow.field-0-is in
    let stopped = c.free.ensures.stopped_now broken in
    let from : LogState g.row.D.Denot = c.args.log.now in
    let N : Kept → Type 0 = λ x. IfSome x.ours (λ r. r.id ≡ id) in
    let Q : Kept → Type 0 = λ x. Names t x.ours c.args.core.now.state in
    let R : Kept → Type 0 = λ x. Keeps g.D.Disk.image id (IsFit id c.args.self.now.ours c.args.self.now.unsure) (IsFit id x.ours true) from c.free.new.self in
    left_now g.D.Disk.honest g.D.Disk.image (number_of c.args.core.now.transaction) c.args.core.now.state c.args.self.now c.args.log.now c.stop.new.core.state (option_map record_of c.self.inside.ours) c.self.inside.life c.free.new.self c.stop.ensures.state (subst N (sym c.self.view_is) c.requires.ours.named)
    (λ some. ap (λ (x : Kept). is_some x.ours) c.self.view_is ∙ some)
    (λ honest.
    let up = was_up from.is_up (λ d. broken_refused c.free.result broken (c.free.ensures.stopped.1 (inl d))) in
    let sure = (one_kept id c.args.core.now.state c.args.self.now c.requires.finished c.requires.ours).1 in
    subst R (sym c.self.view_is) (keeps_unfreed g.D.Disk.image id c.args.self.now.ours c.args.self.now.unsure from c.free.new.self sure (c.requires.fits honest up)
    stopped.1 (λ u. never_both c.free.new.self.is_up u stopped.0)
    (images_of id c.args.id (g.D.Disk.image c.free.new.self.disk) (open_records from.slots) c.requires.own (c.free.ensures.images honest up).images)))
    stopped.1 stopped.0 (λ was. subst Q (sym c.self.view_is) was)

pub returns-in-Err-Stopped-clause-leaves : goal.returns-in-Err-Stopped-clause-leaves
returns-in-Err-Stopped-clause-leaves g c =
    left_before g.D.Disk.honest g.D.Disk.image (number_of c.args.core.now.transaction) c.args.core.now.state c.args.self.now c.args.log.now c.stop-in-Err-Stopped.new.core.state c.free.new.self
    (unchanged_by c.free.result Refused refused_unbroken (c.in-Err-Stopped.is ∙ ap (λ (e : LogRefusal). Err e) c.in-Err-Stopped.field-0-is) c.free.ensures.unchanged)
    c.requires.fits c.requires.ours c.stop-in-Err-Stopped.ensures.state

pub returns-in-Ok-clause-found : goal.returns-in-Ok-clause-found
returns-in-Ok-clause-found g c = λ obeys. wished_up g.D.Disk.faults g.D.Disk.seen c.args.core.now.state (identifier_of (number_of c.args.core.now.transaction)) c.args.log.now c.free.new.self c.in-Ok.ensures.up

pub returns-in-Err-NoSuch-clause-found : goal.returns-in-Err-NoSuch-clause-found
returns-in-Err-NoSuch-clause-found g c = λ obeys.
    let lost = lost_id c.free.result c.args.id c.in-Err-NoSuch.field-0-0 (c.in-Err-NoSuch.is ∙ ap (λ (e : LogRefusal). Err e) c.in-Err-NoSuch.field-0-is) c.free.ensures.only in
    wished_same g.D.Disk.faults g.D.Disk.seen c.args.core.now.state (identifier_of (number_of c.args.core.now.transaction)) c.args.log.now c.free.new.self
    (unchanged_by c.free.result (NoSuch c.args.id) (lost_unbroken c.args.id) lost c.free.ensures.unchanged)

pub returns-in-Err-StoppedNow-clause-found : goal.returns-in-Err-StoppedNow-clause-found
returns-in-Err-StoppedNow-clause-found g c = λ obeys.
    let id = identifier_of (number_of c.args.core.now.transaction) in
    let broken = c.in-Err-StoppedNow.is ∙ ap (λ (e : LogRefusal). Err e) c.in-Err-StoppedNow.field-0-is in
    let kept = one_kept id c.args.core.now.state c.args.self.now c.requires.finished c.requires.ours in
    wished_free g.D.Disk.faults g.D.Disk.seen c.args.core.now.state id c.args.id c.args.self.now.ours c.args.self.now.unsure c.args.log.now c.free.new.self c.requires.votes c.requires.own kept.0 kept.1
    (c.requires.fits (g.met.D.Disk.tells obeys)) (c.free.ensures.used broken) (c.free.ensures.found obeys)

pub returns-in-Err-Stopped-clause-found : goal.returns-in-Err-Stopped-clause-found
returns-in-Err-Stopped-clause-found g c = λ obeys.
    wished_same g.D.Disk.faults g.D.Disk.seen c.args.core.now.state (identifier_of (number_of c.args.core.now.transaction)) c.args.log.now c.free.new.self
    (unchanged_by c.free.result Refused refused_unbroken (c.in-Err-Stopped.is ∙ ap (λ (e : LogRefusal). Err e) c.in-Err-Stopped.field-0-is) c.free.ensures.unchanged)
