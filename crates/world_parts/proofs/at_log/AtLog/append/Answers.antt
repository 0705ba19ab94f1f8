use Rattle.std.proofs.Common.{Some, true}
use Rattle.dtx_model.specs.Log.{CommitRecord, record_of}
use Rattle.dtx_values.specs.TxIds.{number_of}
use Rattle.dtx_model.specs.Promotes.{identifier_of}
use Rattle.coordinator_log.specs.Slots.{open_records}
use Rattle.world_parts.specs.AtLog.{Acts, IsOurs}
use Rattle.world_parts.proofs.at_log.AtLog.append.Goals as goal
use Rattle.std.proofs.Common.{refl, sym, subst, ap, ◌∙◌, inl, Err}
use Rattle.std.specs.Option.{option_map}
use Rattle.dtx_model.specs.Coordinated.{Coordinated}
use Rattle.dtx_model.specs.Steps.{StoppedNow, StoppedBefore}
use Rattle.coordinator_log.specs.declared.refusal.LogRefusal.{LogRefusal}
use Rattle.coordinator_log.specs.declared.refusal.LogRefusal.TheVariants.{Full as HasNone, Stopped as Refused}
use Rattle.world_parts.specs.AtLog.{Kept}
use Rattle.coordinator_log.specs.Slots.{lowest_closed}
use Rattle.world_parts.proofs.ActLeaves.{left_before, left_now, left_same}
use Rattle.world_parts.proofs.Answering.{acts_before, acts_now, appending, broken_refused, full_unbroken, kept_tried, may_append, never_both, none_refused, refused_unbroken, unchanged_by, was_up}
use Rattle.world_parts.proofs.Fitting.{keeps_appended, keeps_stopped, none_found, slots_appended}
use Rattle.world_parts.proofs.Keeping.{none_kept, ours_full, ours_logged, runs_then}
use Rattle.world_parts.proofs.Wished.{wished_append, wished_same, wished_up}
use Rattle.world_parts.specs.Prepared.{Names}
use Rattle.world_parts.proofs.Named.{named_logged, names_none}

pub stop-requires-clause-up : goal.stop-requires-clause-up
stop-requires-clause-up g c = runs_then c.args.core.now.state c.requires.votes

pub stop-requires-in-Err-Stopped-clause-up : goal.stop-requires-in-Err-Stopped-clause-up
stop-requires-in-Err-Stopped-clause-up g c = runs_then c.args.core.now.state c.requires.votes

pub returns-in-Err-StoppedNow-clause-acts : goal.returns-in-Err-StoppedNow-clause-acts
returns-in-Err-StoppedNow-clause-acts g c =
    let broken = c.in-Err-StoppedNow.is ∙ ap (λ (e : LogRefusal). Err e) c.in-Err-StoppedNow.field-0-is in
    let inside : Kept = record { ours = option_map record_of c.self.inside.ours; unsure = c.self.inside.unsure; life = c.self.inside.life } in
    let kept : Kept = record { ours = Some (record_of c.args.kept); unsure = true; life = c.self.inside.life } in
    let P : Kept → Type 0 = λ x. Acts g.D.Disk.faults (number_of c.args.core.now.transaction) c.args.core.now.state x c.args.out.now c.args.log.now c.stop.new.core.state kept c.stop.new.out c.append.new.self in
    subst P c.self.view_is (acts_now g.D.Disk.faults (number_of c.args.core.now.transaction) c.args.core.now.state inside c.args.out.now c.args.log.now c.stop.new.core.state kept c.stop.new.out c.append.new.self 4
    (may_append c.args.core.now.state StoppedNow c.requires.votes) c.stop.ensures.state c.stop.ensures.out
    (λ x. broken_refused c.append.result broken (c.append.ensures.stopped.1 x)) (c.append.ensures.stopped_now broken).0 (appending c.args.core.now.state c.requires.votes)
    (c.append.ensures.cause broken) (c.append.ensures.used broken) (kept_tried (number_of c.args.core.now.transaction) c.args.core.now.state inside (record_of c.args.kept) c.requires.votes c.requires.written))

pub returns-in-Err-Stopped-clause-acts : goal.returns-in-Err-Stopped-clause-acts
returns-in-Err-Stopped-clause-acts g c =
    let refused = c.in-Err-Stopped.is ∙ ap (λ (e : LogRefusal). Err e) c.in-Err-Stopped.field-0-is in
    let inside : Kept = record { ours = option_map record_of c.self.inside.ours; unsure = c.self.inside.unsure; life = c.self.inside.life } in
    let P : Kept → Type 0 = λ x. Acts g.D.Disk.faults (number_of c.args.core.now.transaction) c.args.core.now.state x c.args.out.now c.args.log.now c.stop-in-Err-Stopped.new.core.state x c.stop-in-Err-Stopped.new.out c.append.new.self in
    subst P c.self.view_is (acts_before g.D.Disk.faults (number_of c.args.core.now.transaction) c.args.core.now.state inside c.args.out.now c.args.log.now c.stop-in-Err-Stopped.new.core.state inside c.stop-in-Err-Stopped.new.out c.append.new.self
    (may_append c.args.core.now.state StoppedBefore c.requires.votes) c.stop-in-Err-Stopped.ensures.state c.stop-in-Err-Stopped.ensures.out (c.append.ensures.stopped.0 refused)
    (unchanged_by c.append.result Refused refused_unbroken refused c.append.ensures.unchanged) refl)

pub returns-in-Ok-clause-leaves : goal.returns-in-Ok-clause-leaves
returns-in-Ok-clause-leaves g c =
    record {
      ours =
          let id = identifier_of (number_of c.args.core.now.transaction) in
          let sure = ap (λ (x : Kept). x.unsure) c.self.view_is ∙ (none_kept id c.args.core.now.state c.args.self.now c.requires.votes c.requires.ours).1 in
          let P : Coordinated → Type 0 = λ j. IsOurs id j (record { ours = Some (record_of c.args.kept); unsure = c.self.inside.unsure; life = c.self.inside.life }) in
          subst P (sym c.logged.ensures.state) (ours_logged id c.args.core.now.state (record_of c.args.kept) c.self.inside.unsure c.self.inside.life c.requires.own sure);
      had = λ stops some. refl;
      kept = λ honest.
          let id = identifier_of (number_of c.args.core.now.transaction) in
          let none = none_kept id c.args.core.now.state c.args.self.now c.requires.votes c.requires.ours in
          let up = was_up c.args.log.now.is_up (λ d. none_refused c.append.result c.in-Ok.field-0 c.in-Ok.is (c.append.ensures.stopped.1 (inl d))) in
          keeps_appended g.D.Disk.image id c.in-Ok.field-0 (record_of c.args.kept) c.args.self.now.ours c.args.self.now.unsure c.self.inside.unsure c.args.log.now c.append.new.self c.requires.own
          (none_found id c.args.self.now.ours c.args.self.now.unsure (open_records c.args.log.now.slots) none.0 none.1 (c.requires.fits honest up)) c.in-Ok.ensures.records (c.in-Ok.ensures.durable honest);
      slots =
          slots_appended (identifier_of (number_of c.args.core.now.transaction)) c.in-Ok.field-0 (record_of c.args.kept) c.args.self.now.ours c.args.log.now c.append.new.self c.requires.own c.in-Ok.ensures.records;
      named = λ was.
          let t = (number_of c.args.core.now.transaction) in
          let P : Coordinated → Type 0 = λ j. Names t (Some (record_of c.args.kept)) j in
          subst P (sym c.logged.ensures.state) (named_logged t c.args.core.now.state (record_of c.args.kept) c.requires.written);
    }

pub returns-in-Err-Full-clause-leaves : goal.returns-in-Err-Full-clause-leaves
returns-in-Err-Full-clause-leaves g c =
    let id = identifier_of (number_of c.args.core.now.transaction) in
    let P : Coordinated → Type 0 = λ j. IsOurs id j c.args.self.now in
    let same = unchanged_by c.append.result (HasNone c.in-Err-Full.field-0-0) (full_unbroken c.in-Err-Full.field-0-0) (c.in-Err-Full.is ∙ ap (λ (e : LogRefusal). Err e) c.in-Err-Full.field-0-is) c.append.ensures.unchanged in
    left_same g.D.Disk.honest g.D.Disk.image (number_of c.args.core.now.transaction) c.args.core.now.state c.args.self.now c.args.log.now c.log_full.new.self.state c.append.new.self same c.requires.fits (subst P (sym c.log_full.ensures.state) (ours_full id c.args.core.now.state c.args.self.now c.requires.ours))
    (λ was. names_none (number_of c.args.core.now.transaction) c.args.self.now.ours c.log_full.new.self.state (none_kept id c.args.core.now.state c.args.self.now c.requires.votes c.requires.ours).0)

pub returns-in-Err-StoppedNow-clause-leaves : goal.returns-in-Err-StoppedNow-clause-leaves
returns-in-Err-StoppedNow-clause-leaves g c =
    let id = identifier_of (number_of c.args.core.now.transaction) in
    let broken = c.in-Err-StoppedNow.is ∙ ap (λ (e : LogRefusal). Err e) c.in-Err-StoppedNow.field-0-is in
    let none = none_kept id c.args.core.now.state c.args.self.now c.requires.votes c.requires.ours in
    let stopped = c.append.ensures.stopped_now broken in
    left_now g.D.Disk.honest g.D.Disk.image (number_of c.args.core.now.transaction) c.args.core.now.state c.args.self.now c.args.log.now c.stop.new.core.state (Some (record_of c.args.kept)) c.self.inside.life c.append.new.self c.stop.ensures.state c.requires.own (λ some. refl)
    (λ honest.
    let up = was_up c.args.log.now.is_up (λ d. broken_refused c.append.result broken (c.append.ensures.stopped.1 (inl d))) in
    keeps_stopped g.D.Disk.image id (lowest_closed c.args.log.now.slots) (record_of c.args.kept) c.args.self.now.ours c.args.self.now.unsure c.args.log.now c.append.new.self c.requires.own
    (none_found id c.args.self.now.ours c.args.self.now.unsure (open_records c.args.log.now.slots) none.0 none.1 (c.requires.fits honest up)) stopped.1 (λ u. never_both c.append.new.self.is_up u stopped.0)
    (c.append.ensures.images honest up).images)
    stopped.1 stopped.0 (λ was some. ap (λ (r : CommitRecord). Some r) c.requires.written)

pub returns-in-Err-Stopped-clause-leaves : goal.returns-in-Err-Stopped-clause-leaves
returns-in-Err-Stopped-clause-leaves g c =
    left_before g.D.Disk.honest g.D.Disk.image (number_of c.args.core.now.transaction) c.args.core.now.state c.args.self.now c.args.log.now c.stop-in-Err-Stopped.new.core.state c.append.new.self
    (unchanged_by c.append.result Refused refused_unbroken (c.in-Err-Stopped.is ∙ ap (λ (e : LogRefusal). Err e) c.in-Err-Stopped.field-0-is) c.append.ensures.unchanged)
    c.requires.fits c.requires.ours c.stop-in-Err-Stopped.ensures.state

pub returns-in-Ok-clause-found : goal.returns-in-Ok-clause-found
returns-in-Ok-clause-found g c = λ obeys. wished_up g.D.Disk.faults g.D.Disk.seen c.args.core.now.state (identifier_of (number_of c.args.core.now.transaction)) c.args.log.now c.append.new.self c.in-Ok.ensures.up

pub returns-in-Err-Full-clause-found : goal.returns-in-Err-Full-clause-found
returns-in-Err-Full-clause-found g c = λ obeys.
    wished_same g.D.Disk.faults g.D.Disk.seen c.args.core.now.state (identifier_of (number_of c.args.core.now.transaction)) c.args.log.now c.append.new.self
    (unchanged_by c.append.result (HasNone c.in-Err-Full.field-0-0) (full_unbroken c.in-Err-Full.field-0-0) (c.in-Err-Full.is ∙ ap (λ (e : LogRefusal). Err e) c.in-Err-Full.field-0-is) c.append.ensures.unchanged)

pub returns-in-Err-StoppedNow-clause-found : goal.returns-in-Err-StoppedNow-clause-found
returns-in-Err-StoppedNow-clause-found g c = λ obeys.
    let id = identifier_of (number_of c.args.core.now.transaction) in
    let broken = c.in-Err-StoppedNow.is ∙ ap (λ (e : LogRefusal). Err e) c.in-Err-StoppedNow.field-0-is in
    let none = none_kept id c.args.core.now.state c.args.self.now c.requires.votes c.requires.ours in
    wished_append g.D.Disk.faults g.D.Disk.seen c.args.core.now.state id (record_of c.args.kept) c.args.log.now c.append.new.self c.requires.votes c.requires.own
    (λ up. none_found id c.args.self.now.ours c.args.self.now.unsure (open_records c.args.log.now.slots) none.0 none.1 (c.requires.fits (g.met.D.Disk.tells obeys) up))
    (c.append.ensures.used broken) (c.append.ensures.found obeys)

pub returns-in-Err-Stopped-clause-found : goal.returns-in-Err-Stopped-clause-found
returns-in-Err-Stopped-clause-found g c = λ obeys.
    wished_same g.D.Disk.faults g.D.Disk.seen c.args.core.now.state (identifier_of (number_of c.args.core.now.transaction)) c.args.log.now c.append.new.self
    (unchanged_by c.append.result Refused refused_unbroken (c.in-Err-Stopped.is ∙ ap (λ (e : LogRefusal). Err e) c.in-Err-Stopped.field-0-is) c.append.ensures.unchanged)
