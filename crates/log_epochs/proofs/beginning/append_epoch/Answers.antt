use Rattle.std.proofs.Common.{◌∙◌, inl, inr, ℕ, arith, refl}
use Rattle.std.specs.Prelude.{IsTrue}
use Rattle.std.specs.List.{insert}
use Rattle.dtx_model.specs.Log.{record_of}
use Rattle.coordinator_log.specs.Crash.{with_record}
use Rattle.coordinator_log.specs.Slots.{lowest_closed, open_records}
use Rattle.log_epochs.specs.Beginning.{AllAre, IsAtEpoch, IsSameOrNext}
use Rattle.log_epochs.proofs.Images.{either_are}
use Rattle.log_epochs.proofs.Names.{made}
use Rattle.log_epochs.proofs.Records.{appended}
use Rattle.log_epochs.proofs.beginning.append_epoch.Given.{Over}
use Rattle.log_epochs.proofs.beginning.append_epoch.Goals.{After-append}
use Rattle.log_epochs.proofs.beginning.append_epoch.Goals as goal

-- with the new record the log is at its epoch
at : (g : Over) (c : After-append g) (k : ℕ) → IsAtEpoch c.args.n (open_records c.args.log.now.slots) (insert (open_records c.args.log.now.slots) k (record_of c.new-record.result))
at g c k =
    let n = c.args.n in
    let r = c.new-record.result in
    appended n k (open_records c.args.log.now.slots) (record_of r) (made r n (c.new-record.ensures.id ∙ c.identifier_of_epoch.ensures.identifier) c.new-record.ensures.none) c.requires.next (omega arith)

-- whatever the append answers
images : (g : Over) (c : After-append g) → IsTrue g.D.Disk.honest → AllAre (g.D.Disk.image c.append.new.self.disk) (IsSameOrNext (open_records c.args.log.now.slots))
images g c h =
    let ss = c.args.log.now.slots in
    let with = at g c (lowest_closed ss) in
    either_are _ (IsSameOrNext (open_records ss)) (open_records ss) (with_record (record_of c.new-record.result) ss) (c.append.ensures.images h c.requires.up).images
    (record { commits = refl; epoch = inl refl }) (record { commits = with.commits; epoch = inr (with.epoch ∙ c.requires.next) })

pub returns-in_err-append-clause-images : goal.returns-in_err-append-clause-images
returns-in_err-append-clause-images g c = images g (goal.at.returns-in_err-append-clause-images g c).After-append

pub returns-clause-records : goal.returns-clause-records
returns-clause-records g c =
    rw (c.in_ok-append.ensures.records) (at g (goal.at.returns-clause-records g c).After-append c.in_ok-append.field-0)

pub returns-clause-images : goal.returns-clause-images
returns-clause-images g c = images g (goal.at.returns-clause-images g c).After-append
