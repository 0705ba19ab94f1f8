use Rattle.std.proofs.Common.{refl}
use Rattle.std.proofs.lemmas.Result.{on_ok_weaker}
use Rattle.coordinator_log.specs.Slots.{open_records}
use Rattle.log_epochs.specs.Beginning.{IsAtEpoch}
use Rattle.log_epochs.proofs.Freed.{after_free, fewer, still_at}
use Rattle.log_epochs.proofs.Images.{either_are}
use Rattle.log_epochs.proofs.freeing.free_record.Goals as goal

pub returns-clause-records : goal.returns-clause-records
returns-clause-records g c =
    let free = c.free.ensures in
    after_free c.args.n c.args.id c.args.log.now c.free.new.self c.free.result c.requires.latest c.requires.found free.records free.only free.unchanged free.stopped_now

pub returns-clause-fewer : goal.returns-clause-fewer
returns-clause-fewer g c = on_ok_weaker c.free.result (λ e. rw e (fewer c.args.n c.args.id (open_records c.args.log.now.slots) c.requires.found)) c.free.ensures.records

pub returns-clause-images : goal.returns-clause-images
returns-clause-images g c h =
    let rs = open_records c.args.log.now.slots in
    either_are _ (IsAtEpoch c.args.n rs) rs _ (c.free.ensures.images h c.requires.up).images (record { commits = refl; epoch = c.requires.latest })
    (still_at c.args.n c.args.id rs c.requires.latest c.requires.found)
