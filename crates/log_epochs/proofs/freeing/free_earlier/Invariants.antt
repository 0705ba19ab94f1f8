use Rattle.std.proofs.Common.{◌≡◌, None, length}
use Rattle.std.specs.Prelude.{IsTrue}
use Rattle.coordinator_log.specs.Slots.{open_records}
use Rattle.log_epochs.specs.Beginning.{IsAtEpoch}
use Rattle.log_epochs.proofs.freeing.free_earlier.Given as goal

-- the records of transactions and the epoch are as before, no fault came, and the log is up
abbrev pub invariant-loop-id : goal.invariant-loop-id
invariant-loop-id g l =
    record {
      records : IsAtEpoch l.n (open_records l.initial.log.slots) (open_records l.log.slots);
      up : IsTrue l.log.is_up;
      unarmed : l.initial.log.armed ≡ None → l.log.armed ≡ None;
      smooth : g.D.Disk.faults l.log.disk ≡ g.D.Disk.faults l.initial.log.disk;
      life : l.log.life ≡ l.initial.log.life;
    }

-- each turn frees a record
abbrev pub decreases-loop-id : goal.decreases-loop-id
decreases-loop-id g l = length (open_records l.log.slots)
