use Rattle.std.proofs.Common.{◌≡◌, ◌≤◌, ◌+◌, None, length, vec_capacity, vec_len}
use Rattle.std.specs.Prelude.{IsTrue}
use Rattle.coordinator_log.specs.Slots.{open_records}
use Rattle.transactions.specs.Recovering.{NoneIsFound, OnlyFrees, without_each}
use Rattle.transactions.proofs.recovering.free_all.Given as goal

-- only records that may be freed are gone, no fault came, and the log is up; where there was nothing to free, it is as before
abbrev pub invariant-loop-id : goal.invariant-loop-id
invariant-loop-id g l =
    record {
      records : OnlyFrees l.desk l.lives (open_records l.initial.log.slots) (open_records l.log.slots);
      nothing : NoneIsFound l.desk l.lives (open_records l.initial.log.slots) → l.log ≡ l.initial.log;
      up : IsTrue l.log.is_up;
      unarmed : l.initial.log.armed ≡ None → l.log.armed ≡ None;
      listed : open_records l.log.slots ≡ without_each l.freed.items (open_records l.initial.log.slots);
      room : vec_len l.freed + length (open_records l.log.slots) ≤ vec_capacity l.freed;
      smooth : g.D.Disk.faults l.log.disk ≡ g.D.Disk.faults l.initial.log.disk;
    }

-- each turn frees a record
abbrev pub decreases-loop-id : goal.decreases-loop-id
decreases-loop-id g l = length (open_records l.log.slots)
