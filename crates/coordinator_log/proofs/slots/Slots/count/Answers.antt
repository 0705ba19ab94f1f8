use Rattle.std.proofs.Common.{◌∙◌, ap, sym, List, Option, length}
use Rattle.dtx_model.specs.Log.{CommitRecord}
use Rattle.coordinator_log.specs.Slots.{open_records, with_closed}
use Rattle.coordinator_log.proofs.Marks.{count_kept}
use Rattle.coordinator_log.proofs.OpenRecords.{length-open_records}
use Rattle.coordinator_log.proofs.slots.Slots.count.Goals as goal

pub returns : goal.returns
returns c =
    let kept = c.self.inside.records.items in
    (rw (← c.deref.ensures.value) c.open_gates.ensures) ∙ count_kept 1024 kept ∙ sym (length-open_records (with_closed 1024 kept))
    ∙ ap (λ (l : List (Option CommitRecord)). length (open_records l)) c.self.view_is
