use Rattle.std.proofs.Common.{◌∙◌, ap, List, Ok}
use Rattle.dtx_model.specs.Log.{CommitRecord}
use Rattle.slotted.proofs.SlotReads.{file_agrees}
use Rattle.coordinator_log.proofs.Blanks.{blank_agrees}
use Rattle.coordinator_log.proofs.Files.{log_file}
use Rattle.coordinator_log.proofs.log.Log.format.Goals as goal

pub over-requires-clause-agrees : goal.over-requires-clause-agrees
over-requires-clause-agrees g c h =
    blank_agrees c.log_head.result _ _ c.in-Ok.slots c.log_head.ensures c.in-Ok-blank.ensures.long (c.in-Ok-blank.ensures.blank h) c.in-Ok.ensures.many c.in-Ok.ensures.empty (c.in-Ok-blank.ensures.durable h)

pub returns-in-Ok-blank-clause-images : goal.returns-in-Ok-blank-clause-images
returns-in-Ok-blank-clause-images g c h =
    rw c.over.ensures
    (λ f left. file_agrees log_file _ _ _
    (blank_agrees c.log_head.result _ _ c.in-Ok.slots c.log_head.ensures c.in-Ok-blank.ensures.long (c.in-Ok-blank.ensures.blank h) c.in-Ok.ensures.many c.in-Ok.ensures.empty (c.in-Ok-blank.ensures.durable h)) f left
    ∙ ap (λ (l : List CommitRecord). Ok l) c.in-Ok.ensures.empty)
