use Rattle.std.proofs.Common.{◌∙◌, ap, List, Option}
use Rattle.dtx_values.specs.declared.record.LogRecord.{LogRecord}
use Rattle.coordinator_log.specs.Slots.{open_records, with_closed}
use Rattle.coordinator_log.proofs.OpenRecords.{records_in, none_open}
use Rattle.coordinator_log.proofs.slots.Slots.new.Goals as goal

pub returns-clause-empty : goal.returns-clause-empty
returns-clause-empty c = ap (λ (l : List (Option LogRecord)). open_records (records_in (with_closed 1024 l))) c.in_ok-with_capacity.ensures.items ∙ none_open 1024
