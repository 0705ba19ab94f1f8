use Rattle.std.proofs.Common.{◌-◌, ap, ◌∙◌, length, List, Option}
use Rattle.std.specs.List.{filter_map}
use Rattle.std.specs.Option.{option_map}
use Rattle.dtx_values.specs.declared.record.LogRecord.{LogRecord}
use Rattle.dtx_model.specs.Log.{record_of}
use Rattle.coordinator_log.specs.Slots.{open_records}
use Rattle.coordinator_log.proofs.OpenRecords.{kept_open}
use Rattle.coordinator_log.proofs.slots.Slots.records.Goals as goal

-- src/slots.rt:80:5
pub returns-clause-open : goal.returns-clause-open
returns-clause-open c =
    let kept = c.self.inside.records.items in
    ap (λ (ss : List (Option LogRecord)). filter_map (option_map record_of) ss) c.deref.ensures.value ∙ kept_open kept (1024 - length kept) ∙ ap open_records c.self.view_is
