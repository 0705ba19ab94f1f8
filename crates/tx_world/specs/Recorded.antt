-- The record of a transaction, by its history.
use Rattle.std.specs.Prelude.{ℕ, List}
use Rattle.dtx_values.specs.declared.entry.Entry.{Entry}
use Rattle.coordinator_core.specs.Acting.{record_for}
use Rattle.dtx_model.specs.Coordinated.{coordinate}
use Rattle.dtx_model.specs.Log.{CommitRecord}

-- the record of transaction t that its coordinator writes after this history: it names the enlistments that said PREPARED, in order of their numbers
abbrev pub record_after : ℕ → List Entry → CommitRecord
record_after t h = record_for t (coordinate h)
