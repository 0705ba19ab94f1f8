-- Who said PREPARED is in the record.
use Rattle.std.specs.Prelude.{ℕ, ◌≡◌, true, Option, Some, is_some}
use Rattle.coordinator_core.specs.Acting.{record_for}
use Rattle.dtx_model.specs.Coordinated.{Coordinated}
use Rattle.dtx_model.specs.Log.{CommitRecord}

-- the record that is kept, where one is, is the one that this coordinator of transaction t writes: with its identifier, and the manager and the number of each enlistment that said PREPARED, in order
abbrev pub Names : ℕ → Option CommitRecord → Coordinated → Type 0
Names t ours k = is_some ours ≡ true → ours ≡ Some (record_for t k)
