-- How a record is spelled.
use Rattle.std.specs.Prelude.{ℕ, ◌-◌, ◌*◌, List, [], ◌∷◌, ◌++◌, length, replicate}
use Rattle.std.specs.List.{flat_map}
use Rattle.std.specs.Int.{w16, to_le_bytes}
use Rattle.dtx_values.specs.RecoveryInfo.{id_bytes, pair_bytes}
use Rattle.dtx_model.specs.Log.{CommitRecord}
pub use Rattle.slotted.specs.Reading.{IsReadAs}

-- the format, the number of enlistments and the identifier
unfoldable pub front_bytes : CommitRecord → List ℕ
front_bytes r = (1 ∷ []) ++ to_le_bytes w16 (length r.enlistments) ++ id_bytes r.id

-- the 511 bytes of a record after its gate
unfoldable pub record_bytes : CommitRecord → List ℕ
record_bytes r = front_bytes r ++ flat_map pair_bytes r.enlistments ++ replicate (492 - 20 * length r.enlistments) 0
