-- The dependent clones of a transaction, in the order in which they were made.
use Rattle.std.specs.Prelude.{ℕ, ◌==◌, Bool, true, false, ◌&&◌, ◌||◌, not, List, [], ◌∷◌, ◌++◌, map}
use Rattle.dtx_values.specs.declared.number.CloneNo.{CloneNo}
use Rattle.dtx_values.specs.declared.row.CloneRow.{CloneRow}
use Rattle.dtx_values.specs.declared.words.CloneKind.{CloneKind}
use Rattle.dtx_values.specs.declared.words.CloneKind.TheVariants.{Block, Rollback}

-- it is the clone of this number
abbrev pub is_clone : ℕ → CloneRow → Bool
is_clone c r = c == r.clone.value

-- it is the clone of this number, and complete
abbrev pub is_complete_clone : ℕ → CloneRow → Bool
is_complete_clone c r = is_clone c r && r.complete

-- a commit waits for it
abbrev pub blocks : CloneKind → Bool
blocks Block = true
blocks Rollback = false

-- it blocks, and isn't complete
abbrev pub is_open_block : CloneRow → Bool
is_open_block r = blocks r.kind && not r.complete

-- it makes a commit a veto, and isn't complete
abbrev pub is_open_rollback : CloneRow → Bool
is_open_rollback r = not (blocks r.kind) && not r.complete

-- the clones with one more
abbrev pub with_clone : CloneNo → CloneKind → List CloneRow → List CloneRow
with_clone c k rs = rs ++ record { clone = c; kind = k; complete = false } ∷ []

-- the clones with this one complete
abbrev pub with_complete : ℕ → List CloneRow → List CloneRow
with_complete c rs = map (λ r. record { clone = r.clone; kind = r.kind; complete = is_clone c r || r.complete }) rs
