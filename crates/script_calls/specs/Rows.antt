-- The rows of a place: for each actor its calls there, and how many of them were entered.
use Rattle.std.specs.Prelude.{◌+◌, ◌-◌, nat_le, Bool, List, [], ◌++◌, length, Option, slice_get, slice_index_or}
use Rattle.dtx_values.specs.declared.number.ActorNo.{ActorNo}
use Rattle.dtx_model.specs.Words.{each}
use Rattle.script_calls.specs.declared.rows.Due.{Due}
use Rattle.script_calls.specs.SeenRow.{SeenRow}

-- a row with these calls, none of them entered
abbrev pub unentered : {C : Type 0} → List (Due C) → SeenRow C
unentered ds = record { calls = ds; entered = 0 }

abbrev pub no_calls : {C : Type 0} → SeenRow C
no_calls = unentered []

-- the row of this actor
abbrev pub row_at : {C : Type 0} → ActorNo → List (SeenRow C) → SeenRow C
row_at a rows = slice_index_or rows (a.value - 1) no_calls

-- the first call that wasn't entered
abbrev pub next_in : {C : Type 0} → SeenRow C → Option (Due C)
next_in r = slice_get r.calls r.entered

-- the row after it was
abbrev pub further : {C : Type 0} → SeenRow C → SeenRow C
further r = record { calls = r.calls; entered = r.entered + 1 }

-- the row with more calls after the others
abbrev pub with_calls : {C : Type 0} → List (Due C) → SeenRow C → SeenRow C
with_calls ds r = record { calls = r.calls ++ ds; entered = r.entered }

-- each call of the row was entered
abbrev pub is_entered : {C : Type 0} → SeenRow C → Bool
is_entered r = nat_le (length r.calls) r.entered

-- and of each row
abbrev pub are_entered : {C : Type 0} → List (SeenRow C) → Bool
are_entered rows = each is_entered rows
