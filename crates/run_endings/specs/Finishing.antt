-- What the caller's steps keep after the threads of a run ended, and how many calls are left to be entered.
use Rattle.std.specs.Prelude.{ℕ, ◌+◌, ◌-◌, ◌≡◌, Bool, true, false, List, Option, IsSome, Some, length, map, slice_get}
use Rattle.std.specs.List.{sum_by}
use Rattle.dtx_values.specs.declared.call.Call.{Call}
use Rattle.dtx_values.specs.declared.call.Call.TheVariants.{Await}
use Rattle.dtx_values.specs.declared.number.ActorNo.{ActorNo}
use Rattle.dtx_values.specs.declared.number.RmNo.{RmNo}
use Rattle.dtx_values.specs.declared.script.Line.{Line}
use Rattle.script_calls.specs.Managers.{AreManagers}
use Rattle.script_calls.specs.Rows.{row_at}
use Rattle.script_calls.specs.SeenRow.{SeenRow}
use Rattle.tx_cells.specs.Cell.{Cell}
use Rattle.tx_cells.specs.Entering.{next_of}
use Rattle.tx_cells.specs.LogCell.{LogCell}

-- The managers of a run of the script s in which the first k have an object may be asked for replies: the table has the manager of each enlistment, and so many objects are there.
pub record MayAsk (s : List Line) (k : ℕ) (table : List (Option RmNo)) (count : ℕ) : Type 0 where
  pub managers : AreManagers s s table
  pub objects : count ≡ k

-- In each of the cells the same calls were entered.
abbrev pub HaveSameCalls : List Cell → List Cell → Type 0
HaveSameCalls old new = map (λ c. c.rows) new ≡ map (λ c. c.rows) old

-- They are of the same transactions.
abbrev pub HaveSameNumbers : List Cell → List Cell → Type 0
HaveSameNumbers old new = map (λ c. c.tx.transaction) new ≡ map (λ c. c.tx.transaction) old

-- actor a has a next call at the cell of this place
abbrev pub IsDueAt : ActorNo → List Cell → ℕ → Type 0
IsDueAt a cells i = (c : Cell) × (slice_get cells i ≡ Some c) × IsSome (next_of a c)

-- the call is an await
abbrev pub is_await : Call → Bool
is_await (Await t) = true
is_await _ = false

-- how many calls of a row weren't entered
abbrev pub left_in : {C : Type 0} → SeenRow C → ℕ
left_in r = length r.calls - r.entered

-- how many calls of actor a weren't entered, at these transactions
abbrev pub left_among : ActorNo → List Cell → ℕ
left_among a cells = sum_by (λ c. left_in (row_at a c.rows)) cells

-- and at the log too
abbrev pub left_of : {D : Type 0} → ActorNo → List Cell → LogCell D → ℕ
left_of a cells log = left_among a cells + left_in (row_at a log.rows)
