-- The trace of a run on threads, as it is put together: the contexts by actor, the transactions by number, then the log.
use Rattle.std.specs.Prelude.{ℕ, ◌+◌, ◌≡◌, nat_le, nat_lt, Bool, true, List, [], ◌∷◌, ◌++◌, map}
use Rattle.dtx_values.specs.declared.entry.Entry.{Entry}
use Rattle.dtx_values.specs.TxIds.{number_of}
use Rattle.dtx_values.specs.declared.number.ActorNo.{ActorNo}
use Rattle.dtx_values.specs.declared.script.Line.{Line}
use Rattle.dtx_values.specs.declared.trace.Place.{Place}
use Rattle.dtx_values.specs.declared.trace.Place.TheVariants.{Context, Log, Transaction}
use Rattle.dtx_model.specs.AtLog.{at_log}
use Rattle.dtx_model.specs.Caused.{Caused, IsOwnRun}
use Rattle.dtx_model.specs.Traces.{Placed, at_context, history, placed}
use Rattle.dtx_model.specs.Words.{always, each, past_of}
use Rattle.dtx_model.specs.World.{core}
use Rattle.tx_world.specs.AtLog.{IsOurs, id_of}
use Rattle.tx_cells.specs.Cell.{Cell, IsKept}
use Rattle.thread_runs.specs.Contexts.{entries_of}

-- where a place stands in the trace: the contexts by actor, the transactions by number, and then the log
abbrev pub rank : Place → ℕ
rank (Context a) = a.value
rank (Transaction t) = 16 + t.value
rank Log = 273

-- The places of a trace, newest first, stand in that order.
abbrev pub are_in_order : List Placed → Bool
are_in_order T = always (λ past x. each (λ y. nat_le (rank y.0) (rank x.0)) past) T

-- They do, and each stands before this rank.
pub record IsLaidBelow (n : ℕ) (T : List Placed) : Type 0 where
  pub in_order : are_in_order T ≡ true
  pub below : each (λ y. nat_lt (rank y.0) n) T ≡ true

-- The trace, newest first, has at each actor's context what the lists have, by actor, and nothing elsewhere.
pub record HasContexts (ess : List (List Entry)) (T : List Placed) : Type 0 where
  pub laid : IsLaidBelow 17 T
  pub contexts : (a : ActorNo) → at_context a.value T ≡ past_of (entries_of a ess)
  pub transactions : (t : ℕ) → history t T ≡ []
  pub log : at_log T ≡ []

-- the trace with the history of each of these cells after it, in order; both are newest first
abbrev pub with_histories : List Cell → List Placed → List Placed
with_histories [] T = T
with_histories (c ∷ cs) T = with_histories cs (placed c.tx.transaction.t c.tx.world.past ++ T)

-- the trace with these entries at the log after it; both are newest first
abbrev pub with_log : List Entry → List Placed → List Placed
with_log h T = map (λ e. (Log, e)) h ++ T

-- The cell is one of a run of the script s in which the first k managers have an object, over a disk that is honest or not: its history is caused by the script, and made by its own calls, which are the script's; and what it keeps of the log is what
-- its coordinator knows.
pub record IsCellOf (s : List Line) (k : ℕ) (honest : Bool) (c : Cell) : Type 0 where
  pub caused : Caused s k (number_of c.tx.transaction) c.tx.world.past
  pub run : IsOwnRun (number_of c.tx.transaction) c.tx.world
  pub kept : IsKept s k honest c.tx c.rows
  pub ours : IsOurs (id_of c.tx) (core c.tx.world) (record { ours = c.tx.ours; unsure = c.tx.unsure; life = c.tx.life })
