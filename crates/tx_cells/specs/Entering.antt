-- The next call of an actor at a transaction.
use Rattle.std.specs.Prelude.{ℕ, ◌≡◌, ◌≢◌, ◌⊎◌, ◌==◌, ◌||◌, not, Bool, true, false, List, Option, Some, None, is_some, if◌then◌else◌}
use Rattle.dtx_values.specs.declared.call.Call.{Call}
use Rattle.dtx_values.specs.TxIds.{number_of}
use Rattle.dtx_values.specs.declared.call.Call.TheVariants.{Await}
use Rattle.dtx_values.specs.declared.number.ActorNo.{ActorNo}
use Rattle.dtx_values.specs.declared.number.TxNo.{TxNo}
use Rattle.dtx_values.specs.declared.script.Body.{Body}
use Rattle.dtx_values.specs.declared.script.Body.TheVariants.{Durable, Marshal}
use Rattle.dtx_values.specs.declared.script.Line.{Line}
use Rattle.dtx_model.specs.Words.{kth}
use Rattle.dtx_model.specs.Caused.{IsCallOf}
use Rattle.dtx_model.specs.Outcome.{is_empty}
use Rattle.dtx_model.specs.World.{World, answer_at, half}
use Rattle.dtx_model.specs.Steps.{Step, Calls, pending}
use Rattle.script_calls.specs.declared.rows.Due.{Due}
use Rattle.script_calls.specs.Rows.{further, next_in, row_at}
use Rattle.tx_world.specs.State.{TxState}
use Rattle.tx_world.specs.Stepping.{DoesAt, DoesPending}
use Rattle.tx_cells.specs.Cell.{Cell}
use Rattle.tx_cells.specs.declared.turns.Turned.{Turned}
use Rattle.tx_cells.specs.declared.turns.Turned.TheVariants.{Did, NotNext, Later}

-- the actor's next call here
abbrev pub next_of : ActorNo → Cell → Option (Due Call)
next_of a c = next_in (row_at a c.rows)

-- the call waits: it is an await, the client wasn't told, and a step is pending
abbrev pub must_wait : World → Call → Bool
must_wait w (Await t) = not (is_some (half w).seen.told_client || is_empty (pending w))
must_wait w c = false

abbrev pub later_if : Bool → Option Turned
later_if true = Some Later
later_if false = None

-- what is said to line n instead of entering it, where this is the actor's next call here: that the next is another line's, or none is left; or that it waits. None where it is entered.
abbrev pub put_off : World → ℕ → Option (Due Call) → Option Turned
put_off w n (Some d) = if d.line == n then later_if (must_wait w d.call) else Some (NotNext d.line)
put_off w n None = Some (NotNext 0)

-- the line may begin a promotion, and so needs the log: it is a durable or a marshal
abbrev pub is_promoting_line : Body → Bool
is_promoting_line (Durable t e r s) = true
is_promoting_line (Marshal t) = true
is_promoting_line _ = false

abbrev pub is_promoting : Option Line → Bool
is_promoting (Some l) = is_promoting_line l.body
is_promoting None = false

abbrev pub may_promote_at : List Line → ℕ → Bool
may_promote_at s n = is_promoting (kth s n)

-- what may come of the call of line n by this actor at transaction t, by the script alone: it was entered, and is a call that the line gives the transaction; or the actor's next call there is another line's, or none is left; or it
-- waits, and is an await
abbrev pub MayTurn : List Line → ℕ → ActorNo → ℕ → Turned → Type 0
MayTurn s t a n (Did x) = (c : Call) × IsCallOf s t n a c
MayTurn s t a n (NotNext m) = (m ≡ 0) ⊎ ((m ≢ n) × (c : Call) × IsCallOf s t m a c)
MayTurn s t a n Later = (u : TxNo) × IsCallOf s t n a (Await u)

-- The actor's next call here, that of line n, was entered: this was done of that step. It was answered so.
pub record Enters (does : Step → TxState → TxState → Type 0) (a : ActorNo) (n : ℕ) (answer : Turned) (old new : Cell) : Type 0 where
  pub call : Call
  pub next : next_of a old ≡ Some (record { line = n; call = call })
  pub answered : answer ≡ Did (answer_at (number_of old.tx.transaction) old.tx.world call 0)
  pub done : does (Calls n a call 0) old.tx new.tx
  pub ours : new.tx.ours ≡ old.tx.ours
  pub unsure : new.tx.unsure ≡ old.tx.unsure
  pub row : row_at a new.rows ≡ further (row_at a old.rows)
  pub others : (b : ActorNo) → b ≢ a → row_at b new.rows ≡ row_at b old.rows
  pub out : new.out ≡ old.out

-- the step was done, at a log in some state
abbrev pub IsDone : Step → TxState → TxState → Type 0
IsDone m old new = (up : Bool) × (life : ℕ) × DoesAt up life m old new

-- the k-th pending step was done, at a log in some state
abbrev pub IsKthDone : ℕ → TxState → TxState → Type 0
IsKthDone k old new = DoesPending (λ m. IsDone m old new) k old.world
