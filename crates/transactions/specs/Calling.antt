-- What a call makes of one transaction.
use Rattle.std.specs.Prelude.{ℕ, ◌≡◌, ◌+◌, ◌-◌, ◌==◌, ◌||◌, Bool, true, false, min, is_some}
use Rattle.dtx_values.specs.TxIds.{number_of}
use Rattle.dtx_values.specs.declared.call.Call.{Call}
use Rattle.dtx_values.specs.declared.call.Call.TheVariants.{Tick}
use Rattle.dtx_values.specs.declared.entry.Answer.{Answer}
use Rattle.dtx_values.specs.declared.number.ActorNo.{ActorNo}
use Rattle.dtx_model.specs.World.{answer_at, half}
use Rattle.dtx_model.specs.Steps.{Calls}
use Rattle.coordinator_log.specs.State.{LogState}
use Rattle.tx_world.specs.Stepping.{Does}
use Rattle.transactions.specs.State.{LiveState}

-- The call was entered on this line, the next one, and answered so. The log wasn't touched.
pub record IsCalled {D : Type 0} (faults : D → ℕ) (log : LogState D) (c : Call) (line : ℕ) (answer : Answer) (old new : LiveState) : Type 0 where
  pub actor : ActorNo
  pub done : Does faults (Calls line actor c 0) old.tx log new.tx log
  pub answered : answer ≡ answer_at (number_of old.tx.transaction) old.tx.world c 0
  pub line_is : line ≡ old.lines + 1
  pub rest : new ≡ record old { tx = new.tx; lines = line }

-- so many milliseconds passed for a transaction between these two readings of the clock; it goes on by at most 1,000,000,000 at a time
abbrev pub passed : ℕ → ℕ → ℕ
passed time now = min (now - time) 1000000000

-- Where this says that the time stands, nothing was done; or else the call of a tick was entered, and the time went on with it.
abbrev pub TicksUnless : Bool → {D : Type 0} → (D → ℕ) → LogState D → ℕ → LiveState → LiveState → Type 0
TicksUnless true faults log now old new = new ≡ old
TicksUnless false faults log now old new =
    (line : ℕ) × (answer : Answer) × (mid : LiveState) × IsCalled faults log (Tick old.number.t (passed old.time now)) line answer old mid
    × (new ≡ record mid { time = old.time + passed old.time now })

-- The time of a transaction went on to this reading of the clock, unless no time passed, or it is decided.
abbrev pub Ticks : {D : Type 0} → (D → ℕ) → LogState D → ℕ → LiveState → LiveState → Type 0
Ticks faults log now old new = TicksUnless ((passed old.time now == 0) || is_some (half old.tx.world).seen.decided) faults log now old new
