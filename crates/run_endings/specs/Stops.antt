-- Why the caller's part of a run stops.
use Rattle.std.specs.Prelude.{ℕ, ◌≡◌, ◌≢◌, ◌⊎◌, false, List, Contains, map}
use Rattle.dtx_values.specs.declared.script.Line.{Line}
use Rattle.coordinator_log.specs.State.{LogState}
use Rattle.tx_cells.specs.Board.{transactions_of}
use Rattle.tx_cells.specs.Cell.{Cell}
use Rattle.tx_cells.specs.LogCell.{LogCell}
use Rattle.tx_cells.specs.Ties.{DoDiffer, IsCause, TiesWith}
use Rattle.tx_world.specs.State.{TxState}
use Rattle.tx_cells.specs.declared.error.TurnError.{TurnError}
use Rattle.tx_cells.specs.declared.error.TurnError.TheVariants.{Memory, Differs as TheyDiffer}
use Rattle.run_endings.specs.declared.stop.RunStop.{RunStop}
use Rattle.run_endings.specs.declared.stop.RunStop.TheVariants as Stop
use Rattle.dtx_model.specs.AtLog.{follows}
use Rattle.script_calls.specs.FirstCalls.{are_first, par_line}

-- what a turn that isn't done makes of the run
abbrev pub run_stop : TurnError → RunStop
run_stop Memory = Stop.Memory
run_stop (TheyDiffer d) = Stop.Differs d

-- Why a turn isn't done in this transaction over this log, as the two are then: memory ran out, or they don't tie, and the two that don't are named.
abbrev pub IsReason : {D : Type 0} → TxState → LogState D → TurnError → Type 0
IsReason x log e = (e ≡ Memory) ⊎ IsCause x log e

-- one of the transactions doesn't tie with the log
abbrev pub HasUntied : {D : Type 0} → List Cell → LogCell D → Type 0
HasUntied cells log = (c : Cell) × Contains cells c × (TiesWith c.tx log.log → ⊥)

-- one of them doesn't follow it
abbrev pub HasAstray : {D : Type 0} → List Cell → LogCell D → Type 0
HasAstray cells log = (c : Cell) × Contains cells c × (follows log.past c.tx.world.past ≡ false)

-- at one of them, or at the log, a call of a line before `par` comes after one of a line that isn't lower
abbrev pub HasOvertaken : {D : Type 0} → List Line → List Cell → LogCell D → Type 0
HasOvertaken s cells log = ((c : Cell) × Contains cells c × (are_first (par_line s) c.tx.world.past ≡ false)) ⊎ (are_first (par_line s) log.past ≡ false)

-- they aren't those of the script, by number
abbrev pub AreOthers : List Line → List Cell → Type 0
AreOthers s cells = map (λ c. c.tx.transaction.t.value) cells ≢ transactions_of s

-- Why a run stops whose transactions and log are these then: memory ran out; or one of the transactions doesn't tie with the log, and the two values that differ are named.
abbrev pub StopsFor : {D : Type 0} → List Cell → LogCell D → RunStop → Type 0
StopsFor cells log Stop.Memory = Unit {0}
StopsFor cells log (Stop.Differs d) = HasUntied cells log × DoDiffer d
StopsFor cells log Stop.Astray = ⊥

-- What keeps a run of the script s from its end: the same, or at the end the transactions aren't those of the script, by number, one of them doesn't follow the log, or a call of a line before `par` doesn't come first.
abbrev pub EndsFor : {D : Type 0} → List Line → List Cell → LogCell D → RunStop → Type 0
EndsFor s cells log Stop.Astray = AreOthers s cells ⊎ (HasAstray cells log ⊎ HasOvertaken s cells log)
EndsFor s cells log e = StopsFor cells log e

-- why a transaction isn't right at the end of a run whose `par` is line `par`
abbrev pub IsWrong : {D : Type 0} → ℕ → Cell → LogCell D → RunStop → Type 0
IsWrong par x log Stop.Memory = ⊥
IsWrong par x log (Stop.Differs d) = (TiesWith x.tx log.log → ⊥) × DoDiffer d
IsWrong par x log Stop.Astray = (follows log.past x.tx.world.past ≡ false) ⊎ (are_first par x.tx.world.past ≡ false)

-- the reason why a run stops is named: memory ran out, two kept values differ, which are named, or what stands at the end isn't what is to stand there
abbrev pub IsNamed : RunStop → Type 0
IsNamed Stop.Memory = Unit {0}
IsNamed (Stop.Differs d) = DoDiffer d
IsNamed Stop.Astray = Unit {0}
