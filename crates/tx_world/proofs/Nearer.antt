-- A pending step leaves fewer that can come.
use Rattle.std.proofs.Common.{◌<◌, ℕ, sym, subst}
use Rattle.dtx_model.specs.World.{World}
use Rattle.dtx_values.specs.TxIds.{number_of}
use Rattle.dtx_model.specs.Caused.{IsIn, IsOwnRun}
use Rattle.coordinator_log.specs.State.{LogState}
use Rattle.world_laws.specs.Left.{steps_left}
use Rattle.tx_world.specs.State.{TxState}
use Rattle.tx_world.specs.Stepping.{DoesKth}
use Rattle.tx_world.proofs.LeftSteps.{step_nearer}

-- the k-th pending step leaves fewer steps
pub kth_nearer : {D : Type 0} (faults : D → ℕ) (k : ℕ) (old : TxState) (from : LogState D) (new : TxState) (to : LogState D) → IsOwnRun (number_of old.transaction) old.world
    → DoesKth faults k old from new to → steps_left new.world < steps_left old.world
kth_nearer faults k old from new to run did =
    let P : World → Type 0 = λ w. steps_left w < steps_left old.world in
    subst P (sym did.done.world) (step_nearer (IsIn old.world.calls) from.is_up (number_of old.transaction) run.0 old.world did.name did.step k run.1 did.stands did.named)
