-- A pending step that needs no log, or is a reply: what of it is done, and that it leaves fewer that can come.
use Rattle.std.proofs.Common.{◌≡◌, ◌<◌, ◌∙◌, ℕ, suc, true, false, Some, refl, sym, subst}
use Rattle.dtx_values.specs.declared.note.Note.{Note}
use Rattle.dtx_values.specs.TxIds.{number_of}
use Rattle.dtx_values.specs.declared.tx_id.TxId.{TxId}
use Rattle.dtx_values.specs.declared.note.Reply.{Reply as ReplyTo}
use Rattle.dtx_values.specs.declared.number.EnlNo.{EnlNo}
use Rattle.dtx_model.specs.Plans.{plan_of, planned}
use Rattle.dtx_model.specs.Replies.{due_of, fits}
use Rattle.dtx_model.specs.Words.{kth}
use Rattle.dtx_model.specs.World.{World, half}
use Rattle.dtx_model.specs.Steps.{Acts, Delivers, Replies, LocalAct, Delivery, ReplyOf, pending}
use Rattle.dtx_model.specs.Caused.{HasStepped, IsIn, IsOwnRun}
use Rattle.coordinator_log.specs.State.{LogState}
use Rattle.world_laws.specs.Left.{steps_left}
use Rattle.world_parts.specs.declared.pending.PendingStep.{PendingStep}
use Rattle.world_parts.specs.declared.pending.PendingStep.TheVariants.{Reply, Act, Coordinate, Deliver}
use Rattle.tx_world.specs.OwnCalls.{DoesAlone, DoesKthAlone}
use Rattle.world_parts.specs.Pending.{is_alone_step, name_of, step_of}
use Rattle.tx_world.specs.State.{TxState}
use Rattle.tx_world.specs.Stepping.{Does, DoesKth}
use Rattle.tx_world.proofs.LeftSteps.{step_nearer}
use Rattle.tx_world.proofs.Unlogged.{does_alone, turned_silent}

-- the local act or a delivery, where it is the k-th
pub kth_alone : (k : ℕ) (s : PendingStep) (old new : TxState) → is_alone_step s ≡ true → kth (pending old.world) k ≡ Some (name_of s) → DoesAlone (step_of s) old new → DoesKthAlone k old new
kth_alone k (Reply e n r) old new a at d = absurd cc
kth_alone k Act old new a at d = record { name = LocalAct; step = Acts; stands = at; named = refl; planned = tt; done = d }
kth_alone k Coordinate old new a at d = absurd cc
kth_alone k (Deliver c e) old new a at d = record { name = Delivery c e; step = Delivers c e; stands = at; named = refl; planned = tt; done = d }

-- and with any log
pub kth_beside : {D : Type 0} (faults : D → ℕ) (k : ℕ) (s : PendingStep) (old new : TxState) (log : LogState D) → is_alone_step s ≡ true → kth (pending old.world) k ≡ Some (name_of s)
    → DoesAlone (step_of s) old new → DoesKth faults k old log new log
kth_beside faults k (Reply e n r) old new log a at d = absurd cc
kth_beside faults k Act old new log a at d = record { name = LocalAct; step = Acts; stands = at; named = refl; planned = tt; done = does_alone faults Acts old new log refl d }
kth_beside faults k Coordinate old new log a at d = absurd cc
kth_beside faults k (Deliver c e) old new log a at d =
    record { name = Delivery c e; step = Delivers c e; stands = at; named = refl; planned = tt; done = does_alone faults (Delivers c e) old new log refl d }

-- and a planned reply, which fits the note that it answers
pub kth_reply : {D : Type 0} (faults : D → ℕ) (k : ℕ) (e : EnlNo) (n : Note) (r : ReplyTo) (old : TxState) (from : LogState D) (new : TxState) (to : LogState D) → kth (pending old.world) k ≡ Some (ReplyOf e)
    → due_of (half old.world).seen e.value ≡ Some n → planned (plan_of old.world.calls e.value) n ≡ Some r → fits r n ≡ true → Does faults (Replies e r) old from new to → DoesKth faults k old from new to
kth_reply faults k e n r old from new to at due plan fit d = record { name = ReplyOf e; step = Replies e r; stands = at; named = (r, n, due, fit, refl); planned = (n, due, plan); done = d }

-- the k-th pending step leaves fewer steps
pub alone_nearer : (k : ℕ) (old new : TxState) → IsOwnRun (number_of old.transaction) old.world → DoesKthAlone k old new → steps_left new.world < steps_left old.world
alone_nearer k old new run did =
    let P : World → Type 0 = λ w. steps_left w < steps_left old.world in
    let same = did.done.world ∙ sym (turned_silent true (number_of old.transaction) old.world did.step did.done.silent) in
    subst P (sym same) (step_nearer (IsIn old.world.calls) true (number_of old.transaction) run.0 old.world did.name did.step k run.1 did.stands did.named)

-- so it is one of the steps that a `do` counts
pub alone_more : (k m : ℕ) (start : World) (old new : TxState) → HasStepped (number_of old.transaction) k m start old.world → DoesKthAlone k old new → HasStepped (number_of new.transaction) k (suc m) start new.world
alone_more k m start old new before d =
    let more : HasStepped (number_of old.transaction) k (suc m) start new.world = (old.world, before, d.name, d.step, d.stands, d.named, false, refl, d.done.world) in
    subst (λ (t : TxId). HasStepped (number_of t) k (suc m) start new.world) (sym d.done.transaction) more
