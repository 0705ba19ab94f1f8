-- Pending steps that are done one after the other enter no call, and are the steps that a `do` counts.
use Rattle.std.proofs.Common.{◌≡◌, ◌∙◌, ℕ, zero, suc, Bool, true, false, ◌&&◌, not, List, Some, refl, sym, ap, subst, if◌then◌else◌}
use Rattle.dtx_values.specs.TxIds.{number_of}
use Rattle.dtx_values.specs.declared.tx_id.TxId.{TxId}
use Rattle.dtx_model.specs.declared.waiting.EnteredCall.{EnteredCall}
use Rattle.dtx_model.specs.Words.{has, kth}
use Rattle.dtx_model.specs.World.{World}
use Rattle.dtx_model.specs.Steps.{Step, Stops, StepName, ReplyOf, LocalAct, CoordinatorAct, Delivery, after, block_at, entered, pending}
use Rattle.dtx_model.specs.Caused.{HasStepped, IsNamed, is_begin_sent, may_stop_after, stopped_if}
use Rattle.coordinator_log.specs.State.{LogState}
use Rattle.tx_world.specs.State.{TxState, sends_begin, turned}
use Rattle.tx_world.specs.Stepping.{Does, DoesKth, Stepped}

-- a step that is pending enters no call
enters_none : (w : World) (n : StepName) (m : Step) (ks : List EnteredCall) → IsNamed w n m → entered m ks ≡ ks
enters_none w (ReplyOf e) m ks i = ap (λ (s : Step). entered s ks) i.4
enters_none w LocalAct m ks i = ap (λ (s : Step). entered s ks) i
enters_none w CoordinatorAct m ks i = ap (λ (s : Step). entered s ks) i.2
enters_none w (Delivery c d) m ks i = ap (λ (s : Step). entered s ks) i

-- the calls after a step, whether the coordinator stops at once or not
turned_calls : (up : Bool) (t : ℕ) (w : World) (m : Step) → (turned up t w m).calls ≡ entered m w.calls
unfolding after
turned_calls up t w m = by (sends_begin t w m && not up)
  where
    by : (b : Bool) → (if b then after t (after t w m) Stops else after t w m).calls ≡ entered m w.calls
    by true = refl
    by false = refl

-- so steps leave the calls as they are
kth_calls : {D : Type 0} (faults : D → ℕ) (k : ℕ) (old : TxState) (from : LogState D) (new : TxState) (to : LogState D) → DoesKth faults k old from new to → new.world.calls ≡ old.world.calls
kth_calls faults k old from new to d =
    ap (λ (w : World). w.calls) d.done.world ∙ turned_calls from.is_up (number_of old.transaction) old.world d.step ∙ enters_none old.world d.name d.step old.world.calls d.named

pub stepped_calls : {D : Type 0} (faults : D → ℕ) (k m : ℕ) (old : TxState) (from : LogState D) (new : TxState) (to : LogState D) → Stepped faults k m old from new to → new.world.calls ≡ old.world.calls
stepped_calls faults k zero old from new to s = ap (λ (x : TxState). x.world.calls) s.0
stepped_calls faults k (suc m) old from new to s = kth_calls faults k s.0 s.1 new to s.3 ∙ stepped_calls faults k m old from s.0 s.1 s.2

-- and the transaction
pub stepped_transaction : {D : Type 0} (faults : D → ℕ) (k m : ℕ) (old : TxState) (from : LogState D) (new : TxState) (to : LogState D) → Stepped faults k m old from new to → new.transaction ≡ old.transaction
stepped_transaction faults k zero old from new to s = ap (λ (x : TxState). x.transaction) s.0
stepped_transaction faults k (suc m) old from new to s = s.3.done.transaction ∙ stepped_transaction faults k m old from s.0 s.1 s.2

-- where the coordinator stops at once after a step, the step sent BEGIN, so that the stop may follow it
stop_after : (up : Bool) (t : ℕ) (w : World) (m : Step) → (stops : Bool) × (may_stop_after stops (block_at t w m) ≡ true) × (turned up t w m ≡ stopped_if stops t (after t w m))
stop_after up t w m = by (sends_begin t w m) refl up
  where
    by : (b : Bool) → has is_begin_sent (block_at t w m) ≡ b → (u : Bool)
        → (stops : Bool) × (may_stop_after stops (block_at t w m) ≡ true) × ((if b && not u then after t (after t w m) Stops else after t w m) ≡ stopped_if stops t (after t w m))
    by true e true = (false, refl, refl)
    by true e false = (true, e, refl)
    by false e u = (false, refl, refl)

-- one step more, which was the k-th that was pending: the caller's own, or the world's
pub did_more : {D : Type 0} (faults : D → ℕ) (k m : ℕ) (start : World) (old : TxState) (from : LogState D) (new : TxState) (to : LogState D) (n : StepName) (step : Step)
    → HasStepped (number_of old.transaction) k m start old.world → kth (pending old.world) k ≡ Some n → IsNamed old.world n step → Does faults step old from new to
    → HasStepped (number_of new.transaction) k (suc m) start new.world
did_more faults k m start old from new to n step before stands named d =
    let s = stop_after from.is_up (number_of old.transaction) old.world step in
    let more : HasStepped (number_of old.transaction) k (suc m) start new.world = (old.world, before, n, step, stands, named, s.0, s.1, d.world ∙ s.2) in
    subst (λ (t : TxId). HasStepped (number_of t) k (suc m) start new.world) (sym d.transaction) more

pub kth_more : {D : Type 0} (faults : D → ℕ) (k m : ℕ) (start : World) (old : TxState) (from : LogState D) (new : TxState) (to : LogState D)
    → HasStepped (number_of old.transaction) k m start old.world → DoesKth faults k old from new to → HasStepped (number_of new.transaction) k (suc m) start new.world
kth_more faults k m start old from new to before d = did_more faults k m start old from new to d.name d.step before d.stands d.named d.done

-- so steps that a world did one after the other are steps of the model
pub has_stepped : {D : Type 0} (faults : D → ℕ) (k m : ℕ) (old : TxState) (from : LogState D) (new : TxState) (to : LogState D)
    → Stepped faults k m old from new to → HasStepped (number_of new.transaction) k m old.world new.world
has_stepped faults k zero old from new to s = ap (λ (x : TxState). x.world) s.0
has_stepped faults k (suc m) old from new to s = kth_more faults k m old.world s.0 s.1 new to (has_stepped faults k m old from s.0 s.1 s.2) s.3
