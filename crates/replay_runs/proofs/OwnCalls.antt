-- A line's call by its own words, after the steps of a `do` or an `await`.
use Rattle.std.proofs.Common.{◌≡◌, ◌∙◌, ℕ, Some, List, [], ap, refl, sym, subst}
use Rattle.std.specs.Prelude.{is_some}
use Rattle.dtx_values.specs.declared.call.Call.{Call}
use Rattle.dtx_values.specs.declared.call.Call.TheVariants.{Await, Do}
use Rattle.dtx_values.specs.declared.number.ActorNo.{ActorNo}
use Rattle.dtx_values.specs.declared.number.TxNo.{TxNo}
use Rattle.dtx_values.specs.declared.script.Line.{Line}
use Rattle.dtx_model.specs.Outcome.{is_empty}
use Rattle.dtx_model.specs.Words.{past_of}
use Rattle.dtx_model.specs.World.{World, half}
use Rattle.dtx_model.specs.Steps.{Calls, pending}
use Rattle.dtx_model.specs.Caused.{HasDone, MayAnswer}
use Rattle.dtx_model.specs.Traces.{Placed}
use Rattle.dtx_model.specs.Replay.{CallRan, HasDoneAt, after_turn}
use Rattle.dtx_model.proofs.Bools.{or_right}
use Rattle.replay_runs.specs.RunState.{Settles}

-- a `do` may answer with the steps that were done
pub did_answers : (t : ℕ) (w : World) (c : Call) (u : TxNo) (k n m : ℕ) → c ≡ Do u k n → HasDone t w k n m → MayAnswer t w c m
did_answers t w c u k n m e done = subst (λ (d : Call). MayAnswer t w d m) (sym e) done

-- an `await` where nothing is pending
pub await_answers : (t : ℕ) (w : World) (c : Call) (u : TxNo) (m : ℕ) → c ≡ Await u → pending w ≡ [] → MayAnswer t w c m
await_answers t w c u m e none =
    subst (λ (d : Call). MayAnswer t w d m) (sym e) (or_right (is_some (half w).seen.told_client) (is_empty (pending w)) (ap (λ ns. is_empty ns) none))

-- and any other call wherever it comes
pub plain_answers : (t : ℕ) (w : World) (c : Call) → ((u : TxNo) (k n : ℕ) → c ≡ Do u k n → ⊥) → ((u : TxNo) → c ≡ Await u → ⊥) → MayAnswer t w c 0
plain_answers t w (Do u k n) d a = absurd (d u k n refl)
plain_answers t w (Await u) d a = absurd (a u refl)
plain_answers t w _ d a = tt

-- So the line did its call.
pub did_ran : (s : List Line) (a : ActorNo) (i : ℕ) (t : TxNo) (c : Call) (u : TxNo) (k n m : ℕ) (start before T : List Placed) → c ≡ Do u k n → HasDoneAt s t k n m start before
    → T ≡ after_turn s t (Calls i a c m) before → CallRan s a i (Some (t, c)) start T
did_ran s a i t c u k n m start before T e done turn =
    subst (λ (d : Call). CallRan s a i (Some (t, d)) start T) (sym e) (m, before, done, turn ∙ ap (λ (d : Call). after_turn s t (Calls i a d m) before) e)

pub awaited_ran : (s : List Line) (a : ActorNo) (i : ℕ) (t : TxNo) (c : Call) (u : TxNo) (start before T : List Placed) → c ≡ Await u → Settles s t start before
    → past_of T ≡ after_turn s t (Calls i a c 0) (past_of before) → CallRan s a i (Some (t, c)) (past_of start) (past_of T)
awaited_ran s a i t c u start before T e settled turn =
    subst (λ (d : Call). CallRan s a i (Some (t, d)) (past_of start) (past_of T)) (sym e)
    (settled.count, past_of before, settled.settled, turn ∙ ap (λ (d : Call). after_turn s t (Calls i a d 0) (past_of before)) e)

pub plain_ran : (s : List Line) (a : ActorNo) (i : ℕ) (t : TxNo) (c : Call) (start T : List Placed) → ((u : TxNo) (k n : ℕ) → c ≡ Do u k n → ⊥) → ((u : TxNo) → c ≡ Await u → ⊥)
    → T ≡ after_turn s t (Calls i a c 0) start → CallRan s a i (Some (t, c)) start T
plain_ran s a i t (Do u k n) start T d w e = absurd (d u k n refl)
plain_ran s a i t (Await u) start T d w e = absurd (w u refl)
plain_ran s a i t _ start T d w e = e
