-- What is written at an actor's context leaves the transactions and the log alone; and what a scope line does.
use Rattle.std.proofs.Common.{◌≡◌, ℕ, Bool, true, List, Some, slice_get, ap, refl, sym, subst, ◌∙◌}
use Rattle.dtx_values.specs.declared.call.Call.{Call}
use Rattle.dtx_values.specs.declared.entry.Entry.{Entry}
use Rattle.dtx_values.specs.declared.number.ActorNo.{ActorNo}
use Rattle.dtx_values.specs.declared.number.TxNo.{TxNo}
use Rattle.dtx_values.specs.declared.scope.OpenScope.{OpenScope}
use Rattle.dtx_values.specs.declared.script.Line.{Line}
use Rattle.dtx_model.specs.Words.{kth, latest, onto, past_of}
use Rattle.dtx_model.specs.AtLog.{at_log, is_called, unless_said, up_of}
use Rattle.dtx_model.specs.Caused.{IsCallOf, IsIn, Of}
use Rattle.dtx_model.specs.Contexts.{lines_before, scope_block, scope_calls}
use Rattle.dtx_model.specs.Replay.{after_calls, after_scope}
use Rattle.dtx_model.specs.Tied.{tied as is_tied_history}
use Rattle.dtx_model.specs.Traces.{Placed, history, noted}
use Rattle.dtx_model.proofs.Histories.{history-noted}
use Rattle.coordinator_log.specs.State.{LogState}
use Rattle.script_histories.proofs.FollowingLog.{log-noted}
use Rattle.script_histories.proofs.Replays.{scope_call_of}
use Rattle.scope_context.specs.Standing.{Standing}
use Rattle.tx_world.specs.AtLog.{IsHad}
use Rattle.tx_world.specs.Prepared.{NamesPrepared}
use Rattle.tx_world.specs.State.{TxState}
use Rattle.replay_runs.specs.Found.{Finds}
use Rattle.replay_runs.specs.RunState.{FitsLog, GoesWith, Holds, IsRecordKept, IsTied, IsToPlan, RunState, Tells, state_of}
use Rattle.script_calls.specs.Scoped.{AreOpen, scopes_at}
use Rattle.replay_runs.proofs.Finding.{finds_there, found_noted}
use Rattle.replay_runs.proofs.Telling.{tells_noted}

-- the trace has this block of entries at an actor's context more, and the transactions, the script and the objects are the same
pub record IsNoted (a : ActorNo) (es : List Entry) (old new : RunState) : Type 0 where
  pub script : new.script ≡ old.script
  pub objects : new.objects ≡ old.objects
  pub worlds : new.worlds ≡ old.worlds
  pub block : past_of new.trace ≡ onto (past_of old.trace) (noted a es)

noted_tied : (a : ActorNo) (es : List Entry) (old new : RunState) (t : TxNo) → IsNoted a es old new → IsTied old.script old.objects t (past_of old.trace) (state_of t old.worlds)
    → IsTied new.script new.objects t (past_of new.trace) (state_of t new.worlds)
noted_tied a es old new t n k =
    let same : state_of t new.worlds ≡ state_of t old.worlds = ap (λ (ws : List TxState). state_of t ws) n.worlds in
    let here : history t.value (past_of new.trace) ≡ history t.value (past_of old.trace) =
    ap (λ (T : List Placed). history t.value T) n.block ∙ history-noted t.value a (past_of old.trace) es in
    record {
      past = ap (λ (x : TxState). x.world.past) same ∙ k.past ∙ sym here;
      given = λ m b c i. subst (λ (s : List Line). IsCallOf s t.value m b c) (sym n.script) (k.given m b c (subst (λ (x : TxState). IsIn x.world.calls m b c) same i));
      planned =
          subst (λ (s : List Line). IsToPlan s new.objects (state_of t new.worlds).world.past) (sym n.script)
          (subst (λ (o : Of). IsToPlan old.script o (state_of t new.worlds).world.past) (sym n.objects) (subst (λ (x : TxState). IsToPlan old.script old.objects x.world.past) (sym same) k.planned));
    }

-- so what holds of the run holds still,
pub noted_holds : {D : Type 0} (honest : Bool) (image : D → List ℕ → Type 0) (log : LogState D) (a : ActorNo) (es : List Entry) (old new : RunState) → IsNoted a es old new → Holds honest image log old → Holds honest image log new
noted_holds honest image log a es old new n h =
    let same : (t : TxNo) → state_of t old.worlds ≡ state_of t new.worlds = λ t. ap (λ (ws : List TxState). state_of t ws) (sym n.worlds) in
    let at : at_log (past_of new.trace) ≡ at_log (past_of old.trace) = ap at_log n.block ∙ log-noted a es (past_of old.trace) in
    record {
      tied = λ t. noted_tied a es old new t n (h.tied t);
      kept = λ t. subst IsRecordKept (same t) (h.kept t);
      goes = λ t. subst (λ (x : TxState). GoesWith log x) (same t) (h.goes t);
      had = λ t. subst (λ (x : TxState). IsHad x log) (same t) (h.had t);
      up = h.up ∙ ap (λ (xs : List Entry). unless_said (latest up_of xs)) (sym at);
      uncalled = λ up. ap is_called at ∙ h.uncalled up;
      fits = λ hon t. subst (λ (x : TxState). FitsLog image log x) (same t) (h.fits hon t);
      sound = λ hon t. subst (λ (x : TxState). is_tied_history x.world.past ≡ true) (same t) (h.sound hon t);
      named = λ hon t. subst (λ (x : TxState). NamesPrepared x) (same t) (h.named hon t);
    }

-- and the trace tells the same of the log.
pub noted_tells : {D : Type 0} (faults : D → ℕ) (honest : Bool) (image : D → List ℕ → Type 0) (start log : LogState D) (a : ActorNo) (es : List Entry) (old new : RunState) → IsNoted a es old new
    → Tells faults honest image start log (past_of old.trace) → Tells faults honest image start log (past_of new.trace)
noted_tells faults honest image start log a es old new n k =
    subst (λ (T : List Placed). Tells faults honest image start log T) (sym n.block) (tells_noted faults honest image start log (past_of old.trace) a es k)

pub noted_finds : {D : Type 0} (faults : D → ℕ) (seen : D → List ℕ) (start log : LogState D) (a : ActorNo) (es : List Entry) (old new : RunState) → IsNoted a es old new
    → Finds faults seen start log (past_of old.trace) → Finds faults seen start log (past_of new.trace)
noted_finds faults seen start log a es old new n k =
    subst (λ (T : List Placed). Finds faults seen start log T) (sym n.block)
    (finds_there faults seen start log (past_of old.trace) (onto (past_of old.trace) (noted a es)) (found_noted seen log (past_of old.trace) a es) k)

-- So a scope line did what it writes at its context and then these calls.
pub scope_did : (s : List Line) (n : ℕ) (l : Line) (xs : List OpenScope) (cs : List (TxNo × Call)) (start noted_at end : List Placed) → cs ≡ scope_calls l.body xs
    → noted_at ≡ onto start (noted l.actor (scope_block n l.actor l.body xs)) → end ≡ after_calls s n l.actor cs noted_at → end ≡ after_scope s n l xs start
scope_did s n l xs cs start noted_at end given block did =
    did ∙ ap (λ (ds : List (TxNo × Call)). after_calls s n l.actor ds noted_at) given ∙ ap (λ (T : List Placed). after_calls s n l.actor (scope_calls l.body xs) T) block

-- and each of these calls is one that the script gives
pub scope_gives : (s : List Line) (n : ℕ) (l : Line) (contexts : List Standing) (cs : List (TxNo × Call)) (i : ℕ) (t : TxNo) (c : Call) → kth s n ≡ Some l → AreOpen contexts (lines_before s n)
    → cs ≡ scope_calls l.body (scopes_at l.actor contexts) → slice_get cs i ≡ Some (t, c) → IsCallOf s t.value n l.actor c
scope_gives s n l contexts cs i t c stands open_at given here =
    scope_call_of s (lines_before s n) l n i t c stands refl
    (subst (λ (xs : List OpenScope). slice_get (scope_calls l.body xs) i ≡ Some (t, c)) (open_at l.actor) (subst (λ (ds : List (TxNo × Call)). slice_get ds i ≡ Some (t, c)) given here))
