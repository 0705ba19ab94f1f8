-- A step of a transaction, as its world does it and as the trace has it: a step that doesn't stop the log is a turn of the trace, whether the log is up or not.
use Rattle.std.proofs.Common.{◌≡◌, ◌<◌, ℕ, suc, Bool, true, false, ◌&&◌, not, List, [], ◌∷◌, ◌++◌, Option, None, Some, is_some, refl, ap, sym, subst, ◌∙◌, if◌then◌else◌}
use Rattle.std.specs.Prelude.{IfSome}
use Rattle.dtx_values.specs.declared.call.Call.{Call}
use Rattle.dtx_values.specs.TxIds.{first_id, number_of}
use Rattle.dtx_values.specs.declared.tx_id.TxId.{TxId}
use Rattle.dtx_values.specs.declared.entry.Entry.{Entry}
use Rattle.dtx_values.specs.declared.entry.Entry.TheVariants.{Stopped}
use Rattle.dtx_values.specs.declared.note.Note.{Note}
use Rattle.dtx_values.specs.declared.note.Reply.{Reply}
use Rattle.dtx_values.specs.declared.number.ActorNo.{ActorNo}
use Rattle.dtx_values.specs.declared.number.EnlNo.{EnlNo}
use Rattle.dtx_values.specs.declared.number.TxNo.{TxNo}
use Rattle.dtx_values.specs.declared.script.Line.{Line}
use Rattle.dtx_values.specs.declared.trace.Place.TheVariants.{Transaction}
use Rattle.dtx_model.specs.Words.{has, kth, onto}
use Rattle.dtx_model.specs.Coordinated.{coordinate, follow, may_log}
use Rattle.dtx_model.specs.Grammar.{are_named_well}
use Rattle.dtx_model.specs.Plans.{planned as reply_planned}
use Rattle.dtx_model.specs.Replies.{due_of, with_note}
use Rattle.dtx_model.specs.World.{World, core, half}
use Rattle.dtx_model.specs.Steps.{StoppedNow, StoppedBefore, Step, Replies, Coordinates, Stops, StepName, ReplyOf, LocalAct, CoordinatorAct, Delivery, after, appended, block_at, freed, pending}
use Rattle.dtx_model.specs.Caused.{HasStepped, IsCallOf, IsIn, IsNamed, IsOwnRun, IsRun, Of, answers, entered_in, is_begin_sent, may_coordinate, may_stop_after, plans_of, stopped_if, world_of}
use Rattle.dtx_model.specs.Traces.{Placed, placed}
use Rattle.dtx_model.specs.AtLog.{is_log_up}
use Rattle.dtx_model.specs.Replay.{after_turn, block_in, stop_if, world_at}
use Rattle.dtx_model.proofs.Histories.{onto-append}
use Rattle.dtx_model.proofs.Lifting.{lift_ran}
use Rattle.outcome_law.specs.LineCalls.{AreCalls}
use Rattle.script_histories.proofs.ReplayRuns.{named_same}
use Rattle.script_histories.proofs.ReplaySame.{block_same, pending_same}
use Rattle.script_histories.proofs.ReplayTurns.{is_stopping}
use Rattle.script_histories.proofs.ScriptCalls.{ran_calls}
use Rattle.script_calls.proofs.RightReplies.{IsReplyRight, free_to, reply_to}
use Rattle.script_calls.proofs.Unsilent.{unsilent}
use Rattle.coordinator_log.specs.State.{LogState}
use Rattle.tx_world.specs.State.{TxState, sends_begin, turned}
use Rattle.tx_world.specs.Stepping.{Does, IsToPlan, reply_in}
use Rattle.tx_world.proofs.Begun.{stopped_begun}
use Rattle.tx_world.proofs.LeftSteps.{step_nearer}
use Rattle.world_laws.specs.Left.{steps_left}
use Rattle.script_calls.proofs.PlannedReplies.{planned_here}
use Rattle.replay_runs.specs.Objects.{DoesGiven, MayReply}
use Rattle.replay_runs.specs.RunState.{AreNumbered, IsTied, state_of}

-- what holds of each world, of that of transaction t
pub record IsOwn (t : TxNo) (x : TxState) : Type 0 where
  pub transaction : x.transaction ≡ first_id t
  pub run : IsOwnRun t.value x.world

pub own_at : (t : TxNo) (ws : List TxState) (x : TxState) → AreNumbered ws → state_of t ws ≡ x → IsOwnRun (number_of x.transaction) x.world → IsOwn t (state_of t ws)
own_at t ws x n at run =
    let moved : IsOwnRun (number_of (state_of t ws).transaction) (state_of t ws).world = subst (λ (z : TxState). IsOwnRun (number_of z.transaction) z.world) (sym at) run in
    record { transaction = n.numbered t; run = subst (λ (u : TxId). IsOwnRun (number_of u) (state_of t ws).world) (n.numbered t) moved }

-- What its own calls made, the script's calls made, where each is one of these.
by_script : (s : List Line) (t : ℕ) (w : World) → ((n : ℕ) (a : ActorNo) (c : Call) → IsIn w.calls n a c → IsCallOf s t n a c) → IsOwnRun t w → IsRun (IsCallOf s t) t w
by_script s t w g r = (r.0, lift_ran (IsIn w.calls) (IsCallOf s t) g t r.0 w r.1)

calls_by_script : (s : List Line) (t : ℕ) (w : World) → ((n : ℕ) (a : ActorNo) (c : Call) → IsIn w.calls n a c → IsCallOf s t n a c) → IsOwnRun t w → AreCalls s t w.calls w.past
calls_by_script s t w g r = let run = by_script s t w g r in ran_calls s t run.0 w run.1

-- So what is pending in the world of a transaction that is tied is pending by the trace,
pub pending_here : (s : List Line) (o : Of) (t : TxNo) (T : List Placed) (x : TxState) → IsTied s o t T x → IsOwn t x → pending x.world ≡ pending (world_at s t T)
pending_here s o t T x tied own =
    pending_same s t.value x.world.calls x.world.past (calls_by_script s t.value x.world tied.given own.run) ∙ ap (λ (h : List Entry). pending (world_of s h)) tied.past

-- a step makes the same block there,
pub block_here : (s : List Line) (o : Of) (t : TxNo) (T : List Placed) (x : TxState) (m : Step) → IsTied s o t T x → IsOwn t x → block_at t.value x.world m ≡ block_in s t m T
block_here s o t T x m tied own =
    block_same s t.value x.world.calls x.world.past m (calls_by_script s t.value x.world tied.given own.run) ∙ ap (λ (h : List Entry). block_at t.value (world_of s h) m) tied.past

-- and has the same name.
pub named_here : (s : List Line) (o : Of) (t : TxNo) (T : List Placed) (x : TxState) (n : StepName) (m : Step) → IsTied s o t T x → IsNamed x.world n m → IsNamed (world_at s t T) n m
named_here s o t T x n m tied k =
    subst (λ (h : List Entry). IsNamed (world_of s h) n m) tied.past (named_same x.world.calls (entered_in s x.world.past) x.world.past n m k)

-- What a step writes: where BEGIN is sent while the log isn't up, a stop behind its block.
abbrev pub written : Bool → ℕ → World → Step → List Entry
written up t w m = if sends_begin t w m && not up then block_at t w m ++ Stopped ∷ [] else block_at t w m

pub turned_past : (up : Bool) (t : ℕ) (w : World) (m : Step) → (turned up t w m).past ≡ onto w.past (written up t w m)
unfolding after block_at
turned_past up t w m = by (sends_begin t w m && not up)
  where
    by : (c : Bool) → (if c then after t (after t w m) Stops else after t w m).past ≡ onto w.past (if c then block_at t w m ++ Stopped ∷ [] else block_at t w m)
    by true = sym (onto-append w.past (block_at t w m) (Stopped ∷ []))
    by false = refl

-- It is placed at the end of the trace, and so it is a turn, where the step doesn't stop the log and the trace says whether that is up.
pub placed_more : (t : TxNo) (T : List Placed) (es fs : List Entry) → onto T (placed t (es ++ fs)) ≡ onto (onto T (placed t es)) (placed t fs)
placed_more t T [] fs = refl
placed_more t T (x ∷ es) fs = placed_more t ((Transaction t, x) ∷ T) es fs

block_turn : (s : List Line) (t : TxNo) (m : Step) (T : List Placed) → is_stopping m ≡ false
    → after_turn s t m T ≡ stop_if (has is_begin_sent (block_in s t m T) && not (is_log_up T)) t (onto T (placed t (block_in s t m T)))
block_turn s t (Coordinates StoppedNow) T k = absurd cc
block_turn s t m T k = refl

pub turn_here : (s : List Line) (o : Of) (t : TxNo) (T : List Placed) (x : TxState) (m : Step) (up : Bool) → IsTied s o t T x → IsOwn t x → up ≡ is_log_up T → is_stopping m ≡ false
    → onto T (placed t (written up t.value x.world m)) ≡ after_turn s t m T
turn_here s o t T x m up tied own same k =
    by (has is_begin_sent (block_at t.value x.world m) && not up) (block_at t.value x.world m)
    ∙ (ap (λ (es : List Entry). stop_if (has is_begin_sent es && not up) t (onto T (placed t es))) (block_here s o t T x m tied own)
    ∙ (ap (λ (u : Bool). stop_if (has is_begin_sent (block_in s t m T) && not u) t (onto T (placed t (block_in s t m T)))) same ∙ sym (block_turn s t m T k)))
  where
    by : (b : Bool) (es : List Entry) → onto T (placed t (if b then es ++ Stopped ∷ [] else es)) ≡ stop_if b t (onto T (placed t es))
    by true es = placed_more t T es (Stopped ∷ [])
    by false es = refl

-- So it is one more of steps that were done.
stops_behind : (up : Bool) (t : ℕ) (w : World) (m : Step) → (stops : Bool) × (may_stop_after stops (block_at t w m) ≡ true) × (turned up t w m ≡ stopped_if stops t (after t w m))
stops_behind up t w m = by (sends_begin t w m) up refl
  where
    by : (b u : Bool) → has is_begin_sent (block_at t w m) ≡ b
        → (stops : Bool) × (may_stop_after stops (block_at t w m) ≡ true) × ((if b && not u then after t (after t w m) Stops else after t w m) ≡ stopped_if stops t (after t w m))
    by true true e = (false, refl, refl)
    by true false e = (true, e, refl)
    by false u e = (false, refl, refl)

pub has_stepped : {D : Type 0} (faults : D → ℕ) (t : TxNo) (k m : ℕ) (start : World) (given : Option (EnlNo × Reply)) (x y : TxState) (from to : LogState D) → x.transaction ≡ first_id t → DoesGiven faults given k x from y to
    → HasStepped t.value k m start x.world → HasStepped t.value k (suc m) start y.world
has_stepped faults t k m start given x y from to at d h =
    let s = stops_behind from.is_up t.value x.world d.step in
    let world : y.world ≡ stopped_if s.0 t.value (after t.value x.world d.step) = d.done.world ∙ (ap (λ (u : TxId). turned from.is_up (number_of u) x.world d.step) at ∙ s.2) in
    (x.world, h, d.name, d.step, d.stands, d.named, s.0, s.1, world)

-- The coordinator acts only where BEGIN was sent: a stop of its act would stop it.
stop_block : (w : World) (b : Bool) → (if b then appended (core w) StoppedBefore else freed StoppedBefore) ≡ Stopped ∷ []
stop_block w true = refl
stop_block w false = refl

pub acts_begun : (t : ℕ) (w : World) → IsOwnRun t w → may_coordinate (core w) StoppedBefore ≡ true → has is_begin_sent w.past ≡ true
unfolding after block_at coordinate follow
acts_begun t w r may =
    let v : World = record { calls = w.calls; past = Stopped ∷ w.past } in
    let same : v ≡ after t w (Coordinates StoppedBefore) = ap (λ (es : List Entry). record { calls = w.calls; past = onto w.past es }) (sym (stop_block w (may_log (core w)))) in
    stopped_begun t v (Coordinates StoppedBefore ∷ r.0, (w, r.1, may, same)) refl

-- What is asked of a reply that is given: it fits the note, and its enlistment has an object.
abbrev pub MayGive : List Line → Of → World → ℕ → Option (EnlNo × Reply) → Type 0
MayGive s o w k given = IfSome given (λ x. MayReply w k x.0 x.1 × (answers s o x.0.value ≡ true))

-- both together
pub given_by : (s : List Line) (o : Of) (w : World) (k : ℕ) (given : Option (EnlNo × Reply)) → IfSome given (λ x. MayReply w k x.0 x.1) → IfSome given (λ x. answers s o x.0.value ≡ true) → MayGive s o w k given
given_by s o w k (Some x) may own = (may, own)
given_by s o w k None may own = tt

-- the step that is pending there is a reply of it
reply_pending : (w : World) (e : EnlNo) (n : Note) (m : Option StepName) → reply_in w m ≡ Some (e, n) → (m ≡ Some (ReplyOf e)) × (due_of (half w).seen e.value ≡ Some n)
reply_pending w e n (Some (ReplyOf f)) k = by (due_of (half w).seen f.value) refl k
  where
    by : (d : Option Note) → due_of (half w).seen f.value ≡ d → with_note f d ≡ Some (e, n) → (Some (ReplyOf f) ≡ Some (ReplyOf e)) × (due_of (half w).seen e.value ≡ Some n)
    by (Some m) q k = let pair : (f, m) ≡ (e, n) = cc in
        let same : f ≡ e = ap (λ (x : EnlNo × Note). x.0) pair in
        let note : m ≡ n = ap (λ (x : EnlNo × Note). x.1) pair in
        (ap (λ g. Some (ReplyOf g)) same, subst (λ (g : EnlNo). due_of (half w).seen g.value ≡ Some n) same (q ∙ ap Some note))
    by None q k = absurd cc
reply_pending w e n (Some LocalAct) k = absurd cc
reply_pending w e n (Some CoordinatorAct) k = absurd cc
reply_pending w e n (Some (Delivery c d)) k = absurd cc
reply_pending w e n None k = absurd cc

pub given_named : (w : World) (k : ℕ) (e : EnlNo) (r : Reply) → MayReply w k e r → (kth (pending w) k ≡ Some (ReplyOf e)) × IsNamed w (ReplyOf e) (Replies e r)
given_named w k e r may = let there = reply_pending w e may.note (kth (pending w) k) may.due in (there.0, (r, may.note, there.1, may.fitting, refl))

-- It leaves fewer steps,
pub reply_nearer : {D : Type 0} (faults : D → ℕ) (k : ℕ) (e : EnlNo) (r : Reply) (x : TxState) (from : LogState D) (y : TxState) (to : LogState D) → IsOwnRun (number_of x.transaction) x.world → MayReply x.world k e r
    → Does faults (Replies e r) x from y to → steps_left y.world < steps_left x.world
reply_nearer faults k e r x from y to run may did =
    let there = given_named x.world k e r may in
    let P : World → Type 0 = λ w. steps_left w < steps_left x.world in
    subst P (sym did.world) (step_nearer (IsIn x.world.calls) from.is_up (number_of x.transaction) run.0 x.world (ReplyOf e) (Replies e r) k run.1 there.0 there.1)

-- and a reply that is planned or given is right: it is the one that the script plans, or that of an enlistment that has an object, which isn't silent.
pub right_here : {D : Type 0} (faults : D → ℕ) (s : List Line) (o : Of) (t : TxNo) (T : List Placed) (x : TxState) (given : Option (EnlNo × Reply)) (k : ℕ) (from : LogState D) (y : TxState) (to : LogState D) → are_named_well s ≡ true
    → IsTied s o t T x → IsOwn t x → MayGive s o x.world k given → (d : DoesGiven faults given k x from y to) → IsReplyRight (plans_of s) (answers s o) d.step
right_here faults s o t T x (Some (e, r)) k from y to named tied own (may, object) d =
    let there = reply_pending x.world e may.note (kth (pending x.world) k) may.due in
    let spoken : is_some (reply_planned (plans_of s e.value) may.note) ≡ true =
    ap is_some (sym (planned_here s t.value x.world e.value may.note named tied.given own.run there.1)) ∙ unsilent x.world k e may.note there.0 there.1 in
    subst (λ (m : Step). IsReplyRight (plans_of s) (answers s o) m) (sym d.reply) (free_to (plans_of s) (answers s o) e may.note r object may.fitting spoken)
right_here faults s o t T x None k from y to named tied own may d = by d.step d.reply
  where
    by : (m : Step) → IsToPlan x.world m → IsReplyRight (plans_of s) (answers s o) m
    by (Replies e r) (n, due, plan) = reply_to (plans_of s) (answers s o) e n r (sym (planned_here s t.value x.world e.value n named tied.given own.run due) ∙ plan)
    by _ q = tt
