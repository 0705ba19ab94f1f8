-- A step of a run: what the step of one transaction's world, once it is noted, makes of the run, where the log isn't stopped by it.
use Rattle.std.proofs.Common.{◌≡◌, ◌≢◌, ◌⊎◌, ◌≤◌, ◌<◌, ◌-◌, ℕ, zero, suc, Bool, true, false, ◌&&◌, ◌||◌, not, List, [], ◌∷◌, ◌++◌, length, set, Option, None, inl, inr, refl, ap, sym, subst, ◌∙◌, if◌then◌else◌}
use Rattle.std.specs.Prelude.{IsTrue}
use Rattle.std.proofs.lemmas.Bool.{cases_Bool}
use Rattle.dtx_values.specs.declared.call.Call.{Call}
use Rattle.dtx_values.specs.TxIds.{first_id, number_of}
use Rattle.dtx_values.specs.declared.tx_id.TxId.{TxId}
use Rattle.dtx_values.specs.declared.entry.Entry.{Entry}
use Rattle.dtx_values.specs.declared.entry.Entry.TheVariants.{Freed, Logged, Stopped}
use Rattle.dtx_values.specs.declared.number.ActorNo.{ActorNo}
use Rattle.dtx_values.specs.declared.note.Reply.{Reply}
use Rattle.dtx_values.specs.declared.number.EnlNo.{EnlNo}
use Rattle.dtx_values.specs.declared.number.TxNo.{TxNo}
use Rattle.dtx_values.specs.declared.script.Line.{Line}
use Rattle.dtx_values.specs.declared.trace.Place.TheVariants.{Transaction}
use Rattle.outside.specs.Faults.{Rose}
use Rattle.dtx_model.specs.Words.{each, has, kth, latest, onto, past_of}
use Rattle.dtx_model.specs.Grammar.{are_named_well}
use Rattle.dtx_model.specs.Acts.{act_entries}
use Rattle.dtx_model.specs.AtLog.{at_log, is_called, is_log_up, unless_said, up_of}
use Rattle.dtx_model.specs.Coordinated.{Coordinated, commit_sends, coordinate, follow, is_recorded, may_free, may_log}
use Rattle.dtx_model.specs.Observed.{observe}
use Rattle.dtx_model.specs.Replies.{all_due}
use Rattle.dtx_model.specs.Tied.{tied as is_tied_history}
use Rattle.dtx_model.specs.World.{World, core}
use Rattle.dtx_model.specs.Steps.{Done, Full, StoppedNow, StoppedBefore, Step, Calls, Replies, Acts, Coordinates, Delivers, Stops, Restarts, appended, block_at, freed, local_pending, pending}
use Rattle.dtx_model.specs.Caused.{HasStepped, IsCallOf, IsIn, IsOwnRun, Of, answers, is_begin_sent, may_coordinate, plans_of, world_of}
use Rattle.dtx_model.specs.Traces.{Placed, history, placed}
use Rattle.dtx_model.specs.Replay.{is_in_replay, world_at}
use Rattle.dtx_model.proofs.Bools.{and_both, and_left, and_right, not_both}
use Rattle.script_histories.proofs.ReplayRuns.{named_no_call, no_call_entered}
use Rattle.script_histories.proofs.ReplayTurns.{is_stopping}
use Rattle.script_calls.proofs.RightReplies.{is_right}
use Rattle.coordinator_log.specs.Slots.{open_records}
use Rattle.coordinator_log.specs.State.{LogState}
use Rattle.coordinator_log.specs.Stop.{after_calls, stop_in}
use Rattle.tx_world.specs.AtLog.{Answered, IsHad, IsOurs, act_calls, id_of}
use Rattle.tx_world.specs.Leaves.{Leaves}
use Rattle.tx_world.specs.Prepared.{NamesPrepared}
use Rattle.tx_world.specs.State.{TxState, sends_begin, turned}
use Rattle.tx_world.specs.Stepping.{IsAnswered}
use Rattle.tx_world.proofs.StillTied.{is_restarting, named_elsewhere, turned_tied}
use Rattle.dtx_model.specs.Log.{first_of}
use Rattle.world_laws.specs.Left.{steps_left}
use Rattle.turn_parts.specs.Runs.{untouched}
use Rattle.turn_parts.proofs.Filling.{unfilled_commits}
use Rattle.turn_parts.proofs.Turned.{turned_calls}
use Rattle.replay_runs.specs.Found.{Finds, IsFoundIn}
use Rattle.replay_runs.specs.LogRun.{LogGoes, LogStays}
use Rattle.replay_runs.specs.Objects.{DoesGiven}
use Rattle.replay_runs.specs.RunState.{Advances, AreNumbered, GoesWith, HaveSameCalls, Holds, IsRecordKept, IsTied, RunState, RunsOn, StepsGo, StepsOn, Tells, state_of}
use Rattle.replay_runs.proofs.Deeds.{is_done, untelling_block, untelling_commit}
use Rattle.replay_runs.proofs.Finding.{finds_on, found_block, found_done}
use Rattle.replay_runs.proofs.Fitting.{fits_turn, goes_turn, had_turn}
use Rattle.replay_runs.proofs.Goes.{MayTurn, acts_running, answered_down, answered_up, goes_step, named_in_replay, named_turn}
use Rattle.replay_runs.proofs.NeverFull.{never_full, unfilled_written}
use Rattle.replay_runs.proofs.Noting.{history_there, trace_noted}
use Rattle.replay_runs.proofs.Numbered.{is_it, state_here, state_there, state_unreached}
use Rattle.replay_runs.proofs.Telling.{is_untelling, tells_block, tells_done}
use Rattle.replay_runs.proofs.Turns.{IsOwn, MayGive, has_stepped, named_here, pending_here, right_here, turn_here, turned_past, written}
use Rattle.replay_runs.proofs.Tying.{given_same, right_written, tied_noted}

-- What a step of a run is about: it is the k-th that was pending in transaction t of the run, whose world is y after it.
pub record StepOf (D : Type 0) : Type 0 where
  pub run : RunState
  pub t : TxNo
  pub k : ℕ
  pub given : Option (EnlNo × Reply)
  pub y : TxState
  pub from : LogState D
  pub to : LogState D

-- the transaction before it
abbrev pub was : {D : Type 0} → StepOf D → TxState
was a = state_of a.t a.run.worlds

-- the run after it, with these transactions and this trace
abbrev pub run_with : {D : Type 0} → StepOf D → List TxState → List Placed → RunState
run_with a ws new = record { script = a.run.script; objects = a.run.objects; worlds = ws; contexts = a.run.contexts; trace = new }

-- the transactions after it
abbrev pub worlds_after : {D : Type 0} → StepOf D → List TxState
worlds_after a = set a.run.worlds (a.t.value - 1) a.y

-- It was done, where x was the transaction.
pub record IsStepAt {D : Type 0} (faults : D → ℕ) (honest : Bool) (image : D → List ℕ → Type 0) (a : StepOf D) (x : TxState) : Type 0 where
  pub holds : Holds honest image a.from a.run
  pub numbered : AreNumbered a.run.worlds
  pub names : are_named_well a.run.script ≡ true
  pub made : a.t.value ≤ length a.run.worlds
  pub own : IsOwnRun (number_of x.transaction) x.world
  pub may : MayGive a.run.script a.run.objects x.world a.k a.given
  pub does : DoesGiven faults a.given a.k x a.from a.y a.to
  pub nearer : steps_left a.y.world < steps_left x.world
  pub leaves : Leaves honest image faults x a.from a.y a.to
  pub recorded : IsRecordKept a.y

-- It was done.
abbrev pub IsStep : {D : Type 0} → (D → ℕ) → Bool → (D → List ℕ → Type 0) → StepOf D → Type 0
IsStep faults honest image a = IsStepAt faults honest image a (was a)

-- What it does of transaction t itself.
pub record DidStep {D : Type 0} (faults : D → ℕ) (honest : Bool) (a : StepOf D) : Type 0 where
  pub own : IsOwn a.t (was a)
  pub does : DoesGiven faults a.given a.k (was a) a.from a.y a.to
  pub tied : IsTied a.run.script a.run.objects a.t (past_of a.run.trace) (was a)
  pub world : a.y.world ≡ turned a.from.is_up a.t.value (was a).world does.step
  pub past : a.y.world.past ≡ onto (was a).world.past (written a.from.is_up a.t.value (was a).world does.step)
  pub calls : a.y.world.calls ≡ (was a).world.calls
  pub given : (n : ℕ) (w : ActorNo) (c : Call) → IsIn a.y.world.calls n w c → IsCallOf a.run.script a.t.value n w c
  pub planned : each (is_right (plans_of a.run.script) (answers a.run.script a.run.objects)) (written a.from.is_up a.t.value (was a).world does.step) ≡ true
  pub goes : GoesWith a.to a.y
  pub in_replay : is_in_replay does.step ≡ true
  pub sound : IsTrue honest → is_tied_history a.y.world.past ≡ true

-- the entries that it wrote
abbrev pub wrote : {D : Type 0} (faults : D → ℕ) (honest : Bool) (a : StepOf D) → DidStep faults honest a → List Entry
wrote faults honest a d = written a.from.is_up a.t.value (was a).world d.does.step

pub did_step : {D : Type 0} (faults : D → ℕ) (honest : Bool) (image : D → List ℕ → Type 0) (a : StepOf D) → IsStep faults honest image a → DidStep faults honest a
did_step faults honest image a d =
    let z = was a in
    let m = d.does.step in
    let is : z.transaction ≡ first_id a.t = d.numbered.numbered a.t in
    let world : a.y.world ≡ turned a.from.is_up a.t.value z.world m = d.does.done.world ∙ ap (λ (u : TxId). turned a.from.is_up (number_of u) z.world m) is in
    let calls : a.y.world.calls ≡ z.world.calls =
    ap (λ (w : World). w.calls) world ∙ (turned_calls a.from.is_up a.t.value z.world m ∙ no_call_entered z.world.calls m (named_no_call z.world d.does.name m d.does.named)) in
    let own : IsOwn a.t z = record { transaction = is; run = subst (λ (u : TxId). IsOwnRun (number_of u) z.world) is d.own } in
    let tied = d.holds.tied a.t in
    record {
      own = own;
      does = d.does;
      tied = tied;
      world = world;
      past = ap (λ (w : World). w.past) world ∙ turned_past a.from.is_up a.t.value z.world m;
      calls = calls;
      given = given_same a.run.script a.t.value z.world a.y.world calls tied.given;
      planned =
          right_written (plans_of a.run.script) (answers a.run.script a.run.objects) a.from.is_up a.t.value z.world m
          (right_here faults a.run.script a.run.objects a.t (past_of a.run.trace) z a.given a.k a.from a.y a.to d.names tied own d.may d.does);
      goes = goes_step faults a.t z a.y a.from a.to m own d.does.done d.leaves.later.life (d.holds.goes a.t) (named_turn z.world d.does.name m d.does.named);
      in_replay = named_in_replay faults a.t z a.from a.to d.does.name m own d.does.named d.does.done.answered (d.holds.goes a.t);
      sound = λ h.
          subst (λ (w : World). is_tied_history w.past ≡ true) (sym d.does.done.world)
          (turned_tied a.from.is_up (number_of z.transaction) z.world m (named_elsewhere z.world d.does.name m d.does.named) (d.holds.sound h a.t));
    }

-- What it leaves of the log.
pub step_log : {D : Type 0} (faults : D → ℕ) (honest : Bool) (image : D → List ℕ → Type 0) (a : StepOf D) → IsStep faults honest image a → LogGoes faults honest image a.from a.to
step_log faults honest image a d = goes_turn faults honest image (was a) a.y a.t (d.numbered.numbered a.t) a.from a.to d.leaves.later.grows d.leaves.later.still (answered_down faults (was a) a.from a.to d.does.step d.does.done.answered) d.leaves.kept

stays_up : {D : Type 0} (faults : D → ℕ) (x : TxState) (from to : LogState D) (m : Step) → IsAnswered faults x from to m → IsTrue from.is_up → from.armed ≡ None
    → IsTrue to.is_up ⊎ Rose (faults from.disk) (faults to.disk)
stays_up {D} faults x from to (Coordinates a) e up none = by (cases_Bool to.is_up)
  where
    by : (to.is_up ≡ true) ⊎ (to.is_up ≡ false) → IsTrue to.is_up ⊎ Rose (faults from.disk) (faults to.disk)
    by (inl k) = inl k
    by (inr k) = inr (e.cause (e.now.1 (up, k)) (ap (stop_in (act_calls (core x.world))) none))
stays_up {D} faults x from to m e up none = inl (ap (λ (l : LogState D). l.is_up) e ∙ up)

pub step_stays : {D : Type 0} (faults : D → ℕ) (honest : Bool) (image : D → List ℕ → Type 0) (a : StepOf D) → IsStep faults honest image a → LogStays faults a.from a.to
step_stays faults honest image a d =
    record { stays = λ up none. stays_up faults (was a) a.from a.to d.does.step d.does.done.answered up none; still = d.leaves.later.still; unarmed = d.leaves.later.unarmed; life = d.leaves.later.life }

-- No call was entered.
pub step_calls : (ws : List TxState) (t : TxNo) (y : TxState) → t.value ≤ length ws → y.world.calls ≡ (state_of t ws).world.calls → HaveSameCalls ws (set ws (t.value - 1) y)
step_calls ws t y made same u = elim (is_it u t) [
  | inl e ↦
      subst (λ (v : TxNo). (state_of v (set ws (t.value - 1) y)).world.calls ≡ (state_of v ws).world.calls) (sym e)
      (ap (λ (x : TxState). x.world.calls) (state_here t ws y made) ∙ same)
  | inr k ↦ ap (λ (x : TxState). x.world.calls) (state_there u t ws y k)
]

pub calls_same : {D : Type 0} (faults : D → ℕ) (honest : Bool) (image : D → List ℕ → Type 0) (a : StepOf D) → IsStep faults honest image a → HaveSameCalls a.run.worlds (worlds_after a)
calls_same faults honest image a at = step_calls a.run.worlds a.t a.y at.made (did_step faults honest image a at).calls

-- and it wrote something, or nothing
pub step_past : {D : Type 0} (faults : D → ℕ) (honest : Bool) (image : D → List ℕ → Type 0) (a : StepOf D) → IsStep faults honest image a
    → (es : List Entry) × (a.y.world.past ≡ onto (was a).world.past es)
step_past faults honest image a at = let d = did_step faults honest image a at in (wrote faults honest a d, d.past)

-- What holds of each transaction, holds where one is put in its place of which it holds too.
pub each_set : (P : TxState → Type 0) (ws : List TxState) (t : TxNo) (y : TxState) → t.value ≤ length ws → P y → ((u : TxNo) → P (state_of u ws)) → (u : TxNo) → P (state_of u (set ws (t.value - 1) y))
each_set P ws t y made here others u = elim (is_it u t) [
  | inl e ↦ subst (λ (v : TxNo). P (state_of v (set ws (t.value - 1) y))) (sym e) (subst P (sym (state_here t ws y made)) here)
  | inr k ↦ subst P (sym (state_there u t ws y k)) (others u)
]

-- A transaction that goes with a log goes with it in another state, where its life and whether it is up are the same.
pub goes_as : {D : Type 0} (from to : LogState D) (x : TxState) → to.life ≡ from.life → to.is_up ≡ from.is_up → GoesWith from x → GoesWith to x
goes_as from to x life up goes =
    record { life = λ begun. goes.life begun ∙ sym life; stopped = goes.stopped ∙ ap (λ u. has is_begin_sent x.world.past && not u) (sym up) }

-- A block of a transaction leaves the entries at the log as they are.
pub log_placed : (t : TxNo) (es : List Entry) (T : List Placed) → at_log (onto T (placed t es)) ≡ at_log T
log_placed t [] T = refl
log_placed t (x ∷ es) T = log_placed t es ((Transaction t, x) ∷ T)

-- The log is up after the step as it was before it: so the step didn't stop it.
pub unstopped : {D : Type 0} (faults : D → ℕ) (x : TxState) (from to : LogState D) (m : Step) → to.is_up ≡ from.is_up → IsAnswered faults x from to m → is_stopping m ≡ false
unstopped faults x from to (Coordinates StoppedNow) same e = let k = e.now.0 refl in absurd (not_both to.is_up (same ∙ k.0) k.1)
unstopped faults x from to m same e = refl

pub same_up : (a b : Bool) → (a ≡ true → b ≡ true) → (b ≡ true → a ≡ true) → a ≡ b
same_up true b p q = sym (p refl)
same_up false true p q = q refl
same_up false false p q = refl

-- What holds of the run after it is noted,
step_holds : {D : Type 0} (faults : D → ℕ) (honest : Bool) (image : D → List ℕ → Type 0) (a : StepOf D) (new : List Placed) → IsStep faults honest image a → (d : DidStep faults honest a)
    → a.to.is_up ≡ a.from.is_up → past_of new ≡ onto (past_of a.run.trace) (placed a.t (wrote faults honest a d)) → Holds honest image a.to (run_with a (worlds_after a) new)
step_holds faults honest image a new at d same noted =
    let old = past_of a.run.trace in
    let es = wrote faults honest a d in
    let log : at_log (past_of new) ≡ at_log old = ap at_log noted ∙ log_placed a.t es old in
    record {
      tied = tied_noted a.run.script a.run.objects a.run.worlds old (past_of new) a.t a.y es at.made at.holds.tied noted d.past d.given d.planned;
      kept = each_set IsRecordKept a.run.worlds a.t a.y at.made at.recorded at.holds.kept;
      goes = each_set (GoesWith a.to) a.run.worlds a.t a.y at.made d.goes (λ u. goes_as a.from a.to (state_of u a.run.worlds) at.leaves.later.life same (at.holds.goes u));
      had = had_turn a.run.worlds a.t a.y a.from a.to at.numbered at.made at.leaves.slots at.leaves.later.still at.holds.had;
      up = same ∙ (at.holds.up ∙ sym (log_up log));
      uncalled = λ up. ap is_called log ∙ at.holds.uncalled (at.leaves.later.still up);
      fits = λ h. fits_turn image a.run.worlds a.t a.y a.from a.to at.numbered at.made (at.leaves.kept h) at.leaves.later.still (answered_down faults (was a) a.from a.to d.does.step d.does.done.answered) (at.holds.fits h);
      sound = λ h. each_set (λ x. is_tied_history x.world.past ≡ true) a.run.worlds a.t a.y at.made (d.sound h) (at.holds.sound h);
      named = λ h. each_set NamesPrepared a.run.worlds a.t a.y at.made (at.leaves.named (at.holds.named h a.t)) (at.holds.named h);
    }
  where
    log_up : at_log (past_of new) ≡ at_log (past_of a.run.trace) → is_log_up (past_of new) ≡ is_log_up (past_of a.run.trace)
    log_up e = ap (λ (es : List Entry). unless_said (latest up_of es)) e

-- it is a turn of the trace,
step_advances : {D : Type 0} (faults : D → ℕ) (honest : Bool) (image : D → List ℕ → Type 0) (a : StepOf D) (new : List Placed) → IsStep faults honest image a → (d : DidStep faults honest a)
    → a.to.is_up ≡ a.from.is_up → past_of new ≡ onto (past_of a.run.trace) (placed a.t (wrote faults honest a d)) → Advances a.run.script a.t a.k a.run.trace new
step_advances faults honest image a new at d same noted =
    let z = was a in
    let m = d.does.step in
    let old = past_of a.run.trace in
    record {
      name = d.does.name;
      step = m;
      stands = ap (λ ns. kth ns a.k) (sym (pending_here a.run.script a.run.objects a.t old z d.tied d.own)) ∙ d.does.stands;
      named = named_here a.run.script a.run.objects a.t old z d.does.name m d.tied d.does.named;
      in_replay = d.in_replay;
      done = noted ∙ turn_here a.run.script a.run.objects a.t old z m a.from.is_up d.tied d.own at.holds.up (unstopped faults z a.from a.to m same d.does.done.answered);
    }

-- and the trace tells as much of the log as before: of an act that was done how many device calls it made,
pub written_up : (up : Bool) (t : ℕ) (w : World) (m : Step) → up ≡ true → written up t w m ≡ block_at t w m
written_up up t w m e = by (sends_begin t w m) up e
  where
    by : (b u : Bool) → u ≡ true → (if b && not u then block_at t w m ++ Stopped ∷ [] else block_at t w m) ≡ block_at t w m
    by true true e = refl
    by false true e = refl
    by true false e = absurd cc
    by false false e = absurd cc

-- a free is of a record that the log has
frees_stage : (k : Coordinated) → may_free k ≡ true → is_recorded k.stage ≡ true
unfolding may_free
frees_stage k f = and_right (not k.stopped) (is_recorded k.stage) (and_left (not k.stopped && is_recorded k.stage) _ f)

free_had : {D : Type 0} (x : TxState) (log : LogState D) → log.is_up ≡ true → may_log (core x.world) ≡ false → may_coordinate (core x.world) Done ≡ true
    → IsOurs (id_of x) (core x.world) (record { ours = x.ours; unsure = x.unsure; life = x.life }) → IsHad x log → first_of (id_of x) (open_records log.slots) ≢ None
free_had x log up unlogged may ours had =
    had up (ours.recorded (acts_running (core x.world) Done may) ∙ frees_recorded (core x.world) (may_log (core x.world)) unlogged (may_free (core x.world)) refl may)
  where
    frees_recorded : (k : Coordinated) (b : Bool) → b ≡ false → (c : Bool) → may_free k ≡ c → (b || (c && true)) ≡ true → is_recorded k.stage ≡ true
    frees_recorded k true e c f m = absurd cc
    frees_recorded k false e true f m = frees_stage k f
    frees_recorded k false e false f m = absurd cc

done_tells : {D : Type 0} (faults : D → ℕ) (honest : Bool) (image : D → List ℕ → Type 0) (start : LogState D) (a : StepOf D) → IsStep faults honest image a → IsOwn a.t (was a)
    → may_coordinate (core (was a).world) Done ≡ true
    → Answered faults (core (was a).world) (id_of (was a)) (was a).life a.from a.to Done → (T : List Placed) → Tells faults honest image start a.from T
    → Tells faults honest image start a.to (onto T (placed a.t (written a.from.is_up a.t.value (was a).world (Coordinates Done))))
unfolding block_at
done_tells {D} faults honest image start a at own may e T tells =
    let up = answered_up faults (core z.world) (id_of z) z.life a.from a.to Done (λ k. cc) (λ k. cc) e in
    subst (λ (es : List Entry). Tells faults honest image start a.to (onto T (placed a.t es))) (sym (written_up a.from.is_up a.t.value z.world (Coordinates Done) up.0))
    (by (may_log (core z.world)) refl up.0)
  where
    z : TxState
    z = was a

    by : (b : Bool) → may_log (core (was a).world) ≡ b → a.from.is_up ≡ true
        → Tells faults honest image start a.to (onto T (placed a.t (if b then appended (core (was a).world) Done else freed Done)))
    by true l up =
        let calls : act_calls (core (was a).world) ≡ 4 = ap (λ (c : Bool). if c then 4 else 2) l in
        let counted = e.counted refl (inl l) in
        tells_done faults honest image start a.from a.to T a.t Logged 4 (commit_sends (follow (core (was a).world) Logged)) (inl (refl, refl)) (untelling_commit (follow (core (was a).world) Logged)) (unfilled_commits (follow (core (was a).world) Logged))
        (step_log faults honest image a at) (e.smooth (λ k. cc)) (subst (λ n. stop_in n a.from.armed ≡ None) calls counted.0) (subst (λ n. a.to.armed ≡ after_calls n a.from.armed) calls counted.1) tells
    by false l up =
        let calls : act_calls (core (was a).world) ≡ 2 = ap (λ (c : Bool). if c then 4 else 2) l in
        let counted = e.counted refl (inr (free_had (was a) a.from up l may (at.holds.kept a.t).ours (at.holds.had a.t))) in
        tells_done faults honest image start a.from a.to T a.t Freed 2 [] (inr (refl, refl)) refl refl
        (step_log faults honest image a at) (e.smooth (λ k. cc)) (subst (λ n. stop_in n a.from.armed ≡ None) calls counted.0) (subst (λ n. a.to.armed ≡ after_calls n a.from.armed) calls counted.1) tells

-- and of each other step nothing.
untelling_stop : (es : List Entry) → each is_untelling es ≡ true → each is_untelling (es ++ Stopped ∷ []) ≡ true
untelling_stop [] k = refl
untelling_stop (x ∷ es) k =
    and_both (is_untelling x) (each is_untelling (es ++ Stopped ∷ [])) (and_left (is_untelling x) (each is_untelling es) k) (untelling_stop es (and_right (is_untelling x) (each is_untelling es) k))

pub untelling_written : (up : Bool) (t : ℕ) (w : World) (m : Step) → is_done m ≡ false → is_restarting m ≡ false → each is_untelling (written up t w m) ≡ true
untelling_written up t w m d r = by (sends_begin t w m && not up)
  where
    by : (b : Bool) → each is_untelling (if b then block_at t w m ++ Stopped ∷ [] else block_at t w m) ≡ true
    by true = untelling_stop (block_at t w m) (untelling_block t w m d r)
    by false = untelling_block t w m d r

same_tells : {D : Type 0} (faults : D → ℕ) (honest : Bool) (image : D → List ℕ → Type 0) (start : LogState D) (a : StepOf D) (m : Step) → is_done m ≡ false → is_restarting m ≡ false → a.to ≡ a.from
    → (T : List Placed) → (m ≡ Coordinates Full → IsTrue honest → open_records start.slots ≡ [] → ⊥) → Tells faults honest image start a.from T → Tells faults honest image start a.to (onto T (placed a.t (written a.from.is_up a.t.value (was a).world m)))
same_tells {D} faults honest image start a m d r same T room tells =
    let es = written a.from.is_up a.t.value (was a).world m in
    subst (λ (l : LogState D). Tells faults honest image start l (onto T (placed a.t es))) (sym same) (tells_block faults honest image start a.from T a.t es (untelling_written a.from.is_up a.t.value (was a).world m d r)
    (λ is empty. unfilled_written a.from.is_up a.t.value (was a).world m (λ full. room full is empty)) tells)

step_tells : {D : Type 0} (faults : D → ℕ) (honest : Bool) (image : D → List ℕ → Type 0) (start : LogState D) (a : StepOf D) → IsStep faults honest image a → (d : DidStep faults honest a)
    → a.to.is_up ≡ a.from.is_up → (T : List Placed) → Tells faults honest image start a.from T → Tells faults honest image start a.to (onto T (placed a.t (wrote faults honest a d)))
step_tells {D} faults honest image start a at d same T tells =
    by d.does.step (named_turn (was a).world d.does.name d.does.step d.does.named) d.in_replay (unstopped faults (was a) a.from a.to d.does.step same d.does.done.answered) d.does.done.answered
  where
    by : (m : Step) → MayTurn (was a).world m → is_in_replay m ≡ true → is_stopping m ≡ false → IsAnswered faults (was a) a.from a.to m
        → Tells faults honest image start a.to (onto T (placed a.t (written a.from.is_up a.t.value (was a).world m)))
    by (Coordinates Done) may i n e = done_tells faults honest image start a at d.own may e T tells
    by (Coordinates Full) may i n e =
        let up = answered_up faults (core (was a).world) (id_of (was a)) (was a).life a.from a.to Full (λ k. cc) (λ k. cc) e in
        same_tells faults honest image start a (Coordinates Full) refl refl (e.unchanged (λ k. cc) (λ k. cc)) T
        (λ same is empty. never_full image a.from a.run.worlds (open_records start.slots) empty at.numbered up.0 (at.holds.fits is) (tells.foreign is) (e.full refl)) tells
    by (Coordinates StoppedNow) may i n e = absurd cc
    by (Coordinates StoppedBefore) may i n e = absurd cc
    by (Calls n c k j) may i q e = same_tells faults honest image start a (Calls n c k j) refl refl e T (λ full. absurd cc) tells
    by (Replies n r) may i q e = same_tells faults honest image start a (Replies n r) refl refl e T (λ full. absurd cc) tells
    by Acts may i q e = same_tells faults honest image start a Acts refl refl e T (λ full. absurd cc) tells
    by (Delivers c r) may i q e = same_tells faults honest image start a (Delivers c r) refl refl e T (λ full. absurd cc) tells
    by Stops may i q e = absurd may
    by (Restarts found) may i q e = absurd may

-- What restarts find stays right: an act that was done counts its calls, and no other step is at the log.
done_found : {D : Type 0} (faults : D → ℕ) (honest : Bool) (image : D → List ℕ → Type 0) (seen : D → List ℕ) (a : StepOf D) → IsStep faults honest image a → may_coordinate (core (was a).world) Done ≡ true
    → Answered faults (core (was a).world) (id_of (was a)) (was a).life a.from a.to Done → (T : List Placed) → IsFoundIn seen a.from T
    → IsFoundIn seen a.to (onto T (placed a.t (written a.from.is_up a.t.value (was a).world (Coordinates Done))))
unfolding block_at
done_found {D} faults honest image seen a at may e T f =
    let up = answered_up faults (core z.world) (id_of z) z.life a.from a.to Done (λ k. cc) (λ k. cc) e in
    subst (λ (es : List Entry). IsFoundIn seen a.to (onto T (placed a.t es))) (sym (written_up a.from.is_up a.t.value z.world (Coordinates Done) up.0)) (by (may_log (core z.world)) refl up.0 up.1)
  where
    z : TxState
    z = was a

    by : (b : Bool) → may_log (core (was a).world) ≡ b → a.from.is_up ≡ true → a.to.is_up ≡ true
        → IsFoundIn seen a.to (onto T (placed a.t (if b then appended (core (was a).world) Done else freed Done)))
    by true l up there =
        let calls : act_calls (core (was a).world) ≡ 4 = ap (λ (c : Bool). if c then 4 else 2) l in
        let counted = e.counted refl (inl l) in
        found_block seen a.to ((Transaction a.t, Logged) ∷ T) a.t (commit_sends (follow (core (was a).world) Logged)) (untelling_commit (follow (core (was a).world) Logged))
        (found_done seen a.from a.to T a.t Logged 4 refl refl there (subst (λ n. stop_in n a.from.armed ≡ None) calls counted.0) (subst (λ n. a.to.armed ≡ after_calls n a.from.armed) calls counted.1) f)
    by false l up there =
        let calls : act_calls (core (was a).world) ≡ 2 = ap (λ (c : Bool). if c then 4 else 2) l in
        let counted = e.counted refl (inr (free_had (was a) a.from up l may (at.holds.kept a.t).ours (at.holds.had a.t))) in
        found_done seen a.from a.to T a.t Freed 2 refl refl there (subst (λ n. stop_in n a.from.armed ≡ None) calls counted.0) (subst (λ n. a.to.armed ≡ after_calls n a.from.armed) calls counted.1) f

step_found : {D : Type 0} (faults : D → ℕ) (honest : Bool) (image : D → List ℕ → Type 0) (seen : D → List ℕ) (a : StepOf D) → IsStep faults honest image a → (d : DidStep faults honest a) → a.to.is_up ≡ a.from.is_up
    → (T : List Placed) → IsFoundIn seen a.from T → IsFoundIn seen a.to (onto T (placed a.t (wrote faults honest a d)))
step_found {D} faults honest image seen a at d same T f =
    by d.does.step (named_turn (was a).world d.does.name d.does.step d.does.named) d.in_replay (unstopped faults (was a) a.from a.to d.does.step same d.does.done.answered) d.does.done.answered
  where
    beside : (m : Step) → is_done m ≡ false → is_restarting m ≡ false → a.to ≡ a.from → IsFoundIn seen a.to (onto T (placed a.t (written a.from.is_up a.t.value (was a).world m)))
    beside m done restarting e =
        let es = written a.from.is_up a.t.value (was a).world m in
        subst (λ (l : LogState D). IsFoundIn seen l (onto T (placed a.t es))) (sym e) (found_block seen a.from T a.t es (untelling_written a.from.is_up a.t.value (was a).world m done restarting) f)

    by : (m : Step) → MayTurn (was a).world m → is_in_replay m ≡ true → is_stopping m ≡ false → IsAnswered faults (was a) a.from a.to m
        → IsFoundIn seen a.to (onto T (placed a.t (written a.from.is_up a.t.value (was a).world m)))
    by (Coordinates Done) may i n e = done_found faults honest image seen a at may e T f
    by (Coordinates Full) may i n e = beside (Coordinates Full) refl refl (e.unchanged (λ k. cc) (λ k. cc))
    by (Coordinates StoppedNow) may i n e = absurd cc
    by (Coordinates StoppedBefore) may i n e = absurd cc
    by (Calls n c k j) may i q e = beside (Calls n c k j) refl refl e
    by (Replies n r) may i q e = beside (Replies n r) refl refl e
    by Acts may i q e = beside Acts refl refl e
    by (Delivers c r) may i q e = beside (Delivers c r) refl refl e
    by Stops may i q e = absurd may
    by (Restarts found) may i q e = absurd may

-- Nothing more is pending in the trace than in the world.
pub none_pending : (s : List Line) (o : Of) (ws : List TxState) (T : List Placed) (t : TxNo) (k : ℕ) → IsTied s o t T (state_of t ws) → IsOwn t (state_of t ws) → kth (pending (state_of t ws).world) k ≡ None
    → kth (pending (world_at s t T)) k ≡ None
none_pending s o ws T t k tied own none = ap (λ ns. kth ns k) (sym (pending_here s o t T (state_of t ws) tied own)) ∙ none

-- and in one to which nothing came nothing is
blank_pending : (k : ℕ) → kth (pending (record { calls = []; past = [] })) k ≡ None
unfolding pending local_pending all_due act_entries observe coordinate may_log may_free
blank_pending zero = refl
blank_pending (suc k) = refl

untouched_pending : (s : List Line) (o : Of) (ws : List TxState) (T : List Placed) (t : TxNo) (k : ℕ) → IsTied s o t T (state_of t ws) → state_of t ws ≡ untouched t
    → (kth (pending (state_of t ws).world) k ≡ None) × (kth (pending (world_at s t T)) k ≡ None)
untouched_pending s o ws T t k tied blank =
    let past : [] ≡ history t.value T = sym (ap (λ (x : TxState). x.world.past) blank) ∙ tied.past in (
      ap (λ (x : TxState). kth (pending x.world) k) blank ∙ blank_pending k,
      ap (λ (h : List Entry). kth (pending (world_of s h)) k) (sym past) ∙ blank_pending k,
    )

-- So beyond the transactions that were called nothing is.
pub none_beyond : (r : RunState) (t : TxNo) (k : ℕ) → IsTied r.script r.objects t (past_of r.trace) (state_of t r.worlds) → length r.worlds < t.value
    → (kth (pending (state_of t r.worlds).world) k ≡ None) × (kth (pending (world_at r.script t (past_of r.trace))) k ≡ None)
none_beyond r t k tied more = untouched_pending r.script r.objects r.worlds (past_of r.trace) t k tied (state_unreached t r.worlds more)

-- What a step makes of a run.
pub record IsStepped {D : Type 0} (faults : D → ℕ) (honest : Bool) (image : D → List ℕ → Type 0) (obeys : Bool) (seen : D → List ℕ) (a : StepOf D) (q : RunState) : Type 0 where
  pub goes : StepsGo faults honest image a.from a.to a.run q
  pub runs : RunsOn faults honest image obeys seen a.from a.to a.run q
  pub did : StepsOn a.t a.k a.from.is_up a.to.is_up a.run q

-- one more step was done of the transaction, as it is now
pub one_more : {D : Type 0} (faults : D → ℕ) (honest : Bool) (a : StepOf D) (z : TxState) → DidStep faults honest a → z ≡ a.y → (m : ℕ) (start : World)
    → HasStepped a.t.value a.k m start (was a).world → HasStepped a.t.value a.k (suc m) start z.world
one_more faults honest a z d here m start before =
    subst (λ (v : TxState). HasStepped a.t.value a.k (suc m) start v.world) (sym here) (has_stepped faults a.t a.k m start a.given (was a) a.y a.from a.to d.own.transaction d.does before)

-- Where it left the log up, if it was:
pub step_done : {D : Type 0} (faults : D → ℕ) (honest : Bool) (image : D → List ℕ → Type 0) (obeys : Bool) (seen : D → List ℕ) (a : StepOf D) (new : List Placed) → IsStep faults honest image a
    → (IsTrue a.from.is_up → IsTrue a.to.is_up) → ((es : List Entry) → a.y.world.past ≡ onto (was a).world.past es → new ≡ a.run.trace ++ placed a.t es)
    → IsStepped faults honest image obeys seen a (run_with a (worlds_after a) new)
step_done {D} faults honest image obeys seen a new at stays written_down =
    let d = did_step faults honest image a at in
    let es = wrote faults honest a d in
    let same : a.to.is_up ≡ a.from.is_up = same_up a.to.is_up a.from.is_up at.leaves.later.still stays in
    let noted : past_of new ≡ onto (past_of a.run.trace) (placed a.t es) = ap past_of (written_down es d.past) ∙ trace_noted a.run.trace a.t es in
    let here : state_of a.t (worlds_after a) ≡ a.y = state_here a.t a.run.worlds a.y at.made in
    record {
      goes = record { contexts = refl; calls = step_calls a.run.worlds a.t a.y at.made d.calls; log = step_log faults honest image a at; stays = step_stays faults honest image a at };
      runs = record {
        script = refl;
        objects = refl;
        holds = step_holds faults honest image a new at d same noted;
        tells = λ start tells.
            subst (λ (T : List Placed). Tells faults honest image start a.to T) (sym noted) (step_tells faults honest image start a at d same (past_of a.run.trace) tells);
        finds = λ is start found.
            subst (λ (T : List Placed). Finds faults seen start a.to T) (sym noted)
            (finds_on faults seen start a.from a.to (past_of a.run.trace) (onto (past_of a.run.trace) (placed a.t es)) at.leaves.later.grows (λ f. inr (step_found faults honest image seen a at d same (past_of a.run.trace) f)) found);
      };
      did = record {
        stepped = one_more faults honest a (state_of a.t (worlds_after a)) d here;
        some = step_advances faults honest image a new at d same noted;
        apart = λ up u other. ap (history u.value) noted ∙ history_there u a.t (past_of a.run.trace) es other;
        nearer = subst (λ (z : TxState). steps_left z.world < steps_left (was a).world) (sym here) at.nearer;
      };
    }
