-- A call that was entered at a transaction of a run: what holds of the run holds after it, and it is a turn of the trace.
use Rattle.std.proofs.Common.{◌≡◌, ◌≢◌, ◌≤◌, ◌-◌, ℕ, Bool, true, false, ◌&&◌, not, arith, List, [], ◌∷◌, ◌++◌, length, get_or, set, inl, inr, refl, ap, sym, subst, ◌∙◌, if◌then◌else◌}
use Rattle.dtx_values.specs.declared.call.Call.{Call}
use Rattle.dtx_values.specs.TxIds.{first_id, number_of}
use Rattle.dtx_values.specs.declared.tx_id.TxId.{TxId}
use Rattle.dtx_values.specs.declared.entry.Entry.{Entry}
use Rattle.dtx_values.specs.declared.entry.Entry.TheVariants.{Stopped}
use Rattle.dtx_values.specs.declared.number.ActorNo.{ActorNo}
use Rattle.dtx_values.specs.declared.number.TxNo.{TxNo}
use Rattle.dtx_values.specs.declared.script.Line.{Line}
use Rattle.dtx_model.specs.Words.{each, latest, onto, past_of}
use Rattle.dtx_model.specs.declared.waiting.EnteredCall.{EnteredCall}
use Rattle.dtx_model.specs.AtLog.{at_log, is_called, unless_said, up_of}
use Rattle.dtx_model.specs.Tied.{tied as is_tied_history}
use Rattle.dtx_model.specs.World.{World}
use Rattle.dtx_model.specs.Steps.{Step, Calls, block_at}
use Rattle.dtx_model.specs.Caused.{AreMadeOnce, IsCallOf, IsIn, IsOwnRun, MayAnswer, Of, answers, plans_of}
use Rattle.dtx_model.specs.Traces.{Placed, history, placed}
use Rattle.dtx_model.specs.Replay.{after_turn}
use Rattle.dtx_model.proofs.Bools.{and_both, and_left, and_right}
use Rattle.script_calls.proofs.RightReplies.{right_onto}
use Rattle.coordinator_log.specs.State.{LogState}
use Rattle.script_histories.proofs.FollowingLog.{log-placed}
use Rattle.tx_world.specs.AtLog.{IsHad}
use Rattle.tx_world.specs.Prepared.{NamesPrepared}
use Rattle.tx_world.specs.State.{TxState, may_enter, sends_begin, turned}
use Rattle.tx_world.specs.Stepping.{Does}
use Rattle.tx_world.proofs.Naming.{named_does}
use Rattle.tx_world.proofs.StillTied.{turned_tied}
use Rattle.script_calls.proofs.Scripts.{given_more}
use Rattle.turn_parts.proofs.Turned.{turned_calls}
use Rattle.replay_runs.specs.Found.{Finds}
use Rattle.replay_runs.specs.RunState.{AreNumbered, FitsLog, GoesWith, Holds, IsBelow, IsRecordKept, IsTied, IsToPlan, RunState, Tells, state_of}
use Rattle.replay_runs.proofs.Deeds.{untelling_block}
use Rattle.replay_runs.proofs.Entering.{enters}
use Rattle.replay_runs.proofs.Fitting.{fits_as, had_as}
use Rattle.replay_runs.proofs.Goes.{goes_step}
use Rattle.replay_runs.proofs.Noting.{history_here, history_there, trace_noted}
use Rattle.replay_runs.proofs.Numbered.{is_it, state_here, state_reached, state_there}
use Rattle.replay_runs.proofs.NeverFull.{unfilled_written}
use Rattle.replay_runs.proofs.Finding.{finds_there, found_block}
use Rattle.replay_runs.proofs.Telling.{is_untelling, tells_block}
use Rattle.replay_runs.proofs.Turns.{IsOwn, own_at, turn_here, turned_past, written}
use Rattle.replay_runs.proofs.Tying.{right_written, tied_same}

-- A call of line n was entered at transaction t, which was x and is y then: what it wrote stands at the end of the trace, and the other transactions are as before.
pub record Entered {D : Type 0} (faults : D → ℕ) (log : LogState D) (t : TxNo) (n : ℕ) (a : ActorNo) (c : Call) (m : ℕ) (x y : TxState) (old new : RunState) : Type 0 where
  pub script : new.script ≡ old.script
  pub objects : new.objects ≡ old.objects
  pub others : (u : TxNo) → u ≢ t → state_of u new.worlds ≡ state_of u old.worlds
  pub was : state_of t old.worlds ≡ x
  pub now : state_of t new.worlds ≡ y
  pub own : IsOwn t x
  pub does : Does faults (Calls n a c m) x log y log
  pub ours : y.ours ≡ x.ours
  pub unsure : y.unsure ≡ x.unsure
  pub kept : IsRecordKept y
  pub block : past_of new.trace ≡ onto (past_of old.trace) (placed t (written log.is_up t.value x.world (Calls n a c m)))

-- the world after it
world_after : {D : Type 0} (faults : D → ℕ) (log : LogState D) (t : TxNo) (n : ℕ) (a : ActorNo) (c : Call) (m : ℕ) (x y : TxState) (old new : RunState)
    → Entered faults log t n a c m x y old new → y.world ≡ turned log.is_up t.value x.world (Calls n a c m)
world_after faults log t n a c m x y old new e = e.does.world ∙ ap (λ (u : TxId). turned log.is_up (number_of u) x.world (Calls n a c m)) e.own.transaction

-- the transaction stays tied to its history
tied_here : {D : Type 0} (faults : D → ℕ) (log : LogState D) (t : TxNo) (n : ℕ) (a : ActorNo) (c : Call) (m : ℕ) (x y : TxState) (old new : RunState)
    → Entered faults log t n a c m x y old new → IsCallOf old.script t.value n a c → IsTied old.script old.objects t (past_of old.trace) x → IsTied old.script old.objects t (past_of new.trace) y
tied_here faults log t n a c m x y old new e mine tied =
    let step : Step = Calls n a c m in
    let T = past_of old.trace in
    let es = written log.is_up t.value x.world step in
    let k : EnteredCall = record { line = n; actor = a; call = c } in
    let world = world_after faults log t n a c m x y old new e in
    let calls : y.world.calls ≡ k ∷ x.world.calls = ap (λ (w : World). w.calls) world ∙ turned_calls log.is_up t.value x.world step in
    let past : y.world.past ≡ onto x.world.past es = ap (λ (w : World). w.past) world ∙ turned_past log.is_up t.value x.world step in
    record {
      past = past ∙ ap (λ (h : List Entry). onto h es) tied.past ∙ sym (ap (λ (U : List Placed). history t.value U) e.block ∙ history_here t T es);
      given = subst (λ (ks : List EnteredCall). (j : ℕ) (b : ActorNo) (d : Call) → IsIn ks j b d → IsCallOf old.script t.value j b d) (sym calls)
          (given_more old.script t.value k x.world.calls mine tied.given);
      planned = subst (λ (h : List Entry). IsToPlan old.script old.objects h) (sym past)
          (right_onto (plans_of old.script) (answers old.script old.objects) x.world.past es tied.planned (right_written (plans_of old.script) (answers old.script old.objects) log.is_up t.value x.world step tt));
    }

-- and so do the others
tied_there : {D : Type 0} (faults : D → ℕ) (log : LogState D) (t : TxNo) (n : ℕ) (a : ActorNo) (c : Call) (m : ℕ) (x y : TxState) (old new : RunState)
    → Entered faults log t n a c m x y old new → (u : TxNo) → u ≢ t → IsTied old.script old.objects u (past_of old.trace) (state_of u old.worlds) → IsTied old.script old.objects u (past_of new.trace) (state_of u new.worlds)
tied_there faults log t n a c m x y old new e u apart tied =
    let es = written log.is_up t.value x.world (Calls n a c m) in
    let same = sym (e.others u apart) in
    let there : history u.value (past_of new.trace) ≡ history u.value (past_of old.trace) =
    ap (λ (U : List Placed). history u.value U) e.block ∙ history_there u t (past_of old.trace) es apart in
    subst (λ (z : TxState). IsTied old.script old.objects u (past_of new.trace) z) same (tied_same old.script old.objects u (past_of old.trace) (past_of new.trace) (state_of u old.worlds) there tied)

-- What holds of each transaction holds still, where it does of the one that was called.
each_still : {D : Type 0} (faults : D → ℕ) (log : LogState D) (t : TxNo) (n : ℕ) (a : ActorNo) (c : Call) (m : ℕ) (x y : TxState) (old new : RunState) (P : TxState → Type 0)
    → Entered faults log t n a c m x y old new → (P x → P y) → ((u : TxNo) → P (state_of u old.worlds)) → (u : TxNo) → P (state_of u new.worlds)
each_still faults log t n a c m x y old new P e here all u = elim (is_it u t) [
  | inl k ↦ subst (λ (v : TxNo). P (state_of v new.worlds)) (sym k) (subst P (sym e.now) (here (subst P e.was (all t))))
  | inr k ↦ subst P (sym (e.others u k)) (all u)
]

-- Nothing comes to the log.
log_still : {D : Type 0} (faults : D → ℕ) (log : LogState D) (t : TxNo) (n : ℕ) (a : ActorNo) (c : Call) (m : ℕ) (x y : TxState) (old new : RunState)
    → Entered faults log t n a c m x y old new → at_log (past_of new.trace) ≡ at_log (past_of old.trace)
log_still faults log t n a c m x y old new e = ap at_log e.block ∙ log-placed t (written log.is_up t.value x.world (Calls n a c m)) (past_of old.trace)

-- The record that it keeps still names who said PREPARED.
called_named : {D : Type 0} (faults : D → ℕ) (log : LogState D) (t : TxNo) (n : ℕ) (a : ActorNo) (c : Call) (m : ℕ) (x y : TxState) (old new : RunState) → Entered faults log t n a c m x y old new
    → IsRecordKept x → NamesPrepared x → NamesPrepared y
called_named faults log t n a c m x y old new e kept named =
    named_does log.is_up log.life (Calls n a c m) x y refl kept.ours e.kept.own (record { transaction = e.does.transaction; world = e.does.world; life = e.does.life; kept = e.does.kept }) named

-- So what holds of the run holds still,
pub entered_holds : {D : Type 0} (faults : D → ℕ) (honest : Bool) (image : D → List ℕ → Type 0) (log : LogState D) (t : TxNo) (n : ℕ) (a : ActorNo) (c : Call) (m : ℕ) (x y : TxState) (old new : RunState)
    → Entered faults log t n a c m x y old new → IsCallOf old.script t.value n a c → Holds honest image log old → Holds honest image log new
entered_holds faults honest image log t n a c m x y old new e mine h =
    let s = old.script in
    let o = old.objects in
    let step : Step = Calls n a c m in
    let tied : (u : TxNo) → IsTied s o u (past_of new.trace) (state_of u new.worlds) = λ u. elim (is_it u t) [
      | inl k ↦
          subst (λ (v : TxNo). IsTied s o v (past_of new.trace) (state_of v new.worlds)) (sym k)
          (subst (λ (z : TxState). IsTied s o t (past_of new.trace) z) (sym e.now)
          (tied_here faults log t n a c m x y old new e mine (subst (λ (z : TxState). IsTied s o t (past_of old.trace) z) e.was (h.tied t))))
      | inr k ↦ tied_there faults log t n a c m x y old new e u k (h.tied u)
    ] in
    let at = log_still faults log t n a c m x y old new e in
    record {
      tied = λ u.
          subst (λ (r : List Line). IsTied r new.objects u (past_of new.trace) (state_of u new.worlds)) (sym e.script)
          (subst (λ (k : Of). IsTied s k u (past_of new.trace) (state_of u new.worlds)) (sym e.objects) (tied u));
      kept = each_still faults log t n a c m x y old new IsRecordKept e (λ k. e.kept) h.kept;
      goes = each_still faults log t n a c m x y old new (GoesWith log) e (λ k. goes_step faults t x y log log step e.own e.does refl k tt) h.goes;
      had = each_still faults log t n a c m x y old new (λ z. IsHad z log) e (had_as log x y e.does.transaction e.ours) h.had;
      up = h.up ∙ ap (λ (es : List Entry). unless_said (latest up_of es)) (sym at);
      uncalled = λ up. ap is_called at ∙ h.uncalled up;
      fits = λ hon. each_still faults log t n a c m x y old new (FitsLog image log) e (fits_as image log x y e.does.transaction e.ours e.unsure) (h.fits hon);
      sound = λ hon. each_still faults log t n a c m x y old new (λ z. is_tied_history z.world.past ≡ true) e
          (λ k. subst (λ (w : World). is_tied_history w.past ≡ true) (sym (world_after faults log t n a c m x y old new e)) (turned_tied log.is_up t.value x.world step refl k)) (h.sound hon);
      named = λ hon. each_still faults log t n a c m x y old new NamesPrepared e (called_named faults log t n a c m x y old new e (subst IsRecordKept e.was (h.kept t))) (h.named hon);
    }

-- the trace tells the same of the log,
untelling_call : (up : Bool) (t : ℕ) (w : World) (n : ℕ) (a : ActorNo) (c : Call) (m : ℕ) → each is_untelling (written up t w (Calls n a c m)) ≡ true
untelling_call up t w n a c m = by (sends_begin t w (Calls n a c m) && not up)
  where
    with_stop : (es : List Entry) → each is_untelling es ≡ true → each is_untelling (es ++ Stopped ∷ []) ≡ true
    with_stop [] k = refl
    with_stop (x ∷ es) k = and_both (is_untelling x) (each is_untelling (es ++ Stopped ∷ [])) (and_left (is_untelling x) (each is_untelling es) k) (with_stop es (and_right (is_untelling x) (each is_untelling es) k))

    by : (b : Bool) → each is_untelling (if b then block_at t w (Calls n a c m) ++ Stopped ∷ [] else block_at t w (Calls n a c m)) ≡ true
    by true = with_stop (block_at t w (Calls n a c m)) (untelling_block t w (Calls n a c m) refl refl)
    by false = untelling_block t w (Calls n a c m) refl refl

pub entered_tells : {D : Type 0} (faults : D → ℕ) (honest : Bool) (image : D → List ℕ → Type 0) (start log : LogState D) (t : TxNo) (n : ℕ) (a : ActorNo) (c : Call) (m : ℕ) (x y : TxState) (old new : RunState)
    → Entered faults log t n a c m x y old new → Tells faults honest image start log (past_of old.trace) → Tells faults honest image start log (past_of new.trace)
entered_tells faults honest image start log t n a c m x y old new e k =
    subst (Tells faults honest image start log) (sym e.block)
    (tells_block faults honest image start log (past_of old.trace) t (written log.is_up t.value x.world (Calls n a c m)) (untelling_call log.is_up t.value x.world n a c m)
    (λ is empty. unfilled_written log.is_up t.value x.world (Calls n a c m) (λ e. cc)) k)

-- what restarts find stays right,
pub entered_finds : {D : Type 0} (faults : D → ℕ) (seen : D → List ℕ) (start log : LogState D) (t : TxNo) (n : ℕ) (a : ActorNo) (c : Call) (m : ℕ) (x y : TxState) (old new : RunState) → Entered faults log t n a c m x y old new
    → Finds faults seen start log (past_of old.trace) → Finds faults seen start log (past_of new.trace)
entered_finds faults seen start log t n a c m x y old new e k =
    subst (Finds faults seen start log) (sym e.block)
    (finds_there faults seen start log (past_of old.trace) (onto (past_of old.trace) (placed t (written log.is_up t.value x.world (Calls n a c m))))
    (found_block seen log (past_of old.trace) t (written log.is_up t.value x.world (Calls n a c m)) (untelling_call log.is_up t.value x.world n a c m)) k)

-- and the call is a turn.
pub entered_turn : {D : Type 0} (faults : D → ℕ) (honest : Bool) (image : D → List ℕ → Type 0) (log : LogState D) (t : TxNo) (n : ℕ) (a : ActorNo) (c : Call) (m : ℕ) (x y : TxState) (old new : RunState)
    → Entered faults log t n a c m x y old new → Holds honest image log old → past_of new.trace ≡ after_turn old.script t (Calls n a c m) (past_of old.trace)
entered_turn faults honest image log t n a c m x y old new e h =
    let T = past_of old.trace in
    let tied : IsTied old.script old.objects t T x = subst (λ (z : TxState). IsTied old.script old.objects t T z) e.was (h.tied t) in
    e.block ∙ turn_here old.script old.objects t T x (Calls n a c m) log.is_up tied e.own h.up refl

-- The run has entered a call, where its transaction stood at t's place and was put there again.
pub entered_at_place : {D : Type 0} (faults : D → ℕ) (log : LogState D) (t : TxNo) (n : ℕ) (a : ActorNo) (c : Call) (m : ℕ) (x y : TxState) (old new : RunState) (ws : List TxState) → AreNumbered ws
    → t.value ≤ length ws → x ≡ get_or ws (t.value - 1) x → ((u : TxNo) → state_of u ws ≡ state_of u old.worlds) → new.script ≡ old.script → new.objects ≡ old.objects → new.worlds ≡ set ws (t.value - 1) y
    → IsOwnRun (number_of x.transaction) x.world → Does faults (Calls n a c m) x log y log → (y.ours ≡ x.ours) × (y.unsure ≡ x.unsure) → IsRecordKept y → new.trace ≡ old.trace ++ placed t (written log.is_up t.value x.world (Calls n a c m))
    → Entered faults log t n a c m x y old new
entered_at_place faults log t n a c m x y old new ws numbered made here same script objects worlds run does ours kept noted =
    let at : state_of t ws ≡ x = state_reached t ws x made here in
    record {
      script = script;
      objects = objects;
      others = λ u k. ap (λ (vs : List TxState). state_of u vs) worlds ∙ state_there u t ws y k ∙ same u;
      was = sym (same t) ∙ at;
      now = ap (λ (vs : List TxState). state_of t vs) worlds ∙ state_here t ws y made;
      own = subst (λ (z : TxState). IsOwn t z) at (own_at t ws x numbered at run);
      does = does;
      ours = ours.0;
      unsure = ours.1;
      kept = kept;
      block = ap past_of noted ∙ trace_noted old.trace t (written log.is_up t.value x.world (Calls n a c m));
    }

-- the transaction that stands at t's place is t as it was before
was_here : (old ws : List TxState) (t : TxNo) (x : TxState) → t.value ≤ length ws → x ≡ get_or ws (t.value - 1) x → ((u : TxNo) → state_of u ws ≡ state_of u old) → state_of t old ≡ x
was_here old ws t x made here same = sym (same t) ∙ state_reached t ws x made here

-- so a call of the script may be entered there, where only calls of lines before it were
pub may_enter_here : (s : List Line) (o : Of) (T : List Placed) (old ws : List TxState) (t : TxNo) (n : ℕ) (a : ActorNo) (c : Call) (x : TxState) → t.value ≤ length ws → x ≡ get_or ws (t.value - 1) x
    → ((u : TxNo) → state_of u ws ≡ state_of u old) → AreMadeOnce (IsCallOf s t.value) → IsTied s o t T (state_of t old) → IsCallOf s t.value n a c → IsBelow n (state_of t old) → may_enter x.world n c ≡ true
may_enter_here s o T old ws t n a c x made here same once tied given below =
    subst (λ (z : TxState). may_enter z.world n c ≡ true) (was_here old ws t x made here same) (enters s t.value n a c (state_of t old).world once given tied.given below)

-- and may answer as it may in the run
pub may_answer_here : (old ws : List TxState) (t : TxNo) (c : Call) (m : ℕ) (x : TxState) → AreNumbered ws → t.value ≤ length ws → x ≡ get_or ws (t.value - 1) x
    → ((u : TxNo) → state_of u ws ≡ state_of u old) → MayAnswer t.value (state_of t old).world c m → MayAnswer (number_of x.transaction) x.world c m
may_answer_here old ws t c m x numbered made here same answers =
    let number : x.transaction ≡ first_id t = ap (λ (z : TxState). z.transaction) (sym (state_reached t ws x made here)) ∙ numbered.numbered t in
    subst (λ (u : TxId). MayAnswer (number_of u) x.world c m) (sym number) (subst (λ (z : TxState). MayAnswer t.value z.world c m) (was_here old ws t x made here same) answers)

-- what a call writes stands after what was written before
pub past_after : {D : Type 0} (faults : D → ℕ) (log : LogState D) (ws : List TxState) (t : TxNo) (step : Step) (x y : TxState) → AreNumbered ws → t.value ≤ length ws → x ≡ get_or ws (t.value - 1) x
    → Does faults step x log y log → y.world.past ≡ onto x.world.past (written log.is_up t.value x.world step)
past_after faults log ws t step x y numbered made here does =
    let number : x.transaction ≡ first_id t = ap (λ (z : TxState). z.transaction) (sym (state_reached t ws x made here)) ∙ numbered.numbered t in
    ap (λ (w : World). w.past) (does.world ∙ ap (λ (u : TxId). turned log.is_up (number_of u) x.world step) number) ∙ turned_past log.is_up t.value x.world step

-- a history with a block behind it is no shorter
onto_longer : (h es : List Entry) → length h ≤ length (onto h es)
onto_longer h [] = omega arith
onto_longer h (x ∷ es) = let rest = onto_longer (x ∷ h) es in omega (arith, rest)

pub past_longer : {D : Type 0} (faults : D → ℕ) (log : LogState D) (step : Step) (x y : TxState) (n : ℕ) → Does faults step x log y log → n ≡ length x.world.past → n ≤ length y.world.past
past_longer faults log step x y n does many =
    let past : y.world.past ≡ onto x.world.past (written log.is_up (number_of x.transaction) x.world step) = ap (λ (w : World). w.past) does.world ∙ turned_past log.is_up (number_of x.transaction) x.world step in
    let longer = onto_longer x.world.past (written log.is_up (number_of x.transaction) x.world step) in
    let same = ap length past in
    omega (arith, longer, same, many)
