-- A step of a run that stopped the log: its stop is noted, and then each other transaction is told of it, by number.
use Rattle.std.proofs.Common.{◌≡◌, ◌≢◌, ◌⊎◌, ◌<◌, ℕ, ◌==◌, nat_le, Bool, true, false, ◌&&◌, not, List, [], ◌∷◌, ◌++◌, None, inl, inr, refl, ap, sym, subst, ◌∙◌, if◌then◌else◌}
use Rattle.std.specs.Prelude.{IsTrue, IsFalse}
use Rattle.std.proofs.lemmas.Bool.Decides.{Decides-eqb, eqb_tells}
use Rattle.dtx_values.specs.declared.entry.Entry.{Entry}
use Rattle.dtx_values.specs.TxIds.{number_of}
use Rattle.dtx_values.specs.declared.tx_id.TxId.{TxId}
use Rattle.dtx_values.specs.declared.entry.Entry.TheVariants.{Stopped}
use Rattle.dtx_values.specs.declared.number.TxNo.{TxNo}
use Rattle.dtx_values.specs.declared.script.Line.{Line}
use Rattle.dtx_values.specs.declared.trace.Place.TheVariants.{Log}
use Rattle.dtx_model.specs.Words.{has, kth, latest, onto, past_of}
use Rattle.dtx_model.specs.AtLog.{act_calls as calls_by_trace, at_log, hit, is_hit, is_known, one_if, transactions, unless_said, up_of}
use Rattle.dtx_model.specs.Coordinated.{coordinate, may_log}
use Rattle.dtx_model.specs.Promotes.{identifier_of}
use Rattle.dtx_model.specs.Tied.{tied as is_tied_history}
use Rattle.dtx_model.specs.Wires.{is_stopped}
use Rattle.dtx_model.specs.World.{World, core}
use Rattle.dtx_model.specs.Steps.{StoppedNow, Step, Coordinates, Stops, after, appended, block_at, freed}
use Rattle.dtx_model.specs.Caused.{Of, is_begin_sent}
use Rattle.dtx_model.specs.Traces.{Placed, history, placed}
use Rattle.dtx_model.specs.Replay.{after_stop, after_turn, at_the_log, others, put_at}
use Rattle.dtx_model.proofs.Bools.{not_both}
use Rattle.dtx_model.proofs.Histories.{past_of-snoc}
use Rattle.dtx_values.proofs.SameNumbers.{same_transaction}
use Rattle.script_histories.proofs.PutAt.{log-put, many-hit, many-others}
use Rattle.coordinator_log.specs.State.{LogState}
use Rattle.coordinator_log.specs.Stop.{stop_in}
use Rattle.tx_world.specs.AtLog.{Answered, IsHad, act_calls, id_of}
use Rattle.tx_world.specs.Prepared.{NamesPrepared}
use Rattle.tx_world.specs.State.{TxState, is_hit_by, turned}
use Rattle.tx_world.specs.Stepping.{IsAnswered}
use Rattle.world_parts.specs.Found.{IsLeftAsWished}
use Rattle.world_laws.specs.Left.{steps_left}
use Rattle.replay_runs.specs.Found.{Finds}
use Rattle.replay_runs.specs.RunState.{Advances, FitsLog, GoesWith, HaveSameCalls, Holds, IsRecordKept, IsTied, RunState, Tells, halted, state_of}
use Rattle.replay_runs.proofs.ByNumber.{rises-filter, rises-transactions, same_rising}
use Rattle.replay_runs.proofs.Finding.{finds_on, found_stopped}
use Rattle.replay_runs.proofs.Fitting.{fits_as, fits_turn, had_as, had_turn}
use Rattle.replay_runs.proofs.Goes.{answered_down, stop_written, now_block}
use Rattle.replay_runs.proofs.Halting.{goes_halted, halted_as, halted_named, halted_sound, halted_tied}
use Rattle.replay_runs.proofs.Noting.{history_here, history_there, trace_noted}
use Rattle.replay_runs.proofs.Numbered.{state_here}
use Rattle.replay_runs.proofs.Steps.{DidStep, IsStep, IsStepped, StepOf, did_step, each_set, one_more, step_calls, step_log, step_stays, was, worlds_after, wrote}
use Rattle.replay_runs.proofs.Telling.{tells_stopped}
use Rattle.replay_runs.proofs.Turns.{named_here, pending_here, written}
use Rattle.replay_runs.proofs.Tying.{tied_noted, tied_same}

-- It was the coordinator's act, which the log stopped under,
stopping_step : {D : Type 0} (faults : D → ℕ) (x : TxState) (from to : LogState D) (m : Step) → IsAnswered faults x from to m → IsTrue from.is_up → IsFalse to.is_up → m ≡ Coordinates StoppedNow
stopping_step faults x from to (Coordinates a) e up down = ap Coordinates (e.now.1 (up, down))
stopping_step {D} faults x from to m e up down = absurd (not_both from.is_up up (sym (ap (λ (l : LogState D). l.is_up) e) ∙ down))

-- and wrote its stop.
stop_wrote : (up : Bool) (t : ℕ) (w : World) → written up t w (Coordinates StoppedNow) ≡ Stopped ∷ []
unfolding block_at
stop_wrote up t w = by (may_log (core w))
  where
    by : (b : Bool)
        → (if has is_begin_sent (if b then appended (core w) StoppedNow else freed StoppedNow) && not up then (if b then appended (core w) StoppedNow else freed StoppedNow) ++ Stopped ∷ [] else if b then appended (core w) StoppedNow else freed StoppedNow)
        ≡ Stopped ∷ []
    by true = refl
    by false = refl

-- the trace with the stop at the log and at t
abbrev pub stop_at : TxNo → List Placed → List Placed
stop_at t T = onto (at_the_log Stopped T) (placed t (Stopped ∷ []))

stop_noted : (trace new : List Placed) (t : TxNo) → new ≡ (trace ++ (Log, Stopped) ∷ []) ++ placed t (Stopped ∷ []) → past_of new ≡ stop_at t (past_of trace)
stop_noted trace new t e =
    ap past_of e ∙ (trace_noted (trace ++ (Log, Stopped) ∷ []) t (Stopped ∷ []) ∙ ap (λ (T : List Placed). onto T (placed t (Stopped ∷ []))) (past_of-snoc trace (Log, Stopped)))

-- What is known where the log was stopped by the step.
pub record IsStopping {D : Type 0} (faults : D → ℕ) (honest : Bool) (a : StepOf D) (mid : List Placed) : Type 0 where
  pub did : DidStep faults honest a
  pub step : did.does.step ≡ Coordinates StoppedNow
  pub answered : Answered faults (core (was a).world) (id_of (was a)) (was a).life a.from a.to StoppedNow
  pub past : a.y.world.past ≡ onto (was a).world.past (Stopped ∷ [])
  pub stopped : (core a.y.world).stopped ≡ true
  pub noted : past_of mid ≡ stop_at a.t (past_of a.run.trace)

pub is_stopping_step : {D : Type 0} (faults : D → ℕ) (honest : Bool) (image : D → List ℕ → Type 0) (a : StepOf D) (mid : List Placed) → IsStep faults honest image a → IsTrue a.from.is_up → IsFalse a.to.is_up
    → ((es : List Entry) → a.y.world.past ≡ onto (was a).world.past es → mid ≡ (a.run.trace ++ (Log, Stopped) ∷ []) ++ placed a.t es) → IsStopping faults honest a mid
is_stopping_step {D} faults honest image a mid at up down written_down =
    let d = did_step faults honest image a at in
    let z = was a in
    let step = stopping_step faults z a.from a.to d.does.step d.does.done.answered up down in
    let es : wrote faults honest a d ≡ Stopped ∷ [] = ap (λ m. written a.from.is_up a.t.value z.world m) step ∙ stop_wrote a.from.is_up a.t.value z.world in
    let past : a.y.world.past ≡ onto z.world.past (Stopped ∷ []) = d.past ∙ ap (onto z.world.past) es in
    record {
      did = d;
      step = step;
      answered = subst (λ m. IsAnswered faults z a.from a.to m) step d.does.done.answered;
      past = past;
      stopped =
          ap (λ (w : World). (core w).stopped) (d.world ∙ ap (λ m. turned a.from.is_up a.t.value z.world m) step)
          ∙ stop_written a.t.value z.world StoppedNow (now_block z.world (may_log (core z.world))) a.from.is_up;
      noted = stop_noted a.run.trace mid a.t (written_down (Stopped ∷ []) past);
    }

-- The others are tied to that trace, and live in the log's life: so they are told.
pub stopping_ties : {D : Type 0} (faults : D → ℕ) (honest : Bool) (image : D → List ℕ → Type 0) (a : StepOf D) (mid : List Placed) → IsStep faults honest image a → IsStopping faults honest a mid
    → (u : TxNo) → IsTied a.run.script a.run.objects u (past_of mid) (state_of u (worlds_after a))
stopping_ties faults honest image a mid at d =
    let old = past_of a.run.trace in
    tied_noted a.run.script a.run.objects a.run.worlds (at_the_log Stopped old) (past_of mid) a.t a.y (Stopped ∷ []) at.made
    (λ u. tied_same a.run.script a.run.objects u old (at_the_log Stopped old) (state_of u a.run.worlds) refl (at.holds.tied u)) d.noted d.past d.did.given refl

pub stopping_lives : {D : Type 0} (faults : D → ℕ) (honest : Bool) (image : D → List ℕ → Type 0) (a : StepOf D) (mid : List Placed) → IsStep faults honest image a → IsStopping faults honest a mid
    → (u : TxNo) → has is_begin_sent (state_of u (worlds_after a)).world.past ≡ true → (state_of u (worlds_after a)).life ≡ a.to.life
stopping_lives faults honest image a mid at d =
    each_set (λ (x : TxState). has is_begin_sent x.world.past ≡ true → x.life ≡ a.to.life) a.run.worlds a.t a.y at.made d.did.goes.life (λ u begun. (at.holds.goes u).life begun ∙ sym at.leaves.later.life)

-- Those that are hit are the others that were.
hit_there : (t u : TxNo) (T : List Placed) → is_hit (stop_at t T) u ≡ (not (t.value == u.value) && is_hit T u)
hit_there t u T = by (eqb_tells u.value t.value)
  where
    ended : (b c : Bool) → c ≡ true → (b && not c) ≡ false
    ended true true e = refl
    ended false true e = refl
    ended b false e = absurd cc

    turned_round : (u.value == t.value) ≡ true → (t.value == u.value) ≡ true
    turned_round e = (Decides-eqb t.value u.value).1 (sym ((Decides-eqb u.value t.value).0 e))

    apart : (u.value ≢ t.value) → (t.value == u.value) ≡ false
    apart n = elim (eqb_tells t.value u.value) [ inl k ↦ absurd (n (sym k.1)) | inr k ↦ k.0 ]

    by : (((u.value == t.value) ≡ true) × (u.value ≡ t.value)) ⊎ (((u.value == t.value) ≡ false) × (u.value ≢ t.value)) → is_hit (stop_at t T) u ≡ (not (t.value == u.value) && is_hit T u)
    by (inl k) =
        ended (is_known (stop_at t T) u) (is_stopped (history u.value (stop_at t T)))
        (ap (λ (v : TxNo). is_stopped (history v.value (stop_at t T))) (same_transaction u t k.1) ∙ ap is_stopped (history_here t (at_the_log Stopped T) (Stopped ∷ [])))
        ∙ sym (ap (λ b. not b && is_hit T u) (turned_round k.0))
    by (inr k) =
        ap (λ (h : List Entry). has is_begin_sent h && not (is_stopped h)) (history_there u t (at_the_log Stopped T) (Stopped ∷ []) (λ e. k.1 (ap (λ (v : TxNo). v.value) e)))
        ∙ sym (ap (λ b. not b && is_hit T u) (apart k.1))

pub hit_others : (t : TxNo) (T : List Placed) → hit (stop_at t T) ≡ others t (hit T)
hit_others t T =
    let U = stop_at t T in
    same_rising 0 (hit U) (others t (hit T)) (rises-filter 0 (is_hit U) (transactions U) (rises-transactions U))
    (rises-filter 0 (λ (u : TxNo). not (t.value == u.value)) (hit T) (rises-filter 0 (is_hit T) (transactions T) (rises-transactions T)))
    (λ u. many-hit u U ∙ (ap (λ b. one_if b 0) (hit_there t u T) ∙ sym (many-others u t T)))

-- So the trace after they were told is that of a turn that stopped the log.
stopped_trace : {D : Type 0} (faults : D → ℕ) (honest : Bool) (a : StepOf D) (mid : List Placed) (U : List Placed) → IsStopping faults honest a mid
    → U ≡ put_at (λ u. Stopped) (hit (past_of mid)) (past_of mid) → U ≡ after_stop a.t (past_of a.run.trace)
stopped_trace faults honest a mid U d told =
    told ∙ (ap (λ (T : List Placed). put_at (λ u. Stopped) (hit T) T) d.noted ∙ ap (λ us. put_at (λ u. Stopped) us (stop_at a.t (past_of a.run.trace))) (hit_others a.t (past_of a.run.trace)))

-- t itself isn't told again
halted_here : (life : ℕ) (y : TxState) → (core y.world).stopped ≡ true → halted life y ≡ y
halted_here life y stopped = by (is_hit_by life y) (unhit (has is_begin_sent y.world.past) (core y.world).stopped (nat_le y.life life) stopped)
  where
    unhit : (b c d : Bool) → c ≡ true → (b && not c && d) ≡ false
    unhit true true d e = refl
    unhit false true d e = refl
    unhit b false d e = absurd cc

    by : (b : Bool) → b ≡ false → (if b then record { transaction = y.transaction; world = after (number_of y.transaction) y.world Stops; ours = y.ours; unsure = y.unsure; life = y.life } else y) ≡ y
    by true e = absurd cc
    by false e = refl

-- What holds then:
stopped_holds : {D : Type 0} (faults : D → ℕ) (honest : Bool) (image : D → List ℕ → Type 0) (a : StepOf D) (mid : List Placed) (q : RunState) → IsStep faults honest image a → IsStopping faults honest a mid
    → IsFalse a.to.is_up → q.script ≡ a.run.script → q.objects ≡ a.run.objects → ((u : TxNo) → state_of u q.worlds ≡ halted a.to.life (state_of u (worlds_after a)))
    → past_of q.trace ≡ put_at (λ u. Stopped) (hit (past_of mid)) (past_of mid)
    → (((u : TxNo) → IsRecordKept (state_of u (worlds_after a))) → (u : TxNo) → IsRecordKept (state_of u q.worlds)) → Holds honest image a.to q
stopped_holds {D} faults honest image a mid q at d down script objects worlds told kept =
    let ws = worlds_after a in
    let life = a.to.life in
    let lives = stopping_lives faults honest image a mid at d in
    let ties = stopping_ties faults honest image a mid at d in
    let log : at_log (past_of q.trace) ≡ Stopped ∷ at_log (past_of a.run.trace) = ap at_log told ∙ (log-put (λ u. Stopped) (hit (past_of mid)) (past_of mid) ∙ ap at_log d.noted) in
    let fits : IsTrue honest → (u : TxNo) → FitsLog image a.to (state_of u ws) =
    λ h. fits_turn image a.run.worlds a.t a.y a.from a.to at.numbered at.made (at.leaves.kept h) at.leaves.later.still (answered_down faults (was a) a.from a.to d.did.does.step d.did.does.done.answered) (at.holds.fits h) in
    let had : (u : TxNo) → IsHad (state_of u ws) a.to = had_turn a.run.worlds a.t a.y a.from a.to at.numbered at.made at.leaves.slots at.leaves.later.still at.holds.had in
    record {
      tied = λ u.
          subst (λ (s : List Line). IsTied s q.objects u (past_of q.trace) (state_of u q.worlds)) (sym script)
          (subst (λ (o : Of). IsTied a.run.script o u (past_of q.trace) (state_of u q.worlds)) (sym objects)
          (subst (λ (T : List Placed). IsTied a.run.script a.run.objects u T (state_of u q.worlds)) (sym told)
          (subst (λ (x : TxState). IsTied a.run.script a.run.objects u (put_at (λ v. Stopped) (hit (past_of mid)) (past_of mid)) x) (sym (worlds u))
          (halted_tied a.run.script a.run.objects life u (past_of mid) (state_of u ws) (ties u) (lives u)))));
      kept = kept (each_set IsRecordKept a.run.worlds a.t a.y at.made at.recorded at.holds.kept);
      goes = λ u. subst (GoesWith a.to) (sym (worlds u)) (goes_halted a.to (state_of u ws) (stands u).0 down (lives u) (stands u).1);
      had = λ u. let alike = halted_as life (state_of u ws) in subst (λ (x : TxState). IsHad x a.to) (sym (worlds u)) (had_as a.to (state_of u ws) (halted life (state_of u ws)) alike.transaction alike.ours (had u));
      up = down ∙ sym (ap (λ (es : List Entry). unless_said (latest up_of es)) log);
      uncalled = λ up. absurd (not_both a.to.is_up up down);
      fits = λ h u.
          let alike = halted_as life (state_of u ws) in
          subst (FitsLog image a.to) (sym (worlds u)) (fits_as image a.to (state_of u ws) (halted life (state_of u ws)) alike.transaction alike.ours alike.unsure (fits h u));
      sound = λ h u.
          subst (λ (x : TxState). is_tied_history x.world.past ≡ true) (sym (worlds u))
          (halted_sound life (state_of u ws) (each_set (λ x. is_tied_history x.world.past ≡ true) a.run.worlds a.t a.y at.made (d.did.sound h) (at.holds.sound h) u));
      named = λ h u. subst (λ (x : TxState). NamesPrepared x) (sym (worlds u)) (halted_named life (state_of u ws) (each_set NamesPrepared a.run.worlds a.t a.y at.made (at.leaves.named (at.holds.named h a.t)) (at.holds.named h) u));
    }
  where
    stands : (u : TxNo) → (c : Bool) × ((core (state_of u (worlds_after a)).world).stopped ≡ (has is_begin_sent (state_of u (worlds_after a)).world.past && c))
    stands =
        each_set (λ (x : TxState). (c : Bool) × ((core x.world).stopped ≡ (has is_begin_sent x.world.past && c))) a.run.worlds a.t a.y at.made (not a.to.is_up, d.did.goes.stopped)
        (λ u. (not a.from.is_up, (at.holds.goes u).stopped))

-- the step is a turn of the trace,
stopped_advances : {D : Type 0} (faults : D → ℕ) (honest : Bool) (a : StepOf D) (mid new : List Placed) → IsStopping faults honest a mid → past_of new ≡ after_stop a.t (past_of a.run.trace)
    → Advances a.run.script a.t a.k a.run.trace new
stopped_advances faults honest a mid new d told =
    let z = was a in
    let old = past_of a.run.trace in
    let m = d.did.does.step in
    record {
      name = d.did.does.name;
      step = m;
      stands = ap (λ ns. kth ns a.k) (sym (pending_here a.run.script a.run.objects a.t old z d.did.tied d.did.own)) ∙ d.did.does.stands;
      named = named_here a.run.script a.run.objects a.t old z d.did.does.name m d.did.tied d.did.does.named;
      in_replay = d.did.in_replay;
      done = told ∙ sym (ap (λ j. after_turn a.run.script a.t j old) d.step);
    }

-- and the trace tells of the stop, and of the fault that may have come.
stopped_tells : {D : Type 0} (faults : D → ℕ) (honest : Bool) (image : D → List ℕ → Type 0) (start : LogState D) (a : StepOf D) (mid : List Placed) → IsStep faults honest image a → IsStopping faults honest a mid
    → IsTrue a.from.is_up → Tells faults honest image start a.from (past_of a.run.trace) → Tells faults honest image start a.to (after_stop a.t (past_of a.run.trace))
stopped_tells faults honest image start a mid at d up tells =
    let old = past_of a.run.trace in
    let calls : calls_by_trace a.t.value old ≡ act_calls (core (was a).world) = ap (λ (h : List Entry). if may_log (coordinate h) then 4 else 2) (sym d.did.tied.past) in
    tells_stopped faults honest image start a.from a.to old a.t (others a.t (hit old)) (at.holds.uncalled up) (step_log faults honest image a at)
    (λ none. d.answered.cause refl (subst (λ n. stop_in n a.from.armed ≡ None) calls none)) (d.answered.used refl) at.leaves.later.unarmed tells

-- What the stop left of the record is as wished, where no fault came.
stopped_finds : {D : Type 0} (faults : D → ℕ) (honest : Bool) (image : D → List ℕ → Type 0) (seen : D → List ℕ) (start : LogState D) (a : StepOf D) (mid : List Placed) → IsStep faults honest image a → IsStopping faults honest a mid
    → IsTrue a.from.is_up → IsFalse a.to.is_up → IsLeftAsWished faults seen (core (was a).world) (id_of (was a)) a.from a.to → Finds faults seen start a.from (past_of a.run.trace)
    → Finds faults seen start a.to (after_stop a.t (past_of a.run.trace))
stopped_finds {D} faults honest image seen start a mid at d up down left =
    let old = past_of a.run.trace in
    let k = core (was a).world in
    let known : coordinate (history a.t.value old) ≡ k = ap coordinate (sym d.did.tied.past) in
    let own : IsLeftAsWished faults seen k (identifier_of a.t.value) a.from a.to = subst (λ (u : TxId). IsLeftAsWished faults seen k (identifier_of (number_of u)) a.from a.to) d.did.own.transaction left in
    finds_on faults seen start a.from a.to old (after_stop a.t old) at.leaves.later.grows
    (found_stopped faults seen a.from a.to old a.t (others a.t (hit old)) k (act_calls k) (at.holds.uncalled up) known (d.answered.cause refl) (d.answered.used refl) (λ s e. own up down s e))

-- So where it stopped the log, after the others were told:
pub step_stopped : {D : Type 0} (faults : D → ℕ) (honest : Bool) (image : D → List ℕ → Type 0) (obeys : Bool) (seen : D → List ℕ) (a : StepOf D) (mid : List Placed) (q : RunState) → IsStep faults honest image a → IsStopping faults honest a mid
    → IsTrue a.from.is_up → IsFalse a.to.is_up → q.script ≡ a.run.script → q.objects ≡ a.run.objects → q.contexts ≡ a.run.contexts → HaveSameCalls (worlds_after a) q.worlds
    → ((u : TxNo) → state_of u q.worlds ≡ halted a.to.life (state_of u (worlds_after a))) → past_of q.trace ≡ put_at (λ u. Stopped) (hit (past_of mid)) (past_of mid)
    → (((u : TxNo) → IsRecordKept (state_of u (worlds_after a))) → (u : TxNo) → IsRecordKept (state_of u q.worlds))
    → (IsTrue obeys → IsLeftAsWished faults seen (core (was a).world) (id_of (was a)) a.from a.to) → IsStepped faults honest image obeys seen a q
step_stopped {D} faults honest image obeys seen a mid q at d up down script objects contexts calls worlds told kept left =
    let trace : past_of q.trace ≡ after_stop a.t (past_of a.run.trace) = stopped_trace faults honest a mid (past_of q.trace) d told in
    let here : state_of a.t q.worlds ≡ a.y =
    worlds a.t ∙ (ap (halted a.to.life) (state_here a.t a.run.worlds a.y at.made) ∙ halted_here a.to.life a.y d.stopped) in
    record {
      goes = record { contexts = contexts; calls = λ u. calls u ∙ step_calls a.run.worlds a.t a.y at.made d.did.calls u; log = step_log faults honest image a at; stays = step_stays faults honest image a at };
      runs = record {
        script = script;
        objects = objects;
        holds = stopped_holds faults honest image a mid q at d down script objects worlds told kept;
        tells = λ start tells. subst (λ (T : List Placed). Tells faults honest image start a.to T) (sym trace) (stopped_tells faults honest image start a mid at d up tells);
        finds = λ is start found. subst (λ (T : List Placed). Finds faults seen start a.to T) (sym trace) (stopped_finds faults honest image seen start a mid at d up down (left is) found);
      };
      did = record {
        stepped = one_more faults honest a (state_of a.t q.worlds) d.did here;
        some = stopped_advances faults honest a mid q.trace d trace;
        apart = λ same. absurd (not_both a.from.is_up up (sym same ∙ down));
        nearer = subst (λ (z : TxState). steps_left z.world < steps_left (was a).world) (sym here) at.nearer;
      };
    }
