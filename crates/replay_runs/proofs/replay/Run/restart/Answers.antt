use Rattle.std.proofs.Common.{◌≡◌, ◌<◌, ◌+◌, ℕ, true, List, [], Err, inl, inr, is_some, ap, arith, refl, subst, sym, ◌∙◌, if◌then◌else◌}
use Rattle.std.proofs.lemmas.Result.{IfErr-at_err, IfOk-at_ok, on_ok_weaker}
use Rattle.std.specs.Prelude.{is_ok}
use Rattle.outside.specs.Faults.{Rose}
use Rattle.dtx_values.specs.declared.entry.Answer.{Answer}
use Rattle.dtx_values.specs.declared.entry.Answer.TheVariants.{Fine}
use Rattle.dtx_values.specs.declared.entry.Entry.TheVariants.{Called, LogWord, Restarted, Stopped}
use Rattle.dtx_values.specs.declared.entry.LogNote.TheVariants.{Opened}
use Rattle.dtx_values.specs.declared.number.TxNo.{TxNo}
use Rattle.dtx_model.specs.Words.{has, past_of}
use Rattle.dtx_model.specs.AtLog.{hit, known}
use Rattle.dtx_model.specs.Caused.{is_begin_sent}
use Rattle.dtx_model.specs.Replay.{Opens, after_halt, after_restart, at_the_log, put_at}
use Rattle.dtx_model.specs.Tied.{tied}
use Rattle.dtx_model.specs.Traces.{Placed}
use Rattle.dtx_model.specs.World.{core}
use Rattle.coordinator_log.specs.Slots.{open_records}
use Rattle.tx_world.specs.AtLog.{Fits}
use Rattle.turn_parts.specs.Reopening.{restart_answer}
use Rattle.replay_runs.specs.Found.{Finds}
use Rattle.replay_runs.specs.LogRun.{LogGoes}
use Rattle.replay_runs.specs.RunState.{Holds, IsRecordKept, RunState, Tells, halted, record_in, reopened, state_of}
use Rattle.replay_runs.proofs.Finding.{finds_on, found_halt, found_opened}
use Rattle.replay_runs.proofs.Fitting.{fits_opened}
use Rattle.replay_runs.proofs.Reopening.{IsHalted, after_unopened, both_ok, goes_restart, halted_down, halted_log, halted_up, halts_at, holds_opened, one_written, opened_just, opened_trace, tied_at_log, tied_move, two_written, unopened_by, unopened_just}
use Rattle.replay_runs.proofs.TellingOpenings.{tells_restart}
use Rattle.replay_runs.specs.Whose.{named}
use Rattle.replay_runs.proofs.replay.Run.restart.Given.{Over}
use Rattle.replay_runs.proofs.replay.Run.restart.Goals.{After-is_up, After-restart_all-arg-1, In_default, then-was_up+in_ok-stop_all, else-was_up}
use Rattle.replay_runs.proofs.replay.Run.restart.Goals as goal

pub stop_all-requires-clause-tied : goal.stop_all-requires-clause-tied
stop_all-requires-clause-tied g c = λ t.
    let r = c.args.self.now in
    let a = Called c.args.n c.args.actor c.restart_answer.result in
    tied_move r.script c.self.inside.plans r.objects (named c.self.inside.whose) t (at_the_log Stopped (at_the_log a (past_of r.trace))) (past_of c.push_reserved-then-was_up.new.self.items) (state_of t r.worlds) (state_of t c.self.inside.worlds.items)
    (ap (λ (q : RunState). q.script) c.self.view_is) (ap (λ (q : RunState). q.objects) c.self.view_is)
    (two_written r.trace c.reserve.new.self.items c.push_reserved.new.self.items c.push_reserved-then-was_up.new.self.items a Stopped (c.in_ok-reserve.ensures.items ∙ ap (λ (q : RunState). q.trace) c.self.view_is)
    c.push_reserved.ensures.items c.push_reserved-then-was_up.ensures.items)
    (ap (λ (q : RunState). state_of t q.worlds) c.self.view_is)
    (tied_at_log r.script r.objects t (at_the_log a (past_of r.trace)) Stopped (state_of t r.worlds) (tied_at_log r.script r.objects t (past_of r.trace) a (state_of t r.worlds) (c.requires.holds.tied t)))

-- So the run is stopped,
halts : (g : Over) (c : After-is_up g) → IsHalted g.D.Disk.honest g.D.Disk.image c.args.log.now c.args.n c.args.actor c.restart_answer.result c.args.self.now c.if-was_up.self
halts g c =
    elim c.if-was_up.branch [
      | then-was_up+in_ok-stop_all w ↦
          subst (λ (q : RunState). IsHalted g.D.Disk.honest g.D.Disk.image c.args.log.now c.args.n c.args.actor c.restart_answer.result c.args.self.now q) (sym w.self-is)
          (halted_up g.D.Disk.honest g.D.Disk.image c.args.log.now c.args.n c.args.actor c.restart_answer.result c.args.self.now w.stop_all.new.self (sym c.is_up-was_up.ensures.up ∙ w.if-was_up.true)
          (w.stop_all.ensures.script ∙ ap (λ (r : RunState). r.script) c.self.view_is) (w.stop_all.ensures.objects ∙ ap (λ (r : RunState). r.objects) c.self.view_is) (w.stop_all.ensures.contexts ∙ ap (λ (r : RunState). r.contexts) c.self.view_is)
          (λ t. w.stop_all.ensures.calls t ∙ ap (λ (r : RunState). (state_of t r.worlds).world.calls) c.self.view_is)
          (λ t.
          w.in_ok-stop_all.ensures.worlds t
          ∙ (ap (λ (l : ℕ). halted l (state_of t c.self.inside.worlds.items)) c.life-life.ensures ∙ ap (λ (r : RunState). halted c.args.log.now.life (state_of t r.worlds)) c.self.view_is))
          (w.in_ok-stop_all.ensures.trace
          ∙ ap (λ (T : List Placed). put_at (λ u. Stopped) (hit T) T)
          (two_written c.args.self.now.trace c.reserve.new.self.items c.push_reserved.new.self.items w.push_reserved-then-was_up.new.self.items (Called c.args.n c.args.actor c.restart_answer.result) Stopped
          (c.in_ok-reserve.ensures.items ∙ ap (λ (r : RunState). r.trace) c.self.view_is) c.push_reserved.ensures.items w.push_reserved-then-was_up.ensures.items))
          (w.in_ok-stop_all.ensures.kept (λ t. subst (λ (r : RunState). IsRecordKept (state_of t r.worlds)) (sym c.self.view_is) (c.requires.holds.kept t)))
          (λ t. ap (λ (r : RunState). (state_of t r.worlds).transaction) (sym c.self.view_is) ∙ c.self.invariant.0.numbered t) c.requires.holds)
      | else-was_up w ↦
          halted_down g.D.Disk.honest g.D.Disk.image c.args.log.now c.args.n c.args.actor c.restart_answer.result c.args.self.now c.if-was_up.self (sym c.is_up-was_up.ensures.up ∙ w.if-was_up.false)
          (ap (λ (r : RunState). r.script) w.self-is ∙ ap (λ (r : RunState). r.script) c.self.view_is) (ap (λ (r : RunState). r.objects) w.self-is ∙ ap (λ (r : RunState). r.objects) c.self.view_is) (ap (λ (r : RunState). r.contexts) w.self-is ∙ ap (λ (r : RunState). r.contexts) c.self.view_is)
          (ap (λ (r : RunState). r.worlds) w.self-is ∙ ap (λ (r : RunState). r.worlds) c.self.view_is)
          (ap (λ (r : RunState). past_of r.trace) w.self-is
          ∙ one_written c.args.self.now.trace c.reserve.new.self.items c.push_reserved.new.self.items (Called c.args.n c.args.actor c.restart_answer.result)
          (c.in_ok-reserve.ensures.items ∙ ap (λ (r : RunState). r.trace) c.self.view_is) c.push_reserved.ensures.items)
          (λ t. ap (λ (r : RunState). (state_of t r.worlds).transaction) (sym c.self.view_is) ∙ c.self.invariant.0.numbered t) c.requires.holds
    ]

held : (g : Over) (c : After-is_up g) → Holds g.D.Disk.honest g.D.Disk.image (halted_log c.args.log.now) c.if-was_up.self
held g c = (halts g c).holds (halted_log c.args.log.now) refl refl (λ is b i. i)

-- and the log goes on.
went : (g : Over) (c : After-is_up g) → LogGoes g.D.Disk.faults g.D.Disk.honest g.D.Disk.image c.args.log.now c.reopened-found.new.log
went g c =
    let r = c.reopened-found.ensures in
    goes_restart g.D.Disk.faults g.D.Disk.honest g.D.Disk.image g.D.Disk.seen c.args.log.now c.reopened-found.new.log c.reopened-found.result r.reopened r.grows r.among r.within

-- Where the log wasn't opened, it is down.
ended : (g : Over) (c : In_default g) → past_of c.if-was_up.self.trace ≡ after_halt c.args.n c.args.actor c.restart_answer.result (past_of c.args.self.now.trace)
    → past_of c.if-was_up.self.trace ≡ after_restart c.args.n c.args.actor (unopened_by c.in_default.field-0) (past_of c.args.self.now.trace)
ended g c halt =
    halt
    ∙ (ap (λ (x : Answer). after_halt c.args.n c.args.actor x (past_of c.args.self.now.trace)) (c.restart_answer.ensures ∙ ap restart_answer c.in_default.is)
    ∙ after_unopened c.args.n c.args.actor c.in_default.field-0 (past_of c.args.self.now.trace))

pub returns-in_default-clause-log : goal.returns-in_default-clause-log
returns-in_default-clause-log g c = went g (goal.at.returns-in_default-clause-log g c).After-is_up

pub returns-in_default-clause-runs : goal.returns-in_default-clause-runs
returns-in_default-clause-runs g c =
    let at = goal.at.returns-in_default-clause-runs g c in
    let halt = halts g at.After-is_up in
    let from = c.args.log.now in
    let to = c.reopened-found.new.log in
    let r = c.reopened-found.ensures in
    let e = c.in_default.field-0 in
    let T = past_of c.args.self.now.trace in
    let only = IfErr-at_err _ c.in_default.is r.only in
    record {
      script = halt.script;
      objects = halt.objects;
      holds = halt.holds to (r.reopened.up ∙ ap is_ok c.in_default.is) (r.reopened.life ∙ ap (λ f. if is_ok f then from.life + 1 else from.life) c.in_default.is) r.within;
      tells = λ start told.
          subst (λ (U : List Placed). Tells g.D.Disk.faults g.D.Disk.honest g.D.Disk.image start to U) (sym (ended g at.In_default halt.trace))
          (tells_restart g.D.Disk.faults g.D.Disk.honest g.D.Disk.image start from to T c.args.n c.args.actor (unopened_by e) (went g at.After-is_up) r.reopened.armed
          (unopened_just g.D.Disk.honest (open_records start.slots ≡ []) (Rose (g.D.Disk.faults from.disk) (g.D.Disk.faults to.disk)) (after_halt c.args.n c.args.actor Fine T) e only (λ k. r.reopened.fault (c.in_default.is ∙ ap Err k))
          (λ is p k. r.reopened.never is p (c.in_default.is ∙ ap Err k))) told);
      finds = λ is start found.
          let U = past_of c.if-was_up.self.trace in
          finds_on g.D.Disk.faults g.D.Disk.seen start from to T U (went g at.After-is_up).grows
          (λ f. inl (elim only [
            | inl k ↦ r.reopened.fault (c.in_default.is ∙ ap Err k)
            | inr k ↦ absurd (r.reopened.never (g.met.D.Disk.tells is) k.0 (c.in_default.is ∙ ap Err k.1))
          ])) found;
    }

pub returns-in_default-clause-calls : goal.returns-in_default-clause-calls
returns-in_default-clause-calls g c = (halts g (goal.at.returns-in_default-clause-calls g c).After-is_up).calls

pub returns-in_default-clause-done : goal.returns-in_default-clause-done
returns-in_default-clause-done g c =
    let at = goal.at.returns-in_default-clause-done g c in
    (unopened_by c.in_default.field-0, ended g at.In_default (halts g at.After-is_up).trace)

-- Where it was, the transactions are told what was found.
is_there : (g : Over) (c : After-restart_all-arg-1 g) → c.reopened-found.new.log.is_up ≡ true
is_there g c = c.reopened-found.ensures.reopened.up ∙ ap is_ok c.in-Ok.is

life_there : (g : Over) (c : After-restart_all-arg-1 g) → c.reopened-found.new.log.life ≡ c.args.log.now.life + 1
life_there g c = c.reopened-found.ensures.reopened.life ∙ ap (λ f. if is_ok f then c.args.log.now.life + 1 else c.args.log.now.life) c.in-Ok.is

pushed : (g : Over) (c : After-restart_all-arg-1 g) → past_of c.push_reserved-2.new.self.items ≡ at_the_log (LogWord (Opened c.in-Ok.records)) (past_of c.if-was_up.self.trace)
pushed g c =
    one_written c.if-was_up.self.trace c.reserve-2.new.self.items c.push_reserved-2.new.self.items (LogWord (Opened c.in-Ok.records)) (c.in_ok-reserve-2.ensures.items ∙ ap (λ (r : RunState). r.trace) c.self-2.view_is)
    c.push_reserved-2.ensures.items

pub restart_all-requires-clause-tied : goal.restart_all-requires-clause-tied
restart_all-requires-clause-tied g c = λ t.
    let at = goal.at.restart_all-requires-clause-tied g c in
    let q = c.if-was_up.self in
    tied_move q.script c.self-2.inside.plans q.objects (named c.self-2.inside.whose) t (at_the_log (LogWord (Opened c.in-Ok.records)) (past_of q.trace)) (past_of c.push_reserved-2.new.self.items) (state_of t q.worlds) (state_of t c.self-2.inside.worlds.items)
    (ap (λ (r : RunState). r.script) c.self-2.view_is) (ap (λ (r : RunState). r.objects) c.self-2.view_is) (pushed g at.After-restart_all-arg-1) (ap (λ (r : RunState). state_of t r.worlds) c.self-2.view_is)
    (tied_at_log q.script q.objects t (past_of q.trace) (LogWord (Opened c.in-Ok.records)) (state_of t q.worlds) ((held g at.After-is_up).tied t))

pub restart_all-requires-clause-fits : goal.restart_all-requires-clause-fits
restart_all-requires-clause-fits g c = λ is t.
    let at = goal.at.restart_all-requires-clause-fits g c in
    let r = c.reopened-found.ensures in
    let to = c.reopened-found.new.log in
    subst (λ (q : RunState). Fits (state_of t q.worlds) (open_records to.slots)) (sym c.self-2.view_is)
    ((fits_opened g.D.Disk.image g.D.Disk.seen (halted_log c.args.log.now) to (state_of t c.if-was_up.self.worlds) (r.among is) (IfOk-at_ok _ c.in-Ok.is (r.reopened.records is)) (r.within is)
    ((held g at.After-is_up).fits is t)).fits (is_there g at.After-restart_all-arg-1))

pub restart_all-requires-clause-stopped : goal.restart_all-requires-clause-stopped
restart_all-requires-clause-stopped g c = λ t.
    let b = (goal.at.restart_all-requires-clause-stopped g c).After-is_up in
    subst (λ (r : RunState). has is_begin_sent (state_of t r.worlds).world.past ≡ true → (core (state_of t r.worlds).world).stopped ≡ true) (sym c.self-2.view_is)
    (λ begun. halts_at (halted_log c.args.log.now) (state_of t c.if-was_up.self.worlds) refl ((held g b).goes t) ∙ begun)

pub restart_all-requires-clause-lives : goal.restart_all-requires-clause-lives
restart_all-requires-clause-lives g c = λ t.
    let at = goal.at.restart_all-requires-clause-lives g c in
    subst (λ (r : RunState). has is_begin_sent (state_of t r.worlds).world.past ≡ true → (state_of t r.worlds).life < c.reopened-found.new.log.life) (sym c.self-2.view_is)
    (λ begun. let own = ((held g at.After-is_up).goes t).life begun in let next = life_there g at.After-restart_all-arg-1 in omega (arith, own, next))

pub returns-clause-log : goal.returns-clause-log
returns-clause-log g c = went g (goal.at.returns-clause-log g c).After-is_up

fine : (g : Over) (c : After-restart_all-arg-1 g) → c.restart_answer.result ≡ Fine
fine g c = c.restart_answer.ensures ∙ ap restart_answer c.in-Ok.is

pub returns-clause-runs : goal.returns-clause-runs
returns-clause-runs g c =
    let at = goal.at.returns-clause-runs g c in
    let b = at.After-restart_all-arg-1 in
    let h = held g at.After-is_up in
    let halt = halts g at.After-is_up in
    let go = went g at.After-is_up in
    let r = c.reopened-found.ensures in
    let q = c.if-was_up.self in
    let from = c.args.log.now in
    let to = c.reopened-found.new.log in
    let T = past_of c.args.self.now.trace in
    let n = c.args.n in
    let a = c.args.actor in
    let m = c.in-Ok.records in
    let found = λ (k : ℕ). is_some (record_in to.slots k) in
    let script = c.restart_all.ensures.script ∙ ap (λ (p : RunState). p.script) c.self-2.view_is in
    let objects = c.restart_all.ensures.objects ∙ ap (λ (p : RunState). p.objects) c.self-2.view_is in
    on_ok_weaker c.restart_all.result
    (λ done. record {
      script = script ∙ halt.script;
      objects = objects ∙ halt.objects;
      holds =
          holds_opened g.D.Disk.honest g.D.Disk.image g.D.Disk.seen (halted_log from) to q c.restart_all.new.self m refl (is_there g b) (life_there g b) r.among (λ is. IfOk-at_ok _ c.in-Ok.is (r.reopened.records is)) r.within
          (λ is. c.is_up.ensures.images is (is_there g b)) halt.numbered script objects (λ t. done.0.0 t ∙ ap (λ (p : RunState). reopened to (state_of t p.worlds)) c.self-2.view_is)
          (done.0.1 ∙ ap (λ (U : List Placed). put_at (λ (t : TxNo). Restarted (found t.value)) (known U) U) (pushed g b))
          (done.1.0 (λ t. subst (λ (p : RunState). IsRecordKept (state_of t p.worlds)) (sym c.self-2.view_is) (h.kept t)))
          (λ is. done.1.1 is (λ t. subst (λ (p : RunState). tied (state_of t p.worlds).world.past ≡ true) (sym c.self-2.view_is) (h.sound is t))) h;
      tells = λ start told.
          subst (λ (U : List Placed). Tells g.D.Disk.faults g.D.Disk.honest g.D.Disk.image start to U)
          (sym (opened_trace n a m found c.restart_answer.result T (past_of q.trace) (past_of c.push_reserved-2.new.self.items) (past_of c.restart_all.new.self.trace) done.0.1 (pushed g b) halt.trace (fine g b)))
          (tells_restart g.D.Disk.faults g.D.Disk.honest g.D.Disk.image start from to T n a (Opens found m) go r.reopened.armed
          (λ is empty.
          opened_just g.D.Disk.faults g.D.Disk.honest g.D.Disk.image g.D.Disk.seen start from to c.args.self.now q n a c.restart_answer.result m T (after_halt n a Fine T) (is_there g b) r.among (λ k. IfOk-at_ok _ c.in-Ok.is (r.reopened.records k)) r.within
          (IfOk-at_ok _ c.in-Ok.is r.reopened.count) go halt (ap (λ (x : Answer). after_halt n a x T) (sym (fine g b))) told is empty) told);
      finds = λ is start seen.
          let U = after_halt n a Fine T in
          subst (λ (V : List Placed). Finds g.D.Disk.faults g.D.Disk.seen start to V)
          (sym (opened_trace n a m found c.restart_answer.result T (past_of q.trace) (past_of c.push_reserved-2.new.self.items) (past_of c.restart_all.new.self.trace) done.0.1 (pushed g b) halt.trace (fine g b)))
          (finds_on g.D.Disk.faults g.D.Disk.seen start from to T (after_restart n a (Opens found m) T) go.grows
          (λ f. inr (found_opened g.D.Disk.seen from to U m (known U) r.reopened.armed (is_there g b) (IfOk-at_ok _ c.in-Ok.is (r.reopened.records (g.met.D.Disk.tells is)))
          (found_halt g.D.Disk.seen from T n a Fine c.requires.holds.up f))) seen);
    })
    (both_ok _ _ c.restart_all.result (both_ok _ _ c.restart_all.result c.restart_all.ensures.worlds c.restart_all.ensures.trace) (both_ok _ _ c.restart_all.result c.restart_all.ensures.kept c.restart_all.ensures.sound))

pub returns-clause-calls : goal.returns-clause-calls
returns-clause-calls g c =
    let b = (goal.at.returns-clause-calls g c).After-is_up in
    λ t. c.restart_all.ensures.calls t ∙ (ap (λ (r : RunState). (state_of t r.worlds).world.calls) c.self-2.view_is ∙ (halts g b).calls t)

pub returns-clause-done : goal.returns-clause-done
returns-clause-done g c =
    let at = goal.at.returns-clause-done g c in
    let b = at.After-restart_all-arg-1 in
    let to = c.reopened-found.new.log in
    let found = λ (k : ℕ). is_some (record_in to.slots k) in
    on_ok_weaker c.restart_all.result
    (λ put. (
      Opens found c.in-Ok.records,
      opened_trace c.args.n c.args.actor c.in-Ok.records found c.restart_answer.result (past_of c.args.self.now.trace) (past_of c.if-was_up.self.trace) (past_of c.push_reserved-2.new.self.items) (past_of c.restart_all.new.self.trace) put
          (pushed g b) (halts g at.After-is_up).trace (fine g b),
    ))
    c.restart_all.ensures.trace
