-- The turns of a replay, stops of the log and restarts included: each keeps each transaction's history freely caused, and following the log.
use Rattle.std.proofs.Common.{List, ◌≡◌, Bool, true, ◌==◌, false, refl, sym, subst, arith, ◌&&◌, not, ◌∷◌, ap, ◌∙◌, [], ℕ, ◌||◌, ◌⊎◌, inl, inr, Some, zero, suc}
use Rattle.std.proofs.lemmas.Bool.{or_left}
use Rattle.std.proofs.lemmas.Bool.Decides.{nat_tests}
use Rattle.dtx_values.specs.declared.entry.Answer.TheVariants.{Fault, Fine, NotALog}
use Rattle.dtx_values.specs.declared.entry.Entry.{Entry}
use Rattle.dtx_values.specs.declared.entry.Entry.TheVariants.{Stopped, Restarted, LogWord, Called}
use Rattle.dtx_values.specs.declared.entry.LogNote.TheVariants.{Opened}
use Rattle.dtx_values.specs.declared.number.ActorNo.{ActorNo}
use Rattle.dtx_values.specs.declared.number.TxNo.{TxNo}
use Rattle.dtx_values.specs.declared.script.Line.{Line}
use Rattle.dtx_values.specs.declared.call.Call.{Call}
use Rattle.dtx_model.specs.Words.{has, onto, each, kth, latest}
use Rattle.dtx_model.specs.Wires.{is_stopped}
use Rattle.dtx_model.specs.Coordinated.{coordinate, Coordinated, is_active, is_ready, may_log, is_finished, is_prepared, is_recorded, may_free}
use Rattle.dtx_model.specs.declared.waiting.EnteredCall.{EnteredCall}
use Rattle.dtx_model.specs.Traces.{Placed, history, noted, placed}
use Rattle.dtx_model.specs.World.{World, core}
use Rattle.dtx_model.specs.Steps.{Step, after, block_at, entered, Stops, Restarts, restarted, Coordinates, StoppedNow, LogAnswer, StepName, pending}
use Rattle.dtx_model.specs.Caused.{may_stop_after, stopped_if, FreelyCaused, IsCallOf, is_begin_sent, MayCome, IsRun, may_coordinate, is_full_answer, IsNamed, entered_in, HasStepped}
use Rattle.dtx_model.specs.AtLog.{is_hit, is_known, is_log_up, hit, known, unless_said, up_of}
use Rattle.dtx_model.specs.Replay.{after_turn, block_in, stop_if, world_at, after_stop, at_the_log, others, is_in_replay, StepsRan, put_at, after_opening, stopped_by_restart, Reopening, Opens, Faults, Differs, after_restart}
use Rattle.dtx_model.proofs.Bools.{and_both, not_both, not_false, and_left, or_case}
use Rattle.dtx_model.proofs.Histories.{history-noted, history-other, history-same}
use Rattle.dtx_model.proofs.Reading.{has-onto}
use Rattle.history_table.proofs.CoreStages.{stopped_same}
use Rattle.history_table.proofs.Tests.{eq_self}
use Rattle.history_table.proofs.BeginSent.{named_knows, ran_begun}
use Rattle.history_table.proofs.PendingSteps.{pending_comes}
use Rattle.script_histories.proofs.FollowingLog.{Follows, IsHalt, halt_follows, IsOpening, opening_follows, noted_follows, begun_follows, block_follows, log-placed, is_calm_there, there_follows, up_there}
use Rattle.script_histories.proofs.ReplayRuns.{AllFree, IsRunWith, after_same, run_calls, run_step, named_no_call, named_same, no_call_entered, pending_script}
use Rattle.script_histories.proofs.ReplayTurns.{world_with, after_block}
use Rattle.script_histories.proofs.PutAt.{one_more, history-others, log-put, history-hit, history-known}
use Rattle.script_histories.proofs.SteadyBlocks.{goes_on, is_steady, steady_block, steady_stopped, steady_unstopped, stopping_block, named_goes}
use Rattle.script_histories.proofs.OneBegin.{begin_new}
use Rattle.script_histories.proofs.ReplaySame.{block_same}

-- each transaction's history is freely caused, and follows the log
pub record IsGood (s : List Line) (T : List Placed) : Type 0 where
  pub free : AllFree s T
  pub follows : Follows T

-- a turn of t led there: its step, and where it sent BEGIN while the log wasn't up, the stop right after it
pub record Turned (s : List Line) (ks : List EnteredCall) (t : TxNo) (m : Step) (T U : List Placed) : Type 0 where
  pub good : IsGood s U
  pub run : IsRunWith s (entered m ks) t U
  pub stops : Bool
  pub may : may_stop_after stops (block_at t.value (world_with ks t T) m) ≡ true
  pub world : world_with (entered m ks) t U ≡ stopped_if stops t.value (after t.value (world_with ks t T) m)

-- what leaves the other transactions' histories as they were, and t's world run, keeps each freely caused
pub one_free : (s : List Line) (ks : List EnteredCall) (t : TxNo) (T U : List Placed) → AllFree s T → ((u : TxNo) → (u.value == t.value) ≡ false → history u.value U ≡ history u.value T)
    → IsRunWith s ks t U → AllFree s U
one_free s ks t T U free same r u = by_name (u.value == t.value) refl
  where
    by_name : (b : Bool) → (u.value == t.value) ≡ b → FreelyCaused (IsCallOf s u.value) u.value (history u.value U)
    by_name true e =
        let own : t.value ≡ u.value = grind (arith, nat_tests) in
        subst (λ n. FreelyCaused (IsCallOf s n) n (history n U)) own (ks, r)
    by_name false e = subst (λ h. FreelyCaused (IsCallOf s u.value) u.value h) (sym (same u e)) (free u)

-- A stop hits a transaction: its world is run on by that step.
pub stop_run : (s : List Line) (ks : List EnteredCall) (t : TxNo) (T U : List Placed) → is_hit T t ≡ true → history t.value U ≡ Stopped ∷ history t.value T → IsRunWith s ks t T → IsRunWith s ks t U
unfolding after block_at
stop_run s ks t T U k e r =
    let h = history t.value T in
    let runs : (has is_begin_sent h && not (coordinate h).stopped) ≡ true = ap (λ b. has is_begin_sent h && not b) (stopped_same h) ∙ k in
    (Stops ∷ r.0, (world_with ks t T, r.1, runs, ap (λ past. record { calls = ks; past = past }) e))

pub restart_run : (s : List Line) (ks : List EnteredCall) (t : TxNo) (T U : List Placed) (found : Bool) → is_known T t ≡ true → is_stopped (history t.value T) ≡ true
    → history t.value U ≡ Restarted found ∷ history t.value T → IsRunWith s ks t T → IsRunWith s ks t U
unfolding after block_at
restart_run s ks t T U found k d e r =
    let h = history t.value T in
    let block : restarted (coordinate h).stopped found ≡ Restarted found ∷ [] = ap (λ b. restarted b found) (stopped_same h ∙ d) in
    (Restarts found ∷ r.0, (world_with ks t T, r.1, k, ap (λ past. record { calls = ks; past = past }) (e ∙ ap (λ es. onto h es) (sym block))))

-- so a stop of the log keeps each freely caused,
halt_free : (s : List Line) (T U : List Placed) → IsHalt T U → AllFree s T → AllFree s U
halt_free s T U q free u = by (is_hit T u) refl (q.at u)
  where
    by : (b : Bool) → is_hit T u ≡ b → history u.value U ≡ one_more b Stopped (history u.value T) → FreelyCaused (IsCallOf s u.value) u.value (history u.value U)
    by true k e = let own = free u in (own.0, stop_run s own.0 u T U k e own.1)
    by false k e = subst (λ h. FreelyCaused (IsCallOf s u.value) u.value h) (sym e) (free u)

pub halt_good : (s : List Line) (T U : List Placed) → IsHalt T U → IsGood s T → IsGood s U
halt_good s T U q g = record { free = halt_free s T U q g.free; follows = halt_follows T U q g.follows }

-- and so does an opening where it isn't up
opening_free : (s : List Line) (found : ℕ → Bool) (n : ℕ) (T U : List Placed) → IsOpening found n T U → is_log_up T ≡ false → IsGood s T → AllFree s U
opening_free s found n T U q d g u = by (is_known T u) refl (q.at u)
  where
    by : (b : Bool) → is_known T u ≡ b → history u.value U ≡ one_more b (Restarted (found u.value)) (history u.value T) → FreelyCaused (IsCallOf s u.value) u.value (history u.value U)
    by true k e =
        let own = g.free u in
        (own.0, restart_run s own.0 u T U (found u.value) k ((g.follows.at u).halted k ∙ ap not d) e own.1)
    by false k e = subst (λ h. FreelyCaused (IsCallOf s u.value) u.value h) (sym e) (g.free u)

pub opening_good : (s : List Line) (found : ℕ → Bool) (n : ℕ) (T U : List Placed) → IsOpening found n T U → is_log_up T ≡ false → IsGood s T → IsGood s U
opening_good s found n T U q d g = record { free = opening_free s found n T U q d g; follows = opening_follows found n T U q d g.follows }

-- what is written at a context changes none of it
pub noted_good : (s : List Line) (a : ActorNo) (es : List Entry) (T : List Placed) → IsGood s T → IsGood s (onto T (noted a es))
noted_good s a es T g =
    record { free = λ u. subst (λ h. FreelyCaused (IsCallOf s u.value) u.value h) (sym (history-noted u.value a T es)) (g.free u); follows = noted_follows a es T g.follows }

-- The turn of a step that goes on.
pub plain_turn : (s : List Line) (t : TxNo) (m : Step) (T : List Placed) → goes_on m ≡ true → after_turn s t m T ≡ stop_if (has is_begin_sent (block_in s t m T) && not (is_log_up T)) t (after_block s t m T)
plain_turn s t (Coordinates StoppedNow) T k = absurd cc
plain_turn s t m T k = refl

going_turn : (s : List Line) (ks : List EnteredCall) (t : TxNo) (m : Step) (T : List Placed) → IsGood s T → IsRunWith s ks t T → MayCome (IsCallOf s t.value) t.value (world_with ks t T) m → goes_on m ≡ true
    → Turned s ks t m T (after_turn s t m T)
unfolding after block_at
going_turn s ks t m T g r q k = subst (Turned s ks t m T) (sym (plain_turn s t m T k)) (by (has is_begin_sent es) (is_log_up T) refl refl)
  where
    h : List Entry
    h = history t.value T

    es : List Entry
    es = block_in s t m T

    B : List Placed
    B = after_block s t m T

    same : block_at t.value (world_with ks t T) m ≡ es
    same = block_same s t.value ks h m (run_calls s ks t T r)

    steady : each is_steady es ≡ true
    steady = steady_block t.value (world_at s t T) m k

    first : IsRunWith s (entered m ks) t B
    first = run_step s ks t m T r q

    reached : world_with (entered m ks) t B ≡ after t.value (world_with ks t T) m
    reached = after_same s ks t m T r

    alone : (has is_begin_sent es ≡ true → is_log_up T ≡ true) → Turned s ks t m T B
    alone up =
        record {
          good = record { free = one_free s (entered m ks) t T B g.free (λ u e. history-other u.value t T es e) first; follows = block_follows t es T steady up g.follows };
          run = first;
          stops = false;
          may = refl;
          world = reached;
        }

    stopped : has is_begin_sent es ≡ true → is_log_up T ≡ false → Turned s ks t m T (onto B (placed t (Stopped ∷ [])))
    stopped b d =
        let U : List Placed = onto B (placed t (Stopped ∷ [])) in
        let sent = ap (has is_begin_sent) same ∙ b in
        let new = begin_new (IsCallOf s t.value) t.value (world_with ks t T) m r q sent in
        let past : history t.value B ≡ onto h es = history-same t.value t T es (eq_self t.value) in
        let last : history t.value U ≡ Stopped ∷ history t.value B = history-same t.value t B (Stopped ∷ []) (eq_self t.value) in
        let begun : has is_begin_sent (history t.value B) ≡ true = ap (has is_begin_sent) past ∙ has-onto is_begin_sent h es ∙ or_left (has is_begin_sent es) (has is_begin_sent h) b in
        let runs : is_stopped (history t.value B) ≡ false = ap is_stopped past ∙ steady_stopped h es steady ∙ steady_unstopped h ((g.follows.at t).unknown new) in
        let second = stop_run s (entered m ks) t B U (and_both (has is_begin_sent (history t.value B)) (not (is_stopped (history t.value B))) begun (not_false (is_stopped (history t.value B)) runs)) last first in
        record {
          good =
              record {
                free = one_free s (entered m ks) t T U g.free (λ u e. history-other u.value t B (Stopped ∷ []) e ∙ history-other u.value t T es e) second;
                follows = begun_follows t es T steady b new d g.follows;
              };
          run = second;
          stops = true;
          may = sent;
          world = ◌∙◌ {b = after t.value (world_with (entered m ks) t B) Stops} (ap (λ past. record { calls = entered m ks; past = past }) last) (ap (λ v. after t.value v Stops) reached);
        }

    by : (b u : Bool) → has is_begin_sent es ≡ b → is_log_up T ≡ u → Turned s ks t m T (stop_if (b && not u) t B)
    by true false b d = stopped b d
    by true true b d = alone (λ t. d)
    by false u b d = alone (λ t. absurd (not_both (has is_begin_sent es) t b))

-- The turn of an act that stops the log.
pub stopping_halt : (t : TxNo) (T : List Placed) → is_hit T t ≡ true → IsHalt T (after_stop t T)
stopping_halt t T k = record { there = log-put (λ u. Stopped) (others t (hit T)) own ∙ log-placed t (Stopped ∷ []) (at_the_log Stopped T); at = λ u. history-others u t (λ v. Stopped) T own ∙ by u (u.value == t.value) refl }
  where
    own : List Placed
    own = onto (at_the_log Stopped T) (placed t (Stopped ∷ []))

    by : (u : TxNo) (b : Bool) → (u.value == t.value) ≡ b → one_more (not (t.value == u.value) && is_hit T u) Stopped (history u.value own) ≡ one_more (is_hit T u) Stopped (history u.value T)
    by u true e =
        let back : (t.value == u.value) ≡ true = grind (arith, nat_tests) in
        let number : t.value ≡ u.value = grind (arith, nat_tests) in
        let here : is_hit T u ≡ true = subst (λ n. (has is_begin_sent (history n T) && not (is_stopped (history n T))) ≡ true) number k in
        ap (λ b. one_more (not b && is_hit T u) Stopped (history u.value own)) back ∙ history-same u.value t (at_the_log Stopped T) (Stopped ∷ []) e ∙ ap (λ b. one_more b Stopped (history u.value T)) (sym here)
    by u false e =
        let back : (t.value == u.value) ≡ false = grind (arith, nat_tests) in
        ap (λ b. one_more (not b && is_hit T u) Stopped (history u.value own)) back ∙ ap (λ h. one_more (is_hit T u) Stopped h) (history-other u.value t (at_the_log Stopped T) (Stopped ∷ []) e)

-- and acts only there
pub acts_begun : (G : ℕ → ActorNo → Call → Type 0) (t : ℕ) (w : World) (a : LogAnswer) → IsRun G t w → may_coordinate (core w) a ≡ true → has is_begin_sent w.past ≡ true
acts_begun G t w a r m = ran_begun G t r.0 w r.1 (named_knows (core w) a m)

log_runs : (k : Coordinated) → may_log k ≡ true → not k.stopped ≡ true
unfolding may_log
log_runs k l =
    let ready = each (λ d. is_ready d.ballot) k.desks in
    and_left (not k.stopped) (is_active k.stage)
    (and_left (not k.stopped && is_active k.stage) k.commit (and_left (not k.stopped && is_active k.stage && k.commit) k.yes (and_left (not k.stopped && is_active k.stage && k.commit && k.yes) ready l)))

free_runs : (k : Coordinated) → may_free k ≡ true → not k.stopped ≡ true
unfolding may_free
free_runs k f =
    let finished = each (λ d. not (is_prepared d.ballot) || is_finished k.recovered d) k.desks in
    and_left (not k.stopped) (is_recorded k.stage) (and_left (not k.stopped && is_recorded k.stage) finished f)

-- it acts where it isn't stopped
pub acts_runs : (k : Coordinated) (a : LogAnswer) → may_coordinate k a ≡ true → not k.stopped ≡ true
acts_runs k a e = or_case (may_log k) (may_free k && not (is_full_answer a)) (log_runs k) (λ f. free_runs k (and_left (may_free k) (not (is_full_answer a)) f)) e

stopping_turn : (s : List Line) (ks : List EnteredCall) (t : TxNo) (T : List Placed) → IsGood s T → IsRunWith s ks t T → may_coordinate (core (world_with ks t T)) StoppedNow ≡ true
    → Turned s ks t (Coordinates StoppedNow) T (after_stop t T)
unfolding after
stopping_turn s ks t T g r q =
    let w = world_with ks t T in
    let h = history t.value T in
    let begun : has is_begin_sent h ≡ true = acts_begun (IsCallOf s t.value) t.value w StoppedNow r q in
    let runs : not (is_stopped h) ≡ true = sym (ap not (stopped_same h)) ∙ acts_runs (core w) StoppedNow q in
    let struck : is_hit T t ≡ true = and_both (has is_begin_sent h) (not (is_stopped h)) begun runs in
    let halt = stopping_halt t T struck in
    let last : history t.value (after_stop t T) ≡ Stopped ∷ h = halt.at t ∙ ap (λ b. one_more b Stopped h) struck in
    record {
      good = halt_good s T (after_stop t T) halt g;
      run = stop_run s ks t T (after_stop t T) struck last r;
      stops = false;
      may = refl;
      world = ap (λ past. record { calls = ks; past = past }) (last ∙ ap (λ es. onto h es) (sym (stopping_block t.value w)));
    }

-- a turn of a step that may come, and that goes on or stops the log
pub turn : (s : List Line) (ks : List EnteredCall) (t : TxNo) (m : Step) (T : List Placed) → IsGood s T → IsRunWith s ks t T → MayCome (IsCallOf s t.value) t.value (world_with ks t T) m
    → (goes_on m ≡ true) ⊎ (m ≡ Coordinates StoppedNow) → Turned s ks t m T (after_turn s t m T)
turn s ks t m T g r q (inl k) = going_turn s ks t m T g r q k
turn s ks t m T g r q (inr e) =
    subst (λ n. Turned s ks t n T (after_turn s t n T)) (sym e) (stopping_turn s ks t T g r (subst (λ n. MayCome (IsCallOf s t.value) t.value (world_with ks t T) n) e q))

-- a step that was pending by the script
pub record StepTurned (s : List Line) (ks : List EnteredCall) (t : TxNo) (k : ℕ) (n : StepName) (m : Step) (T U : List Placed) : Type 0 where
  pub good : IsGood s U
  pub run : IsRunWith s ks t U
  pub there : kth (pending (world_with ks t T)) k ≡ Some n
  pub named : IsNamed (world_with ks t T) n m
  pub stops : Bool
  pub may : may_stop_after stops (block_at t.value (world_with ks t T) m) ≡ true
  pub world : world_with ks t U ≡ stopped_if stops t.value (after t.value (world_with ks t T) m)

pub step_turn : (s : List Line) (ks : List EnteredCall) (t : TxNo) (k : ℕ) (n : StepName) (m : Step) (T : List Placed) → IsGood s T → IsRunWith s ks t T
    → kth (pending (world_at s t T)) k ≡ Some n → IsNamed (world_at s t T) n m → is_in_replay m ≡ true → StepTurned s ks t k n m T (after_turn s t m T)
step_turn s ks t k n m T g r e named p =
    let h = history t.value T in
    let there = ap (λ ns. kth ns k) (pending_script s ks t T r) ∙ e in
    let own = named_same (entered_in s h) ks h n m named in
    let comes = pending_comes (IsCallOf s t.value) t.value (world_with ks t T) k n m there own in
    let done = turn s ks t m T g r comes (named_goes (world_at s t T) n m named p) in
    let none = no_call_entered ks m (named_no_call (world_at s t T) n m named) in
    record {
      good = done.good;
      run = subst (λ js. IsRunWith s js t (after_turn s t m T)) none done.run;
      there = there;
      named = own;
      stops = done.stops;
      may = done.may;
      world = subst (λ js. world_with js t (after_turn s t m T) ≡ stopped_if done.stops t.value (after t.value (world_with ks t T) m)) none done.world;
    }

-- the steps of a `do` or an `await`
pub record StepsTurned (s : List Line) (ks : List EnteredCall) (t : TxNo) (k m : ℕ) (start T : List Placed) : Type 0 where
  pub good : IsGood s T
  pub run : IsRunWith s ks t T
  pub stepped : HasStepped t.value k m (world_with ks t start) (world_with ks t T)

pub steps_turn : (s : List Line) (ks : List EnteredCall) (t : TxNo) (k m : ℕ) (start T : List Placed) → IsGood s start → IsRunWith s ks t start → StepsRan s t k m start T → StepsTurned s ks t k m start T
steps_turn s ks t k zero start T g r q = subst (StepsTurned s ks t k zero start) (sym q) (record { good = g; run = r; stepped = refl })
steps_turn s ks t k (suc m) start T g r q =
    let past = q.0 in
    let ih = steps_turn s ks t k m start past g r q.1 in
    let one = step_turn s ks t k q.2 q.3 past ih.good ih.run q.4 q.5 q.6 in
    subst (StepsTurned s ks t k (suc m) start) (sym q.7)
    (record { good = one.good; run = one.run; stepped = (world_with ks t past, ih.stepped, q.2, q.3, one.there, one.named, one.stops, one.may, one.world) })

-- What a restart does: where the log is up, it stops first; and where it is opened again, that comes to each transaction of which the coordinator knows.
pub put_halt : (T : List Placed) → IsHalt T (put_at (λ u. Stopped) (hit T) (at_the_log Stopped T))
put_halt T = record { there = log-put (λ u. Stopped) (hit T) (at_the_log Stopped T); at = λ u. history-hit u (λ v. Stopped) T (at_the_log Stopped T) }

pub put_opening : (found : ℕ → Bool) (n : ℕ) (T : List Placed) → IsOpening found n T (after_opening found n T)
put_opening found n T =
    record {
      there = log-put (λ t. Restarted (found t.value)) (known T) (at_the_log (LogWord (Opened n)) T);
      at = λ u. history-known u (λ t. Restarted (found t.value)) T (at_the_log (LogWord (Opened n)) T);
    }

-- so it isn't up after the stop that a restart brings
pub halted_there : (b : Bool) (T : List Placed) → is_log_up T ≡ b → is_log_up (stopped_by_restart b T) ≡ false
halted_there true T e = ap (λ l. unless_said (latest up_of l)) (put_halt T).there
halted_there false T e = e

halted_good : (s : List Line) (b : Bool) (T : List Placed) → IsGood s T → IsGood s (stopped_by_restart b T)
halted_good s true T g = halt_good s T (stopped_by_restart true T) (put_halt T) g
halted_good s false T g = g

-- an entry at the log that neither stops it nor opens it
pub there_good : (s : List Line) (x : Entry) (T : List Placed) → is_calm_there x ≡ true → IsGood s T → IsGood s (at_the_log x T)
there_good s x T k g = record { free = g.free; follows = there_follows x T k g.follows }

pub restart_good : (s : List Line) (n : ℕ) (a : ActorNo) (x : Reopening) (T : List Placed) → IsGood s T → IsGood s (after_restart n a x T)
restart_good s n a (Opens found m) T g =
    let called = at_the_log (Called n a Fine) T in
    let halted = stopped_by_restart (is_log_up T) called in
    opening_good s found m halted (after_opening found m halted) (put_opening found m halted)
    (halted_there (is_log_up T) called (up_there (Called n a Fine) T refl)) (halted_good s (is_log_up T) called (there_good s (Called n a Fine) T refl g))
restart_good s n a Faults T g = halted_good s (is_log_up T) (at_the_log (Called n a Fault) T) (there_good s (Called n a Fault) T refl g)
restart_good s n a (Differs p) T g = halted_good s (is_log_up T) (at_the_log (Called n a (NotALog p)) T) (there_good s (Called n a (NotALog p)) T refl g)
