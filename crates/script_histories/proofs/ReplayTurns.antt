-- Replays in which nothing stands at the log: each turn puts the block of its step after the trace, and nothing else.
use Rattle.std.proofs.Common.{◌≡◌, ℕ, zero, suc, ◌≤◌, ◌<◌, Bool, true, false, ◌&&◌, not, List, [], ◌∷◌, length, map, Option, Some, None, refl, ap, sym, subst, ◌∙◌}
use Rattle.std.specs.Prelude.{is_some}
use Rattle.dtx_values.specs.declared.call.Call.{Call}
use Rattle.dtx_values.specs.declared.call.Call.TheVariants.{Await, Do}
use Rattle.dtx_values.specs.declared.entry.Answer.TheVariants.{Fine, Fault, NotALog}
use Rattle.dtx_values.specs.declared.entry.Entry.{Entry}
use Rattle.dtx_values.specs.declared.entry.Entry.TheVariants.{Called, LogWord, Restarted, Stopped}
use Rattle.dtx_values.specs.declared.entry.LogNote.TheVariants.{Opened}
use Rattle.dtx_values.specs.declared.number.ActorNo.{ActorNo}
use Rattle.dtx_values.specs.declared.number.TxNo.{TxNo}
use Rattle.dtx_values.specs.declared.scope.OpenScope.{OpenScope}
use Rattle.dtx_values.specs.declared.script.Body.{Body}
use Rattle.dtx_values.specs.declared.script.Body.TheVariants.{Stop, Restart}
use Rattle.dtx_values.specs.declared.script.Line.{Line}
use Rattle.dtx_values.specs.declared.trace.Place.{Place}
use Rattle.dtx_values.specs.declared.trace.Place.TheVariants.{Context, Log, Transaction}
use Rattle.dtx_model.specs.Words.{each, has, kth, onto, past_of}
use Rattle.dtx_model.specs.Outcome.{is_empty}
use Rattle.dtx_model.specs.Calls.{call_of}
use Rattle.dtx_model.specs.Contexts.{scope_block, scope_calls, scopes_of}
use Rattle.dtx_model.specs.Traces.{Placed, history, noted, placed}
use Rattle.dtx_model.specs.declared.waiting.EnteredCall.{EnteredCall}
use Rattle.dtx_model.specs.World.{World, half}
use Rattle.dtx_model.specs.Steps.{StoppedBefore, StoppedNow, Step, Calls, Coordinates, StepName, pending}
use Rattle.dtx_model.specs.Caused.{HasStepped, IsNamed, MayAnswer, Settled, is_begin_sent}
use Rattle.dtx_model.specs.AtLog.{hit, is_local_trace, is_log, is_log_line, is_log_up, known}
use Rattle.dtx_model.specs.Replay.{CallRan, IsReplayed, IsTurn, LineRan, LinesRan, Reopening, Opens, Faults, Differs, RoundsRan, StepsRan, after_calls, after_halt, after_restart, after_scope, after_turn, at_the_log, block_in, is_in_replay, last_turn, others, stop_if, stopped_by_restart, world_at}
use Rattle.dtx_model.proofs.Bools.{and_both, and_left, and_right, not_false, or_right}
use Rattle.dtx_model.proofs.Reading.{each-onto}
use Rattle.script_histories.specs.LogQuiet.{is_log_quiet}
use Rattle.history_table.proofs.Scans.{each_more}
use Rattle.dtx_model.specs.Promotes.{is_promoting}

-- nothing stands at the log
abbrev pub IsQuiet : List Placed → Type 0
IsQuiet T = is_log_quiet T ≡ true

abbrev is_off_log : Placed → Bool
is_off_log x = not (is_log x.0)

-- where nothing is promoted either, nothing stands there
pub local_quiet : (T : List Placed) → is_local_trace T ≡ true → is_log_quiet T ≡ true
local_quiet T k = each_more (λ (x : Placed). not (is_log x.0) && not (is_promoting x.1)) is_off_log (λ x h. and_left (not (is_log x.0)) (not (is_promoting x.1)) h) T k

-- so it was before a block
pub quiet_before : (T ys : List Placed) → IsQuiet (onto T ys) → IsQuiet T
quiet_before T ys l = and_right (each is_off_log ys) (each is_off_log T) (sym (each-onto is_off_log T ys) ∙ l)

-- the log is up
pub log_up : (T : List Placed) → IsQuiet T → is_log_up T ≡ true
log_up [] k = refl
log_up ((Log, x) ∷ T) k = absurd cc
log_up ((Transaction t, x) ∷ T) k = log_up T k
log_up ((Context a, x) ∷ T) k = log_up T k

-- the trace with the block of a step of t after it
abbrev pub after_block : List Line → TxNo → Step → List Placed → List Placed
after_block s t m T = onto T (placed t (block_in s t m T))

stop_before : (b : Bool) (t : TxNo) (T : List Placed) → IsQuiet (stop_if b t T) → IsQuiet T
stop_before true t T l = quiet_before T (placed t (Stopped ∷ [])) l
stop_before false t T l = l

never_now : (t : TxNo) (T : List Placed) → IsQuiet (onto (onto (at_the_log Stopped T) (placed t (Stopped ∷ []))) (map (λ u. (Transaction u, Stopped)) (others t (hit T)))) → ⊥
never_now t T l = let k = quiet_before (at_the_log Stopped T) (placed t (Stopped ∷ [])) (quiet_before (onto (at_the_log Stopped T) (placed t (Stopped ∷ []))) (map (λ u. (Transaction u, Stopped)) (others t (hit T))) l) in cc

-- before a turn
pub turn_before : (s : List Line) (t : TxNo) (m : Step) (T : List Placed) → IsQuiet (after_turn s t m T) → IsQuiet T
turn_before s t (Coordinates StoppedNow) T l = absurd (never_now t T l)
turn_before s t m T l =
    quiet_before T (placed t (block_in s t m T)) (stop_before (has is_begin_sent (block_in s t m T) && not (is_log_up T)) t (after_block s t m T) l)

-- no stop follows a block
unstopped : (b u : Bool) (t : TxNo) (T : List Placed) → u ≡ true → stop_if (b && not u) t T ≡ T
unstopped true true t T k = refl
unstopped false true t T k = refl
unstopped b false t T k = absurd cc

-- the step stops the log
abbrev pub is_stopping : Step → Bool
is_stopping (Coordinates StoppedNow) = true
is_stopping _ = false

-- so a turn that doesn't stop it is the block
pub quiet_turn : (s : List Line) (t : TxNo) (m : Step) (T : List Placed) → IsQuiet T → is_stopping m ≡ false → after_turn s t m T ≡ after_block s t m T
quiet_turn s t (Coordinates StoppedNow) T l k = absurd cc
quiet_turn s t m T l k = unstopped (has is_begin_sent (block_in s t m T)) (is_log_up T) t (after_block s t m T) (log_up T l)

-- and one after which the log is quiet
pub turn_block : (s : List Line) (t : TxNo) (m : Step) (T : List Placed) → IsQuiet (after_turn s t m T) → after_turn s t m T ≡ after_block s t m T
turn_block s t (Coordinates StoppedNow) T l = absurd (never_now t T l)
turn_block s t m T l =
    quiet_turn s t m T (quiet_before T (placed t (block_in s t m T)) (stop_before (has is_begin_sent (block_in s t m T) && not (is_log_up T)) t (after_block s t m T) l)) refl

-- the step neither stops the log nor finds it stopped
abbrev pub goes_on : Step → Bool
goes_on (Coordinates StoppedNow) = false
goes_on (Coordinates StoppedBefore) = false
goes_on _ = true

-- so it is with each of a replay after which the log is quiet
turn_goes : (s : List Line) (t : TxNo) (m : Step) (T : List Placed) → is_in_replay m ≡ true → IsQuiet (after_turn s t m T) → goes_on m ≡ true
turn_goes s t (Coordinates StoppedNow) T q l = absurd (never_now t T l)
turn_goes s t (Coordinates StoppedBefore) T q l = absurd cc
turn_goes s t _ T q l = refl

-- the log stays quiet with a block at a transaction, or at a context
at_quiet : (p : Place) (es : List Entry) → is_log p ≡ false → each is_off_log (map (λ e. (p, e)) es) ≡ true
at_quiet p [] k = refl
at_quiet p (x ∷ es) k = and_both (not (is_log p)) (each is_off_log (map (λ e. (p, e)) es)) (not_false (is_log p) k) (at_quiet p es k)

pub placed_quiet : (t : TxNo) (es : List Entry) (T : List Placed) → IsQuiet T → IsQuiet (onto T (placed t es))
placed_quiet t es T l = each-onto is_off_log T (placed t es) ∙ and_both (each is_off_log (placed t es)) (each is_off_log T) (at_quiet (Transaction t) es refl) l

pub noted_quiet : (a : ActorNo) (es : List Entry) (T : List Placed) → IsQuiet T → IsQuiet (onto T (noted a es))
noted_quiet a es T l = each-onto is_off_log T (noted a es) ∙ and_both (each is_off_log (noted a es)) (each is_off_log T) (at_quiet (Context a) es refl) l

-- the world of transaction t with these calls after a trace
abbrev pub world_with : List EnteredCall → TxNo → List Placed → World
world_with ks t T = record { calls = ks; past = history t.value T }

-- so many steps of t were done after this trace, each the k-th that was pending
abbrev pub StepsDone : List Line → TxNo → ℕ → ℕ → List Placed → List Placed → Type 0
StepsDone s t k zero start T = T ≡ start
StepsDone s t k (suc m) start T =
    (past : List Placed) × StepsDone s t k m start past × (n : StepName) × (step : Step) × (kth (pending (world_at s t past)) k ≡ Some n) × IsNamed (world_at s t past) n step
    × (goes_on step ≡ true) × (T ≡ after_block s t step past)

-- as a `do` or an `await` does them
pub record IsDo (s : List Line) (t : TxNo) (k n m : ℕ) (start before : List Placed) : Type 0 where
  pub ran : StepsDone s t k m start before
  pub most : m ≤ n
  pub stopped : m < n → kth (pending (world_at s t before)) k ≡ None

pub record IsAwait (s : List Line) (t : TxNo) (m : ℕ) (start before : List Placed) : Type 0 where
  pub ran : StepsDone s t 1 m start before
  pub settled : Settled s (history t.value before)

-- what a line does by its own words
abbrev pub CallDone : List Line → ActorNo → ℕ → Option (TxNo × Call) → List Placed → List Placed → Type 0
CallDone s a i (Some (t, Do u k n)) start T = (m : ℕ) × (before : List Placed) × IsDo s t k n m start before × (T ≡ after_block s t (Calls i a (Do u k n) m) before)
CallDone s a i (Some (t, Await u)) start T = (m : ℕ) × (before : List Placed) × IsAwait s t m start before × (T ≡ after_block s t (Calls i a (Await u) 0) before)
CallDone s a i (Some (t, c)) start T = T ≡ after_block s t (Calls i a c 0) start
CallDone s a i None start T = T ≡ start

-- the trace with these calls of line n after it
abbrev pub calls_after : List Line → ℕ → ActorNo → List (TxNo × Call) → List Placed → List Placed
calls_after s n a [] T = T
calls_after s n a (c ∷ cs) T = calls_after s n a cs (after_block s c.0 (Calls n a c.1 0) T)

abbrev pub scope_after : List Line → ℕ → Line → List OpenScope → List Placed → List Placed
scope_after s n l xs T = calls_after s n l.actor (scope_calls l.body xs) (onto T (noted l.actor (scope_block n l.actor l.body xs)))

abbrev pub LineDone : List Line → List Line → Line → List Placed → List Placed → Type 0
LineDone s before l start T =
    (is_log_line l.body ≡ false) × CallDone s l.actor (suc (length before)) (call_of s l.body) (scope_after s (suc (length before)) l (scopes_of l.actor.value before) start) T

abbrev pub LinesDone : List Line → List Line → List Placed → Type 0
LinesDone s [] T = T ≡ []
LinesDone s (l ∷ before) T = (past : List Placed) × LinesDone s before past × LineDone s before l past T

abbrev pub RoundsDone : List Line → List Placed → List (TxNo × Step) → List Placed → Type 0
RoundsDone s start [] T = T ≡ start
RoundsDone s start (x ∷ xs) T = (past : List Placed) × RoundsDone s start xs past × IsTurn s past (last_turn xs) x.0 x.1 × (goes_on x.1 ≡ true) × (T ≡ after_block s x.0 x.1 past)

pub record ReplayDone (s : List Line) (T : List Placed) : Type 0 where
  pub by_lines : List Placed
  pub lines : LinesDone s (past_of s) by_lines
  pub turns : List (TxNo × Step)
  pub rounds : RoundsDone s by_lines turns T

-- Of each call: steps that were pending, each the one at this place, and then the call, which may answer in each world in which they were done. `Ran` says that so many steps came after a trace, and
-- `after` is the trace after a step.
pub record HasCalled (s : List Line) (Ran : ℕ → ℕ → List Placed → List Placed → Type 0) (after : Step → List Placed → List Placed) (a : ActorNo) (i : ℕ) (t : TxNo) (c : Call) (start T : List Placed) : Type 0 where
  pub place : ℕ
  pub count : ℕ
  pub done : ℕ
  pub before : List Placed
  pub steps : Ran place count start before
  pub may : (ks : List EnteredCall) → HasStepped t.value place count (world_with ks t start) (world_with ks t before) → pending (world_with ks t before) ≡ pending (world_at s t before)
      → MayAnswer t.value (world_with ks t before) c done
  pub ends : T ≡ after (Calls i a c done) before

pub do_called : (s : List Line) (Ran : ℕ → ℕ → List Placed → List Placed → Type 0) (after : Step → List Placed → List Placed) (a : ActorNo) (i : ℕ) (t u : TxNo) (k n m : ℕ) (start before T : List Placed) → Ran k m start before
    → m ≤ n → (m < n → kth (pending (world_at s t before)) k ≡ None) → T ≡ after (Calls i a (Do u k n) m) before → HasCalled s Ran after a i t (Do u k n) start T
do_called s Ran after a i t u k n m start before T ran most stopped e =
    record {
      place = k;
      count = m;
      done = m;
      before = before;
      steps = ran;
      may = λ ks st same. record { before = world_with ks t start; stepped = st; most = most; fewer = λ lt. ap (λ ns. kth ns k) same ∙ stopped lt };
      ends = e;
    }

pub await_called : (s : List Line) (Ran : ℕ → ℕ → List Placed → List Placed → Type 0) (after : Step → List Placed → List Placed) (a : ActorNo) (i : ℕ) (t u : TxNo) (m : ℕ) (start before T : List Placed) → Ran 1 m start before
    → Settled s (history t.value before) → T ≡ after (Calls i a (Await u) 0) before → HasCalled s Ran after a i t (Await u) start T
await_called s Ran after a i t u m start before T ran settled e =
    record {
      place = 1;
      count = m;
      done = 0;
      before = before;
      steps = ran;
      may = λ ks st same. or_right (is_some (half (world_with ks t before)).seen.told_client) (is_empty (pending (world_with ks t before))) (ap (λ ns. is_empty ns) (same ∙ settled));
      ends = e;
    }

-- That is what the steps of a quiet trace come to: those of a `do` or an `await`,
pub steps_before : (s : List Line) (t : TxNo) (k m : ℕ) (start T : List Placed) → IsQuiet T → StepsRan s t k m start T → IsQuiet start
steps_before s t k zero start T l r = subst IsQuiet r l
steps_before s t k (suc m) start T l r = steps_before s t k m start r.0 (turn_before s t r.3 r.0 (subst IsQuiet r.7 l)) r.1

pub steps_done : (s : List Line) (t : TxNo) (k m : ℕ) (start T : List Placed) → IsQuiet T → StepsRan s t k m start T → StepsDone s t k m start T
steps_done s t k zero start T l r = r
steps_done s t k (suc m) start T l r =
    let turn = subst IsQuiet r.7 l in
    (r.0, steps_done s t k m start r.0 (turn_before s t r.3 r.0 turn) r.1, r.2, r.3, r.4, r.5, turn_goes s t r.3 r.0 r.6 turn, r.7 ∙ turn_block s t r.3 r.0 turn)

-- a line's call by its own words,
words_before : (s : List Line) (a : ActorNo) (i : ℕ) (c : Option (TxNo × Call)) (start T : List Placed) → IsQuiet T → CallRan s a i c start T → IsQuiet start
words_before s a i (Some (t, Do u k n)) start T l r = steps_before s t k r.0 start r.1 (turn_before s t (Calls i a (Do u k n) r.0) r.1 (subst IsQuiet r.3 l)) r.2.ran
words_before s a i (Some (t, Await u)) start T l r = steps_before s t 1 r.0 start r.1 (turn_before s t (Calls i a (Await u) 0) r.1 (subst IsQuiet r.3 l)) r.2.ran
words_before s a i (Some (t, c)) start T l r = turn_before s t (Calls i a c 0) start (subst IsQuiet r l)
words_before s a i None start T l r = subst IsQuiet r l

one_done : (s : List Line) (t : TxNo) (m : Step) (before T : List Placed) → IsQuiet T → T ≡ after_turn s t m before → T ≡ after_block s t m before
one_done s t m before T l e = e ∙ turn_block s t m before (subst IsQuiet e l)

words_done : (s : List Line) (a : ActorNo) (i : ℕ) (c : Option (TxNo × Call)) (start T : List Placed) → IsQuiet T → CallRan s a i c start T → CallDone s a i c start T
words_done s a i (Some (t, Do u k n)) start T l r =
    let steps = steps_done s t k r.0 start r.1 (turn_before s t (Calls i a (Do u k n) r.0) r.1 (subst IsQuiet r.3 l)) r.2.ran in
    (r.0, r.1, record { ran = steps; most = r.2.most; stopped = r.2.stopped }, one_done s t (Calls i a (Do u k n) r.0) r.1 T l r.3)
words_done s a i (Some (t, Await u)) start T l r =
    let steps = steps_done s t 1 r.0 start r.1 (turn_before s t (Calls i a (Await u) 0) r.1 (subst IsQuiet r.3 l)) r.2.ran in
    (r.0, r.1, record { ran = steps; settled = r.2.settled }, one_done s t (Calls i a (Await u) 0) r.1 T l r.3)
words_done s a i (Some (t, c)) start T l r = one_done s t (Calls i a c 0) start T l r
words_done s a i None start T l r = r

-- the calls of a scope line,
pub calls_before : (s : List Line) (n : ℕ) (a : ActorNo) (cs : List (TxNo × Call)) (T : List Placed) → IsQuiet (after_calls s n a cs T) → IsQuiet T
calls_before s n a [] T l = l
calls_before s n a (c ∷ cs) T l = turn_before s c.0 (Calls n a c.1 0) T (calls_before s n a cs (after_turn s c.0 (Calls n a c.1 0) T) l)

pub calls_done : (s : List Line) (n : ℕ) (a : ActorNo) (cs : List (TxNo × Call)) (T : List Placed) → IsQuiet (after_calls s n a cs T) → after_calls s n a cs T ≡ calls_after s n a cs T
calls_done s n a [] T l = refl
calls_done s n a (c ∷ cs) T l =
    let same = turn_block s c.0 (Calls n a c.1 0) T (calls_before s n a cs (after_turn s c.0 (Calls n a c.1 0) T) l) in
    ap (λ U. after_calls s n a cs U) same ∙ calls_done s n a cs (after_block s c.0 (Calls n a c.1 0) T) (subst (λ U. IsQuiet (after_calls s n a cs U)) same l)

-- a line, which neither stops the log nor opens it again,
no_halt : (b : Bool) (x : Entry) (T : List Placed) → IsQuiet (stopped_by_restart b (at_the_log x T)) → ⊥
no_halt true x T l = let k = quiet_before (at_the_log Stopped (at_the_log x T)) (map (λ u. (Transaction u, Stopped)) (hit (at_the_log x T))) l in cc
no_halt false x T l = cc

no_restart : (n : ℕ) (a : ActorNo) (x : Reopening) (T : List Placed) → IsQuiet (after_restart n a x T) → ⊥
no_restart n a (Opens found m) T l = let k = quiet_before (at_the_log (LogWord (Opened m)) (after_halt n a Fine T)) (map (λ t. (Transaction t, Restarted (found t.value))) (known (at_the_log (LogWord (Opened m)) (after_halt n a Fine T)))) l in cc
no_restart n a Faults T l = no_halt (is_log_up T) (Called n a Fault) T l
no_restart n a (Differs p) T l = no_halt (is_log_up T) (Called n a (NotALog p)) T l

line_calls : (s before : List Line) (a : ActorNo) (b : Body) (start T : List Placed) → IsQuiet T → LineRan s before (record { actor = a; body = b }) start T
    → (is_log_line b ≡ false) × CallRan s a (suc (length before)) (call_of s b) (after_scope s (suc (length before)) (record { actor = a; body = b }) (scopes_of a.value before) start) T
line_calls s before a (Stop n i) start T l r = let k = subst IsQuiet r l in absurd cc
line_calls s before a Restart start T l r = absurd (no_restart (suc (length before)) a r.0 start (subst IsQuiet r.1 l))
line_calls s before a _ start T l r = (refl, r)

scope_quiet : (s before : List Line) (l : Line) (start T : List Placed) → IsQuiet T → LineRan s before l start T → IsQuiet (after_scope s (suc (length before)) l (scopes_of l.actor.value before) start)
scope_quiet s before l start T k r =
    let n : ℕ = suc (length before) in
    words_before s l.actor n (call_of s l.body) (after_scope s n l (scopes_of l.actor.value before) start) T k (line_calls s before l.actor l.body start T k r).1

pub line_before : (s before : List Line) (l : Line) (start T : List Placed) → IsQuiet T → LineRan s before l start T → IsQuiet start
line_before s before l start T k r =
    let n : ℕ = suc (length before) in
    let xs : List OpenScope = scopes_of l.actor.value before in
    let es : List Entry = scope_block n l.actor l.body xs in
    quiet_before start (noted l.actor es) (calls_before s n l.actor (scope_calls l.body xs) (onto start (noted l.actor es)) (scope_quiet s before l start T k r))

line_done : (s before : List Line) (l : Line) (start T : List Placed) → IsQuiet T → LineRan s before l start T → LineDone s before l start T
line_done s before l start T k r =
    let n : ℕ = suc (length before) in
    let xs : List OpenScope = scopes_of l.actor.value before in
    let ran = line_calls s before l.actor l.body start T k r in
    let scope = calls_done s n l.actor (scope_calls l.body xs) (onto start (noted l.actor (scope_block n l.actor l.body xs))) (scope_quiet s before l start T k r) in
    (ran.0, words_done s l.actor n (call_of s l.body) (scope_after s n l xs start) T k (subst (λ U. CallRan s l.actor n (call_of s l.body) U T) scope ran.1))

-- all lines,
pub lines_done : (s ls : List Line) (T : List Placed) → IsQuiet T → LinesRan s ls T → LinesDone s ls T
lines_done s [] T l r = r
lines_done s (x ∷ ls) T l r = (r.0, lines_done s ls r.0 (line_before s ls x r.0 T l r.2) r.1, line_done s ls x r.0 T l r.2)

-- and the rounds
rounds_before : (s : List Line) (start : List Placed) (xs : List (TxNo × Step)) (T : List Placed) → IsQuiet T → RoundsRan s start xs T → IsQuiet start
rounds_before s start [] T l r = subst IsQuiet r l
rounds_before s start (x ∷ xs) T l r = rounds_before s start xs r.0 (turn_before s x.0 x.1 r.0 (subst IsQuiet r.3 l)) r.1

rounds_done : (s : List Line) (start : List Placed) (xs : List (TxNo × Step)) (T : List Placed) → IsQuiet T → RoundsRan s start xs T → RoundsDone s start xs T
rounds_done s start [] T l r = r
rounds_done s start (x ∷ xs) T l r =
    let turn = subst IsQuiet r.3 l in
    (r.0, rounds_done s start xs r.0 (turn_before s x.0 x.1 r.0 turn) r.1, r.2, turn_goes s x.0 x.1 r.0 r.2.in_replay turn, r.3 ∙ turn_block s x.0 x.1 r.0 turn)

-- a replay in which nothing stands at the log
pub replay_done : (s : List Line) (T : List Placed) → IsQuiet T → IsReplayed s T → ReplayDone s T
replay_done s T l r =
    record {
      by_lines = r.by_lines;
      lines = lines_done s (past_of s) r.by_lines (rounds_before s r.by_lines r.turns T l r.rounds) r.lines;
      turns = r.turns;
      rounds = rounds_done s r.by_lines r.turns T l r.rounds;
    }
