-- What stands at the log in a replay: the entries of what came there, in turn.
use Rattle.std.proofs.Common.{◌≡◌, ◌≤◌, ◌<◌, ◌+◌, ◌&&◌, ℕ, zero, suc, Bool, true, false, not, List, [], ◌∷◌, length, get_or, take, drop, append-nil, Option, Some, None, slice_get, refl, ap, sym, subst, ◌∙◌, arith}
use Rattle.std.specs.Prelude.{Result, Ok, Err}
use Rattle.std.proofs.lemmas.List.{length-take, take-append-drop, take_all}
use Rattle.std.proofs.lemmas.Option.{slice_get-get_or}
use Rattle.dtx_values.specs.declared.call.Call.{Call}
use Rattle.dtx_values.specs.declared.entry.Answer.TheVariants.{Fault, Fine, NotALog}
use Rattle.dtx_values.specs.declared.entry.Entry.TheVariants.{Called, LogWord, Stopped}
use Rattle.dtx_values.specs.declared.entry.LogNote.TheVariants.{Opened}
use Rattle.dtx_values.specs.declared.number.ActorNo.{ActorNo}
use Rattle.dtx_values.specs.declared.number.TxNo.{TxNo}
use Rattle.dtx_values.specs.declared.scope.OpenScope.{OpenScope}
use Rattle.dtx_values.specs.declared.script.Body.{Body}
use Rattle.dtx_values.specs.declared.script.Body.TheVariants.{Stop, Restart}
use Rattle.dtx_values.specs.declared.script.Line.{Line}
use Rattle.dtx_model.specs.Words.{has, kth, onto, past_of}
use Rattle.dtx_model.specs.Wires.{is_stopped}
use Rattle.dtx_model.specs.AtLog.{at_log, hit, is_known, is_log_up}
use Rattle.dtx_model.specs.Calls.{call_of}
use Rattle.dtx_model.specs.Caused.{IsCallOf, IsNamed, is_begin_sent, may_coordinate}
use Rattle.dtx_model.specs.Contexts.{lines_before, scope_block, scope_calls, scopes_of}
use Rattle.dtx_model.specs.Entries.{is_call}
use Rattle.dtx_model.specs.Replay.{CallRan, IsReplayed, LineRan, LinesRan, Reopening, Opens as OpensAgain, Faults, Differs, RoundsRan, StepsRan, after_calls, after_halt, after_restart, after_scope, after_stop, after_turn, at_the_log, block_in, others, stop_if, stopped_by_restart, world_at}
use Rattle.dtx_model.specs.Steps.{LogAnswer, Done, Full, StoppedNow, StoppedBefore, Step, Calls, Coordinates, StepName, ReplyOf, LocalAct, CoordinatorAct, Delivery}
use Rattle.dtx_model.specs.Traces.{Placed, history, noted, placed}
use Rattle.dtx_model.specs.World.{core}
use Rattle.dtx_model.specs.declared.waiting.EnteredCall.{EnteredCall}
use Rattle.dtx_model.proofs.Pasts.{length-past}
use Rattle.history_table.proofs.BeginSent.{named_knows, ran_begun}
use Rattle.history_table.proofs.CoreStages.{stopped_same}
use Rattle.script_histories.proofs.FollowingLog.{log-noted, log-placed}
use Rattle.script_histories.proofs.PutAt.{log-put}
use Rattle.script_histories.proofs.ReplayedCalls.{has_called, lines_uncalled}
use Rattle.script_histories.proofs.ReplayedSteps.{IsGood, put_halt, put_opening, steps_turn}
use Rattle.script_histories.proofs.ReplayRuns.{IsRunWith}
use Rattle.script_histories.proofs.ReplayTurns.{after_block, is_stopping, world_with}
use Rattle.script_histories.proofs.Replays.{lines_good, onto-onto, rounds_good, scope_good}
use Rattle.coordinator_log.specs.declared.refusal.LogRefusal.{LogRefusal}
use Rattle.coordinator_log.specs.declared.refusal.LogRefusal.TheVariants as Refusal
use Rattle.script_calls.proofs.Openings.{past_next}
use Rattle.tx_world.specs.Kept.{stop_if as stopped_where}
use Rattle.turn_parts.specs.LogEvents.{IsLogHistory, LogEvent, Arms, Halts, MayCome, Opens, after_event}
use Rattle.turn_parts.specs.Reopening.{restarted}
use Rattle.replay_runs.proofs.Goes.{acts_running}

-- the log has the entries of what came there
abbrev pub IsLogOf : List Line → List Placed → Type 0
IsLogOf s T = IsLogHistory s (at_log T)

-- One thing more came,
one_came : (s : List Line) (x : LogEvent) (T U : List Placed) → MayCome s x (at_log T) → at_log U ≡ after_event x (at_log T) → IsLogOf s T → IsLogOf s U
one_came s x T U may e h = (x ∷ h.0, (at_log T, h.1, may, e))

-- or nothing
none_came : (s : List Line) (T U : List Placed) → at_log U ≡ at_log T → IsLogOf s T → IsLogOf s U
none_came s T U e h = subst (IsLogHistory s) (sym e) h

as_here : (s : List Line) (T U : List Placed) → T ≡ U → IsLogOf s U → IsLogOf s T
as_here s T U e h = subst (IsLogOf s) (sym e) h

-- ---- turns

-- A turn that doesn't stop the log writes nothing there,
log_if : (b : Bool) (t : TxNo) (T : List Placed) → at_log (stop_if b t T) ≡ at_log T
log_if true t T = log-placed t (Stopped ∷ []) T
log_if false t T = refl

log_turn : (s : List Line) (t : TxNo) (m : Step) (T : List Placed) → is_stopping m ≡ false → at_log (after_turn s t m T) ≡ at_log T
log_turn s t (Coordinates StoppedNow) T k = absurd cc
log_turn s t m T k = log_if (has is_begin_sent (block_in s t m T) && not (is_log_up T)) t (after_block s t m T) ∙ log-placed t (block_in s t m T) T

-- and one that stops it `stopped`,
log_stop : (t : TxNo) (T : List Placed) → at_log (after_stop t T) ≡ Stopped ∷ at_log T
log_stop t T = log-put (λ u. Stopped) (others t (hit T)) (onto (at_the_log Stopped T) (placed t (Stopped ∷ []))) ∙ log-placed t (Stopped ∷ []) (at_the_log Stopped T)

-- where it was up: the coordinator knows of the transaction, and isn't stopped there.
stops_up : (s : List Line) (ks : List EnteredCall) (t : TxNo) (T : List Placed) → IsGood s T → IsRunWith s ks t T → may_coordinate (core (world_with ks t T)) StoppedNow ≡ true → is_log_up T ≡ true
stops_up s ks t T g r q =
    let h = history t.value T in
    let begun : is_known T t ≡ true = ran_begun (IsCallOf s t.value) t.value r.0 (world_with ks t T) r.1 (named_knows (core (world_with ks t T)) StoppedNow q) in
    let running : is_stopped h ≡ false = sym (stopped_same h) ∙ acts_running (core (world_with ks t T)) StoppedNow q in
    by (is_log_up T) (sym running ∙ (g.follows.at t).halted begun)
  where
    by : (b : Bool) → false ≡ not b → b ≡ true
    by true e = refl
    by false e = absurd cc

named_came : (s : List Line) (ks : List EnteredCall) (t : TxNo) (n : StepName) (m : Step) (T : List Placed) → IsGood s T → IsRunWith s ks t T → IsNamed (world_at s t T) n m → IsLogOf s T → IsLogOf s (after_turn s t m T)
named_came s ks t (ReplyOf e) m T g r (reply, note, due, fit, same) h = none_came s T (after_turn s t m T) (log_turn s t m T (ap is_stopping same)) h
named_came s ks t LocalAct m T g r same h = none_came s T (after_turn s t m T) (log_turn s t m T (ap is_stopping same)) h
named_came s ks t (Delivery c d) m T g r same h = none_came s T (after_turn s t m T) (log_turn s t m T (ap is_stopping same)) h
named_came s ks t CoordinatorAct m T g r (a, may, same) h = subst (λ (j : Step). IsLogOf s (after_turn s t j T)) (sym same) (by a may)
  where
    by : (a : LogAnswer) → may_coordinate (core (world_at s t T)) a ≡ true → IsLogOf s (after_turn s t (Coordinates a) T)
    by StoppedNow may = one_came s Halts T (after_stop t T) (stops_up s ks t T g r may) (log_stop t T) h
    by Done may = none_came s T (after_turn s t (Coordinates Done) T) (log_turn s t (Coordinates Done) T refl) h
    by Full may = none_came s T (after_turn s t (Coordinates Full) T) (log_turn s t (Coordinates Full) T refl) h
    by StoppedBefore may = none_came s T (after_turn s t (Coordinates StoppedBefore) T) (log_turn s t (Coordinates StoppedBefore) T refl) h

steps_came : (s : List Line) (ks : List EnteredCall) (t : TxNo) (k m : ℕ) (start T : List Placed) → IsGood s start → IsRunWith s ks t start → StepsRan s t k m start T → IsLogOf s start → IsLogOf s T
steps_came s ks t k zero start T g r q h = as_here s T start q h
steps_came s ks t k (suc m) start T g r q h =
    let ran = steps_turn s ks t k m start q.0 g r q.1 in
    as_here s T (after_turn s t q.3 q.0) q.7 (named_came s ks t q.2 q.3 q.0 ran.good ran.run q.5 (steps_came s ks t k m start q.0 g r q.1 h))

-- ---- lines

-- A call by a line's own words, after the steps of a `do` or an `await`,
words_came : (s : List Line) (a : ActorNo) (n : ℕ) (o : Option (TxNo × Call)) (start T : List Placed) → IsGood s start → CallRan s a n o start T → IsLogOf s start → IsLogOf s T
words_came s a n None start T g r h = as_here s T start r h
words_came s a n (Some c) start T g r h =
    let ran = has_called s a n c.0 c.1 start T r in
    let own = g.free c.0 in
    let turn = after_turn s c.0 (Calls n a c.1 ran.done) ran.before in
    as_here s T turn ran.ends
    (none_came s ran.before turn (log_turn s c.0 (Calls n a c.1 ran.done) ran.before refl) (steps_came s own.0 c.0 ran.place ran.count start ran.before g own.1 ran.steps h))

-- what a scope line does,
log_calls : (s : List Line) (n : ℕ) (a : ActorNo) (cs : List (TxNo × Call)) (T : List Placed) → at_log (after_calls s n a cs T) ≡ at_log T
log_calls s n a [] T = refl
log_calls s n a (c ∷ cs) T = log_calls s n a cs (after_turn s c.0 (Calls n a c.1 0) T) ∙ log_turn s c.0 (Calls n a c.1 0) T refl

log_scope : (s : List Line) (n : ℕ) (l : Line) (xs : List OpenScope) (T : List Placed) → at_log (after_scope s n l xs T) ≡ at_log T
log_scope s n l xs T = log_calls s n l.actor (scope_calls l.body xs) (onto T (noted l.actor (scope_block n l.actor l.body xs))) ∙ log-noted l.actor (scope_block n l.actor l.body xs) T

-- and a restart, which found this:
found_by : Reopening → Result ℕ LogRefusal
found_by (OpensAgain found m) = Ok m
found_by Faults = Err Refusal.Fault
found_by (Differs p) = Err (Refusal.NotALog p)

log_halt : (b : Bool) (T : List Placed) → at_log (stopped_by_restart b T) ≡ stopped_where b (at_log T)
log_halt true T = (put_halt T).there
log_halt false T = refl

log_restart : (n : ℕ) (a : ActorNo) (x : Reopening) (T : List Placed) → at_log (after_restart n a x T) ≡ restarted n a (is_log_up T) (found_by x) (at_log T)
unfolding found_by
log_restart n a (OpensAgain found m) T = (put_opening found m (after_halt n a Fine T)).there ∙ ap (λ es. LogWord (Opened m) ∷ es) (log_halt (is_log_up T) (at_the_log (Called n a Fine) T))
log_restart n a Faults T = log_halt (is_log_up T) (at_the_log (Called n a Fault) T)
log_restart n a (Differs p) T = log_halt (is_log_up T) (at_the_log (Called n a (NotALog p)) T)

-- So a line more,
line_came : (s before : List Line) (a : ActorNo) (b : Body) (start T : List Placed) → kth s (suc (length before)) ≡ Some (record { actor = a; body = b }) → lines_before s (suc (length before)) ≡ before
    → ((u : ℕ) → has (is_call (suc (length before))) (history u start) ≡ false) → IsGood s start → LineRan s before (record { actor = a; body = b }) start T → IsLogOf s start → IsLogOf s T
line_came s before a (Stop k i) start T stands found new g r h = one_came s (Arms (suc (length before)) a k i) start T stands (ap at_log r) h
line_came s before a Restart start T stands found new g r h =
    let n : ℕ = suc (length before) in
    one_came s (Opens n a (found_by r.0)) start T stands (ap at_log r.1 ∙ log_restart n a r.0 start) h
line_came s before a b start T stands found new g r h =
    let n : ℕ = suc (length before) in
    let l : Line = record { actor = a; body = b } in
    let xs : List OpenScope = scopes_of a.value before in
    words_came s a n (call_of s b) (after_scope s n l xs start) T (scope_good s before l n start stands found new g) r (none_came s start (after_scope s n l xs start) (log_scope s n l xs start) h)

-- the first lines of a script,
pub record IsNext (s : List Line) (i : ℕ) (l : Line) (before : List Line) : Type 0 where
  pub lines : before ≡ past_of (take i s)
  pub many : length before ≡ i
  pub stands : kth s (suc i) ≡ Some l
  pub whole : s ≡ onto (drop i s) before

is_next : (s : List Line) (i : ℕ) (l : Line) (before : List Line) → i < length s → l ∷ before ≡ past_of (take (suc i) s) → IsNext s i l before
is_next s i l before less e =
    let x : Line = get_or s i l in
    let here : slice_get s i ≡ Some x = slice_get-get_or s i l less in
    let again : slice_get s i ≡ Some (get_or s i x) = slice_get-get_or s i x less in
    let same : x ≡ get_or s i x = cc in
    let one : i + 1 ≡ suc i = omega arith in
    let all : l ∷ before ≡ x ∷ past_of (take i s) = e ∙ ap (λ m. past_of (take m s)) (sym one) ∙ past_next s i x less same in
    let front : l ≡ x = cc in
    let lines : before ≡ past_of (take i s) = cc in
    record {
      lines = lines;
      many = ap length lines ∙ length-past (take i s) ∙ omega (arith, length-take i s);
      stands = here ∙ ap Some (sym front);
      whole = sym (ap (onto (drop i s)) lines ∙ onto-onto [] (take i s) (drop i s) ∙ take-append-drop i s);
    }

lines_came : (s bs : List Line) (n : ℕ) (T : List Placed) → n ≤ length s → bs ≡ past_of (take n s) → LinesRan s bs T → IsLogOf s T
lines_came s [] n T most e r = as_here s T [] r ([], refl)
lines_came s (l ∷ before) zero T most e r = absurd cc
lines_came s (l ∷ before) (suc i) T most e r =
    let next = is_next s i l before (omega arith) e in
    let n : ℕ = suc (length before) in
    line_came s before l.actor l.body r.0 T (ap (λ m. kth s (suc m)) next.many ∙ next.stands) (ap (λ m. past_of (take m s)) (omega (arith, next.many)) ∙ sym next.lines)
    (λ u. lines_uncalled s before r.0 r.1 n (omega arith) u) (lines_good s before (drop i s) r.0 next.whole r.1) r.2 (lines_came s before i r.0 (omega arith) next.lines r.1)

-- and the rounds after them.
rounds_came : (s : List Line) (start : List Placed) (turns : List (TxNo × Step)) (T : List Placed) → IsGood s start → RoundsRan s start turns T → IsLogOf s start → IsLogOf s T
rounds_came s start [] T g r h = as_here s T start r h
rounds_came s start (x ∷ xs) T g r h =
    let before = rounds_good s start xs r.0 g r.1 in
    let own = before.free x.0 in
    as_here s T (after_turn s x.0 x.1 r.0) r.3 (named_came s own.0 x.0 r.2.name x.1 r.0 before own.1 r.2.named (rounds_came s start xs r.0 g r.1 h))

pub replayed_log : (s : List Line) (T : List Placed) → IsReplayed s T → IsLogHistory s (at_log T)
replayed_log s T r =
    rounds_came s r.by_lines r.turns T (lines_good s (past_of s) [] r.by_lines (sym (append-nil s) ∙ sym (onto-onto [] s [])) r.lines) r.rounds
    (lines_came s (past_of s) (length s) r.by_lines (omega arith) (ap past_of (sym (take_all (length s) s (omega arith)))) r.lines)
