-- Each message of a run is one that its connection carries in its direction.
use Rattle.std.proofs.Common.{◌≡◌, ℕ, suc, ◌==◌, Bool, true, false, ◌&&◌, List, [], ◌∷◌, length, Result, Ok, Err, refl, subst, sym}
use Rattle.std.specs.Prelude.{not, map, Option, Some, None, if◌then◌else◌}
use Rattle.dtx_values.specs.declared.call.Call.{Call}
use Rattle.dtx_values.specs.declared.entry.Answer.{Answer}
use Rattle.dtx_values.specs.declared.entry.Entry.{Entry}
use Rattle.dtx_values.specs.declared.entry.Entry.TheVariants.{Called, Got, Sent}
use Rattle.dtx_values.specs.declared.message.Conn.{Conn}
use Rattle.dtx_values.specs.declared.message.Dir.{Dir}
use Rattle.dtx_values.specs.declared.message.Message.{Message}
use Rattle.dtx_values.specs.declared.number.ActorNo.{ActorNo}
use Rattle.dtx_values.specs.declared.number.TxNo.{TxNo}
use Rattle.dtx_values.specs.declared.scope.OpenScope.{OpenScope}
use Rattle.dtx_values.specs.declared.script.Body.{Body}
use Rattle.dtx_values.specs.declared.script.Line.{Line}
use Rattle.dtx_values.specs.declared.trace.Place.{Place}
use Rattle.dtx_values.specs.declared.trace.Place.TheVariants.{Context, Log, Transaction}
use Rattle.dtx_values.specs.Ends.{same_connection, same_direction}
use Rattle.dtx_values.specs.Lines.{has_line}
use Rattle.dtx_model.specs.AtLog.{at_log, is_log, is_up_by}
use Rattle.dtx_model.specs.Caused.{FreelyCaused}
use Rattle.dtx_model.specs.Contexts.{called_with, context, scope_answer, scope_block, scope_entries, scopes_of, written}
use Rattle.dtx_model.specs.Scopes.{Closes, Finishes, Opens as OpensScope, ScopeEntry}
use Rattle.dtx_model.specs.Traces.{Placed, at_context, entries_at, history, is_at, is_context}
use Rattle.dtx_model.specs.Wires.{MayCross, WireRun}
use Rattle.dtx_model.specs.Words.{each, has, onto, past_of}
use Rattle.dtx_model.proofs.Bools.{and_both, and_left, and_right, not_both, not_true, or_case}
use Rattle.dtx_model.proofs.Connections.{same_is, same_way_is}
use Rattle.dtx_model.proofs.Quiet.{is_lined, sent_has_line, wire_run_of}
use Rattle.history_table.proofs.Crossed.{got_sent, is_sent_on}
use Rattle.history_table.proofs.Tests.{eq_self}
use Rattle.coordinator_log.specs.declared.refusal.LogRefusal.{LogRefusal}
use Rattle.trace_text.specs.OneTrace.{is_carried, is_carried_at, is_got_carried_at}
use Rattle.world_parts.specs.Stopping.{stop_if}
use Rattle.program_io.specs.declared.way.Way.{Way}
use Rattle.program_io.specs.declared.way.Way.TheVariants.{Replay as ReplayWay, Threads as ThreadsWay}
use Rattle.turn_parts.specs.LogEvents.{Arms, CameInTurn, Halts, LogEvent, Opens}
use Rattle.turn_parts.specs.Reopening.{opened_where, restart_answer}
use Rattle.turn_parts.specs.Runs.{IsRunHistory}
use Rattle.script_runner.specs.Program.{IsRunBy}

-- What is got was sent there, and what is sent has a line.
abbrev has_no_line : Conn → Dir → Message → Bool
has_no_line c d m = not (has_line c d m)

sent_lined : (c : Conn) (d : Dir) (x : Entry) → is_lined x ≡ true → is_sent_on c d (has_no_line c d) x ≡ true → ⊥
sent_lined c d (Sent e r m) k t =
    let there = and_left (same_connection c e && same_direction d r) (not (has_line c d m)) t in
    let conn : c ≡ e = same_is c e (and_left (same_connection c e) (same_direction d r) there) in
    let way : d ≡ r = same_way_is d r (and_right (same_connection c e) (same_direction d r) there) in
    let line : has_line c d m ≡ true = subst (λ (y : Conn). has_line y d m ≡ true) (sym conn) (subst (λ (y : Dir). has_line e y m ≡ true) (sym way) k) in
    not_both (has_line c d m) line (not_true (has_line c d m) (and_right (same_connection c e && same_direction d r) (not (has_line c d m)) t))
sent_lined c d _ k t = cc

none_unlined : (c : Conn) (d : Dir) (h : List Entry) → each is_lined h ≡ true → has (is_sent_on c d (has_no_line c d)) h ≡ true → ⊥
none_unlined c d [] k t = cc
none_unlined c d (x ∷ h) k t =
    or_case (is_sent_on c d (has_no_line c d) x) (has (is_sent_on c d (has_no_line c d)) h) (λ now. sent_lined c d x (and_left (is_lined x) (each is_lined h) k) now)
    (λ before. none_unlined c d h (and_right (is_lined x) (each is_lined h) k) before) t

got_lined : (c : Conn) (d : Dir) (m : Message) (h : List Entry) → MayCross h (Got c d m) → each is_lined h ≡ true → has_line c d m ≡ true
got_lined c d m h crosses k = by (has_line c d m) refl
  where
    by : (b : Bool) → has_line c d m ≡ b → b ≡ true
    by true e = refl
    by false e = absurd (none_unlined c d h k (got_sent c d m (has_no_line c d) h crosses (rw e refl)))

entry_carried : (x : Entry) (h : List Entry) → MayCross h x → is_lined x ≡ true → each is_lined h ≡ true → is_carried x ≡ true
entry_carried (Sent c d m) h crosses l k = l
entry_carried (Got c d m) h crosses l k = got_lined c d m h crosses k
entry_carried _ h crosses l k = refl

history_carried : (h : List Entry) → WireRun h → each is_lined h ≡ true → each is_carried h ≡ true
history_carried [] wires k = refl
history_carried (x ∷ h) wires k =
    let before : each is_lined h ≡ true = and_right (is_lined x) (each is_lined h) k in
    and_both (is_carried x) (each is_carried h) (entry_carried x h wires.0 (and_left (is_lined x) (each is_lined h) k) before) (history_carried h wires.1 before)

-- so it is of a history that is freely caused, whatever each restart found
pub freely_carried : (G : ℕ → ActorNo → Call → Type 0) (t : ℕ) (h : List Entry) → FreelyCaused G t h → each is_carried h ≡ true
freely_carried G t h free = history_carried h (wire_run_of G t h free) (sent_has_line G t free.1.0 (record { calls = free.0; past = h }) free.1.1)

-- At a context stand calls and scopes alone.
onto_carried : (h es : List Entry) → each is_carried h ≡ true → each is_carried es ≡ true → each is_carried (onto h es) ≡ true
onto_carried h [] k q = k
onto_carried h (x ∷ es) k q =
    onto_carried (x ∷ h) es (and_both (is_carried x) (each is_carried h) (and_left (is_carried x) (each is_carried es) q) k) (and_right (is_carried x) (each is_carried es) q)

written_carried : (es : List ScopeEntry) → each is_carried (map written es) ≡ true
written_carried [] = refl
written_carried (x ∷ es) = and_both (is_carried (written x)) (each is_carried (map written es)) (by x) (written_carried es)
  where
    by : (x : ScopeEntry) → is_carried (written x) ≡ true
    by (OpensScope s o i) = refl
    by (Finishes s) = refl
    by (Closes s) = refl

called_carried : (n : ℕ) (a : ActorNo) (x : Option Answer) (es : List ScopeEntry) → each is_carried (called_with n a x es) ≡ true
called_carried n a (Some x) es = written_carried es
called_carried n a None es = refl

block_carried : (n : ℕ) (a : ActorNo) (b : Body) (xs : List OpenScope) → each is_carried (scope_block n a b xs) ≡ true
block_carried n a b xs = called_carried n a (scope_answer b xs) (scope_entries b xs)

context_carried : (a : ℕ) (ls : List Line) → each is_carried (context a ls) ≡ true
context_carried a [] = refl
context_carried a (l ∷ before) = by (context_carried a before) (a == l.actor.value)
  where
    by : each is_carried (context a before) ≡ true → (b : Bool)
        → each is_carried (if b then onto (context a before) (scope_block (suc (length before)) l.actor l.body (scopes_of a before)) else context a before) ≡ true
    by k true = onto_carried (context a before) (scope_block (suc (length before)) l.actor l.body (scopes_of a before)) k (block_carried (suc (length before)) l.actor l.body (scopes_of a before))
    by k false = k

-- At the log stand calls, stops, and its own notes.
stop_carried : (b : Bool) (past : List Entry) → each is_carried past ≡ true → each is_carried (stop_if b past) ≡ true
stop_carried true past k = k
stop_carried false past k = k

opened_carried : (found : Result ℕ LogRefusal) (past : List Entry) → each is_carried past ≡ true → each is_carried (opened_where found past) ≡ true
opened_carried (Ok n) past k = k
opened_carried (Err r) past k = k

log_carried : (s : List Line) (xs : List LogEvent) (past : List Entry) → CameInTurn s xs past → each is_carried past ≡ true
log_carried s [] past came = subst (λ (h : List Entry). each is_carried h ≡ true) (sym came) refl
log_carried s (Arms n a k i ∷ xs) past (before, came, may, is) = subst (λ (h : List Entry). each is_carried h ≡ true) (sym is) (log_carried s xs before came)
log_carried s (Opens n a found ∷ xs) past (before, came, may, is) =
    let called : Entry = Called n a (restart_answer found) in
    subst (λ (h : List Entry). each is_carried h ≡ true) (sym is) (opened_carried found (stop_if (is_up_by before) (called ∷ before)) (stop_carried (is_up_by before) (called ∷ before) (log_carried s xs before came)))
log_carried s (Halts ∷ xs) past (before, came, may, is) = subst (λ (h : List Entry). each is_carried h ≡ true) (sym is) (log_carried s xs before came)

-- A trace's entries are those of its places.
apart : (p : Place → Bool) (x : Placed) (T : List Placed) → each is_carried (entries_at p (x ∷ T)) ≡ true → each is_carried (entries_at p T) ≡ true
apart p x T k = by (p x.0) k
  where
    by : (b : Bool) → each is_carried (if b then x.1 ∷ entries_at p T else entries_at p T) ≡ true → each is_carried (entries_at p T) ≡ true
    by true q = and_right (is_carried x.1) (each is_carried (entries_at p T)) q
    by false q = q

first : (p : Place → Bool) (x : Placed) (T : List Placed) → p x.0 ≡ true → each is_carried (entries_at p (x ∷ T)) ≡ true → is_carried x.1 ≡ true
first p x T here k = by (p x.0) here k
  where
    by : (b : Bool) → b ≡ true → each is_carried (if b then x.1 ∷ entries_at p T else entries_at p T) ≡ true → is_carried x.1 ≡ true
    by true is q = and_left (is_carried x.1) (each is_carried (entries_at p T)) q
    by false is q = absurd cc

-- each place of the trace has only messages that are carried
record AreCarried (T : List Placed) : Type 0 where
  histories : (t : TxNo) → each is_carried (history t.value T) ≡ true
  contexts : (a : ActorNo) → each is_carried (at_context a.value T) ≡ true
  log : each is_carried (at_log T) ≡ true

at_places : (T : List Placed) → AreCarried T → each is_carried_at T ≡ true
at_places [] k = refl
at_places (x ∷ T) k = and_both (is_carried_at x) (each is_carried_at T) (by x k) (at_places T (record { histories = λ t. apart (is_at t.value) x T (k.histories t); contexts = λ a. apart (is_context a.value) x T (k.contexts a); log = apart is_log x T k.log }))
  where
    by : (x : Placed) → AreCarried (x ∷ T) → is_carried_at x ≡ true
    by (Transaction t, e) k = first (is_at t.value) (Transaction t, e) T (eq_self t.value) (k.histories t)
    by (Context a, e) k = first (is_context a.value) (Context a, e) T (eq_self a.value) (k.contexts a)
    by (Log, e) k = first is_log (Log, e) T refl k.log

-- what holds of each entry of a history holds of its list
of_past : (h T : List Placed) → each is_carried_at (onto h T) ≡ true → (each is_carried_at h ≡ true) × (each is_carried_at T ≡ true)
of_past h [] k = (k, refl)
of_past h (x ∷ T) k =
    let rest = of_past (x ∷ h) T k in
    (and_right (is_carried_at x) (each is_carried_at h) rest.0, and_both (is_carried_at x) (each is_carried_at T) (and_left (is_carried_at x) (each is_carried_at h) rest.0) rest.1)

-- each message of a run has a line
run_carried : (s : List Line) (k rise : ℕ) (T : List Placed) → IsRunHistory s k rise T → each is_carried_at T ≡ true
run_carried s k rise T run = (of_past [] T (at_places (past_of T) places)).1
  where
    places : AreCarried (past_of T)
    places =
        record {
          histories = λ t. freely_carried _ t.value (history t.value (past_of T)) (run.caused t).freely;
          contexts = λ a. subst (λ (h : List Entry). each is_carried h ≡ true) (sym (run.contexts a)) (context_carried a.value (past_of s));
          log = log_carried s run.at_log.0 (at_log (past_of T)) run.at_log.1;
        }

-- whichever way the script is run
pub run_by_carried : (w : Way) (k from to : ℕ) (honest : Bool) (image : List ℕ → Type 0) (s : List Line) (T : List Placed) → IsRunBy w k from to honest image s T → each is_carried_at T ≡ true
run_by_carried ReplayWay k from to honest image s T r = run_carried s k r.run.rise T r.run.history
run_by_carried (ThreadsWay h) k from to honest image s T r = run_carried s k r.run.rise T r.run.history

-- and so has each that is got
pub got_too : (T : List Placed) → each is_carried_at T ≡ true → each is_got_carried_at T ≡ true
got_too [] k = refl
got_too (x ∷ T) k = and_both (is_got_carried_at x) (each is_got_carried_at T) (by x (and_left (is_carried_at x) (each is_carried_at T) k)) (got_too T (and_right (is_carried_at x) (each is_carried_at T) k))
  where
    by : (x : Placed) → is_carried_at x ≡ true → is_got_carried_at x ≡ true
    by (p, Got c d m) q = q
    by (p, _) q = refl
