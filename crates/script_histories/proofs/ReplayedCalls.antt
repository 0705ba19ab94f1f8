-- What a replay calls, stops of the log and restarts included: each line's calls once, in order and at their places; and what it writes at the contexts.
use Rattle.std.proofs.Common.{if◌then◌else◌, ◌≡◌, ℕ, zero, suc, ◌<◌, ◌==◌, Bool, true, false, ◌&&◌, ◌||◌, not, List, [], ◌∷◌, ◌++◌, length, map, Option, Some, None}
use Rattle.std.proofs.Common.{refl, arith, append-nil, ◌∙◌, ap, sym, subst}
use Rattle.std.proofs.lemmas.Bool.Decides.{nat_tests}
use Rattle.dtx_values.specs.declared.number.ActorNo.{ActorNo}
use Rattle.dtx_values.specs.declared.number.TxNo.{TxNo}
use Rattle.dtx_values.specs.declared.call.Call.{Call}
use Rattle.dtx_values.specs.declared.call.Call.TheVariants.{Await, Do}
use Rattle.dtx_values.specs.declared.entry.Answer.{Answer}
use Rattle.dtx_values.specs.declared.entry.Answer.TheVariants.{Fault, Fine, NotALog}
use Rattle.dtx_values.specs.declared.entry.Entry.{Entry}
use Rattle.dtx_values.specs.declared.entry.Entry.TheVariants.{Called, LogWord, Restarted, Stopped}
use Rattle.dtx_values.specs.declared.entry.LogNote.TheVariants.{Opened}
use Rattle.dtx_values.specs.declared.scope.OpenScope.{OpenScope}
use Rattle.dtx_values.specs.declared.script.Body.{Body}
use Rattle.dtx_values.specs.declared.script.Body.TheVariants.{Stop, Restart}
use Rattle.dtx_values.specs.declared.script.Line.{Line}
use Rattle.dtx_values.specs.declared.trace.Place.{Place}
use Rattle.dtx_values.specs.declared.trace.Place.TheVariants.{Context, Log, Transaction}
use Rattle.dtx_model.specs.Words.{has, each, onto, put}
use Rattle.dtx_model.specs.Entries.{is_call}
use Rattle.dtx_model.specs.Scopes.{ScopeEntry, Opens as OpensScope, Finishes, Closes}
use Rattle.dtx_model.specs.Calls.{call_of}
use Rattle.dtx_model.specs.Facts.{facts_if, has_facts}
use Rattle.dtx_model.specs.World.{World, answer_at, facts_at}
use Rattle.dtx_model.specs.Steps.{Step, Calls, Coordinates, StoppedNow, StepName, block_at}
use Rattle.dtx_model.specs.Contexts.{scope_answer, scope_calls, scope_entries, scopes_of, written, called_with, scope_block, context, calls_by}
use Rattle.dtx_model.specs.Caused.{IsNamed, is_begin_sent}
use Rattle.dtx_model.specs.Traces.{Placed, history, at_context, placed, noted, called_of, calls}
use Rattle.dtx_model.specs.AtLog.{hit, is_log_line, is_log_up, known}
use Rattle.dtx_model.specs.Replay.{CallRan, LineRan, LinesRan, Reopening, Opens, Faults, Differs, RoundsRan, StepsRan, after_calls, after_halt, after_opening, after_restart, after_scope, after_stop, after_turn, at_its_context, at_log_line, at_the_log, block_in, due_calls, due_by_line, others, put_at, stop_if, stopped_by_restart, world_at}
use Rattle.dtx_model.proofs.Bools.{and_left, and_right, or_false}
use Rattle.dtx_model.proofs.Histories.{onto-append, history-other, history-same, history-noted, context-same, context-other, context-placed}
use Rattle.dtx_model.proofs.Reading.{has-onto}
use Rattle.history_table.proofs.Scans.{none_more}
use Rattle.script_histories.proofs.Pending.{is_not_called}
use Rattle.script_histories.proofs.ScopesApart.{own_line}
use Rattle.script_histories.proofs.ReplayTurns.{after_block, HasCalled, await_called, do_called}
use Rattle.script_histories.proofs.ReplayRuns.{block_not_called, facts_not_called, named_no_call}

-- what has no call hasn't this call
not_this_call : (n : ℕ) (es : List Entry) → each is_not_called es ≡ true → has (is_call n) es ≡ false
not_this_call n es h = none_more is_not_called (is_call n) (one n) es h
  where
    one : (n : ℕ) (x : Entry) → is_not_called x ≡ true → is_call n x ≡ false
    one n (Called m a y) h = absurd cc
    one n _ h = refl

-- a block without this call leaves the calls of each history as they were
has-call-placed : (n u : ℕ) (t : TxNo) (T : List Placed) (es : List Entry) (b : Bool) → (u == t.value) ≡ b → has (is_call n) es ≡ false
    → has (is_call n) (history u (onto T (placed t es))) ≡ has (is_call n) (history u T)
has-call-placed n u t T es true e k = ap (λ h. has (is_call n) h) (history-same u t T es e) ∙ has-onto (is_call n) (history u T) es ∙ ap (λ b. b || has (is_call n) (history u T)) k
has-call-placed n u t T es false e k = ap (λ h. has (is_call n) h) (history-other u t T es e)

-- an entry that is no call isn't counted
one_not_called : (p : Place) (x : Entry) (rest : List (Place × ℕ × ActorNo)) → is_not_called x ≡ true → put (called_of (p, x)) rest ≡ rest
one_not_called p (Called n a y) rest h = absurd cc
one_not_called p _ rest h = refl

-- a block without a call leaves the calls
calls-at : (p : Place) (T : List Placed) (es : List Entry) → each is_not_called es ≡ true → calls (onto T (map (λ e. (p, e)) es)) ≡ calls T
calls-at p T [] h = refl
calls-at p T (x ∷ es) h =
    calls-at p ((p, x) ∷ T) es (and_right (is_not_called x) (each is_not_called es) h)
    ∙ one_not_called p x (calls T) (and_left (is_not_called x) (each is_not_called es) h)

-- What adds no call to a trace, and nothing at a context.
pub record BringsNoCall (T U : List Placed) : Type 0 where
  pub uncalled : (n u : ℕ) → has (is_call n) (history u U) ≡ has (is_call n) (history u T)
  pub counted : calls U ≡ calls T
  pub beside : (a : ℕ) → at_context a U ≡ at_context a T

quiet_none : (T : List Placed) → BringsNoCall T T
quiet_none T = record { uncalled = λ n u. refl; counted = refl; beside = λ a. refl }

quiet_join : (T U V : List Placed) → BringsNoCall T U → BringsNoCall U V → BringsNoCall T V
quiet_join T U V p q = record { uncalled = λ n u. q.uncalled n u ∙ p.uncalled n u; counted = q.counted ∙ p.counted; beside = λ a. q.beside a ∙ p.beside a }

-- two that come from one trace
quiet_from : (T U V : List Placed) → BringsNoCall T U → BringsNoCall T V → BringsNoCall U V
quiet_from T U V p q =
    record { uncalled = λ n u. q.uncalled n u ∙ sym (p.uncalled n u); counted = q.counted ∙ sym p.counted; beside = λ a. q.beside a ∙ sym (p.beside a) }

-- a block without a call at a transaction, and an entry that is no call at the log
quiet_block : (t : TxNo) (es : List Entry) (T : List Placed) → each is_not_called es ≡ true → BringsNoCall T (onto T (placed t es))
quiet_block t es T h =
    record { uncalled = λ n u. has-call-placed n u t T es (u == t.value) refl (not_this_call n es h); counted = calls-at (Transaction t) T es h; beside = λ a. context-placed a t T es }

quiet_there : (x : Entry) (T : List Placed) → is_not_called x ≡ true → BringsNoCall T (at_the_log x T)
quiet_there x T h = record { uncalled = λ n u. refl; counted = one_not_called Log x (calls T) h; beside = λ a. refl }

pub quiet_put : (f : TxNo → Entry) (ts : List TxNo) (T : List Placed) → ((t : TxNo) → is_not_called (f t) ≡ true) → BringsNoCall T (put_at f ts T)
quiet_put f [] T h = quiet_none T
quiet_put f (t ∷ ts) T h =
    quiet_join T ((Transaction t, f t) ∷ T) (put_at f ts ((Transaction t, f t) ∷ T)) (quiet_block t (f t ∷ []) T (ap (λ b. b && true) (h t))) (quiet_put f ts ((Transaction t, f t) ∷ T) h)

-- A turn: the block of its step, and stops that are no calls.
pub quiet_stop : (t : TxNo) (T : List Placed) → BringsNoCall T (after_stop t T)
quiet_stop t T =
    let there = at_the_log Stopped T in
    let own = onto there (placed t (Stopped ∷ [])) in
    quiet_join T own (after_stop t T) (quiet_join T there own (quiet_there Stopped T refl) (quiet_block t (Stopped ∷ []) there refl)) (quiet_put (λ u. Stopped) (others t (hit T)) own (λ u. refl))

quiet_if : (b : Bool) (t : TxNo) (T : List Placed) → BringsNoCall T (stop_if b t T)
quiet_if true t T = quiet_block t (Stopped ∷ []) T refl
quiet_if false t T = quiet_none T

pub quiet_turn : (s : List Line) (t : TxNo) (m : Step) (T : List Placed) → BringsNoCall (after_block s t m T) (after_turn s t m T)
quiet_turn s t (Coordinates StoppedNow) T =
    quiet_from T (after_block s t (Coordinates StoppedNow) T) (after_stop t T)
    (quiet_block t (block_in s t (Coordinates StoppedNow) T) T (block_not_called t.value (world_at s t T) (Coordinates StoppedNow) refl)) (quiet_stop t T)
quiet_turn s t m T = quiet_if (has is_begin_sent (block_in s t m T) && not (is_log_up T)) t (after_block s t m T)

-- a restart adds its call at the log alone
pub quiet_halt : (b : Bool) (T : List Placed) → BringsNoCall T (stopped_by_restart b T)
quiet_halt true T = quiet_join T (at_the_log Stopped T) (stopped_by_restart true T) (quiet_there Stopped T refl) (quiet_put (λ u. Stopped) (hit T) (at_the_log Stopped T) (λ u. refl))
quiet_halt false T = quiet_none T

pub quiet_opening : (found : ℕ → Bool) (m : ℕ) (T : List Placed) → BringsNoCall T (after_opening found m T)
quiet_opening found m T =
    let there = at_the_log (LogWord (Opened m)) T in
    quiet_join T there (after_opening found m T) (quiet_there (LogWord (Opened m)) T refl) (quiet_put (λ t. Restarted (found t.value)) (known T) there (λ t. refl))

pub quiet_restart : (n : ℕ) (a : ActorNo) (x : Reopening) (T : List Placed) → (y : Answer) × BringsNoCall (at_the_log (Called n a y) T) (after_restart n a x T)
quiet_restart n a (Opens found m) T =
    let called = at_the_log (Called n a Fine) T in
    let halted = after_halt n a Fine T in
    (Fine, quiet_join called halted (after_opening found m halted) (quiet_halt (is_log_up T) called) (quiet_opening found m halted))
quiet_restart n a Faults T = (Fault, quiet_halt (is_log_up T) (at_the_log (Called n a Fault) T))
quiet_restart n a (Differs p) T = (NotALog p, quiet_halt (is_log_up T) (at_the_log (Called n a (NotALog p)) T))

-- So a line gives its call by its own words.
pub has_called : (s : List Line) (a : ActorNo) (i : ℕ) (t : TxNo) (c : Call) (start T : List Placed) → CallRan s a i (Some (t, c)) start T → HasCalled s (StepsRan s t) (after_turn s t) a i t c start T
has_called s a i t (Do u k n) start T r = do_called s (StepsRan s t) (after_turn s t) a i t u k n r.0 start r.1 T r.2.ran r.2.most r.2.stopped r.3
has_called s a i t (Await u) start T r = await_called s (StepsRan s t) (after_turn s t) a i t u r.0 start r.1 T r.2.ran r.2.settled r.3
has_called s a i t _ start T r = record { place = 1; count = 0; done = 0; before = start; steps = refl; may = λ ks st same. tt; ends = r }

-- the block of a call of line m has no other line's call
other_call : (n m t : ℕ) (w : World) (a : ActorNo) (c : Call) (d : ℕ) → (n == m) ≡ false → has (is_call n) (block_at t w (Calls m a c d)) ≡ false
unfolding block_at
other_call n m t w a c d e =
    let x = answer_at t w c d in
    let es = facts_if (has_facts x) (facts_at t w c x) in
    or_false (n == m) (has (is_call n) es) e (not_this_call n es (facts_not_called t w c d))

-- the turn of a call leaves each history without the call of any other line
call_uncalled : (s : List Line) (n m u : ℕ) (a : ActorNo) (t : TxNo) (c : Call) (d : ℕ) (T : List Placed) → (n == m) ≡ false
    → has (is_call n) (history u (after_turn s t (Calls m a c d) T)) ≡ has (is_call n) (history u T)
call_uncalled s n m u a t c d T e =
    (quiet_turn s t (Calls m a c d) T).uncalled n u ∙ has-call-placed n u t T (block_in s t (Calls m a c d) T) (u == t.value) refl (other_call n m t.value (world_at s t T) a c d e)

-- it adds its call to the trace
call_counted : (s : List Line) (m : ℕ) (a : ActorNo) (t : TxNo) (c : Call) (d : ℕ) (T : List Placed) → calls (after_turn s t (Calls m a c d) T) ≡ (Transaction t, m, a) ∷ calls T
unfolding block_at
call_counted s m a t c d T =
    let w = world_at s t T in
    let x = answer_at t.value w c d in
    (quiet_turn s t (Calls m a c d) T).counted
    ∙ calls-at (Transaction t) ((Transaction t, Called m a x) ∷ T) (facts_if (has_facts x) (facts_at t.value w c x)) (facts_not_called t.value w c d)

-- and nothing at a context
pub turn_beside : (s : List Line) (t : TxNo) (m : Step) (T : List Placed) (a : ℕ) → at_context a (after_turn s t m T) ≡ at_context a T
turn_beside s t m T a = (quiet_turn s t m T).beside a ∙ context-placed a t T (block_in s t m T)

-- a turn of a step that has a name adds no call
pub quiet_named : (s : List Line) (t : TxNo) (T : List Placed) (n : StepName) (m : Step) → IsNamed (world_at s t T) n m → BringsNoCall T (after_turn s t m T)
quiet_named s t T n m k =
    quiet_join T (after_block s t m T) (after_turn s t m T) (quiet_block t (block_in s t m T) T (block_not_called t.value (world_at s t T) m (named_no_call (world_at s t T) n m k))) (quiet_turn s t m T)

-- nor do the steps of a `do` or an `await`,
pub quiet_steps : (s : List Line) (t : TxNo) (k m : ℕ) (start T : List Placed) → StepsRan s t k m start T → BringsNoCall start T
quiet_steps s t k zero start T r = subst (BringsNoCall start) (sym r) (quiet_none start)
quiet_steps s t k (suc m) start T r =
    subst (BringsNoCall start) (sym r.7) (quiet_join start r.0 (after_turn s t r.3 r.0) (quiet_steps s t k m start r.0 r.1) (quiet_named s t r.0 r.2 r.3 r.5))

-- nor do the rounds
pub quiet_rounds : (s : List Line) (start : List Placed) (turns : List (TxNo × Step)) (T : List Placed) → RoundsRan s start turns T → BringsNoCall start T
quiet_rounds s start [] T r = subst (BringsNoCall start) (sym r) (quiet_none start)
quiet_rounds s start (x ∷ xs) T r =
    subst (BringsNoCall start) (sym r.3) (quiet_join start r.0 (after_turn s x.0 x.1 r.0) (quiet_rounds s start xs r.0 r.1) (quiet_named s x.0 r.0 r.2.name x.1 r.2.named))

-- The calls of a scope line leave each history without the call of any other line,
calls_uncalled : (s : List Line) (n m u : ℕ) (a : ActorNo) (cs : List (TxNo × Call)) (T : List Placed) → (n == m) ≡ false
    → has (is_call n) (history u (after_calls s m a cs T)) ≡ has (is_call n) (history u T)
calls_uncalled s n m u a [] T e = refl
calls_uncalled s n m u a (c ∷ cs) T e = calls_uncalled s n m u a cs (after_turn s c.0 (Calls m a c.1 0) T) e ∙ call_uncalled s n m u a c.0 c.1 0 T e

-- and so does what is written at a context
pub noted_uncalled : (n u : ℕ) (a : ActorNo) (es : List Entry) (T : List Placed) → has (is_call n) (history u (onto T (noted a es))) ≡ has (is_call n) (history u T)
noted_uncalled n u a es T = ap (λ h. has (is_call n) h) (history-noted u a T es)

-- a line that calls by its own words writes no call as a scope line
pub own_uncalled : (s : List Line) (l : Line) (n u : ℕ) (c : TxNo × Call) (xs : List OpenScope) (start : List Placed) → call_of s l.body ≡ Some c
    → has (is_call n) (history u (after_scope s n l xs start)) ≡ has (is_call n) (history u start)
own_uncalled s l n u c xs start e =
    let es : List Entry = scope_block n l.actor l.body xs in
    ap (λ cs. has (is_call n) (history u (after_calls s n l.actor cs (onto start (noted l.actor es))))) (own_line s l.body c xs e) ∙ noted_uncalled n u l.actor es start

-- a call by a line's own words leaves a history without the call of any other line,
words_uncalled : (s : List Line) (a : ActorNo) (m : ℕ) (o : Option (TxNo × Call)) (start T : List Placed) (n u : ℕ) → (n == m) ≡ false → CallRan s a m o start T
    → has (is_call n) (history u T) ≡ has (is_call n) (history u start)
words_uncalled s a m None start T n u d r = ap (λ T. has (is_call n) (history u T)) r
words_uncalled s a m (Some c) start T n u d r =
    let ran = has_called s a m c.0 c.1 start T r in
    ap (λ T. has (is_call n) (history u T)) ran.ends ∙ call_uncalled s n m u a c.0 c.1 ran.done ran.before d
    ∙ (quiet_steps s c.0 ran.place ran.count start ran.before ran.steps).uncalled n u

-- and so does a line
line_uncalled : (s before : List Line) (a : ActorNo) (b : Body) (start T : List Placed) (n u : ℕ) → (n == suc (length before)) ≡ false → LineRan s before (record { actor = a; body = b }) start T
    → has (is_call n) (history u T) ≡ has (is_call n) (history u start)
line_uncalled s before a (Stop k i) start T n u d r = ap (λ T. has (is_call n) (history u T)) r
line_uncalled s before a Restart start T n u d r = ap (λ T. has (is_call n) (history u T)) r.1 ∙ (quiet_restart (suc (length before)) a r.0 start).1.uncalled n u
line_uncalled s before a b start T n u d r =
    let m : ℕ = suc (length before) in
    let l : Line = record { actor = a; body = b } in
    let xs : List OpenScope = scopes_of a.value before in
    let es : List Entry = scope_block m a b xs in
    words_uncalled s a m (call_of s b) (after_scope s m l xs start) T n u d r ∙ calls_uncalled s n m u a (scope_calls b xs) (onto start (noted a es)) d ∙ noted_uncalled n u a es start

-- no line but those that were run was called
pub lines_uncalled : (s bs : List Line) (T : List Placed) → LinesRan s bs T → (n : ℕ) → length bs < n → (u : ℕ) → has (is_call n) (history u T) ≡ false
lines_uncalled s [] T r n k u = ap (λ T. has (is_call n) (history u T)) r
lines_uncalled s (l ∷ before) T r n k u =
    let earlier : length before < n = omega arith in
    let other : (n == suc (length before)) ≡ false = grind (arith, nat_tests) in
    line_uncalled s before l.actor l.body r.0 T n u other r.2 ∙ lines_uncalled s before r.0 r.1 n earlier u

-- the call of a line at a transaction, as the trace counts it
abbrev at_transaction : ℕ → ActorNo → TxNo × Call → Place × ℕ × ActorNo
at_transaction n a c = (Transaction c.0, n, a)

-- what a scope line does at its context is no call
written_not_called : (es : List ScopeEntry) → each is_not_called (map written es) ≡ true
written_not_called [] = refl
written_not_called (OpensScope s x i ∷ es) = written_not_called es
written_not_called (Finishes s ∷ es) = written_not_called es
written_not_called (Closes s ∷ es) = written_not_called es

-- a scope line adds one call at its context
noted_counted : (n : ℕ) (a : ActorNo) (o : Option Answer) (es : List ScopeEntry) (T : List Placed) → calls (onto T (noted a (called_with n a o es))) ≡ onto (calls T) (at_its_context n a o)
noted_counted n a None es T = refl
noted_counted n a (Some x) es T = calls-at (Context a) ((Context a, Called n a x) ∷ T) (map written es) (written_not_called es)

-- the calls of a scope line are added in order
calls_counted : (s : List Line) (n : ℕ) (a : ActorNo) (cs : List (TxNo × Call)) (T : List Placed) → calls (after_calls s n a cs T) ≡ onto (calls T) (map (at_transaction n a) cs)
calls_counted s n a [] T = refl
calls_counted s n a (c ∷ cs) T =
    calls_counted s n a cs (after_turn s c.0 (Calls n a c.1 0) T) ∙ ap (λ ks. onto ks (map (at_transaction n a) cs)) (call_counted s n a c.0 c.1 0 T)

-- a call by a line's own words is added
words_counted : (s : List Line) (a : ActorNo) (n : ℕ) (c : TxNo × Call) (start T : List Placed) → CallRan s a n (Some c) start T → calls T ≡ at_transaction n a c ∷ calls start
words_counted s a n c start T r =
    let ran = has_called s a n c.0 c.1 start T r in
    ap (λ T. calls T) ran.ends ∙ call_counted s n a c.0 c.1 ran.done ran.before
    ∙ ap (λ ks. at_transaction n a c ∷ ks) (quiet_steps s c.0 ran.place ran.count start ran.before ran.steps).counted

-- the calls of a line, in order: those that it gives as a scope line, or the one by its own words
both_counted : (s : List Line) (a : ActorNo) (n : ℕ) (o : Option (TxNo × Call)) (cs : List (TxNo × Call)) (start T : List Placed) → ((c : TxNo × Call) → o ≡ Some c → cs ≡ [])
    → CallRan s a n o (after_calls s n a cs start) T → calls T ≡ onto (calls start) (map (at_transaction n a) (put o cs))
both_counted s a n None cs start T own r = ap (λ T. calls T) r ∙ calls_counted s n a cs start
both_counted s a n (Some c) cs start T own r =
    let none : cs ≡ [] = own c refl in
    words_counted s a n c (after_calls s n a cs start) T r ∙ ap (λ cs. at_transaction n a c ∷ calls (after_calls s n a cs start)) none
    ∙ ap (λ cs. onto (at_transaction n a c ∷ calls start) (map (at_transaction n a) cs)) (sym none)

-- a line that doesn't stop the log nor open it has no call there
none_at_log : (n : ℕ) (a : ActorNo) (b : Body) → is_log_line b ≡ false → at_log_line n a b ≡ []
none_at_log n a (Stop k i) e = absurd cc
none_at_log n a Restart e = absurd cc
none_at_log n a _ e = refl

called_counted : (s before : List Line) (l : Line) (start T : List Placed) → is_log_line l.body ≡ false
    → CallRan s l.actor (suc (length before)) (call_of s l.body) (after_scope s (suc (length before)) l (scopes_of l.actor.value before) start) T → calls T ≡ onto (calls start) (due_by_line s before l)
called_counted s before l start T k r =
    let n : ℕ = suc (length before) in
    let a : ActorNo = l.actor in
    let xs : List OpenScope = scopes_of a.value before in
    let es : List Entry = scope_block n a l.body xs in
    let due : List (Place × ℕ × ActorNo) = map (at_transaction n a) (calls_by s before l) in
    let there : List (Place × ℕ × ActorNo) = at_its_context n a (scope_answer l.body xs) in
    both_counted s a n (call_of s l.body) (scope_calls l.body xs) (onto start (noted a es)) T (λ c e. own_line s l.body c xs e) r
    ∙ ap (λ ks. onto ks due) (noted_counted n a (scope_answer l.body xs) (scope_entries l.body xs) start)
    ∙ sym (onto-append (calls start) there due)
    ∙ ap (λ (ks : List (Place × ℕ × ActorNo)). onto (calls start) (ks ++ due)) (sym (append-nil there))
    ∙ ap (λ (ks : List (Place × ℕ × ActorNo)). onto (calls start) (there ++ ks ++ due)) (sym (none_at_log n a l.body k))

-- a line adds its calls
line_counted : (s before : List Line) (a : ActorNo) (b : Body) (start T : List Placed) → LineRan s before (record { actor = a; body = b }) start T
    → calls T ≡ onto (calls start) (due_by_line s before (record { actor = a; body = b }))
line_counted s before a (Stop k i) start T r = ap (λ T. calls T) r
line_counted s before a Restart start T r = ap (λ T. calls T) r.1 ∙ (quiet_restart (suc (length before)) a r.0 start).1.counted
line_counted s before a b start T r = called_counted s before (record { actor = a; body = b }) start T refl r

-- the lines have each one's calls once and in order
pub lines_called : (s bs : List Line) (T : List Placed) → LinesRan s bs T → calls T ≡ due_calls s bs
lines_called s [] T r = ap (λ T. calls T) r
lines_called s (l ∷ before) T r = line_counted s before l.actor l.body r.0 T r.2 ∙ ap (λ rest. onto rest (due_by_line s before l)) (lines_called s before r.0 r.1)

-- What the calls of a line leave at each context.
words_beside : (s : List Line) (a : ActorNo) (n : ℕ) (o : Option (TxNo × Call)) (start T : List Placed) → CallRan s a n o start T → (b : ℕ) → at_context b T ≡ at_context b start
words_beside s a n None start T r b = ap (λ T. at_context b T) r
words_beside s a n (Some c) start T r b =
    let ran = has_called s a n c.0 c.1 start T r in
    ap (λ T. at_context b T) ran.ends ∙ turn_beside s c.0 (Calls n a c.1 ran.done) ran.before b
    ∙ (quiet_steps s c.0 ran.place ran.count start ran.before ran.steps).beside b

context-calls : (s : List Line) (a n : ℕ) (b : ActorNo) (cs : List (TxNo × Call)) (T : List Placed) → at_context a (after_calls s n b cs T) ≡ at_context a T
context-calls s a n b [] T = refl
context-calls s a n b (c ∷ cs) T =
    context-calls s a n b cs (after_turn s c.0 (Calls n b c.1 0) T) ∙ turn_beside s c.0 (Calls n b c.1 0) T a

-- a line writes at a context its block alone
line_noted : (s before : List Line) (a : ActorNo) (b : Body) (start T : List Placed) → LineRan s before (record { actor = a; body = b }) start T → (c : ℕ)
    → at_context c T ≡ at_context c (onto start (noted a (scope_block (suc (length before)) a b (scopes_of a.value before))))
line_noted s before a (Stop k i) start T r c = ap (λ T. at_context c T) r
line_noted s before a Restart start T r c = ap (λ T. at_context c T) r.1 ∙ (quiet_restart (suc (length before)) a r.0 start).1.beside c
line_noted s before a b start T r c =
    let n : ℕ = suc (length before) in
    let l : Line = record { actor = a; body = b } in
    let xs : List OpenScope = scopes_of a.value before in
    words_beside s a n (call_of s b) (after_scope s n l xs start) T r c ∙ context-calls s c n a (scope_calls b xs) (onto start (noted a (scope_block n a b xs)))

-- the lines write at each context what its actor's lines write there
pub lines_noted : (s bs : List Line) (T : List Placed) → LinesRan s bs T → (a : ℕ) → at_context a T ≡ context a bs
lines_noted s [] T r a = ap (λ T. at_context a T) r
lines_noted s (l ∷ before) T r a = line_noted s before l.actor l.body r.0 T r.2 a ∙ by_actor (a == l.actor.value) refl (lines_noted s before r.0 r.1 a)
  where
    by_actor : (b : Bool) → (a == l.actor.value) ≡ b → at_context a r.0 ≡ context a before
        → at_context a (onto r.0 (noted l.actor (scope_block (suc (length before)) l.actor l.body (scopes_of l.actor.value before))))
        ≡ (if b then onto (context a before) (scope_block (suc (length before)) l.actor l.body (scopes_of a before)) else context a before)
    by_actor true e ih =
        let same : l.actor.value ≡ a = grind (arith, nat_tests) in
        context-same a l.actor r.0 (scope_block (suc (length before)) l.actor l.body (scopes_of l.actor.value before)) e
        ∙ ap (λ h. onto h (scope_block (suc (length before)) l.actor l.body (scopes_of l.actor.value before))) ih
        ∙ ap (λ k. onto (context a before) (scope_block (suc (length before)) l.actor l.body (scopes_of k before))) same
    by_actor false e ih = context-other a l.actor r.0 (scope_block (suc (length before)) l.actor l.body (scopes_of l.actor.value before)) e ∙ ih
