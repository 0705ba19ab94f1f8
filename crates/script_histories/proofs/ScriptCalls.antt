-- The calls of a history: those that a script's lines give by their own words, and those that were entered, of which some are of scope lines. Both wait for the same, enlist
-- with the same managers and plan the same, so the local half is the same by either.
use Rattle.std.proofs.Common.{◌≡◌, ℕ, zero, suc, ◌==◌, Bool, true, false, List, [], ◌∷◌, Option, Some, None, refl, ap, sym, subst, ◌∙◌, ◌||◌}
use Rattle.std.specs.List.{slice_get}
use Rattle.std.proofs.lemmas.Bool.{eqb-true}
use Rattle.std.specs.Prelude.{filter, not}
use Rattle.dtx_values.specs.declared.call.Call.{Call}
use Rattle.dtx_values.specs.declared.call.Call.TheVariants.{Begin, Commit, Rollback}
use Rattle.dtx_values.specs.declared.entry.Answer.{Answer}
use Rattle.dtx_values.specs.declared.entry.Answer.TheVariants.{Fine, True, Wait}
use Rattle.dtx_values.specs.declared.entry.Entry.{Entry}
use Rattle.dtx_values.specs.declared.entry.Entry.TheVariants.{Called, Got, Down as Ended, Stopped, Answered}
use Rattle.dtx_values.specs.declared.message.Conn.{Conn}
use Rattle.dtx_values.specs.declared.message.Dir.{Dir}
use Rattle.dtx_values.specs.declared.message.Message.{Message}
use Rattle.dtx_values.specs.declared.note.Plan.{Plan}
use Rattle.dtx_values.specs.declared.number.ActorNo.{ActorNo}
use Rattle.dtx_values.specs.declared.number.EnlNo.{EnlNo}
use Rattle.dtx_values.specs.declared.number.RmNo.{RmNo}
use Rattle.dtx_values.specs.declared.number.TxNo.{TxNo}
use Rattle.dtx_values.specs.declared.script.Line.{Line}
use Rattle.dtx_values.specs.Table.{insert_by}
use Rattle.dtx_model.specs.declared.waiting.EnteredCall.{EnteredCall}
use Rattle.dtx_model.specs.Words.{has, kth, latest, onto, or_else, put}
use Rattle.dtx_model.specs.Entries.{is_call}
use Rattle.dtx_model.specs.Observed.{observe}
use Rattle.dtx_model.specs.Coordinated.{may_log}
use Rattle.dtx_model.specs.Wires.{in_transit}
use Rattle.dtx_model.specs.Waiting.{call_at, managed, managed_by, waiting, wanted, call_if, call_in, waiter_line}
use Rattle.dtx_model.specs.Plans.{or_silent, plan_by, plan_of}
use Rattle.dtx_model.specs.Half.{Half, half_of}
use Rattle.dtx_model.specs.Acts.{act_entries}
use Rattle.dtx_model.specs.Replies.{reply_entries}
use Rattle.dtx_model.specs.Facts.{facts_if, has_facts}
use Rattle.dtx_model.specs.Calls.{call_of}
use Rattle.dtx_model.specs.Contexts.{lines_before, scope_calls, scopes_of}
use Rattle.dtx_model.specs.World.{World, answer_at, core, facts_at, half}
use Rattle.dtx_model.specs.Steps.{Step, Calls, Replies, Acts, Coordinates, Delivers, Stops, Restarts, after, block_at, coordinates, delivered, ended_at, got_by, restarted}
use Rattle.dtx_model.specs.Caused.{IsCallOf, MayCome, Ran, called_at, entered_by, entered_in}
use Rattle.dtx_model.proofs.Bools.{not_both, or_case, or_right}
use Rattle.dtx_model.proofs.Quiet.{Quiet, is_quiet, q_act, q_appended, q_called, q_ended_at, q_freed, q_got_by, q_head, q_if, q_one, q_reply, q_restarted, q_tail}
use Rattle.script_histories.specs.LineCalls.{AreCalls}
use Rattle.history_table.proofs.Lists.{of-at}
use Rattle.script_histories.proofs.Pending.{is_no_call}
use Rattle.script_histories.proofs.Planned.{latest-put, plan_in}
use Rattle.history_table.proofs.ScopeCalls.{IsScopeCall, is_scope_call, scope_calls_plain}
use Rattle.script_histories.proofs.ScopesApart.{own_line}
use Rattle.history_table.proofs.Tests.{eq_self}

-- the call that a line gives by its own words
abbrev pub own_words : Option (TxNo × Call) → Option Call
own_words (Some x) = Some x.1
own_words None = None

abbrev pub line_call : List Line → Option Line → Option Call
line_call s (Some l) = own_words (call_of s l.body)
line_call s None = None

-- The calls read of a history.
abbrev call_there : ℕ → Option EnteredCall → Option Call
call_there n (Some k) = call_in n k
call_there n None = None

at_put : (n : ℕ) (o : Option EnteredCall) (ks : List EnteredCall) → call_at (put o ks) n ≡ or_else (call_there n o) (call_at ks n)
at_put n (Some k) ks = refl
at_put n None ks = refl

line_there : (s : List Line) (n : ℕ) (a : ActorNo) (o : Option Line) → call_there n (called_at s n a o) ≡ line_call s o
line_there s n a (Some l) = by (call_of s l.body)
  where
    by : (r : Option (TxNo × Call)) → call_there n (entered_by n a r) ≡ own_words r
    by (Some x) = ap (λ b. call_if b x.1) (eq_self n)
    by None = refl
line_there s n a None = refl

other_there : (s : List Line) (n m : ℕ) (a : ActorNo) (o : Option Line) → (m == n) ≡ false → call_there n (called_at s m a o) ≡ None
other_there s n m a (Some l) k = by (call_of s l.body)
  where
    by : (r : Option (TxNo × Call)) → call_there n (entered_by m a r) ≡ None
    by (Some x) = ap (λ b. call_if b x.1) k
    by None = refl
other_there s n m a None k = refl

-- none, where the line gives none
none_there : (s : List Line) (h : List Entry) (n : ℕ) → line_call s (kth s n) ≡ None → call_at (entered_in s h) n ≡ None
none_there s [] n e = refl
none_there s (Called m a x ∷ h) n e =
    at_put n (called_at s m a (kth s m)) (entered_in s h) ∙ step (m == n) refl (none_there s h n e)
  where
    step : (b : Bool) → (m == n) ≡ b → call_at (entered_in s h) n ≡ None → or_else (call_there n (called_at s m a (kth s m))) (call_at (entered_in s h) n) ≡ None
    step true q ih =
        ap (λ o. or_else o (call_at (entered_in s h) n)) (subst (λ j. call_there n (called_at s j a (kth s j)) ≡ None) (sym (eqb-true m n q)) (line_there s n a (kth s n) ∙ e)) ∙ ih
    step false q ih = ap (λ o. or_else o (call_at (entered_in s h) n)) (other_there s n m a (kth s m) q) ∙ ih
none_there s (x ∷ h) n e = none_there s h n e

-- a line that came has the call of its own words
pub read_call : (s : List Line) (h : List Entry) (n : ℕ) → has (is_call n) h ≡ true → call_at (entered_in s h) n ≡ line_call s (kth s n)
read_call s [] n k = absurd cc
read_call s (Called m a x ∷ h) n k =
    at_put n (called_at s m a (kth s m)) (entered_in s h)
    ∙ or_case (n == m) (has (is_call n) h)
    (λ q. own (line_call s (kth s n)) refl (subst (λ j. call_there n (called_at s j a (kth s j)) ≡ line_call s (kth s n)) (eqb-true n m q) (line_there s n a (kth s n))))
    (λ q. later (m == n) refl (read_call s h n q)) k
  where
    own : (o : Option Call) → line_call s (kth s n) ≡ o → call_there n (called_at s m a (kth s m)) ≡ line_call s (kth s n)
        → or_else (call_there n (called_at s m a (kth s m))) (call_at (entered_in s h) n) ≡ line_call s (kth s n)
    own (Some c) e f = ap (λ o. or_else o (call_at (entered_in s h) n)) (f ∙ e) ∙ sym e
    own None e f = ap (λ o. or_else o (call_at (entered_in s h) n)) (f ∙ e) ∙ none_there s h n e ∙ sym e

    later : (b : Bool) → (m == n) ≡ b → call_at (entered_in s h) n ≡ line_call s (kth s n) → or_else (call_there n (called_at s m a (kth s m))) (call_at (entered_in s h) n) ≡ line_call s (kth s n)
    later true q ih =
        own (line_call s (kth s n)) refl (subst (λ j. call_there n (called_at s j a (kth s j)) ≡ line_call s (kth s n)) (sym (eqb-true m n q)) (line_there s n a (kth s n)))
    later false q ih = ap (λ o. or_else o (call_at (entered_in s h) n)) (other_there s n m a (kth s m) q) ∙ ih
read_call s (x ∷ h) n k = read_call s h n (or_first_false (is_call n x) (has (is_call n) h) refl k)
  where
    or_first_false : (a b : Bool) → a ≡ false → (a || b) ≡ true → b ≡ true
    or_first_false true b e k = absurd cc
    or_first_false false b e k = k

-- The calls that were entered.
pub record IsEntered (G : ℕ → ActorNo → Call → Type 0) (ks : List EnteredCall) (n : ℕ) : Type 0 where
  pub actor : ActorNo
  pub call : Call
  pub may : G n actor call
  pub entered : call_at ks n ≡ Some call

-- What is read of a line's call, where nothing is read of a scope line's, is read of the line's own words.
of_one : (d x : TxNo × Call) (k : ℕ) → slice_get (d ∷ []) k ≡ Some x → d ≡ x
of_one d x zero k = cc
of_one d x (suc i) k = absurd cc

given_read : {A : Type 0} (f : Option Call → A) → ((c : Call) → is_scope_call c ≡ true → f (Some c) ≡ f None) → (s : List Line) (t n : ℕ) (a : ActorNo) (c : Call) → IsCallOf s t n a c
    → f (Some c) ≡ f (line_call s (kth s n))
given_read f scope s t n a c g = by_words (call_of s g.line.body) refl ∙ ap (λ o. f (line_call s o)) (sym g.stands)
  where
    scoped : List (TxNo × Call)
    scoped = scope_calls g.line.body (scopes_of g.line.actor.value (lines_before s n))

    by_words : (o : Option (TxNo × Call)) → call_of s g.line.body ≡ o → f (Some c) ≡ f (own_words (call_of s g.line.body))
    by_words (Some d) e =
        let none : scoped ≡ [] = own_line s g.line.body d (scopes_of g.line.actor.value (lines_before s n)) e in
        let there : slice_get (d ∷ []) g.place ≡ Some (g.name, c) = sym (ap (λ o. slice_get (put o scoped) g.place) e ∙ ap (λ cs. slice_get (put (Some d) cs) g.place) none) ∙ g.gives in
        ap (λ (x : TxNo × Call). f (Some x.1)) (sym (of_one d (g.name, c) g.place there)) ∙ ap (λ o. f (own_words o)) (sym e)
    by_words None e =
        let there : slice_get scoped g.place ≡ Some (g.name, c) = sym (ap (λ o. slice_get (put o scoped) g.place) e) ∙ g.gives in
        scope c (of-at IsScopeCall scoped g.place (g.name, c) (scope_calls_plain g.line.body (scopes_of g.line.actor.value (lines_before s n))) there)
        ∙ ap (λ o. f (own_words o)) (sym e)

scope_wants : (c : Call) → is_scope_call c ≡ true → wanted (Some c) ≡ wanted None
scope_wants (Begin t d) k = refl
scope_wants (Commit t) k = refl
scope_wants (Rollback t) k = refl
scope_wants _ k = absurd cc

scope_manages : (ms : List (EnlNo × RmNo)) (c : Call) → is_scope_call c ≡ true → managed_by (Some c) ms ≡ managed_by None ms
scope_manages ms (Begin t d) k = refl
scope_manages ms (Commit t) k = refl
scope_manages ms (Rollback t) k = refl
scope_manages ms _ k = absurd cc

abbrev plan_read : ℕ → Option Call → Option Plan
plan_read e (Some c) = plan_by e c
plan_read e None = None

scope_plans : (e : ℕ) (c : Call) → is_scope_call c ≡ true → plan_read e (Some c) ≡ plan_read e None
scope_plans e (Begin t d) k = refl
scope_plans e (Commit t) k = refl
scope_plans e (Rollback t) k = refl
scope_plans e _ k = absurd cc

-- Each line that came has a call that it gives.
calls_entered : (s : List Line) (t : ℕ) (ks : List EnteredCall) (h : List Entry) (n : ℕ) → AreCalls s t ks h → has (is_call n) h ≡ true → IsEntered (IsCallOf s t) ks n
unfolding AreCalls
calls_entered s t ks [] n r k = absurd cc
calls_entered s t ks (Called m a x ∷ h) n (c, rest, g, r, e) k = subst (λ js. IsEntered (IsCallOf s t) js n) (sym e) (by (m == n) refl (λ p. calls_entered s t rest h n r p))
  where
    below : (m == n) ≡ false → IsEntered (IsCallOf s t) rest n → IsEntered (IsCallOf s t) (record { line = m; actor = a; call = c } ∷ rest) n
    below q o = record { actor = o.actor; call = o.call; may = o.may; entered = rw q o.entered }

    by : (b : Bool) → (m == n) ≡ b → (has (is_call n) h ≡ true → IsEntered (IsCallOf s t) rest n) → IsEntered (IsCallOf s t) (record { line = m; actor = a; call = c } ∷ rest) n
    by true q later = record { actor = a; call = c; may = subst (λ j. IsCallOf s t j a c) (eqb-true m n q) g; entered = rw q refl }
    by false q later = below q (later (or_case (n == m) (has (is_call n) h) (λ p. absurd (not_both (m == n) (ap (λ j. m == j) (eqb-true n m p) ∙ eq_self m) q)) (λ p. p) k))
calls_entered s t ks (x ∷ h) n r k = calls_entered s t ks h n r k

call_read : {A : Type 0} (f : Option Call → A) → ((c : Call) → is_scope_call c ≡ true → f (Some c) ≡ f None) → (s : List Line) (t : ℕ) (ks : List EnteredCall) (h : List Entry) (n : ℕ) → AreCalls s t ks h
    → has (is_call n) h ≡ true → f (call_at ks n) ≡ f (call_at (entered_in s h) n)
call_read f scope s t ks h n r k =
    let e = calls_entered s t ks h n r k in
    ap f e.entered ∙ given_read f scope s t n e.actor e.call e.may ∙ ap f (sym (read_call s h n k))

-- where the calls of the lines that came wait for the same, the same calls wait
same_waiting : (ks ls : List EnteredCall) (h : List Entry) → ((n : ℕ) → has (is_call n) h ≡ true → wanted (call_at ks n) ≡ wanted (call_at ls n)) → waiting ks h ≡ waiting ls h
same_waiting ks ls [] f = refl
same_waiting ks ls (Called n a Wait ∷ h) f =
    ap (λ (v : _). insert_by waiter_line (n, v) (waiting ks h)) (f n (rw (eq_self n) refl))
    ∙ ap (insert_by waiter_line (n, wanted (call_at ls n))) (same_waiting ks ls h (λ m k. f m (or_right (m == n) (has (is_call m) h) k)))
same_waiting ks ls (Answered n x ∷ h) f = ap (filter (λ w. not (n == w.0))) (same_waiting ks ls h f)
same_waiting ks ls (x ∷ h) f = same_waiting ks ls h (λ m k. f m (or_right (is_call m x) (has (is_call m) h) k))

-- where the calls of the lines that came enlist with the same managers, all do
same_managed : (ks js : List EnteredCall) (h : List Entry) → ((n : ℕ) (ms : List (EnlNo × RmNo)) → has (is_call n) h ≡ true → managed_by (call_at ks n) ms ≡ managed_by (call_at js n) ms)
    → managed ks h ≡ managed js h
same_managed ks js [] f = refl
same_managed ks js (Called n a x ∷ h) f = by x (same_managed ks js h (λ m ms k. f m ms (or_right (m == n) (has (is_call m) h) k)))
  where
    own : managed ks h ≡ managed js h → managed_by (call_at ks n) (managed ks h) ≡ managed_by (call_at js n) (managed js h)
    own e = f n (managed ks h) (rw (eq_self n) refl) ∙ ap (managed_by (call_at js n)) e

    by : (x : Answer) → managed ks h ≡ managed js h → managed ks (Called n a x ∷ h) ≡ managed js (Called n a x ∷ h)
    by Fine e = own e
    by True e = own e
    by _ e = e
same_managed ks js (x ∷ h) f = same_managed ks js h (λ m ms k. f m ms (or_right (is_call m x) (has (is_call m) h) k))

-- the half is the same by the calls of a history as by the script
pub half_same : (s : List Line) (t : ℕ) (ks : List EnteredCall) (h : List Entry) → AreCalls s t ks h → half_of ks h ≡ half_of (entered_in s h) h
half_same s t ks h r =
    ap (λ (ws : List _). record { seen = observe h; waits = ws; managers = managed ks h })
    (same_waiting ks (entered_in s h) h (λ n k. call_read wanted scope_wants s t ks h n r k))
    ∙ ap (λ ms. record { seen = observe h; waits = waiting (entered_in s h) h; managers = ms })
    (same_managed ks (entered_in s h) h (λ n ms k. call_read (λ o. managed_by o ms) (scope_manages ms) s t ks h n r k))

-- and so is each plan
line_plans : (s : List Line) (e n : ℕ) (a : ActorNo) (o : Option Line) → plan_read e (line_call s o) ≡ plan_in e (called_at s n a o)
line_plans s e n a (Some l) = by (call_of s l.body)
  where
    by : (r : Option (TxNo × Call)) → plan_read e (own_words r) ≡ plan_in e (entered_by n a r)
    by (Some c) = refl
    by None = refl
line_plans s e n a None = refl

latest_plan : (s : List Line) (t e : ℕ) (ks : List EnteredCall) (h : List Entry) → AreCalls s t ks h → latest (λ k. plan_by e k.call) ks ≡ latest (λ k. plan_by e k.call) (entered_in s h)
unfolding AreCalls
latest_plan s t e ks [] r = ap (λ ks. latest (λ k. plan_by e k.call) ks) r
latest_plan s t e ks (Called n a x ∷ h) (c, rest, g, r, q) =
    ap (λ ks. latest (λ k. plan_by e k.call) ks) q
    ∙ ap (λ o. or_else o (latest (λ k. plan_by e k.call) rest)) (given_read (plan_read e) (scope_plans e) s t n a c g ∙ line_plans s e n a (kth s n))
    ∙ ap (or_else (plan_in e (called_at s n a (kth s n)))) (latest_plan s t e rest h r)
    ∙ sym (latest-put e (called_at s n a (kth s n)) (entered_in s h))
latest_plan s t e ks (x ∷ h) r = latest_plan s t e ks h r

pub plans_same : (s : List Line) (t : ℕ) (ks : List EnteredCall) (h : List Entry) → AreCalls s t ks h → plan_of ks ≡ plan_of (entered_in s h)
plans_same s t ks h r = λ i. λ e. or_silent (latest_plan s t e ks h r i)

-- The calls of a history: at the start, after a step that is no call, and after a call that its line gives.
pub start_calls : (s : List Line) (t : ℕ) → AreCalls s t [] []
unfolding AreCalls
start_calls s t = refl

quiet_calls : (s : List Line) (t : ℕ) (ks : List EnteredCall) (h es : List Entry) → Quiet es → AreCalls s t ks h → AreCalls s t ks (onto h es)
unfolding AreCalls
quiet_calls s t ks h [] q r = r
quiet_calls s t ks h (x ∷ es) q r = quiet_calls s t ks (x ∷ h) es (q_tail x es q) (one x (q_head x es q))
  where
    one : (x : Entry) → is_quiet x ≡ true → AreCalls s t ks (x ∷ h)
    one (Called n a y) k = absurd cc
    one _ k = r

delivered_calls : (s : List Line) (t : ℕ) (w : World) (c : Conn) (d : Dir) (ms : List Message) → AreCalls s t w.calls w.past → AreCalls s t w.calls (onto w.past (delivered t w c d ms))
unfolding AreCalls
delivered_calls s t w c d [] r = quiet_calls s t w.calls (Ended c d ∷ w.past) (ended_at w c d) (q_ended_at w c d) r
delivered_calls s t w c d (m ∷ ms) r = quiet_calls s t w.calls (Got c d m ∷ w.past) (got_by t w c d m) (q_got_by t w c d m) r

pub other_calls : (s : List Line) (t : ℕ) (w : World) (m : Step) → is_no_call m ≡ true → AreCalls s t w.calls w.past → AreCalls s t w.calls (onto w.past (block_at t w m))
unfolding block_at
other_calls s t w (Calls n a c k) q r = absurd cc
other_calls s t w (Replies e x) q r = quiet_calls s t w.calls w.past (reply_entries (half w) e x) (q_reply (half w) e x) r
other_calls s t w Acts q r = quiet_calls s t w.calls w.past (act_entries (half w)) (q_act (half w)) r
other_calls s t w (Coordinates x) q r = quiet_calls s t w.calls w.past (coordinates (core w) x) (q_if (may_log (core w)) (q_appended (core w) x) (q_freed x)) r
other_calls s t w (Delivers c d) q r = delivered_calls s t w c d (in_transit c d w.past) r
other_calls s t w Stops q r = quiet_calls s t w.calls w.past (Stopped ∷ []) (q_one Stopped refl) r
other_calls s t w (Restarts found) q r = quiet_calls s t w.calls w.past (restarted (core w).stopped found) (q_restarted (core w).stopped found) r

pub call_calls : (s : List Line) (t : ℕ) (w : World) (n : ℕ) (a : ActorNo) (c : Call) (k : ℕ) → IsCallOf s t n a c → AreCalls s t w.calls w.past
    → AreCalls s t (record { line = n; actor = a; call = c } ∷ w.calls) (onto w.past (block_at t w (Calls n a c k)))
unfolding block_at AreCalls
call_calls s t w n a c k g r =
    let x = answer_at t w c k in
    quiet_calls s t (record { line = n; actor = a; call = c } ∷ w.calls) (Called n a x ∷ w.past) (facts_if (has_facts x) (facts_at t w c x)) (q_called t w c x) (c, w.calls, g, r, refl)

-- so those of a world that steps made
step_calls : (s : List Line) (t : ℕ) (w : World) (m : Step) → MayCome (IsCallOf s t) t w m → AreCalls s t w.calls w.past → AreCalls s t (after t w m).calls (after t w m).past
unfolding after
step_calls s t w (Calls n a c k) q r = call_calls s t w n a c k q.0 r
step_calls s t w m q r = other_calls s t w m refl r

pub ran_calls : (s : List Line) (t : ℕ) (ms : List Step) (w : World) → Ran (IsCallOf s t) t ms w → AreCalls s t w.calls w.past
ran_calls s t [] w r = subst (λ ks. AreCalls s t ks w.past) (sym r.0) (subst (λ h. AreCalls s t [] h) (sym r.1) (start_calls s t))
ran_calls s t (m ∷ ms) w r = subst (λ (x : World). AreCalls s t x.calls x.past) (sym r.3) (step_calls s t r.0 m r.2 (ran_calls s t ms r.0 r.1))

-- so the same calls wait by a script's lines as by the calls that were entered
pub waiting_read : (s : List Line) (t : ℕ) (ms : List Step) (w : World) → Ran (IsCallOf s t) t ms w → waiting w.calls w.past ≡ waiting (entered_in s w.past) w.past
waiting_read s t ms w r = ap (λ (x : Half). x.waits) (half_same s t w.calls w.past (ran_calls s t ms w r))
