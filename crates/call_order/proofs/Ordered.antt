-- Where each place has of each actor the calls that its lines make there, in order, the trace is in the order on threads.
use Rattle.std.proofs.Common.{◌≡◌, ℕ, suc, ◌==◌, Bool, true, false, ◌&&◌, cond, List, [], ◌∷◌, ◌++◌, Option, Some, None, filter, length, map, refl, ap, sym, ◌∙◌}
use Rattle.std.specs.Prelude.{if◌then◌else◌}
use Rattle.std.proofs.Math.Bool.{and-true}
use Rattle.std.proofs.lemmas.Bool.{eqb-true}
use Rattle.std.proofs.lemmas.List.{append-nil, map-append}
use Rattle.std.proofs.lemmas.List.Elements.{filter-append}
use Rattle.dtx_values.specs.declared.call.Call.{Call}
use Rattle.dtx_values.specs.declared.entry.Answer.{Answer}
use Rattle.dtx_values.specs.declared.entry.Entry.{Entry}
use Rattle.dtx_values.specs.declared.entry.Entry.TheVariants.{Called}
use Rattle.dtx_values.specs.declared.number.ActorNo.{ActorNo}
use Rattle.dtx_values.specs.declared.number.TxNo.{TxNo}
use Rattle.dtx_values.specs.declared.script.Body.{Body}
use Rattle.dtx_values.specs.declared.script.Body.TheVariants.{Stop, Restart}
use Rattle.dtx_values.specs.declared.script.Line.{Line}
use Rattle.dtx_values.specs.declared.trace.Place.{Place}
use Rattle.dtx_values.specs.declared.trace.Place.TheVariants.{Context, Log, Transaction}
use Rattle.dtx_model.specs.AtLog.{at_log, is_log}
use Rattle.dtx_model.specs.Contexts.{called_with, calls_by, context, scope_answer, scope_block, scope_entries, scopes_of, written}
use Rattle.dtx_model.specs.History.{same_place}
use Rattle.dtx_model.specs.Replay.{at_its_context, at_log_line, due_by_line, due_calls}
use Rattle.dtx_model.specs.Scopes.{ScopeEntry, Opens, Finishes, Closes}
use Rattle.dtx_model.specs.Traces.{Placed, at_context, calls, entries_at, history, is_at, is_context}
use Rattle.dtx_model.specs.Words.{all_of, each, onto, past_of, put}
use Rattle.dtx_model.proofs.Bools.{and_never}
use Rattle.dtx_model.proofs.Histories.{onto-append}
use Rattle.dtx_values.proofs.SameNumbers.{same_actor, same_transaction}
use Rattle.script_histories.proofs.Pending.{is_not_called}
use Rattle.history_table.proofs.Tests.{eq_self}
use Rattle.script_calls.specs.declared.calls.LogCall.{LogCall}
use Rattle.script_calls.specs.declared.rows.Due.{Due}
use Rattle.script_calls.specs.Due.{calls_at, calls_until, due_at, due_by_line as own_due, log_call, log_calls_at, log_calls_until, log_due, log_due_by_line}
use Rattle.script_calls.specs.Prefix.{lines_by}
use Rattle.call_order.specs.InOrder.{AreInActorOrder, is_by, lines_of}
use Rattle.call_order.proofs.Entered.{no_more_lines}
use Rattle.call_order.proofs.Lists.{filter-none, filter-onto, map-past}

-- a call as a trace counts it: the place, the line and the actor
abbrev Counted : Type 0
Counted = Place × ℕ × ActorNo

abbrev called_by : Place → ActorNo → ℕ → Counted
called_by p a n = (p, n, a)

-- The calls of an actor at a place are those of its lines there.
by_place : (p : Place) (q : Place → Bool) → ((x : Place) → same_place p x ≡ q x) → ((x : Place) → q x ≡ true → x ≡ p) → (a : ActorNo) (P : List Placed)
    → filter (is_by p a.value) (calls P) ≡ map (called_by p a) (lines_by a.value (entries_at q P))
by_place p q same only a [] = refl
by_place p q same only a ((x, Called n b y) ∷ P) =
    ap (λ (t : Bool). cond (t && (a.value == b.value)) (called_by x b n ∷ rest) rest) (same x) ∙ by (q x) (a.value == b.value) refl refl (by_place p q same only a P)
  where
    rest : List Counted
    rest = filter (is_by p a.value) (calls P)

    by : (there mine : Bool) → q x ≡ there → (a.value == b.value) ≡ mine → rest ≡ map (called_by p a) (lines_by a.value (entries_at q P))
        → cond (there && mine) (called_by x b n ∷ rest) rest ≡ map (called_by p a) (lines_by a.value (if there then Called n b y ∷ entries_at q P else entries_at q P))
    by true true i j ih =
        ap (λ (y : Place). called_by y b n ∷ rest) (only x i)
        ∙ ap (λ (c : ActorNo). called_by p c n ∷ rest) (sym (same_actor a b (eqb-true a.value b.value j)))
        ∙ ap (λ (cs : List Counted). called_by p a n ∷ cs) ih
        ∙ ap (λ (t : Bool). map (called_by p a) (put (if t then Some n else None) (lines_by a.value (entries_at q P)))) (sym j)
    by true false i j ih = ih ∙ ap (λ (t : Bool). map (called_by p a) (put (if t then Some n else None) (lines_by a.value (entries_at q P)))) (sym j)
    by false mine i j ih = ih
by_place p q same only a ((x, e) ∷ P) = by_place p q same only a P ∙ by (q x)
  where
    by : (there : Bool) → map (called_by p a) (lines_by a.value (entries_at q P)) ≡ map (called_by p a) (lines_by a.value (if there then e ∷ entries_at q P else entries_at q P))
    by true = refl
    by false = refl

-- What a line gives: its parts at its context, at the log and at transactions, each filtered.
three_parts : (f : Counted → Bool) (xs ys zs : List Counted) → filter f (xs ++ ys ++ zs) ≡ filter f xs ++ filter f ys ++ filter f zs
three_parts f xs ys zs = filter-append f (xs ++ ys) zs ∙ ap (λ (cs : List Counted). cs ++ filter f zs) (filter-append f xs ys)

-- only lines that a scope answers call at a context, and only stops and restarts at the log
none_at_context : (f : Counted → Bool) (n : ℕ) (b : ActorNo) → f (called_by (Context b) b n) ≡ false → (o : Option Answer) → filter f (at_its_context n b o) ≡ []
none_at_context f n b out (Some x) = ap (λ (t : Bool). cond t (called_by (Context b) b n ∷ []) []) out
none_at_context f n b out None = refl

none_at_log : (f : Counted → Bool) (n : ℕ) (b : ActorNo) → f (called_by Log b n) ≡ false → (c : Body) → filter f (at_log_line n b c) ≡ []
none_at_log f n b out (Stop k i) = ap (λ (t : Bool). cond t (called_by Log b n ∷ []) []) out
none_at_log f n b out Restart = ap (λ (t : Bool). cond t (called_by Log b n ∷ []) []) out
none_at_log f n b out _ = refl

-- a call at a transaction
abbrev called_there : ℕ → ActorNo → TxNo × Call → Counted
called_there n b c = called_by (Transaction c.0) b n

-- the lines of calls, as the calls of an actor at a place
abbrev counted : {C : Type 0} → Place → ActorNo → List (Due C) → List Counted
counted p a ds = map (called_by p a) (map (λ d. d.line) ds)

counted-append : {C : Type 0} (p : Place) (a : ActorNo) (xs ys : List (Due C)) → counted p a (xs ++ ys) ≡ counted p a xs ++ counted p a ys
counted-append {C = C} p a xs ys =
    ap (λ (ns : List ℕ). map (called_by p a) ns) (map-append (λ (d : Due C). d.line) xs ys)
    ∙ map-append (called_by p a) (map (λ (d : Due C). d.line) xs) (map (λ (d : Due C). d.line) ys)

-- a line's calls after those of the lines before it, where they are the actor's at a place
next_counted : {C : Type 0} (p : Place) (a : ActorNo) (h xs : List Counted) (before own : List (Due C)) → filter (is_by p a.value) h ≡ past_of (counted p a before)
    → filter (is_by p a.value) xs ≡ counted p a own → filter (is_by p a.value) (onto h xs) ≡ past_of (counted p a (before ++ own))
next_counted p a h xs before own ih next =
    filter-onto (is_by p a.value) h xs ∙ ap (λ (cs : List Counted). onto cs (filter (is_by p a.value) xs)) ih
    ∙ ap (λ (cs : List Counted). onto (past_of (counted p a before)) cs) next
    ∙ sym (onto-append [] (counted p a before) (counted p a own))
    ∙ ap (λ (cs : List Counted). past_of cs) (sym (counted-append p a before own))

-- The calls that a line gives a transaction.
at_transaction : (t : TxNo) (a : ActorNo) (n : ℕ) (b : ActorNo) (cs : List (TxNo × Call))
    → filter (is_by (Transaction t) a.value) (map (called_there n b) cs) ≡ counted (Transaction t) a (if a.value == b.value then all_of (due_at t.value n) cs else [])
at_transaction t a n b cs = by_actor (a.value == b.value) refl
  where
    one : (c : TxNo × Call) (there : Bool) → (t.value == c.0.value) ≡ there → b ≡ a → (cs : List (TxNo × Call)) (rest : List Counted) → rest ≡ counted (Transaction t) a (all_of (due_at t.value n) cs)
        → cond there (called_there n b c ∷ rest) rest ≡ counted (Transaction t) a (put (if there then Some (record { line = n; call = c.1 }) else None) (all_of (due_at t.value n) cs))
    one c true e i cs rest ih =
        ap (λ (u : TxNo). called_by (Transaction u) b n ∷ rest) (sym (same_transaction t c.0 (eqb-true t.value c.0.value e)))
        ∙ ap (λ (d : ActorNo). called_by (Transaction t) d n ∷ rest) i ∙ ap (λ (cs : List Counted). called_by (Transaction t) a n ∷ cs) ih
    one c false e i cs rest ih = ih

    mine : (a.value == b.value) ≡ true → (cs : List (TxNo × Call)) → filter (is_by (Transaction t) a.value) (map (called_there n b) cs) ≡ counted (Transaction t) a (all_of (due_at t.value n) cs)
    mine e [] = refl
    mine e (c ∷ cs) =
        let rest = filter (is_by (Transaction t) a.value) (map (called_there n b) cs) in
        ap (λ (x : Bool). cond ((t.value == c.0.value) && x) (called_there n b c ∷ rest) rest) e
        ∙ ap (λ (x : Bool). cond x (called_there n b c ∷ rest) rest) (and-true (t.value == c.0.value))
        ∙ one c (t.value == c.0.value) refl (sym (same_actor a b (eqb-true a.value b.value e))) cs rest (mine e cs)

    by_actor : (x : Bool) → (a.value == b.value) ≡ x
        → filter (is_by (Transaction t) a.value) (map (called_there n b) cs) ≡ counted (Transaction t) a (if x then all_of (due_at t.value n) cs else [])
    by_actor true e = mine e cs
    by_actor false e = filter-none (is_by (Transaction t) a.value) (called_there n b) (λ c. ap (λ (y : Bool). (t.value == c.0.value) && y) e ∙ and_never (t.value == c.0.value)) cs

due_there : (s : List Line) (t : TxNo) (a : ActorNo) (ls : List Line)
    → filter (is_by (Transaction t) a.value) (due_calls s ls) ≡ past_of (counted (Transaction t) a (calls_until s a.value t.value ls))
due_there s t a [] = refl
due_there s t a (l ∷ before) =
    let n = suc (length before) in
    let f = is_by (Transaction t) a.value in
    let o = scope_answer l.body (scopes_of l.actor.value before) in
    let cs = calls_by s before l in
    let given = filter f (map (called_there n l.actor) cs) in
    next_counted (Transaction t) a (due_calls s before) (due_by_line s before l) (calls_until s a.value t.value before) (own_due s a.value t.value before l) (due_there s t a before)
    (three_parts f (at_its_context n l.actor o) (at_log_line n l.actor l.body) (map (called_there n l.actor) cs)
    ∙ ap (λ (ks : List Counted). ks ++ filter f (at_log_line n l.actor l.body) ++ given) (none_at_context f n l.actor refl o)
    ∙ ap (λ (ks : List Counted). ks ++ given) (none_at_log f n l.actor refl l.body)
    ∙ at_transaction t a n l.actor cs)

-- The call that a line gives the log.
by_actor_at_log : (a : ActorNo) (n : ℕ) (b : ActorNo) (c : Body) → filter (is_by Log a.value) (at_log_line n b c) ≡ counted Log a (if a.value == b.value then put (log_due n (log_call c)) [] else [])
by_actor_at_log a n b c = by_body c
  where
    one : (x : Bool) (k : LogCall) → (a.value == b.value) ≡ x → cond x (called_by Log b n ∷ []) [] ≡ counted Log a (if x then record { line = n; call = k } ∷ [] else [])
    one true k e = ap (λ (d : ActorNo). called_by Log d n ∷ []) (sym (same_actor a b (eqb-true a.value b.value e)))
    one false k e = refl

    none : (x : Bool) → [] ≡ counted Log a (if x then put (log_due n None) [] else [])
    none true = refl
    none false = refl

    by_body : (c : Body) → filter (is_by Log a.value) (at_log_line n b c) ≡ counted Log a (if a.value == b.value then put (log_due n (log_call c)) [] else [])
    by_body (Stop k i) = one (a.value == b.value) _ refl
    by_body Restart = one (a.value == b.value) _ refl
    by_body _ = none (a.value == b.value)

-- what a line gives transactions is at no other place
none_there : (f : Counted → Bool) (n : ℕ) (b : ActorNo) (xs : List Counted) (cs : List (TxNo × Call)) → ((c : TxNo × Call) → f (called_there n b c) ≡ false)
    → xs ++ filter f (map (called_there n b) cs) ≡ xs
none_there f n b xs cs out = ap (λ (ks : List Counted). xs ++ ks) (filter-none f (called_there n b) out cs) ∙ append-nil xs

due_at_log : (s : List Line) (a : ActorNo) (ls : List Line) → filter (is_by Log a.value) (due_calls s ls) ≡ past_of (counted Log a (log_calls_until a.value ls))
due_at_log s a [] = refl
due_at_log s a (l ∷ before) =
    let n = suc (length before) in
    let f = is_by Log a.value in
    let o = scope_answer l.body (scopes_of l.actor.value before) in
    let cs = calls_by s before l in
    next_counted Log a (due_calls s before) (due_by_line s before l) (log_calls_until a.value before) (log_due_by_line a.value before l) (due_at_log s a before)
    (three_parts f (at_its_context n l.actor o) (at_log_line n l.actor l.body) (map (called_there n l.actor) cs)
    ∙ ap (λ (ks : List Counted). ks ++ filter f (at_log_line n l.actor l.body) ++ filter f (map (called_there n l.actor) cs)) (none_at_context f n l.actor refl o)
    ∙ none_there f n l.actor (filter f (at_log_line n l.actor l.body)) cs (λ c. refl)
    ∙ by_actor_at_log a n l.actor l.body)

-- What a scope line does at its context is no call.
written_not_called : (es : List ScopeEntry) → each is_not_called (map written es) ≡ true
written_not_called [] = refl
written_not_called (Opens s x i ∷ es) = written_not_called es
written_not_called (Finishes s ∷ es) = written_not_called es
written_not_called (Closes s ∷ es) = written_not_called es

-- so of the block that it writes there its call is the only one
scope_lines : (c a : ActorNo) (n : ℕ) (h : List Entry) (o : Option Answer) (es : List ScopeEntry)
    → onto (map (called_by (Context c) a) (lines_by a.value h)) (filter (is_by (Context c) a.value) (at_its_context n c o))
    ≡ map (called_by (Context c) a) (lines_by a.value (onto h (called_with n c o es)))
scope_lines c a n h None es = refl
scope_lines c a n h (Some x) es =
    ap (λ (t : Bool). onto (map (called_by (Context c) a) (lines_by a.value h)) (cond (t && (a.value == c.value)) (called_by (Context c) c n ∷ []) [])) (eq_self c.value)
    ∙ by (a.value == c.value) refl
    ∙ ap (λ (ns : List ℕ). map (called_by (Context c) a) ns) (sym (no_more_lines a.value (Called n c x ∷ h) (map written es) (written_not_called es)))
  where
    by : (t : Bool) → (a.value == c.value) ≡ t
        → onto (map (called_by (Context c) a) (lines_by a.value h)) (cond t (called_by (Context c) c n ∷ []) []) ≡ map (called_by (Context c) a) (put (if t then Some n else None) (lines_by a.value h))
    by true e = ap (λ (d : ActorNo). called_by (Context c) d n ∷ map (called_by (Context c) a) (lines_by a.value h)) (sym (same_actor a c (eqb-true a.value c.value e)))
    by false e = refl

due_at_context : (s : List Line) (c a : ActorNo) (ls : List Line) → filter (is_by (Context c) a.value) (due_calls s ls) ≡ map (called_by (Context c) a) (lines_by a.value (context c.value ls))
due_at_context s c a [] = refl
due_at_context s c a (l ∷ before) =
    let n = suc (length before) in
    let f = is_by (Context c) a.value in
    let o = scope_answer l.body (scopes_of l.actor.value before) in
    let cs = calls_by s before l in
    let h = map (called_by (Context c) a) (lines_by a.value (context c.value before)) in
    filter-onto f (due_calls s before) (due_by_line s before l)
    ∙ ap (λ (ks : List Counted). onto ks (filter f (due_by_line s before l))) (due_at_context s c a before)
    ∙ ap (λ (ks : List Counted). onto h ks) (three_parts f (at_its_context n l.actor o) (at_log_line n l.actor l.body) (map (called_there n l.actor) cs)
    ∙ ap (λ (ks : List Counted). filter f (at_its_context n l.actor o) ++ ks ++ filter f (map (called_there n l.actor) cs)) (none_at_log f n l.actor refl l.body)
    ∙ none_there f n l.actor (filter f (at_its_context n l.actor o) ++ []) cs (λ c. refl) ∙ append-nil (filter f (at_its_context n l.actor o)))
    ∙ by (c.value == l.actor.value) refl
  where
    by : (t : Bool) → (c.value == l.actor.value) ≡ t
        → onto (map (called_by (Context c) a) (lines_by a.value (context c.value before)))
        (filter (is_by (Context c) a.value) (at_its_context (suc (length before)) l.actor (scope_answer l.body (scopes_of l.actor.value before))))
        ≡ map (called_by (Context c) a) (lines_by a.value (if t then onto (context c.value before) (scope_block (suc (length before)) l.actor l.body (scopes_of c.value before)) else context c.value before))
    by true e =
        let same : l.actor ≡ c = sym (same_actor c l.actor (eqb-true c.value l.actor.value e)) in
        ap (λ (b : ActorNo). onto (map (called_by (Context c) a) (lines_by a.value (context c.value before))) (filter (is_by (Context c) a.value) (at_its_context (suc (length before)) b (scope_answer l.body (scopes_of b.value before))))) same
        ∙ scope_lines c a (suc (length before)) (context c.value before) (scope_answer l.body (scopes_of c.value before)) (scope_entries l.body (scopes_of c.value before))
        ∙ ap (λ (b : ActorNo). map (called_by (Context c) a) (lines_by a.value (onto (context c.value before) (scope_block (suc (length before)) b l.body (scopes_of c.value before))))) (sym same)
    by false e =
        ap (λ (ks : List Counted). onto (map (called_by (Context c) a) (lines_by a.value (context c.value before))) ks)
        (none_at_context (is_by (Context c) a.value) (suc (length before)) l.actor (ap (λ (t : Bool). t && (a.value == l.actor.value)) e) (scope_answer l.body (scopes_of l.actor.value before)))

-- a test passes its own place alone
only_transaction : (t : TxNo) (x : Place) → is_at t.value x ≡ true → x ≡ Transaction t
only_transaction t (Transaction u) e = ap (λ (v : TxNo). Transaction v) (sym (same_transaction t u (eqb-true t.value u.value e)))
only_transaction t _ e = absurd cc

only_context : (c : ActorNo) (x : Place) → is_context c.value x ≡ true → x ≡ Context c
only_context c (Context d) e = ap (λ (b : ActorNo). Context b) (sym (same_actor c d (eqb-true c.value d.value e)))
only_context c _ e = absurd cc

only_log : (x : Place) → is_log x ≡ true → x ≡ Log
only_log Log e = refl
only_log _ e = absurd cc

same_transaction_place : (t : TxNo) (x : Place) → same_place (Transaction t) x ≡ is_at t.value x
same_transaction_place t (Transaction u) = refl
same_transaction_place t _ = refl

same_context_place : (c : ActorNo) (x : Place) → same_place (Context c) x ≡ is_context c.value x
same_context_place c (Context d) = refl
same_context_place c _ = refl

same_log_place : (x : Place) → same_place Log x ≡ is_log x
same_log_place Log = refl
same_log_place _ = refl

-- So the trace is in the order on threads.
pub in_actor_order : (s : List Line) (T : List Placed) → ((t : TxNo) (a : ActorNo) → lines_by a.value (history t.value (past_of T)) ≡ lines_of (calls_at s a.value t.value))
    → ((a : ActorNo) → at_context a.value (past_of T) ≡ context a.value (past_of s)) → ((a : ActorNo) → lines_by a.value (at_log (past_of T)) ≡ lines_of (log_calls_at s a.value))
    → AreInActorOrder s T
in_actor_order s T there contexts log (Transaction t) a =
    by_place (Transaction t) (is_at t.value) (same_transaction_place t) (only_transaction t) a (past_of T)
    ∙ ap (λ (ns : List ℕ). map (called_by (Transaction t) a) ns) (there t a)
    ∙ sym (map-past (called_by (Transaction t) a) (map (λ (d : Due Call). d.line) (calls_at s a.value t.value)))
    ∙ sym (due_there s t a (past_of s))
in_actor_order s T there contexts log (Context c) a =
    by_place (Context c) (is_context c.value) (same_context_place c) (only_context c) a (past_of T)
    ∙ ap (λ (h : List Entry). map (called_by (Context c) a) (lines_by a.value h)) (contexts c)
    ∙ sym (due_at_context s c a (past_of s))
in_actor_order s T there contexts log Log a =
    by_place Log is_log same_log_place only_log a (past_of T)
    ∙ ap (λ (ns : List ℕ). map (called_by Log a) ns) (log a)
    ∙ sym (map-past (called_by Log a) (map (λ (d : Due LogCall). d.line) (log_calls_at s a.value)))
    ∙ sym (due_at_log s a (past_of s))

-- A trace with the calls of a replay is in it too.
pub replayed_in_order : (s : List Line) (T : List Placed) → calls (past_of T) ≡ due_calls s (past_of s) → AreInActorOrder s T
replayed_in_order s T e p a = ap (λ (cs : List Counted). filter (is_by p a.value) cs) e
