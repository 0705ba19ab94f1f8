-- The contexts of a run have the scopes that its lines leave open.
use Rattle.std.proofs.Common.{◌≡◌, ◌≢◌, ℕ, zero, suc, ◌+◌, ◌-◌, ◌<◌, ◌==◌, Bool, true, false, ◌||◌, List, [], ◌∷◌, ◌++◌, length, map, Option, Some, None, slice_get, get_or, set, take, replicate, refl, ap, sym, ◌∙◌, subst, arith, inl, inr}
use Rattle.std.specs.Prelude.{not, if◌then◌else◌}
use Rattle.std.proofs.lemmas.Bool.Decides.{eqb_tells}
use Rattle.std.proofs.lemmas.List.{get_or-set_same, get_or-replicate, length-replicate, map-append, take_more}
use Rattle.std.proofs.lemmas.Option.{slice_get-get_or}
use Rattle.std.proofs.Math.ListN.{length-set}
use Rattle.dtx_values.specs.declared.call.Call.{Call}
use Rattle.dtx_values.specs.declared.call.Call.TheVariants.{Rollback as RollbackCall}
use Rattle.dtx_values.specs.declared.entry.Answer.{Answer}
use Rattle.dtx_values.specs.declared.entry.Entry.{Entry}
use Rattle.dtx_values.specs.declared.number.ActorNo.{ActorNo}
use Rattle.dtx_values.specs.declared.number.ScopeNo.{ScopeNo}
use Rattle.dtx_values.specs.declared.number.TxNo.{TxNo}
use Rattle.dtx_values.specs.declared.scope.OpenScope.{OpenScope}
use Rattle.dtx_values.specs.declared.script.Body.{Body}
use Rattle.dtx_values.specs.declared.script.Body.TheVariants.{Open, Finish, Close, Current}
use Rattle.dtx_values.specs.declared.script.Line.{Line}
use Rattle.dtx_model.specs.Words.{always, has, each, onto, past_of, put}
use Rattle.dtx_model.specs.Scopes.{ScopeEntry, Opens, Finishes, Closes, close_answer, closes, finish_answer, enter_answer, entering, finishes, is_scope, open_before, open_scopes, taken_off}
use Rattle.dtx_model.specs.Contexts.{called_with, entries_if, entries_of, isolation_in, name_in, option_in, scope_answer, scope_block, scope_calls, scope_entries, scopes_of, took_off, is_fine}
use Rattle.dtx_model.specs.Grammar.{OfScope, are_named_well, is_made, is_named_well, makes, opening_makes, same_name, uses}
use Rattle.dtx_model.specs.Traces.{Placed, noted}
use Rattle.dtx_model.specs.Replay.{after_calls, after_scope, after_turn}
use Rattle.dtx_model.specs.Calls.{call_of}
use Rattle.dtx_model.specs.Steps.{Calls}
use Rattle.dtx_model.proofs.Bools.{and_left, not_both, not_true, or_case, or_right}
use Rattle.dtx_model.proofs.Histories.{onto-append}
use Rattle.dtx_model.proofs.Pasts.{always-before}
use Rattle.dtx_model.proofs.Prefixes.{past-more}
use Rattle.dtx_model.proofs.Reading.{has-onto}
use Rattle.scope_context.specs.Standing.{Standing}
use Rattle.script_calls.specs.Scoped.{AreOpen, IsUnopened, context_at, nothing_open, rollbacks, rolled_at, rolled_in, scopes_at, scopes_in}
use Rattle.script_calls.proofs.Scoping.{no_scope_line}

-- a write leaves the other places alone
slice_get-set_other : {X : Type 0} (xs : List X) (i j : ℕ) (x : X) → j ≢ i → slice_get (set xs i x) j ≡ slice_get xs j
slice_get-set_other [] i j x k = refl
slice_get-set_other (y ∷ ys) zero zero x k = absurd (k refl)
slice_get-set_other (y ∷ ys) zero (suc j) x k = refl
slice_get-set_other (y ∷ ys) (suc i) zero x k = refl
slice_get-set_other (y ∷ ys) (suc i) (suc j) x k = slice_get-set_other ys i j x (λ e. k (ap suc e))

-- before the first line nothing is open
pub open_none : AreOpen (replicate 16 nothing_open) []
open_none a =
    let k : a.value - 1 < 16 = omega (arith, a.in_range.1) in
    ap scopes_in
    (slice_get-get_or {X = Standing} (replicate 16 nothing_open) (a.value - 1) nothing_open (subst (λ n. a.value - 1 < n) (sym (length-replicate {A = Standing} 16 nothing_open)) k)
    ∙ ap Some (get_or-replicate {A = Standing} 16 (a.value - 1) nothing_open nothing_open k))

-- after a line the contexts have the scopes that it leaves open too, where its actor's has those that its entries leave
pub open_after : (cs : List Standing) (before : List Line) (l : Line) (new : Standing) → length cs ≡ 16
    → ((es : List ScopeEntry) → open_scopes es ≡ scopes_at l.actor cs → open_scopes (onto es (scope_entries l.body (scopes_at l.actor cs))) ≡ new.scopes)
    → AreOpen cs before → AreOpen (set cs (l.actor.value - 1) new) (l ∷ before)
open_after cs before l new long behind ties a =
    let i = l.actor.value - 1 in
    let within : i < length cs = rw long (omega (arith, l.actor.in_range.0, l.actor.in_range.1)) in
    let es = entries_of a.value before in
    elim (eqb_tells a.value l.actor.value) [
      | inl k ↦
          let here : scopes_at a cs ≡ scopes_at l.actor cs = ap (λ n. scopes_in (slice_get cs (n - 1))) k.1 in
          let found : scopes_at a (set cs i new) ≡ new.scopes =
          ap (λ n. scopes_in (slice_get (set cs i new) (n - 1))) k.1
          ∙ ap scopes_in (slice_get-get_or (set cs i new) i new (rw length-set within) ∙ ap Some (get_or-set_same cs i new new within)) in
          let tie : open_scopes es ≡ scopes_at l.actor cs = sym (ties a) ∙ here in
          let left : open_scopes (onto es (scope_entries l.body (open_scopes es))) ≡ new.scopes =
          ap (λ (xs : List OpenScope). open_scopes (onto es (scope_entries l.body xs))) tie ∙ behind es tie in
          found ∙ sym left ∙ sym (ap (λ b. open_scopes (if b then onto es (scope_entries l.body (open_scopes es)) else es)) k.0)
      | inr k ↦
          let apart : a.value - 1 ≢ i = λ d. k.1 (omega (arith, d, a.in_range.0, l.actor.in_range.0)) in
          ap scopes_in (slice_get-set_other cs i (a.value - 1) new apart) ∙ ties a ∙ sym (ap (λ b. open_scopes (if b then onto es (scope_entries l.body (open_scopes es)) else es)) k.0)
    ]

-- a line that isn't answered at a context leaves the scopes as they are
pub open_same : (cs : List Standing) (before : List Line) (l : Line) → ((xs : List OpenScope) → scope_answer l.body xs ≡ None) → AreOpen cs before → AreOpen cs (l ∷ before)
open_same cs before l none ties a =
    let es = entries_of a.value before in
    let entries : scope_entries l.body (open_scopes es) ≡ [] = (no_scope_line l.body (open_scopes es) (none (open_scopes es))).0 in
    ties a ∙ sym (step (a.value == l.actor.value) es (scope_entries l.body (open_scopes es)) entries)
  where
    step : (b : Bool) (es xs : List ScopeEntry) → xs ≡ [] → open_scopes (if b then onto es xs else es) ≡ open_scopes es
    step true es xs e = ap (λ (ys : List ScopeEntry). open_scopes (onto es ys)) e
    step false es xs e = refl

-- a line with a call of its own isn't answered at a context
pub no_scope_call : (s : List Line) (b : Body) (c : TxNo × Call) (xs : List OpenScope) → call_of s b ≡ Some c → scope_answer b xs ≡ None
no_scope_call s (Open u o) c xs e = absurd (cc)
no_scope_call s (Finish u) c xs e = absurd (cc)
no_scope_call s (Close u) c xs e = absurd (cc)
no_scope_call s Current c xs e = absurd (cc)
no_scope_call s _ c xs e = refl

-- after a line that isn't answered at a context the trace is the same
pub after_scope-none : (s : List Line) (n : ℕ) (l : Line) (xs : List OpenScope) (T : List Placed) → scope_answer l.body xs ≡ None → after_scope s n l xs T ≡ T
after_scope-none s n l xs T none =
    let block : scope_block n l.actor l.body xs ≡ [] = ap (λ (a : Option Answer). called_with n l.actor a (scope_entries l.body xs)) none in
    let given : scope_calls l.body xs ≡ [] = (no_scope_line l.body xs none).1 in
    ap (λ (cs : List (TxNo × Call)). after_calls s n l.actor cs (onto T (noted l.actor (scope_block n l.actor l.body xs)))) given
    ∙ ap (λ (es : List Entry). onto T (noted l.actor es)) block

-- calls in a row, and one more
pub after_calls-more : (s : List Line) (n : ℕ) (a : ActorNo) (cs ds : List (TxNo × Call)) (T : List Placed) → after_calls s n a (cs ++ ds) T ≡ after_calls s n a ds (after_calls s n a cs T)
after_calls-more s n a [] ds T = refl
after_calls-more s n a (c ∷ cs) ds T = after_calls-more s n a cs ds _

-- rollbacks in a row, and one more
pub rolled_more : (s : List Line) (n : ℕ) (a : ActorNo) (ts : List TxNo) (i : ℕ) (t : TxNo) (start old new : List Placed) → i < length ts → t ≡ get_or ts i t
    → old ≡ after_calls s n a (rollbacks (take i ts)) start → new ≡ after_turn s t (Calls n a (RollbackCall t) 0) old → new ≡ after_calls s n a (rollbacks (take (i + 1) ts)) start
rolled_more s n a ts i t start old new less here ran did =
    let one = (t, RollbackCall t) ∷ [] in
    let front : rollbacks (take (i + 1) ts) ≡ rollbacks (take i ts) ++ one =
    ap rollbacks (take_more ts i t less ∙ ap (λ (u : TxNo). take i ts ++ u ∷ []) (sym here)) ∙ map-append (λ (u : TxNo). (u, RollbackCall u)) (take i ts) (t ∷ []) in
    did ∙ ap (λ (T : List Placed). after_turn s t (Calls n a (RollbackCall t) 0) T) ran ∙ sym (after_calls-more s n a (rollbacks (take i ts)) one start)
    ∙ ap (λ (cs : List (TxNo × Call)). after_calls s n a cs start) (sym front)

-- the context at the place of its actor
pub context_here : (cs : List Standing) (a : ActorNo) (i : ℕ) (c : Standing) → length cs ≡ 16 → i + 1 ≡ a.value → c ≡ get_or cs i c → context_at a cs ≡ Some c
context_here cs a i c long place here =
    let within : a.value - 1 < length cs = rw long (omega (arith, a.in_range.0, a.in_range.1)) in
    let same : a.value - 1 ≡ i = omega (arith, place) in
    slice_get-get_or {X = Standing} cs (a.value - 1) c within ∙ ap Some (ap (λ n. get_or cs n c) same ∙ sym here)

-- and what it is to roll back
pub rolled_here : (ds cs : List Standing) (a : ActorNo) (i : ℕ) (c : Standing) (ts : List TxNo) → length ds ≡ 16 → i + 1 ≡ a.value → c ≡ get_or ds i c → ts ≡ c.rolled → ds ≡ cs → ts ≡ rolled_at a cs
rolled_here ds cs a i c ts long place here is same = is ∙ (ap rolled_in (sym (context_here ds a i c long place here)) ∙ ap (λ (es : List Standing). rolled_at a es) same)

-- and the context that was put there
pub context_put : (cs : List Standing) (a : ActorNo) (i : ℕ) (c : Standing) → length cs ≡ 16 → i + 1 ≡ a.value → context_at a (set cs i c) ≡ Some c
context_put cs a i c long place =
    let within : a.value - 1 < length cs = rw long (omega (arith, a.in_range.0, a.in_range.1)) in
    let same : i ≡ a.value - 1 = omega (arith, place) in
    ap (λ n. slice_get (set cs n c) (a.value - 1)) same
    ∙ slice_get-get_or (set cs (a.value - 1) c) (a.value - 1) c (rw length-set within) ∙ ap Some (get_or-set_same cs (a.value - 1) c c within)

-- the entry opens this scope
abbrev opens : ℕ → ScopeEntry → Bool
opens s (Opens u x i) = s == u.value
opens s _ = false

-- an open scope was opened
open_was_opened : (s : ℕ) (behind es : List ScopeEntry) → has (is_scope s) (open_before behind es) ≡ true → has (opens s) es ≡ true
open_was_opened s behind [] h = h
open_was_opened s behind (Opens u x i ∷ es) h =
    step (has (closes u.value) behind) (has (finishes u.value) behind) (open_before (Opens u x i ∷ behind) es) h (open_was_opened s (Opens u x i ∷ behind) es)
  where
    step : (closed complete : Bool) (xs : List OpenScope) → has (is_scope s) (put (if closed then None else Some (record { scope = u; entered = x; isolation = i; complete = complete })) xs) ≡ true
        → (has (is_scope s) xs ≡ true → has (opens s) es ≡ true) → ((s == u.value) || has (opens s) es) ≡ true
    step true complete xs h ih = or_right (s == u.value) (has (opens s) es) (ih h)
    step false complete xs h ih = or_case (s == u.value) (has (is_scope s) xs) (λ e. rw e refl) (λ e. or_right (s == u.value) (has (opens s) es) (ih e)) h
open_was_opened s behind (Finishes u ∷ es) h = open_was_opened s (Finishes u ∷ behind) es h
open_was_opened s behind (Closes u ∷ es) h = open_was_opened s (Closes u ∷ behind) es h

-- the entries of a close open no scope
no_closed_opens : (s : ℕ) (b : Bool) (xs : List OpenScope) → has (opens s) (entries_if b (map (λ x. Closes x.scope) xs)) ≡ false
no_closed_opens s true [] = refl
no_closed_opens s true (x ∷ xs) = no_closed_opens s true xs
no_closed_opens s false xs = refl

-- a line among whose entries one opens a scope makes it
entries_make : (s : ℕ) (b : Body) (xs : List OpenScope) → has (opens s) (scope_entries b xs) ≡ true → has (λ m. same_name (OfScope s) m) (makes b) ≡ true
entries_make s (Open u o) xs h = step (is_fine (enter_answer (option_in o) (isolation_in o) xs)) h
  where
    step : (b : Bool) → has (opens s) (entries_if b (Opens u (entering (option_in o) (name_in o) xs) (isolation_in o) ∷ [])) ≡ true
        → ((s == u.value) || has (λ m. same_name (OfScope s) m) (opening_makes o)) ≡ true
    step true h = or_case (s == u.value) false (λ e. rw e refl) (λ e. absurd (cc)) h
    step false h = absurd (cc)
entries_make s (Finish u) xs h = step (is_fine (finish_answer u.value xs)) h
  where
    step : (b : Bool) → has (opens s) (entries_if b (Finishes u ∷ [])) ≡ true → false ≡ true
    step true h = h
    step false h = h
entries_make s (Close u) xs h = absurd (not_both _ h (no_closed_opens s (took_off (close_answer u.value xs)) (taken_off u.value xs)))
entries_make s _ xs h = absurd (cc)

-- a scope that an entry of a context opens was made by a line
opened_was_made : (s a : ℕ) (before : List Line) → has (opens s) (entries_of a before) ≡ true → is_made before (OfScope s) ≡ true
opened_was_made s a [] h = h
opened_was_made s a (l ∷ before) h = step (a == l.actor.value) h (opened_was_made s a before)
  where
    step : (b : Bool) → has (opens s) (if b then onto (entries_of a before) (scope_entries l.body (open_scopes (entries_of a before))) else entries_of a before) ≡ true
        → (has (opens s) (entries_of a before) ≡ true → is_made before (OfScope s) ≡ true)
        → (has (λ m. same_name (OfScope s) m) (makes l.body) || is_made before (OfScope s)) ≡ true
    step true h ih =
        let es = entries_of a before in
        let xs = scope_entries l.body (open_scopes es) in
        or_case (has (opens s) xs) (has (opens s) es) (λ e. rw (entries_make s l.body (open_scopes es) e) refl) (λ e. or_right _ _ (ih e)) (sym (has-onto (opens s) es xs) ∙ h)
    step false h ih = or_right _ _ (ih h)

-- what holds of each line of a script with those before it holds of one of them
always-here : (p : List Line → Line → Bool) (s xs ys : List Line) (l : Line) → s ≡ xs ++ l ∷ ys → always p (past_of s) ≡ true → p (past_of xs) l ≡ true
always-here p s xs ys l split k =
    let before = past_of xs in
    let all : always p (onto (l ∷ before) ys) ≡ true = ap (λ (h : List Line). always p h) (sym (ap past_of split ∙ onto-append [] xs (l ∷ ys))) ∙ k in
    and_left (p before l) (always p before) (always-before p (l ∷ before) ys all)

-- a name that a line of a script makes wasn't made before it
not_made : (s xs ys : List Line) (l : Line) → s ≡ xs ++ l ∷ ys → are_named_well s ≡ true → each (λ n. not (is_made (past_of xs) n)) (makes l.body) ≡ true
not_made s xs ys l split named =
    let before = past_of xs in
    and_left (each (λ n. not (is_made before n)) (makes l.body)) (each (λ n. is_made before n) (uses l.body)) (always-here is_named_well s xs ys l split named)

-- a scope that a line of a script opens isn't open already
pub unopened : (s xs ys : List Line) (l : Line) (cs : List Standing) → s ≡ xs ++ l ∷ ys → are_named_well s ≡ true → AreOpen cs (past_of xs) → IsUnopened l.body (scopes_at l.actor cs)
unopened s xs ys l cs split named ties = by_body l.body (scopes_at l.actor cs) (ties l.actor) (not_made s xs ys l split named)
  where
    step : (u : ScopeNo) (found : List OpenScope) (b : Bool) → has (is_scope u.value) found ≡ b → found ≡ scopes_of l.actor.value (past_of xs) → is_made (past_of xs) (OfScope u.value) ≡ false
        → has (is_scope u.value) found ≡ false
    step u found false e tie none = e
    step u found true e tie none =
        let stands : has (is_scope u.value) (open_scopes (entries_of l.actor.value (past_of xs))) ≡ true = ap (λ (ys : List OpenScope). has (is_scope u.value) ys) (sym tie) ∙ e in
        absurd (not_both _ (opened_was_made u.value l.actor.value (past_of xs) (open_was_opened u.value [] (entries_of l.actor.value (past_of xs)) stands)) none)

    by_body : (b : Body) (found : List OpenScope) → found ≡ scopes_of l.actor.value (past_of xs) → each (λ n. not (is_made (past_of xs) n)) (makes b) ≡ true → IsUnopened b found
    by_body (Open u o) found tie none =
        step u found (has (is_scope u.value) found) refl tie
        (not_true (is_made (past_of xs) (OfScope u.value)) (and_left (not (is_made (past_of xs) (OfScope u.value))) (each (λ n. not (is_made (past_of xs) n)) (opening_makes o)) none))
    by_body _ found tie none = tt

-- the lines before, and one more
pub past_next : (lines : List Line) (i : ℕ) (l : Line) → i < length lines → l ≡ get_or lines i l → past_of (take (i + 1) lines) ≡ l ∷ past_of (take i lines)
past_next lines i l less here = past-more lines i l less ∙ ap (λ (m : Line). m ∷ past_of (take i lines)) (sym here)
