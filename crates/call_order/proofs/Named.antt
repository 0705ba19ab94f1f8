-- A script calls only transactions that it makes.
use Rattle.std.proofs.Common.{◌≡◌, ℕ, suc, ◌==◌, Bool, true, false, ◌||◌, List, [], ◌∷◌, ◌++◌, Option, Some, None, length, map, inl, inr, refl, ap, sym, ◌∙◌}
use Rattle.std.specs.Prelude.{if◌then◌else◌, not}
use Rattle.std.proofs.lemmas.Bool.Decides.{eqb_tells}
use Rattle.dtx_values.specs.Entered.{transaction_in}
use Rattle.dtx_values.specs.declared.call.Call.{Call}
use Rattle.dtx_values.specs.declared.call.Call.TheVariants.{Rollback as RollbackCall}
use Rattle.dtx_values.specs.declared.entry.Answer.{Answer}
use Rattle.dtx_values.specs.declared.entry.Answer.TheVariants.{Fine, Nested}
use Rattle.dtx_values.specs.declared.number.TxNo.{TxNo}
use Rattle.dtx_values.specs.declared.scope.Closed.{Closed}
use Rattle.dtx_values.specs.declared.scope.Entered.{Entered}
use Rattle.dtx_values.specs.declared.scope.Entered.TheVariants.{Made, Joined, NoTx}
use Rattle.dtx_values.specs.declared.scope.OpenScope.{OpenScope}
use Rattle.dtx_values.specs.declared.script.Body.{Body}
use Rattle.dtx_values.specs.declared.script.Body.TheVariants.{Begin, Open, Finish, Close, Volatile, Durable, Promotable, Clone, Complete, Commit, Rollback, Marshal, Status, Await, Tick, Do, Lose, Gone, Reenlist, Recovered}
use Rattle.dtx_values.specs.declared.script.Line.{Line}
use Rattle.dtx_values.specs.declared.script.Opening.TheVariants.{Required, RequiresNew, Suppress}
use Rattle.dtx_values.specs.declared.words.ScopeOption.{ScopeOption}
use Rattle.dtx_values.specs.declared.words.ScopeOption.TheVariants.{Required as RequiredOption, RequiresNew as RequiresNewOption, Suppress as SuppressOption}
use Rattle.dtx_values.specs.declared.words.Timeout.{Timeout}
use Rattle.dtx_model.specs.Calls.{call_of, clone_made, complete_call, enlistment_made, gone_call, reenlist_call, transaction_of, transaction_with}
use Rattle.dtx_model.specs.Contexts.{calls_by, closing_calls, ending_calls, entries_if, entries_of, is_fine, isolation_in, name_in, opening_calls, option_in, scope_calls, scope_entries, scopes_of, timeout_in, took_off}
use Rattle.dtx_model.specs.Grammar.{IsScript, Name, OfTransaction, connection_uses, is_made, is_named_well, makes, same_name, uses}
use Rattle.dtx_model.specs.Scopes.{ScopeEntry, Opens, Finishes, Closes, ambient, close_answer, closes, closing, closing_with, enter_answer, entering, finish_answer, finishes, is_scope, joins_or_makes, once, open_before, open_scopes, rolled_back, scope_transaction, taken_off}
use Rattle.dtx_model.specs.Words.{all_of, always, each, has, latest, onto, or_else, past_of, put}
use Rattle.dtx_model.proofs.Bools.{and_left, and_right, not_both, or_right}
use Rattle.dtx_model.proofs.Reading.{has-past}
use Rattle.history_table.proofs.Lists.{OfEach, of-map}
use Rattle.history_table.proofs.Tests.{eq_self}
use Rattle.script_calls.specs.declared.rows.Due.{Due}
use Rattle.script_calls.specs.Due.{calls_at, due_at, due_by_line, given_by}
use Rattle.script_calls.proofs.Ascending.{of-onto}

-- The transaction is made by a line of these.
abbrev IsMade : List Line → TxNo → Type 0
IsMade ls t = is_made ls (OfTransaction t.value) ≡ true

-- a line makes it, or one before
made_here : (ls : List Line) (l : Line) (t : TxNo) → has (λ m. same_name (OfTransaction t.value) m) (makes l.body) ≡ true → IsMade (l ∷ ls) t
made_here ls l t h = ap (λ (b : Bool). b || is_made ls (OfTransaction t.value)) h

made_before : (ls : List Line) (l : Line) (t : TxNo) → IsMade ls t → IsMade (l ∷ ls) t
made_before ls l t h = or_right (has (λ m. same_name (OfTransaction t.value) m) (makes l.body)) (is_made ls (OfTransaction t.value)) h

-- P holds of the transaction, where there is one
abbrev IfAny : (TxNo → Type 0) → Option TxNo → Type 0
IfAny P (Some t) = P t
IfAny P None = Unit {0}

-- P holds of the transaction that is called
abbrev OfCalled : (TxNo → Type 0) → TxNo × Call → Type 0
OfCalled P c = P c.0

-- Each scope that is open made or joined such a transaction.
abbrev OfScope : (TxNo → Type 0) → OpenScope → Type 0
OfScope P x = IfAny P (scope_transaction x)

abbrev OfOpening : (TxNo → Type 0) → ScopeEntry → Type 0
OfOpening P (Opens s x i) = IfAny P (transaction_in x)
OfOpening P _ = Unit {0}

open_of : (P : TxNo → Type 0) (behind es : List ScopeEntry) → OfEach (OfOpening P) es → OfEach (OfScope P) (open_before behind es)
open_of P behind [] h = tt
open_of P behind (Opens s x i ∷ es) h = by (has (closes s.value) behind) (has (finishes s.value) behind) (open_before (Opens s x i ∷ behind) es) (open_of P (Opens s x i ∷ behind) es h.1)
  where
    by : (closed complete : Bool) (xs : List OpenScope) → OfEach (OfScope P) xs → OfEach (OfScope P) (put (if closed then None else Some (record { scope = s; entered = x; isolation = i; complete = complete })) xs)
    by true complete xs k = k
    by false complete xs k = (h.0, k)
open_of P behind (Finishes s ∷ es) h = open_of P (Finishes s ∷ behind) es h.1
open_of P behind (Closes s ∷ es) h = open_of P (Closes s ∷ behind) es h.1

-- the ambient transaction is one
ambient_of : (P : TxNo → Type 0) (xs : List OpenScope) → OfEach (OfScope P) xs → IfAny P (ambient xs)
ambient_of P [] h = tt
ambient_of P (x ∷ xs) h = h.0

-- and so is what an opening makes or joins, where P holds of the name that it has for one
entering_of : (P : TxNo → Type 0) (o : ScopeOption) (t : Option TxNo) (xs : List OpenScope) → IfAny P t → OfEach (OfScope P) xs → IfAny P (transaction_in (entering o t xs))
entering_of P RequiredOption t xs k h = by (ambient xs) t k (ambient_of P xs h)
  where
    by : (a t : Option TxNo) → IfAny P t → IfAny P a → IfAny P (transaction_in (joins_or_makes t a))
    by (Some a) t k i = i
    by None (Some t) k i = k
    by None None k i = tt
entering_of P RequiresNewOption (Some t) xs k h = k
entering_of P RequiresNewOption None xs k h = tt
entering_of P SuppressOption t xs k h = tt

-- P holds of the name that an opening line has for a transaction
abbrev OfName : (TxNo → Type 0) → Body → Type 0
OfName P (Open s o) = IfAny P (name_in o)
OfName P _ = Unit {0}

-- The entries that a scope line makes
entries_if_of : (P : TxNo → Type 0) (b : Bool) (es : List ScopeEntry) → OfEach (OfOpening P) es → OfEach (OfOpening P) (entries_if b es)
entries_if_of P true es h = h
entries_if_of P false es h = tt

closes_of : (P : TxNo → Type 0) (xs : List OpenScope) → OfEach (OfOpening P) (map (λ x. Closes x.scope) xs)
closes_of P [] = tt
closes_of P (x ∷ xs) = (tt, closes_of P xs)

entries_line_of : (P : TxNo → Type 0) (b : Body) (xs : List OpenScope) → OfName P b → OfEach (OfScope P) xs → OfEach (OfOpening P) (scope_entries b xs)
entries_line_of P (Open s o) xs k h =
    entries_if_of P (is_fine (enter_answer (option_in o) (isolation_in o) xs)) (Opens s (entering (option_in o) (name_in o) xs) (isolation_in o) ∷ []) (entering_of P (option_in o) (name_in o) xs k h, tt)
entries_line_of P (Finish s) xs k h = entries_if_of P (is_fine (finish_answer s.value xs)) (Finishes s ∷ []) (tt, tt)
entries_line_of P (Close s) xs k h = entries_if_of P (took_off (close_answer s.value xs)) (map (λ x. Closes x.scope) (taken_off s.value xs)) (closes_of P (taken_off s.value xs))
entries_line_of P _ xs k h = tt

-- and those of all lines.
entries_of_lines : (P : TxNo → Type 0) (a : ℕ) (ls : List Line) → OfEach (λ l. OfName P l.body) ls → OfEach (OfOpening P) (entries_of a ls)
entries_of_lines P a [] h = tt
entries_of_lines P a (l ∷ before) h = by (a == l.actor.value) (entries_of_lines P a before h.1)
  where
    by : (b : Bool) → OfEach (OfOpening P) (entries_of a before)
        → OfEach (OfOpening P) (if b then onto (entries_of a before) (scope_entries l.body (open_scopes (entries_of a before))) else entries_of a before)
    by true ih =
        of-onto (OfOpening P) (entries_of a before) (scope_entries l.body (open_scopes (entries_of a before))) ih
        (entries_line_of P l.body (open_scopes (entries_of a before)) h.0 (open_of P [] (entries_of a before) ih))
    by false ih = ih

-- What a scope line calls is such a transaction too: begin of the one that it made,
opening_of : (P : TxNo → Type 0) (x : Answer) (d : Timeout) (e : Entered) → IfAny P (transaction_in e) → OfEach (OfCalled P) (opening_calls x d e)
opening_of P Fine d (Made t) h = (h, tt)
opening_of P Fine d _ h = tt
opening_of P _ d e h = tt

-- the end of the top's,
closing_top : (P : TxNo → Type 0) (complete : Bool) (e : Entered) → IfAny P (transaction_in e) → OfEach (OfCalled P) (ending_calls (closing_with complete e))
closing_top P true (Made t) h = (h, tt)
closing_top P false (Made t) h = (h, tt)
closing_top P false (Joined t) h = (h, tt)
closing_top P true (Joined t) h = tt
closing_top P true NoTx h = tt
closing_top P false NoTx h = tt

ending_of : (P : TxNo → Type 0) (xs : List OpenScope) → OfEach (OfScope P) xs → OfEach (OfCalled P) (ending_calls (closing xs))
ending_of P [] h = tt
ending_of P (x ∷ xs) h = closing_top P x.complete x.entered h.0

-- or a rollback of each of those that a nested close takes off
taken_of : (P : TxNo → Type 0) (s : ℕ) (xs : List OpenScope) → OfEach (OfScope P) xs → OfEach P (all_of scope_transaction (taken_off s xs))
taken_of P s [] h = tt
taken_of P s (x ∷ xs) h = by (is_scope s x) (taken_of P s xs h.1)
  where
    top : (o : Option TxNo) (ts : List TxNo) → IfAny P o → OfEach P ts → OfEach P (put o ts)
    top (Some t) ts k ih = (k, ih)
    top None ts k ih = ih

    by : (b : Bool) → OfEach P (all_of scope_transaction (taken_off s xs)) → OfEach P (all_of scope_transaction (if b then x ∷ [] else x ∷ taken_off s xs))
    by true ih = top (scope_transaction x) [] h.0 tt
    by false ih = top (scope_transaction x) (all_of scope_transaction (taken_off s xs)) h.0 ih

once_of : (P : TxNo → Type 0) (before ts : List TxNo) → OfEach P ts → OfEach P (once before ts)
once_of P before [] h = tt
once_of P before (t ∷ ts) h = by (has (λ u. t.value == u.value) before) (once_of P before ts h.1) (once_of P (t ∷ before) ts h.1)
  where
    by : (b : Bool) → OfEach P (once before ts) → OfEach P (once (t ∷ before) ts) → OfEach P (if b then once before ts else t ∷ once (t ∷ before) ts)
    by true i j = i
    by false i j = (h.0, j)

closing_of : (P : TxNo → Type 0) (x : Answer) (e : Closed) (ts : List TxNo) → OfEach (OfCalled P) (ending_calls e) → OfEach P ts → OfEach (OfCalled P) (closing_calls x e ts)
closing_of P Fine e ts h k = h
closing_of P (Nested u) e ts h k = of-map P (OfCalled P) (λ t. (t, RollbackCall t)) (λ t p. p) ts k
closing_of P _ e ts h k = tt

scope_calls_of : (P : TxNo → Type 0) (b : Body) (xs : List OpenScope) → OfName P b → OfEach (OfScope P) xs → OfEach (OfCalled P) (scope_calls b xs)
scope_calls_of P (Open s o) xs k h =
    opening_of P (enter_answer (option_in o) (isolation_in o) xs) (timeout_in o) (entering (option_in o) (name_in o) xs) (entering_of P (option_in o) (name_in o) xs k h)
scope_calls_of P (Close s) xs k h =
    closing_of P (close_answer s.value xs) (closing xs) (rolled_back s.value xs) (ending_of P xs h) (once_of P [] (all_of scope_transaction (taken_off s.value xs)) (taken_of P s.value xs h))
scope_calls_of P _ xs k h = tt

-- The transaction of a clone, and of an enlistment, is one that a line uses, and so one that was made.
used_first : (before : List Line) (t : TxNo) (ns : List Name) → each (λ n. is_made before n) (OfTransaction t.value ∷ ns) ≡ true → IsMade before t
used_first before t ns k = and_left (is_made before (OfTransaction t.value)) (each (λ n. is_made before n) ns) k

clone_of : (before : List Line) (c : ℕ) (b : Body) → each (λ n. is_made before n) (uses b) ≡ true → IfAny (IsMade before) (clone_made c b)
clone_of before c (Clone t d k) u = by (c == d.value)
  where
    by : (x : Bool) → IfAny (IsMade before) (if x then Some t else None)
    by true = used_first before t [] u
    by false = tt
clone_of before c _ u = tt

enlistment_of : (before : List Line) (e : ℕ) (b : Body) → each (λ n. is_made before n) (uses b) ≡ true → IfAny (IsMade before) (enlistment_made e b)
enlistment_of before e (Volatile t f o v) u = by (e == f.value)
  where
    by : (x : Bool) → IfAny (IsMade before) (if x then Some t else None)
    by true = used_first before t [] u
    by false = tt
enlistment_of before e (Durable t f r s) u = by (e == f.value)
  where
    by : (x : Bool) → IfAny (IsMade before) (if x then Some t else None)
    by true = used_first before t [] u
    by false = tt
enlistment_of before e (Promotable t f r v o p) u = by (e == f.value)
  where
    by : (x : Bool) → IfAny (IsMade before) (if x then Some t else None)
    by true = used_first before t [] u
    by false = tt
enlistment_of before e _ u = tt

-- what the newest line with an answer gives is made, where what each gives was made before it
latest_made : (f : Line → Option TxNo) → ((before : List Line) (l : Line) → is_named_well before l ≡ true → IfAny (IsMade before) (f l)) → (ls : List Line) → always is_named_well ls ≡ true
    → IfAny (IsMade ls) (latest f ls)
latest_made f each_made [] k = tt
latest_made f each_made (l ∷ ls) k =
    by (f l) (latest f ls) (each_made ls l (and_left (is_named_well ls l) (always is_named_well ls) k)) (latest_made f each_made ls (and_right (is_named_well ls l) (always is_named_well ls) k))
  where
    by : (o r : Option TxNo) → IfAny (IsMade ls) o → IfAny (IsMade ls) r → IfAny (IsMade (l ∷ ls)) (or_else o r)
    by (Some t) r h i = made_before ls l t h
    by None (Some t) h i = made_before ls l t i
    by None None h i = tt

-- The call that a line gives by its own words.
abbrev OfOwn : (TxNo → Type 0) → Option (TxNo × Call) → Type 0
OfOwn P (Some c) = P c.0
OfOwn P None = Unit {0}

-- P holds of each that it makes or uses, and of the transactions of clones and enlistments
record Allows (P : TxNo → Type 0) (s before : List Line) (b : Body) : Type 0 where
  making : (t : TxNo) → has (λ m. same_name (OfTransaction t.value) m) (makes b) ≡ true → P t
  using : (t : TxNo) → is_made before (OfTransaction t.value) ≡ true → P t
  well : each (λ n. is_made before n) (uses b) ≡ true
  clones : (c : ℕ) → IfAny P (transaction_of s c)
  enlistments : (e : ℕ) → IfAny P (transaction_with s e)

begun : (P : TxNo → Type 0) (t : TxNo) → ((u : TxNo) → has (λ m. same_name (OfTransaction u.value) m) (OfTransaction t.value ∷ []) ≡ true → P u) → P t
begun P t h = h t (ap (λ (b : Bool). b || false) (eq_self t.value))

own_of : (P : TxNo → Type 0) (s before : List Line) (b : Body) → Allows P s before b → OfOwn P (call_of s b)
own_of P s before (Begin t d) h = begun P t h.making
own_of P s before (Volatile t e o v) h = h.using t (used_first before t [] h.well)
own_of P s before (Durable t e r x) h = h.using t (used_first before t [] h.well)
own_of P s before (Promotable t e r v o p) h = h.using t (used_first before t [] h.well)
own_of P s before (Clone t c k) h = h.using t (used_first before t [] h.well)
own_of P s before (Complete c) h = by (transaction_of s c.value) (h.clones c.value)
  where
    by : (o : Option TxNo) → IfAny P o → OfOwn P (complete_call c o)
    by (Some t) k = k
    by None k = tt
own_of P s before (Commit t) h = h.using t (used_first before t [] h.well)
own_of P s before (Rollback t) h = h.using t (used_first before t [] h.well)
own_of P s before (Marshal t) h = h.using t (used_first before t [] h.well)
own_of P s before (Status t) h = h.using t (used_first before t [] h.well)
own_of P s before (Await t) h = h.using t (used_first before t [] h.well)
own_of P s before (Tick t n) h = h.using t (used_first before t [] h.well)
own_of P s before (Do t k n) h = h.using t (used_first before t [] h.well)
own_of P s before (Lose t c up down) h = h.using t (used_first before t (connection_uses c) h.well)
own_of P s before (Gone e) h = by (transaction_with s e.value) (h.enlistments e.value)
  where
    by : (o : Option TxNo) → IfAny P o → OfOwn P (gone_call e o)
    by (Some t) k = k
    by None k = tt
own_of P s before (Reenlist e) h = by (transaction_with s e.value) (h.enlistments e.value)
  where
    by : (o : Option TxNo) → IfAny P o → OfOwn P (reenlist_call e o)
    by (Some t) k = k
    by None k = tt
own_of P s before (Recovered t r) h = h.using t (used_first before t [] h.well)
own_of P s before _ h = tt

-- An opening line makes the transaction that it has a name for.
opening_named : (P : TxNo → Type 0) (b : Body) → ((t : TxNo) → has (λ m. same_name (OfTransaction t.value) m) (makes b) ≡ true → P t) → OfName P b
opening_named P (Open s (Required t d i)) h = begun P t h
opening_named P (Open s (RequiresNew t d i)) h = begun P t h
opening_named P (Open s Suppress) h = tt
opening_named P _ h = tt

names_of : (P : TxNo → Type 0) (ls : List Line) → ((t : TxNo) → IsMade ls t → P t) → OfEach (λ l. OfName P l.body) ls
names_of P [] h = tt
names_of P (l ∷ ls) h = (opening_named P l.body (λ t k. h t (made_here ls l t k)), names_of P ls (λ t k. h t (made_before ls l t k)))

-- None of calls of other transactions is due there.
none_due : (t : ℕ) (n : ℕ) (cs : List (TxNo × Call)) → OfEach (OfCalled (λ u. (t == u.value) ≡ false)) cs → all_of (due_at t n) cs ≡ []
none_due t n [] h = refl
none_due t n (c ∷ cs) h = ap (λ (b : Bool). put (if b then Some (record { line = n; call = c.1 }) else None) (all_of (due_at t n) cs)) h.0 ∙ none_due t n cs h.1

line_gives_none : (s : List Line) (a t : ℕ) (before : List Line) (l : Line) → OfEach (OfCalled (λ u. (t == u.value) ≡ false)) (calls_by s before l) → due_by_line s a t before l ≡ []
line_gives_none s a t before l h = by (a == l.actor.value)
  where
    by : (b : Bool) → (if b then all_of (due_at t (suc (length before))) (calls_by s before l) else []) ≡ []
    by true = none_due t (suc (length before)) (calls_by s before l) h
    by false = refl

put_of : (P : TxNo → Type 0) (o : Option (TxNo × Call)) (cs : List (TxNo × Call)) → OfOwn P o → OfEach (OfCalled P) cs → OfEach (OfCalled P) (put o cs)
put_of P (Some c) cs h k = (h, k)
put_of P None cs h k = k

none_given : (s : List Line) (a t : ℕ) → ((c : ℕ) → IfAny (λ u. (t == u.value) ≡ false) (transaction_of s c)) → ((e : ℕ) → IfAny (λ u. (t == u.value) ≡ false) (transaction_with s e))
    → (ls : List Line) → ((u : TxNo) → IsMade ls u → (t == u.value) ≡ false) → always is_named_well ls ≡ true → given_by (due_by_line s a t) ls ≡ []
none_given s a t clones enlistments [] apart named = refl
none_given s a t clones enlistments (l ∷ before) apart named =
    let P : TxNo → Type 0 = λ u. (t == u.value) ≡ false in
    let earlier : (u : TxNo) → IsMade before u → P u = λ u k. apart u (made_before before l u k) in
    let here : (u : TxNo) → has (λ m. same_name (OfTransaction u.value) m) (makes l.body) ≡ true → P u = λ u k. apart u (made_here before l u k) in
    let well = and_left (is_named_well before l) (always is_named_well before) named in
    let uses_made = and_right (each (λ n. not (is_made before n)) (makes l.body)) (each (λ n. is_made before n) (uses l.body)) well in
    let scopes = open_of P [] (entries_of l.actor.value before) (entries_of_lines P l.actor.value before (names_of P before earlier)) in
    let own = own_of P s before l.body (record { making = here; using = earlier; well = uses_made; clones = clones; enlistments = enlistments }) in
    let given = put_of P (call_of s l.body) (scope_calls l.body (scopes_of l.actor.value before)) own (scope_calls_of P l.body (scopes_of l.actor.value before) (opening_named P l.body here) scopes) in
    ap (λ (ds : List (Due Call)). given_by (due_by_line s a t) before ++ ds) (line_gives_none s a t before l given)
    ∙ ap (λ (ds : List (Due Call)). ds ++ []) (none_given s a t clones enlistments before earlier (and_right (is_named_well before l) (always is_named_well before) named))

-- So a transaction that no line makes has no call.
pub unnamed_uncalled : (s : List Line) (t : ℕ) → IsScript s → is_made s (OfTransaction t) ≡ false → (a : ℕ) → calls_at s a t ≡ []
unnamed_uncalled s t script unmade a = none_given s a t clones enlistments (past_of s) apart script.named
  where
    apart : (u : TxNo) → IsMade (past_of s) u → (t == u.value) ≡ false
    apart u k = elim (eqb_tells t u.value) [
      | inl e ↦ absurd (not_both (is_made s (OfTransaction t)) (ap (λ n. is_made s (OfTransaction n)) e.1 ∙ sym (has-past (λ (l : Line). has (λ m. same_name (OfTransaction u.value) m) (makes l.body)) s) ∙ k) unmade)
      | inr e ↦ e.0
    ]

    if_apart : (o : Option TxNo) → IfAny (IsMade (past_of s)) o → IfAny (λ u. (t == u.value) ≡ false) o
    if_apart (Some u) k = apart u k
    if_apart None k = tt

    uses_made : (before : List Line) (l : Line) → is_named_well before l ≡ true → each (λ n. is_made before n) (uses l.body) ≡ true
    uses_made before l w = and_right (each (λ n. not (is_made before n)) (makes l.body)) (each (λ n. is_made before n) (uses l.body)) w

    clones : (c : ℕ) → IfAny (λ u. (t == u.value) ≡ false) (transaction_of s c)
    clones c = if_apart (transaction_of s c) (latest_made (λ l. clone_made c l.body) (λ before l w. clone_of before c l.body (uses_made before l w)) (past_of s) script.named)

    enlistments : (e : ℕ) → IfAny (λ u. (t == u.value) ≡ false) (transaction_with s e)
    enlistments e = if_apart (transaction_with s e) (latest_made (λ l. enlistment_made e l.body) (λ before l w. enlistment_of before e l.body (uses_made before l w)) (past_of s) script.named)
