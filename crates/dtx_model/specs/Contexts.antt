-- What a script's lines do at the contexts of their actors: one context for each actor. No answer of a context depends on a
-- transaction's state, so its entries are a function of the script.
use Rattle.std.specs.Prelude.{ℕ, suc, ◌-◌, ◌==◌, Bool, true, false, List, [], ◌∷◌, length, map, take, Option, Some, None, if◌then◌else◌}
use Rattle.dtx_values.specs.declared.call.Call.{Call}
use Rattle.dtx_values.specs.declared.call.Call.TheVariants.{Begin as BeginCall, Commit as CommitCall, Rollback as RollbackCall}
use Rattle.dtx_values.specs.declared.entry.Answer.{Answer}
use Rattle.dtx_values.specs.declared.entry.Answer.TheVariants.{Fine, Nested}
use Rattle.dtx_values.specs.declared.entry.Entry.{Entry}
use Rattle.dtx_values.specs.declared.entry.Entry.TheVariants.{Called, Scope}
use Rattle.dtx_values.specs.declared.entry.ScopeNote.TheVariants.{Opened, Finished, Closed as ClosedNote}
use Rattle.dtx_values.specs.declared.number.ActorNo.{ActorNo}
use Rattle.dtx_values.specs.declared.number.TxNo.{TxNo}
use Rattle.dtx_values.specs.declared.scope.Closed.{Closed}
use Rattle.dtx_values.specs.declared.scope.Closed.TheVariants.{Commit, Rollback, Nothing}
use Rattle.dtx_values.specs.declared.scope.Entered.{Entered}
use Rattle.dtx_values.specs.declared.scope.Entered.TheVariants.{Made}
use Rattle.dtx_values.specs.declared.scope.OpenScope.{OpenScope}
use Rattle.dtx_values.specs.declared.script.Body.{Body}
use Rattle.dtx_values.specs.declared.script.Body.TheVariants.{Open, Finish, Close, Current}
use Rattle.dtx_values.specs.declared.script.Line.{Line}
use Rattle.dtx_values.specs.declared.script.Opening.{Opening}
use Rattle.dtx_values.specs.declared.script.Opening.TheVariants.{Required as OpenRequired, RequiresNew as OpenNew, Suppress as OpenSuppress}
use Rattle.dtx_values.specs.declared.words.Iso.{Iso}
use Rattle.dtx_values.specs.declared.words.Iso.TheVariants.{Serializable, Unspecified}
use Rattle.dtx_values.specs.declared.words.IsoWord.{IsoWord}
use Rattle.dtx_values.specs.declared.words.IsoWord.TheVariants.{Default, Level}
use Rattle.dtx_values.specs.declared.words.ScopeOption.{ScopeOption}
use Rattle.dtx_values.specs.declared.words.ScopeOption.TheVariants.{Required, RequiresNew, Suppress}
use Rattle.dtx_values.specs.declared.words.Timeout.{Timeout}
use Rattle.dtx_values.specs.declared.words.Timeout.TheVariants.{Default as DefaultTimeout}
use Rattle.dtx_model.specs.Words.{onto, past_of, put}
use Rattle.dtx_values.specs.Entered.{transaction_in}
use Rattle.dtx_model.specs.Scopes.{ScopeEntry, Opens, Finishes, Closes, open_scopes, entering, enter_answer, finish_answer, current_answer, close_answer, closing, taken_off, rolled_back}
use Rattle.dtx_model.specs.Calls.{call_of}

-- the option, the name for a transaction, its timeout, and the isolation that an `open` writes; `default` asks for Serializable
abbrev pub option_in : Opening → ScopeOption
option_in (OpenRequired t d i) = Required
option_in (OpenNew t d i) = RequiresNew
option_in OpenSuppress = Suppress

abbrev pub name_in : Opening → Option TxNo
name_in (OpenRequired t d i) = Some t
name_in (OpenNew t d i) = Some t
name_in OpenSuppress = None

abbrev pub timeout_in : Opening → Timeout
timeout_in (OpenRequired t d i) = d
timeout_in (OpenNew t d i) = d
timeout_in OpenSuppress = DefaultTimeout

abbrev pub asked_by : IsoWord → Iso
asked_by Default = Serializable
asked_by (Level i) = i

abbrev pub isolation_in : Opening → Iso
isolation_in (OpenRequired t d i) = asked_by i
isolation_in (OpenNew t d i) = asked_by i
isolation_in OpenSuppress = Unspecified

-- the answer of a scope line, where these scopes are open; other lines have none here
abbrev pub scope_answer : Body → List OpenScope → Option Answer
scope_answer (Open s o) xs = Some (enter_answer (option_in o) (isolation_in o) xs)
scope_answer (Finish s) xs = Some (finish_answer s.value xs)
scope_answer (Close s) xs = Some (close_answer s.value xs)
scope_answer Current xs = Some (current_answer xs)
scope_answer _ xs = None

abbrev pub is_fine : Answer → Bool
is_fine Fine = true
is_fine _ = false

-- the entries where it was answered ok
abbrev pub entries_if : Bool → List ScopeEntry → List ScopeEntry
entries_if true es = es
entries_if false es = []

-- a close took scopes off: also where it was nested wrongly
abbrev pub took_off : Answer → Bool
took_off Fine = true
took_off (Nested u) = true
took_off _ = false

-- the entries that a scope line makes at its context: `opened`, `finished`, or a `closed` for each scope taken off, the top first
abbrev pub scope_entries : Body → List OpenScope → List ScopeEntry
scope_entries (Open s o) xs = entries_if (is_fine (enter_answer (option_in o) (isolation_in o) xs)) (Opens s (entering (option_in o) (name_in o) xs) (isolation_in o) ∷ [])
scope_entries (Finish s) xs = entries_if (is_fine (finish_answer s.value xs)) (Finishes s ∷ [])
scope_entries (Close s) xs = entries_if (took_off (close_answer s.value xs)) (map (λ x. Closes x.scope) (taken_off s.value xs))
scope_entries _ xs = []

-- the call that opening gives the transaction that was made
abbrev pub begin_calls : Timeout → Entered → List (TxNo × Call)
begin_calls d (Made t) = (t, BeginCall t d) ∷ []
begin_calls d _ = []

abbrev pub opening_calls : Answer → Timeout → Entered → List (TxNo × Call)
opening_calls Fine d x = begin_calls d x
opening_calls _ d x = []

abbrev pub ending_calls : Closed → List (TxNo × Call)
ending_calls (Commit t) = (t, CommitCall t) ∷ []
ending_calls (Rollback t) = (t, RollbackCall t) ∷ []
ending_calls Nothing = []

abbrev pub closing_calls : Answer → Closed → List TxNo → List (TxNo × Call)
closing_calls Fine x ts = ending_calls x
closing_calls (Nested u) x ts = map (λ t. (t, RollbackCall t)) ts
closing_calls _ x ts = []

-- the calls that a scope line gives transactions: begin of the one that was made, commit or rollback at the close, and a rollback for
-- each transaction of a nested close
abbrev pub scope_calls : Body → List OpenScope → List (TxNo × Call)
scope_calls (Open s o) xs = opening_calls (enter_answer (option_in o) (isolation_in o) xs) (timeout_in o) (entering (option_in o) (name_in o) xs)
scope_calls (Close s) xs = closing_calls (close_answer s.value xs) (closing xs) (rolled_back s.value xs)
scope_calls _ xs = []

-- the entries of actor a's context behind these lines, which stand newest first
abbrev pub entries_of : ℕ → List Line → List ScopeEntry
entries_of a [] = []
entries_of a (l ∷ before) =
    if a == l.actor.value then onto (entries_of a before) (scope_entries l.body (open_scopes (entries_of a before))) else entries_of a before

-- the scopes that are open in it
abbrev pub scopes_of : ℕ → List Line → List OpenScope
scopes_of a before = open_scopes (entries_of a before)

-- an entry of a context, as the trace writes it
abbrev pub written : ScopeEntry → Entry
written (Opens s x i) = Scope (Opened s (transaction_in x))
written (Finishes s) = Scope (Finished s)
written (Closes s) = Scope (ClosedNote s)

abbrev pub called_with : ℕ → ActorNo → Option Answer → List ScopeEntry → List Entry
called_with n a (Some x) es = Called n a x ∷ map written es
called_with n a None es = []

-- what line n, a scope line, writes at its context where these scopes are open: its call, and its entries; other lines write nothing there
abbrev pub scope_block : ℕ → ActorNo → Body → List OpenScope → List Entry
scope_block n a b xs = called_with n a (scope_answer b xs) (scope_entries b xs)

-- Scopes: what stands at actor a's context behind these lines, newest first
abbrev pub context : ℕ → List Line → List Entry
context a [] = []
context a (l ∷ before) =
    if a == l.actor.value then onto (context a before) (scope_block (suc (length before)) l.actor l.body (scopes_of a before)) else context a before

-- the lines before line n, newest first
abbrev pub lines_before : List Line → ℕ → List Line
lines_before s n = past_of (take (n - 1) s)

-- the calls that a line gives transactions, where these lines stand before it: one by its own words, or those of a scope line
abbrev pub calls_by : List Line → List Line → Line → List (TxNo × Call)
calls_by s before l = put (call_of s l.body) (scope_calls l.body (scopes_of l.actor.value before))
