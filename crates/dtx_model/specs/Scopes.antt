-- The scopes of one context, as its entries show them. The entries are read newest first.
use Rattle.std.specs.Prelude.{ℕ, ◌==◌, nat_le, Bool, true, false, ◌&&◌, ◌||◌, not, List, [], ◌∷◌, length, map, Option, Some, None, if◌then◌else◌}
use Rattle.dtx_values.specs.declared.entry.Answer.{Answer}
use Rattle.dtx_values.specs.declared.entry.Answer.TheVariants.{Fine, Already, Deep, Isolation, NoScope, Nested, Ambient}
use Rattle.dtx_values.specs.declared.limits.TheConstants.{SCOPES}
use Rattle.dtx_values.specs.declared.number.ScopeNo.{ScopeNo}
use Rattle.dtx_values.specs.declared.number.TxNo.{TxNo}
use Rattle.dtx_values.specs.declared.scope.Closed.{Closed}
use Rattle.dtx_values.specs.declared.scope.Closed.TheVariants.{Commit, Rollback, Nothing}
use Rattle.dtx_values.specs.declared.scope.Entered.{Entered}
use Rattle.dtx_values.specs.declared.scope.Entered.TheVariants.{Made, Joined, NoTx}
use Rattle.dtx_values.specs.declared.scope.OpenScope.{OpenScope}
use Rattle.dtx_values.specs.declared.words.Iso.{Iso}
use Rattle.dtx_values.specs.declared.words.Iso.TheVariants.{Serializable, RepeatableRead, ReadCommitted, ReadUncommitted, Snapshot, Chaos, Unspecified}
use Rattle.dtx_values.specs.declared.words.ScopeOption.{ScopeOption}
use Rattle.dtx_values.specs.declared.words.ScopeOption.TheVariants.{Required, RequiresNew, Suppress}
use Rattle.dtx_model.specs.Words.{has, latest, all_of, put}
use Rattle.dtx_values.specs.Entered.{transaction_in}

-- an entry of a context: a scope is opened, taken with what it made or joined and the isolation that its call asked for; finished; or closed
pub data ScopeEntry : Type 0 where
  Opens : (scope : ScopeNo) → (entered : Entered) → (isolation : Iso) → ScopeEntry
  Finishes : (scope : ScopeNo) → ScopeEntry
  Closes : (scope : ScopeNo) → ScopeEntry

abbrev pub finishes : ℕ → ScopeEntry → Bool
finishes s (Finishes u) = s == u.value
finishes s _ = false

abbrev pub closes : ℕ → ScopeEntry → Bool
closes s (Closes u) = s == u.value
closes s _ = false

-- the scope that the entry opened, where no `closed` of it stands after; it is complete where a `finished` of it does
abbrev pub still_open : List ScopeEntry → ScopeEntry → Option OpenScope
still_open behind (Opens s x i) = if has (closes s.value) behind then None else Some (record { scope = s; entered = x; isolation = i; complete = has (finishes s.value) behind })
still_open behind _ = None

-- the scopes that are open of those that a history opened, where these entries stand after it
abbrev pub open_before : List ScopeEntry → List ScopeEntry → List OpenScope
open_before behind [] = []
open_before behind (x ∷ past) = put (still_open behind x) (open_before (x ∷ behind) past)

-- the scopes that are open. The first is the top: the one that was opened last.
abbrev pub open_scopes : List ScopeEntry → List OpenScope
open_scopes es = open_before [] es

-- the scope of this number
abbrev pub is_scope : ℕ → OpenScope → Bool
is_scope s x = s == x.scope.value

abbrev pub is_complete_scope : ℕ → OpenScope → Bool
is_complete_scope s x = is_scope s x && x.complete

-- the transaction that a scope has
abbrev pub scope_transaction : OpenScope → Option TxNo
scope_transaction x = transaction_in x.entered

-- the scope, complete where it is of this number
abbrev pub completed_in : ℕ → OpenScope → OpenScope
completed_in s x = record { scope = x.scope; entered = x.entered; isolation = x.isolation; complete = is_scope s x || x.complete }

-- the scopes with this one complete
abbrev pub with_complete : ℕ → List OpenScope → List OpenScope
with_complete s xs = map (completed_in s) xs

-- the scopes without this one
abbrev pub without : ℕ → List OpenScope → List OpenScope
without s [] = []
without s (x ∷ xs) = if is_scope s x then without s xs else x ∷ without s xs

-- the ambient transaction: the top's
abbrev pub ambient : List OpenScope → Option TxNo
ambient [] = None
ambient (x ∷ xs) = scope_transaction x

-- the isolation that a scope asked for, where it made this transaction
abbrev pub isolation_made : ℕ → Entered → Iso → Option Iso
isolation_made t (Made u) i = if t == u.value then Some i else None
isolation_made t _ i = None

-- the isolation of a transaction: that of the open scope that made it
abbrev pub isolation_of : List OpenScope → TxNo → Option Iso
isolation_of xs t = latest (λ x. isolation_made t.value x.entered x.isolation) xs

abbrev pub same_isolation : Iso → Iso → Bool
same_isolation Serializable Serializable = true
same_isolation RepeatableRead RepeatableRead = true
same_isolation ReadCommitted ReadCommitted = true
same_isolation ReadUncommitted ReadUncommitted = true
same_isolation Snapshot Snapshot = true
same_isolation Chaos Chaos = true
same_isolation Unspecified Unspecified = true
same_isolation _ _ = false

-- the isolation of the transaction that would be joined, where another one than that is asked for; Unspecified asks for none
abbrev pub other_isolation : Iso → Option Iso → Option Iso
other_isolation Unspecified found = None
other_isolation asked None = None
other_isolation asked (Some i) = if same_isolation asked i then None else Some i

abbrev pub ambient_isolation : List OpenScope → Option TxNo → Option Iso
ambient_isolation xs (Some t) = isolation_of xs t
ambient_isolation xs None = None

-- Required would join the ambient transaction, whose isolation is this other one
abbrev pub differing : ScopeOption → Iso → List OpenScope → Option Iso
differing Required asked xs = other_isolation asked (ambient_isolation xs (ambient xs))
differing _ asked xs = None

abbrev pub is_deep : List OpenScope → Bool
is_deep xs = nat_le SCOPES (length xs)

abbrev pub unless_differing : Iso → Option Iso → Answer
unless_differing asked (Some i) = Isolation asked i
unless_differing asked None = Fine

-- the answer to opening a scope
abbrev pub enter_answer : ScopeOption → Iso → List OpenScope → Answer
enter_answer o asked xs = if is_deep xs then Deep else unless_differing asked (differing o asked xs)

-- the transaction of this name is made
abbrev pub makes_it : Option TxNo → Entered
makes_it (Some t) = Made t
makes_it None = NoTx

-- Required joins the ambient transaction, or makes one where there is none
abbrev pub joins_or_makes : Option TxNo → Option TxNo → Entered
joins_or_makes t (Some a) = Joined a
joins_or_makes t None = makes_it t

-- what a scope that is opened with this option and this name for its transaction makes or joins
abbrev pub entering : ScopeOption → Option TxNo → List OpenScope → Entered
entering Required t xs = joins_or_makes t (ambient xs)
entering RequiresNew t xs = makes_it t
entering Suppress t xs = NoTx

-- the answer to completing a scope
abbrev pub finish_answer : ℕ → List OpenScope → Answer
finish_answer s xs = if not (has (is_scope s) xs) then NoScope else if has (is_complete_scope s) xs then Already else Fine

abbrev pub ambient_answer : Bool → Option TxNo → Answer
ambient_answer complete t = if complete then Already else Ambient t

-- the answer to asking for the ambient transaction: a complete scope no longer gives it
abbrev pub current_answer : List OpenScope → Answer
current_answer [] = Ambient None
current_answer (x ∷ xs) = ambient_answer x.complete (scope_transaction x)

-- a scope that stands above this one on the top: it was opened in it and is still open
abbrev pub top_above : ℕ → List OpenScope → Option ScopeNo
top_above s [] = None
top_above s (x ∷ xs) = if is_scope s x then None else Some x.scope

abbrev pub unless_nested : Option ScopeNo → Answer
unless_nested (Some u) = Nested u
unless_nested None = Fine

-- the answer to closing a scope
abbrev pub close_answer : ℕ → List OpenScope → Answer
close_answer s xs = if not (has (is_scope s) xs) then NoScope else unless_nested (top_above s xs)

-- a complete scope commits the transaction that it made; one that isn't complete rolls its transaction back, made or joined
abbrev pub closing_with : Bool → Entered → Closed
closing_with true (Made t) = Commit t
closing_with false (Made t) = Rollback t
closing_with false (Joined t) = Rollback t
closing_with _ _ = Nothing

abbrev pub closing : List OpenScope → Closed
closing [] = Nothing
closing (x ∷ xs) = closing_with x.complete x.entered

-- the scopes that closing one takes off: it and all above it, the top first
abbrev pub taken_off : ℕ → List OpenScope → List OpenScope
taken_off s [] = []
taken_off s (x ∷ xs) = if is_scope s x then x ∷ [] else x ∷ taken_off s xs

-- the scopes beneath it
abbrev pub beneath : ℕ → List OpenScope → List OpenScope
beneath s [] = []
beneath s (x ∷ xs) = if is_scope s x then xs else beneath s xs

-- the items, but those that stand before already, and each once
abbrev pub once : List TxNo → List TxNo → List TxNo
once before [] = []
once before (t ∷ ts) = if has (λ u. t.value == u.value) before then once before ts else t ∷ once (t ∷ before) ts

-- the transactions of the scopes that a nested close takes off, the top's first, each once
abbrev pub rolled_back : ℕ → List OpenScope → List TxNo
rolled_back s xs = once [] (all_of scope_transaction (taken_off s xs))
