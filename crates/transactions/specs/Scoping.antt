-- What the scopes of a program come to.
use Rattle.std.specs.Prelude.{ℕ, zero, suc, ◌≡◌, ◌<◌, ◌⊎◌, Bool, true, false, not, is_some, List, [], ◌∷◌, Option, Some, None, Result, Ok, Err, if◌then◌else◌}
use Rattle.dtx_values.specs.TxIds.{number_of}
use Rattle.dtx_values.specs.declared.call.Call.TheVariants.{Begin as BeginCall, Rollback as RollbackCall}
use Rattle.dtx_values.specs.declared.entry.Answer.{Answer}
use Rattle.dtx_values.specs.declared.entry.Answer.TheVariants.{Fine, Deep, Isolation, NoScope as NoScopeAnswer, Already, Nested, Ended}
use Rattle.dtx_values.specs.declared.note.Note.{Note}
use Rattle.dtx_values.specs.declared.note.Reply.{Reply}
use Rattle.dtx_values.specs.declared.number.TxNo.{TxNo}
use Rattle.dtx_values.specs.declared.tx_id.TxId.{TxId}
use Rattle.dtx_values.specs.declared.scope.Closed.{Closed}
use Rattle.dtx_values.specs.declared.scope.Closed.TheVariants.{Commit, Rollback, Nothing}
use Rattle.dtx_values.specs.declared.scope.OpenScope.{OpenScope}
use Rattle.dtx_values.specs.declared.words.Timeout.{Timeout}
use Rattle.dtx_values.specs.declared.words.Iso.{Iso}
use Rattle.dtx_values.specs.declared.words.Outcome.TheVariants.{Aborted as AbortedOutcome}
use Rattle.dtx_values.specs.declared.words.ScopeOption.{ScopeOption}
use Rattle.dtx_values.specs.declared.words.ScopeOption.TheVariants.{Required, RequiresNew, Suppress}
use Rattle.dtx_values.specs.Entered.{transaction_in}
use Rattle.dtx_model.specs.Scopes.{ambient, beneath, closing, entering, is_scope, with_complete}
use Rattle.dtx_model.specs.Words.{has}
use Rattle.scope_context.specs.declared.refusal.ScopeRefusal.{ScopeRefusal}
use Rattle.scope_context.specs.declared.refusal.ScopeRefusal.TheVariants.{TooDeep, IsolationDiffers, NoScope, AlreadyComplete, NestedWrongly}
use Rattle.scope_context.specs.Standing.{Standing as Scopes}
use Rattle.scope_context.specs.Refusals.{complete_refusal, enter_refusal}
use Rattle.transactions.specs.declared.error.CommitError.{CommitError}
use Rattle.transactions.specs.declared.error.CommitError.TheVariants.{Aborted, InDoubt}
use Rattle.transactions.specs.declared.error.ScopeError.{ScopeError}
use Rattle.transactions.specs.declared.error.ScopeError.TheVariants.{Refused, Begin}
use Rattle.transactions.specs.declared.error.TxError.TheVariants.{Many}
use Rattle.transactions.specs.declared.handle.CommittableTransaction.{CommittableTransaction}
use Rattle.resource_managers.specs.declared.enlistment.Enlistment.{Enlistment}
use Rattle.transactions.specs.declared.handle.TransactionScope.{TransactionScope}
use Rattle.transactions.specs.Calling.{IsCalled}
use Rattle.transactions.specs.Doing.{Goes, HasRunAt, HeardAt, IsRefused, SparesNone}
use Rattle.transactions.specs.Ending.{IsLeftAt}
use Rattle.transactions.specs.Numbering.{MayNotBegin}
use Rattle.transactions.specs.Slots.{AreSame, KeepsRest, KeepsTime, Standing as Manager, live_at, standing_at}
use Rattle.transactions.specs.State.{LiveState, blank}
use Rattle.transactions.specs.Telling.{IsTold}

-- A scope that is opened so makes a transaction: Required where there is no ambient one, and RequiresNew.
abbrev pub makes_one : ScopeOption → List OpenScope → Bool
makes_one Required xs = not (is_some (ambient xs))
makes_one RequiresNew xs = true
makes_one Suppress xs = false

-- the scopes refuse for this cause, where there is one
abbrev pub refused_for : Option ScopeRefusal → Option ScopeError
refused_for (Some r) = Some (Refused r)
refused_for None = None

-- the answer of a scope's line that says the same
abbrev pub refusal_answer : ScopeRefusal → Answer
refusal_answer (TooDeep n) = Deep
refusal_answer (IsolationDiffers asked found) = Isolation asked found
refusal_answer (NoScope s) = NoScopeAnswer
refusal_answer (AlreadyComplete s) = Already
refusal_answer (NestedWrongly s) = Nested s

-- the transaction that a handle is of, where there is one
abbrev pub number_in : Option CommittableTransaction → Option TxId
number_in (Some x) = Some x.number
number_in None = None

-- the place of a transaction, where there is one: the scopes know transactions by place
abbrev pub place_of : Option TxId → Option TxNo
place_of (Some t) = Some t.t
place_of None = None

-- the transaction that goes on at a place, where there is one
abbrev pub standing_where : Option TxNo → List LiveState → Option TxId
standing_where (Some p) xs = Some (standing_at p xs)
standing_where None xs = None

-- the transaction of a scope: the one that it made, or else the one that goes on at the place of the one that it joined
abbrev pub held_by : Option TxId → List LiveState → Option TxNo → Option TxId
held_by (Some t) xs p = Some t
held_by None xs p = standing_where p xs

-- the transaction that a scope made; none where it joined one or has none
abbrev pub made_in : TransactionScope → Option TxId
made_in s = if s.is_made then number_in s.transaction else None

-- every transaction is as it was, but for this one, where there is one
abbrev pub AreSameBut : Option TxId → List LiveState → List LiveState → Type 0
AreSameBut (Some t) old new = AreSame t old new
AreSameBut None old new = (u : TxId) → live_at u new ≡ live_at u old

-- This transaction didn't go on, and begins: the call was entered that begins it. Its number for good is above the last one, and is the last one then.
pub record Begins {D C : Type 0} (faults : D → ℕ) (timeout : Timeout) (t : TxId) (old new : Manager D C) : Type 0 where
  pub fresh : live_at t old.lives ≡ None
  pub state : LiveState
  pub now : live_at t new.lives ≡ Some state
  pub begun : IsCalled faults new.log (BeginCall t.t timeout) 1 Fine (blank t old.reading) state
  pub above : old.last < number_of t
  pub last : new.last ≡ number_of t

-- the transaction begins, where there is one; where there is none, the log and the last number are as they were
abbrev pub BeginsWhere : {D C : Type 0} → (D → ℕ) → Timeout → Option TxId → Manager D C → Manager D C → Type 0
BeginsWhere faults timeout (Some t) old new = Begins faults timeout t old new
BeginsWhere faults timeout None old new = (new.log ≡ old.log) × (new.last ≡ old.last)

-- A scope was opened on those that were open: it has a number of its own, and what its option makes or joins; and its holder has its transaction, and knows whether it made it.
pub record IsOpened (k : ScopeOption) (iso : Iso) (s : TransactionScope) (xs : List LiveState) (old new : List OpenScope) : Type 0 where
  pub apart : has (is_scope s.scope.value) old ≡ false
  pub opened : new ≡ record { scope = s.scope; entered = entering k (place_of (made_in s)) old; isolation = iso; complete = false } ∷ old
  pub transaction : number_in s.transaction ≡ held_by (made_in s) xs (transaction_in (entering k (place_of (made_in s)) old))
  pub made : s.is_made ≡ makes_one k old

-- Why a scope isn't opened: the scopes refuse it; or no number is left for it; or its transaction can't be begun.
abbrev pub MayNotOpen : {D C : Type 0} → (D → ℕ) → ScopeOption → Iso → List OpenScope → Manager D C → Manager D C → ScopeError → Type 0
MayNotOpen faults k iso xs old new (Refused r) = enter_refusal k iso xs ≡ Some r
MayNotOpen faults k iso xs old new (Begin e) = (e ≡ Many) ⊎ MayNotBegin faults old.log new.log old.lives e

-- the scope of this number is the innermost one
abbrev pub is_top : ℕ → List OpenScope → Bool
is_top s [] = false
is_top s (x ∷ xs) = is_scope s x

-- the transaction that closing a scope commits or rolls back: the one that goes on at its place
abbrev pub ended_by : Closed → List LiveState → Option TxId
ended_by (Commit p) xs = Some (standing_at p xs)
ended_by (Rollback p) xs = Some (standing_at p xs)
ended_by Nothing xs = None

-- The rollback of a scope's transaction is never Ok. Where the transaction aborted, the call was entered and the objects heard what came of it, or the call was refused since it had
-- aborted already. It is in doubt only where the call was refused.
abbrev pub IsRolledBack : {D C O : Type 0} → (D → ℕ) → Bool → (D → List ℕ → Type 0) → (O → Enlistment → Note → Option Reply → O → Type 0) → TxId → Result (Unit {0}) CommitError → Manager D C
    → Manager D C → O → O → Type 0
IsRolledBack faults honest image gives t (Ok x) old new a b = ⊥
IsRolledBack faults honest image gives t (Err Aborted) old new a b =
    Goes faults honest image gives t (RollbackCall t.t) old new a b ⊎ IsRefused faults old.log t (RollbackCall t.t) (Ended AbortedOutcome) old.lives new.lives
IsRolledBack faults honest image gives t (Err InDoubt) old new a b = ⊥
IsRolledBack faults honest image gives t (Err _) old new a b = Unit {0}

-- What closing a scope comes to. A transaction that it commits is told so as any commit; one that it rolls back isn't committed; and where it has nothing to do, nothing is done.
abbrev pub Settles : {D C O : Type 0} → (D → ℕ) → Bool → (D → List ℕ → Type 0) → (O → Enlistment → Note → Option Reply → O → Type 0) → Closed → Result (Unit {0}) CommitError → Manager D C
    → Manager D C → O → O → Type 0
Settles faults honest image gives (Commit p) r old new a b =
    IsTold r (live_at (standing_at p old.lives) new.lives) × HeardAt honest image gives [] (standing_at p old.lives) old new a b
Settles faults honest image gives (Rollback p) r old new a b =
    IsRolledBack faults honest image gives (standing_at p old.lives) r old new a b × HeardAt honest image gives [] (standing_at p old.lives) old new a b
Settles faults honest image gives Nothing r old new a b = (r ≡ Ok tt) × (new ≡ old) × (b ≡ a)

-- The same, before the holder of the scope left the transaction that it made, which is then swept where it is over.
pub record SettlesBefore {D C O : Type 0} (faults : D → ℕ) (honest : Bool) (image : D → List ℕ → Type 0) (gives : O → Enlistment → Note → Option Reply → O → Type 0) (s : TransactionScope)
    (c : Closed) (r : Result (Unit {0}) CommitError) (old new : Manager D C) (a b : O) : Type 0 where
  pub mid : Manager D C
  pub settled : Settles faults honest image gives c r old mid a b
  pub others : AreSameBut (ended_by c old.lives) old.lives mid.lives
  pub left : AreSameBut (made_in s) mid.lives new.lives
  pub rest : KeepsRest mid new

-- A scope whose work is done was completed and disposed, and that was Ok: it was open, not complete yet and the innermost one; what it made was committed; and those beneath it are open.
pub record Finishes {D C O : Type 0} (faults : D → ℕ) (honest : Bool) (image : D → List ℕ → Type 0) (gives : O → Enlistment → Note → Option Reply → O → Type 0) (s : TransactionScope)
    (old new : Manager D C) (a b : List OpenScope) (before after : O) : Type 0 where
  pub may_complete : complete_refusal s.scope a ≡ None
  pub innermost : is_top s.scope.value (with_complete s.scope.value a) ≡ true
  pub settles : SettlesBefore faults honest image gives s (closing (with_complete s.scope.value a)) (Ok tt) old new before after
  pub left : b ≡ beneath s.scope.value (with_complete s.scope.value a)

-- A scope whose work failed was disposed as it was, whatever that came to: where it is the innermost one and isn't complete, its transaction is rolled back.
abbrev pub Fails : {D C O : Type 0} → (D → ℕ) → Bool → (D → List ℕ → Type 0) → (O → Enlistment → Note → Option Reply → O → Type 0) → TransactionScope → Manager D C → Manager D C
    → List OpenScope → O → O → Type 0
Fails faults honest image gives s old new a before after =
    is_top s.scope.value a ≡ true → (r : Result (Unit {0}) CommitError) × SettlesBefore faults honest image gives s (closing a) r old new before after

-- Work was done in a scope, and it was Ok: the scope was opened, the work was done in it, and the scope was completed and disposed.
pub record WorksIn {D C O T : Type 0} (faults : D → ℕ) (honest : Bool) (image : D → List ℕ → Type 0) (gives : O → Enlistment → Note → Option Reply → O → Type 0)
    (does : Manager D C → Scopes → TransactionScope → O → Result T CommitError → Manager D C → Scopes → O → Type 0) (k : ScopeOption) (timeout : Timeout) (iso : Iso) (x : T)
    (old new : Manager D C) (a b : Scopes) (before after : O) : Type 0 where
  pub scope : TransactionScope
  pub opened : Manager D C
  pub within : Scopes
  pub worked : Manager D C
  pub left : Scopes
  pub objects : O
  pub opens : IsOpened k iso scope opened.lives a.scopes within.scopes
  pub begins : BeginsWhere faults timeout (made_in scope) old opened
  pub others : AreSameBut (made_in scope) old.lives opened.lives
  pub does_it : does opened within scope before (Ok x) worked left objects
  pub finishes : Finishes faults honest image gives scope worked new left.scopes b.scopes objects after

-- Transaction t was committed or rolled back: its objects heard what came of it, and what holds of its run before and after that is known; where none of this number goes on, nothing was done; and all others
-- are as they were.
pub record IsConcluded {D C O : Type 0} (honest : Bool) (image : D → List ℕ → Type 0) (gives : O → Enlistment → Note → Option Reply → O → Type 0) (t : TxId) (old new : Manager D C) (a b : O) : Type 0 where
  pub heard : HeardAt honest image gives [] t old new a b
  pub run_before : HasRunAt honest image t old
  pub run : HasRunAt honest image t new
  pub nobody : SparesNone t old new a b
  pub others : AreSame t old.lives new.lives
  pub time : KeepsTime old new

-- A transaction was left by its holder, where this is one, and nothing else was done.
pub record IsLetGo {D C : Type 0} (q : Option TxId) (old new : Manager D C) : Type 0 where
  pub left : (t : TxId) → q ≡ Some t → IsLeftAt t old.lives new.lives
  pub others : AreSameBut q old.lives new.lives
  pub rest : KeepsRest old new

-- one step of what comes of a scope
abbrev pub Concludes : {D C O : Type 0} → Bool → (D → List ℕ → Type 0) → (O → Enlistment → Note → Option Reply → O → Type 0) → Manager D C → Manager D C → O → O → Type 0
Concludes honest image gives old new a b = ((t : TxId) × IsConcluded honest image gives t old new a b) ⊎ ((q : Option TxId) × IsLetGo q old new × (b ≡ a))

-- What comes of a scope, in so many steps: transactions are concluded or left, one after the other.
abbrev pub ConcludesIn : {D C O : Type 0} → Bool → (D → List ℕ → Type 0) → (O → Enlistment → Note → Option Reply → O → Type 0) → ℕ → Manager D C → Manager D C → O → O → Type 0
ConcludesIn honest image gives zero old new a b = (new ≡ old) × (b ≡ a)
ConcludesIn {D} {C} {O} honest image gives (suc n) old new a b = (mid : Manager D C) × (m : O) × ConcludesIn honest image gives n old mid a m × Concludes honest image gives mid new m b

abbrev pub ConcludesAll : {D C O : Type 0} → Bool → (D → List ℕ → Type 0) → (O → Enlistment → Note → Option Reply → O → Type 0) → Manager D C → Manager D C → O → O → Type 0
ConcludesAll honest image gives old new a b = (n : ℕ) × ConcludesIn honest image gives n old new a b
