-- The calls of a transaction by its number, by what the manager says of them.
use Rattle.std.proofs.Common.{ℕ, ◌≡◌, List, Option, Some, None, Result, Ok, Err, IfOk, IfErr, inl, true, ap, refl, subst, sym}
use Rattle.dtx_values.specs.TxIds.{number_of}
use Rattle.dtx_values.specs.declared.call.Call.TheVariants.{Marshal}
use Rattle.dtx_values.specs.declared.entry.Answer.{Answer}
use Rattle.dtx_values.specs.declared.entry.Answer.TheVariants.{Id, Wait}
use Rattle.dtx_values.specs.declared.number.EnlNo.{EnlNo}
use Rattle.dtx_values.specs.declared.number.RmNo.{RmNo}
use Rattle.dtx_values.specs.declared.tx_id.TxId.{TxId}
use Rattle.dtx_values.specs.declared.words.CloneKind.{CloneKind}
use Rattle.host_disk.specs.HostState.{HostState}
use Rattle.host_manager.specs.Calls.{ByNumber, ClonesIn, EnlistsIn, IdentifiesIn, On, TakesIn, entered_by}
use Rattle.host_manager.specs.Host.{HostView, faults}
use Rattle.host_manager.specs.Results.{clone_in, number_in, taken_in}
use Rattle.host_manager.specs.declared.clock.HostClock.{HostClock}
use Rattle.host_manager.specs.declared.host_call.HostCall.{HostCall}
use Rattle.transactions.specs.declared.error.TxError.{TxError}
use Rattle.transactions.specs.declared.handle.DependentTransaction.{DependentTransaction}
use Rattle.resource_managers.specs.declared.enlistment.Enlistment.{Enlistment}
use Rattle.transactions.specs.declared.kind.Kind.{Kind}
use Rattle.transactions.specs.declared.kind.Kind.TheVariants.{Promotable}
use Rattle.transactions.specs.Doing.{CallsAt, Enters, IsUnidentified, is_done}
use Rattle.transactions.specs.Enlisting.{ClonesAt, EnlistsAt, IsNotCloned, IsNotEnlisted, IsTaken}
use Rattle.transactions.specs.Slots.{AreSame, KeepsRest, Standing}
use Rattle.transactions.specs.State.{LiveState}

-- a host's view of a manager
abbrev pub held : Standing HostState HostClock → List RmNo → ℕ → HostView
held m ms given = record { manager = m; recovered = ms; given = given }

-- what a call made of the transaction of this number
pub on_this : (number : ℕ) (did : TxId → HostView → HostView → Type 0) (m n : Standing HostState HostClock) (ms : List RmNo) (given : ℕ) (t : TxId)
    → number_of t ≡ number → did t (held m ms given) (held n ms given) → AreSame t m.lives n.lives → KeepsRest m n → On number did (held m ms given) (held n ms given)
on_this number did m n ms given t named does others rest =
    record { transaction = t; named = named; does = does; others = others; rest = ap (λ (s : Standing HostState HostClock). held s ms given) rest }

-- so it came to this, whether it was done or not
pub as_result : {A : Type 0} (number : ℕ) (did : TxId → HostView → HostView → Type 0) (old new : HostView) (result : Result A TxError) → On number did old new → ByNumber number did old new result
as_result number did old new (Ok x) on = on
as_result number did old new (Err e) on = inl on

pub by_number : {A : Type 0} (number : ℕ) (did : TxId → HostView → HostView → Type 0) (m n : Standing HostState HostClock) (ms : List RmNo) (given : ℕ) (result : Result A TxError) (t : TxId)
    → number_of t ≡ number → did t (held m ms given) (held n ms given) → AreSame t m.lives n.lives → KeepsRest m n → ByNumber number did (held m ms given) (held n ms given) result
by_number number did m n ms given result t named does others rest = as_result number did (held m ms given) (held n ms given) result (on_this number did m n ms given t named does others rest)

-- what the manager says of an enlistment is what is said of it by number
pub enlists_in : (k : Kind) (z : Result Enlistment TxError) (t : TxId) (m n : Standing HostState HostClock) (ms : List RmNo) (given : ℕ)
    → IfOk z (λ e. (e.transaction ≡ t) × (line : ℕ) × (a : Answer) × EnlistsAt faults m.log t k e.number line a m.lives n.lives × (is_done a ≡ true)) → IfErr z (IsNotEnlisted faults m.log t k m.lives n.lives)
    → EnlistsIn k (number_in z) t (held m ms given) (held n ms given)
enlists_in k (Ok e) t m n ms given made refused = (made.1, made.2, made.3, made.4)
enlists_in k (Err x) t m n ms given made refused = refused

-- the same of a resource that owns the commit
pub takes_in : (rm : RmNo) (z : Result (Option Enlistment) TxError) (t : TxId) (m n : Standing HostState HostClock) (ms : List RmNo) (given : ℕ)
    → IfOk z (λ r. (number : EnlNo) × (line : ℕ) × (a : Answer) × EnlistsAt faults m.log t (Promotable rm) number line a m.lives n.lives × IsTaken t number a r) → IfErr z (IsNotEnlisted faults m.log t (Promotable rm) m.lives n.lives)
    → TakesIn rm (taken_in z) t (held m ms given) (held n ms given)
takes_in rm (Ok (Some e)) t m n ms given made refused =
    (made.1, made.2, subst (λ (v : EnlNo). EnlistsAt faults m.log t (Promotable rm) v made.1 made.2 m.lives n.lives) (sym (ap (λ (x : Enlistment). x.number) made.4.0)) made.3, made.4.1)
takes_in rm (Ok None) t m n ms given made refused = (made.0, made.1, subst (λ (a : Answer). EnlistsAt faults m.log t (Promotable rm) made.0 made.1 a m.lives n.lives) made.4 made.3)
takes_in rm (Err x) t m n ms given made refused = refused

-- the same of a clone
pub clones_in : (k : CloneKind) (z : Result DependentTransaction TxError) (t : TxId) (m n : Standing HostState HostClock) (ms : List RmNo) (given : ℕ)
    → IfOk z (λ d. (d.transaction ≡ t) × (a : Answer) × ClonesAt faults m.log t k d.clone a m.lives n.lives × (is_done a ≡ true)) → IfErr z (IsNotCloned faults m.log t k m.lives n.lives)
    → ClonesIn k (clone_in z) t (held m ms given) (held n ms given)
clones_in k (Ok d) t m n ms given made refused = (made.1, made.2, made.3)
clones_in k (Err x) t m n ms given made refused = refused

-- the same of an identifier
pub identifies_in : (z : Result (Option ℕ) TxError) (t : TxId) (m n : Standing HostState HostClock) (ms : List RmNo) (given : ℕ)
    → ((id : ℕ) → z ≡ Ok (Some id) → (line : ℕ) × CallsAt faults m.log t (Marshal t.t) line (Id id) m.lives n.lives) → (z ≡ Ok None → (line : ℕ) × CallsAt faults m.log t (Marshal t.t) line Wait m.lives n.lives)
    → IfErr z (IsUnidentified faults m.log t m.lives n.lives) → IdentifiesIn z t (held m ms given) (held n ms given)
identifies_in (Ok (Some id)) t m n ms given identified waits refused = identified id refl
identifies_in (Ok None) t m n ms given identified waits refused = waits refl
identifies_in (Err x) t m n ms given identified waits refused = refused

-- what was entered, for the call that it is and the manager that it was
pub enters_as : {A : Type 0} (t : TxId) (call is : HostCall) (ys : List LiveState) (z : Result A TxError) (old view : HostView)
    → call ≡ is → view ≡ old → Enters faults view.manager.log t (entered_by is t) view.manager.lives ys z → Enters faults old.manager.log t (entered_by call t) old.manager.lives ys z
enters_as t call is ys z old view same seen entered =
    subst (λ (s : HostView). Enters faults s.manager.log t (entered_by call t) s.manager.lives ys z) seen
    (subst (λ (k : HostCall). Enters faults view.manager.log t (entered_by k t) view.manager.lives ys z) (sym same) entered)
