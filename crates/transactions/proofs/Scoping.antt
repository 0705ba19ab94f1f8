-- Work in a scope.
use Rattle.std.proofs.Common.{ℕ, suc, inl, inr, Bool, true, false, ◌≡◌, ◌≢◌, is_some, List, [], Option, Some, None, Result, Ok, Err, IfOk, OnOk, refl, ap, subst, sym, if◌then◌else◌}
use Rattle.dtx_values.specs.declared.number.TxNo.{TxNo}
use Rattle.dtx_values.specs.declared.tx_id.TxId.{TxId}
use Rattle.transactions.specs.declared.handle.CommittableTransaction.{CommittableTransaction}
use Rattle.dtx_values.specs.declared.words.Iso.{Iso}
use Rattle.dtx_values.specs.declared.words.ScopeOption.{ScopeOption}
use Rattle.dtx_values.specs.declared.words.Timeout.{Timeout}
use Rattle.scope_context.specs.Standing.{Standing as Scopes}
use Rattle.transactions.specs.declared.error.CommitError.{CommitError}
use Rattle.transactions.specs.declared.handle.TransactionScope.{TransactionScope}
use Rattle.transactions.specs.Doing.{HasRunAt, HeardAt, SparesNone}
use Rattle.transactions.specs.Ending.{IsLeftAt}
use Rattle.transactions.specs.Scoping.{AreSameBut, BeginsWhere, Concludes, ConcludesAll, Finishes, IsOpened, WorksIn, held_by, made_in, number_in}
use Rattle.transactions.specs.Slots.{AreSame, KeepsRest, KeepsTime, Standing as Manager, live_at}
use Rattle.transactions.specs.State.{LiveState}
use Rattle.transactions.proofs.Driving.{Gives}

-- where the work was Ok, and what came after it was Ok, both were as they had to be
pub works_in : {D C O T : Type 0} (faults : D → ℕ) (honest : Bool) (image : D → List ℕ → Type 0) (gives : Gives O)
    (does : Manager D C → Scopes → TransactionScope → O → Result T CommitError → Manager D C → Scopes → O → Type 0)
    (k : ScopeOption) (timeout : Timeout) (iso : Iso) (s : TransactionScope) (run result : Result T CommitError) (old opened worked new : Manager D C) (a within left b : Scopes) (before objects after : O)
    → IsOpened k iso s opened.lives a.scopes within.scopes → BeginsWhere faults timeout (made_in s) old opened → AreSameBut (made_in s) old.lives opened.lives
    → does opened within s before run worked left objects → IfOk result (λ x. run ≡ Ok x) → OnOk result (Finishes faults honest image gives s worked new left.scopes b.scopes objects after)
    → IfOk result (λ x. WorksIn faults honest image gives does k timeout iso x old new a b before after)
works_in faults honest image gives does k timeout iso s run (Ok x) old opened worked new a within left b before objects after opens begins others did was finished = record {
  scope = s;
  opened = opened;
  within = within;
  worked = worked;
  left = left;
  objects = objects;
  opens = opens;
  begins = begins;
  others = others;
  does_it = subst (λ (r : Result _ CommitError). does opened within s before r worked left objects) was did;
  finishes = finished;
}
works_in faults honest image gives does k timeout iso s run (Err e) old opened worked new a within left b before objects after opens begins others did was finished = tt

-- every transaction but this one is as it was
pub same_but : (o : Option TxId) (old new : List LiveState) → AreSameBut o old new → (u : TxId) → o ≢ Some u → live_at u new ≡ live_at u old
same_but (Some t) old new same u n = same u (λ e. n (ap (λ (v : TxId). Some v) (sym e)))
same_but None old new same u n = same u

-- a scope that makes a transaction has that one, and else it makes none
pub made_is : (made : Option TxId) (b : Bool) (o : Option CommittableTransaction) (xs : List LiveState) (p : Option TxNo) → is_some made ≡ b → number_in o ≡ held_by made xs p → (if b then number_in o else None) ≡ made
made_is (Some t) true o xs p q e = e
made_is (Some t) false o xs p q e = absurd cc
made_is None true o xs p q e = absurd cc
made_is None false o xs p q e = refl

-- Nothing came of a scope,
pub concludes_none : {D C O : Type 0} (honest : Bool) (image : D → List ℕ → Type 0) (gives : Gives O) (old new : Manager D C) (a b : O) → new ≡ old → b ≡ a → ConcludesAll honest image gives old new a b
concludes_none honest image gives old new a b same still = (0, (same, still))

-- or one step more.
pub concludes_next : {D C O : Type 0} (honest : Bool) (image : D → List ℕ → Type 0) (gives : Gives O) (old mid new : Manager D C) (a m b : O) → ConcludesAll honest image gives old mid a m → Concludes honest image gives mid new m b
    → ConcludesAll honest image gives old new a b
concludes_next honest image gives old mid new a m b k step = (suc k.0, (mid, m, k.1, step))

-- A transaction was concluded;
pub concluded : {D C O : Type 0} (honest : Bool) (image : D → List ℕ → Type 0) (gives : Gives O) (t : TxId) (old new : Manager D C) (a b : O) → HeardAt honest image gives [] t old new a b → HasRunAt honest image t old → HasRunAt honest image t new
    → SparesNone t old new a b → AreSame t old.lives new.lives → KeepsTime old new → Concludes honest image gives old new a b
concluded honest image gives t old new a b heard run_before run nobody others time = inl (t, record { heard = heard; run_before = run_before; run = run; nobody = nobody; others = others; time = time })

-- or it was left.
pub let_go : {D C O : Type 0} (honest : Bool) (image : D → List ℕ → Type 0) (gives : Gives O) (q : Option TxId) (old new : Manager D C) (a : O) → ((t : TxId) → q ≡ Some t → IsLeftAt t old.lives new.lives) → AreSameBut q old.lives new.lives
    → KeepsRest old new → Concludes honest image gives old new a a
let_go honest image gives q old new a left others rest = inr (q, record { left = left; others = others; rest = rest }, refl)
