-- What a commit that was entered comes to, once what was pending is done.
use Rattle.std.proofs.Common.{ℕ, ◌≡◌, ◌++◌, Bool, true, false, List, [], Some, Result, Err, refl, subst, sym}
use Rattle.dtx_values.specs.declared.call.Call.TheVariants.{Commit}
use Rattle.dtx_values.specs.declared.number.TxNo.{TxNo}
use Rattle.dtx_values.specs.declared.tx_id.TxId.{TxId}
use Rattle.dtx_values.specs.declared.words.Outcome.TheVariants.{Aborted}
use Rattle.dtx_model.specs.Entries.{is_commit}
use Rattle.dtx_model.specs.Words.{has}
use Rattle.coordinator_log.specs.State.{LogState}
use Rattle.transactions.specs.declared.error.CommitError.{CommitError}
use Rattle.transactions.specs.Doing.{Called, HeardAt}
use Rattle.transactions.specs.Slots.{Standing, live_at}
use Rattle.transactions.specs.State.{LiveState, past}
use Rattle.transactions.specs.Telling.{IsTold, aborted_by, is_full, told}
use Rattle.transactions.proofs.Driving.{Gives}
use Rattle.transactions.proofs.Untold.{commit_asked, commit_stays}

-- The transaction goes on, and its commit was asked for.
pub record Asked (t : TxId) (xs : List LiveState) : Type 0 where
  pub state : LiveState
  pub at : live_at t xs ≡ Some state
  pub commit : has is_commit (past state) ≡ true

pub asked_of : {D C O : Type 0} (faults : D → ℕ) (log : LogState D) (honest : Bool) (image : D → List ℕ → Type 0) (gives : Gives O) (t : TxId) (u : TxNo) (old : List LiveState) (mid new : Standing D C) (a b : O)
    → Called faults log t (Commit u) old mid.lives → HeardAt honest image gives [] t mid new a b → Asked t new.lives
asked_of faults log honest image gives t u old mid new a b k h =
    let y = k.2.after in
    let z = h y k.2.now in
    record {
      state = z.0;
      at = z.1;
      commit = commit_stays ([] ++ z.2.replies) y z.0 z.2.writes (commit_asked faults log u k.0 k.1 k.2.before y k.2.called k.3);
    }

-- what a commit comes to is said of the transaction that goes on
pub told_there : {A : Type 0} (r : Result A CommitError) (t : TxId) (xs : List LiveState) (z : LiveState) → live_at t xs ≡ Some z → IsTold r (Some z) → IsTold r (live_at t xs)
told_there r t xs z at k = subst (λ o. IsTold r o) (sym at) k

-- and so is an abort, by whether the log was full
pub told_aborted : (A : Type 0) (r : CommitError) (z : LiveState) → r ≡ aborted_by (has is_full (past z)) → told z ≡ Some Aborted → has is_commit (past z) ≡ true → IsTold {A = A} (Err r) (Some z)
told_aborted A r z is said asked = subst (λ (e : CommitError). IsTold {A = A} (Err e) (Some z)) (sym is) (by (has is_full (past z)) refl)
  where
    by : (b : Bool) → has is_full (past z) ≡ b → IsTold {A = A} (Err (aborted_by b)) (Some z)
    by true full = (said, asked, full)
    by false full = (said, asked, full)
