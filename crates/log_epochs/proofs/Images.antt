-- What is said of each image of a disk, from the records that each has.
use Rattle.std.specs.Prelude.{IsOkAnd}
use Rattle.std.proofs.Common.{◌≡◌, inl, inr, ℕ, List, Result, Ok, sym, subst}
use Rattle.dtx_model.specs.Log.{CommitRecord, log_has}
use Rattle.coordinator_log.specs.Crash.{AllHold, AllHoldEither}
use Rattle.log_epochs.specs.Beginning.{AllAre}

-- what was read has these records
holds : (P : List CommitRecord → Type 0) (a : List CommitRecord) (x : Result (List CommitRecord) ℕ) → P a → x ≡ Ok a → IsOkAnd x P
holds P a x p e = subst (λ (y : Result (List CommitRecord) ℕ). IsOkAnd y P) (sym e) p

-- each has these records
pub all_are : (image : List ℕ → Type 0) (P : List CommitRecord → Type 0) (a : List CommitRecord) → AllHold image a → P a → AllAre image P
all_are image P a all p c left = holds P a (log_has c) p (all c left)

-- each has the first or the second
pub either_are : (image : List ℕ → Type 0) (P : List CommitRecord → Type 0) (a b : List CommitRecord) → AllHoldEither image a b → P a → P b → AllAre image P
either_are image P a b all p q c left = elim (all c left) [ inl e ↦ holds P a (log_has c) p e | inr e ↦ holds P b (log_has c) q e ]
