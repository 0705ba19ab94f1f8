-- What is known of who hasn't voted yet, and of the clones that aren't complete.
use Rattle.std.specs.Prelude.{ℕ, Bool, ◌==◌, List, filter}
use Rattle.dtx_values.specs.declared.number.CloneNo.{CloneNo}
use Rattle.dtx_values.specs.declared.number.EnlNo.{EnlNo}
use Rattle.dtx_values.specs.declared.entry.Entry.{Entry}
use Rattle.dtx_values.specs.declared.words.Class.{Class}
use Rattle.dtx_values.specs.declared.words.CloneKind.{CloneKind}
use Rattle.dtx_model.specs.Entries.{clone_of, is_completed, is_good_vote}
use Rattle.dtx_model.specs.Outcome.{durables, is_rollback, volatiles}
use Rattle.dtx_model.specs.Words.{all_of, has}
use Rattle.trace_checker.specs.declared.voters.Voters.{Voters}
use Rattle.trace_checker.specs.Left.{IsLeft}

-- the clones
abbrev pub clones : List Entry → List (CloneNo × CloneKind)
clones h = all_of clone_of h

-- the clones that make a commit a veto while they aren't complete
abbrev pub rollbacks : List Entry → List (CloneNo × CloneKind)
rollbacks h = filter (λ c. is_rollback c.1) (clones h)

-- this enlistment, or this clone, is among them
abbrev pub is_enlisted : List (EnlNo × Class) → ℕ → Bool
is_enlisted xs e = has (λ x. e == x.0.value) xs

abbrev pub is_cloned : List (CloneNo × CloneKind) → ℕ → Bool
is_cloned xs n = has (λ x. n == x.0.value) xs

-- this enlistment voted yes or done
abbrev pub is_for : List Entry → ℕ → Bool
is_for h e = has (is_good_vote e) h

-- this clone was completed
abbrev pub is_whole : List Entry → ℕ → Bool
is_whole h n = has (is_completed n) h

-- who is left after this history
pub record IsVotersOf (h : List Entry) (v : Voters) : Type 0 where
  pub volatiles : IsLeft (is_enlisted (volatiles h)) (is_for h) v.volatiles
  pub durables : IsLeft (is_enlisted (durables h)) (is_for h) v.durables
  pub clones : IsLeft (is_cloned (clones h)) (is_whole h) v.clones
  pub rollbacks : IsLeft (is_cloned (rollbacks h)) (is_whole h) v.rollbacks
