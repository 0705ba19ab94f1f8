-- Gen: the text of the script that the generator makes of so many transactions. What it has of one transaction is said by its number k.
use Rattle.std.specs.Prelude.{ℕ, zero, suc, ◌+◌, ◌-◌, ◌*◌, ◌%◌, ◌==◌, List, [], ◌∷◌, ◌++◌, codes, if◌then◌else◌}
use Rattle.std.specs.List.{join_with_byte}
use Rattle.dtx_model.specs.Grammar.{actor_name, clone_name, enlistment_name, manager_name, transaction_name}

-- its actor: twelve take turns
abbrev pub actor_of : ℕ → ℕ
actor_of k = (k - 1) % 12 + 1

-- the actor whose turn comes after it
abbrev pub next_actor_of : ℕ → ℕ
next_actor_of k = k % 12 + 1

-- its first enlistment
abbrev pub first_of : ℕ → ℕ
first_of k = 2 * k - 1

-- its second, where it has one
abbrev pub second_of : ℕ → ℕ
second_of k = 2 * k

-- a line: an actor, the words of a command, and LF
abbrev pub made_line : ℕ → List (List ℕ) → List ℕ
made_line a ws = join_with_byte 32 (actor_name a ∷ ws) ++ 10 ∷ []

-- it is begun
abbrev pub begin_line : ℕ → List ℕ
begin_line k = made_line (actor_of k) (codes "begin" ∷ transaction_name k ∷ codes "default" ∷ [])

-- the threads begin
abbrev pub par_line : List ℕ
par_line = made_line 1 (codes "par" ∷ [])

-- a volatile that is to vote so
abbrev pub volatile_line : List ℕ → ℕ → List ℕ
volatile_line vote k = made_line (actor_of k) (codes "volatile" ∷ transaction_name k ∷ enlistment_name (first_of k) ∷ codes "none" ∷ vote ∷ [])

-- a durable that can own the commit, and is to commit
abbrev pub owner_line : ℕ → List ℕ
owner_line k =
    made_line (actor_of k)
    (codes "durable" ∷ transaction_name k ∷ enlistment_name (first_of k) ∷ manager_name 1 ∷ codes "single" ∷ codes "yes" ∷ codes "committed" ∷ [])

-- a durable of two phases, and one of the next actor
abbrev pub first_durable_line : ℕ → List ℕ
first_durable_line k =
    made_line (actor_of k) (codes "durable" ∷ transaction_name k ∷ enlistment_name (first_of k) ∷ manager_name 1 ∷ codes "two" ∷ codes "yes" ∷ [])

abbrev pub second_durable_line : ℕ → List ℕ
second_durable_line k =
    made_line (next_actor_of k) (codes "durable" ∷ transaction_name k ∷ enlistment_name (second_of k) ∷ manager_name 2 ∷ codes "two" ∷ codes "yes" ∷ [])

-- a clone that is never complete, so that the commit is a veto
abbrev pub clone_line : ℕ → List ℕ
clone_line k = made_line (actor_of k) (codes "clone" ∷ transaction_name k ∷ clone_name k ∷ codes "rollback" ∷ [])

-- commit is asked
abbrev pub commit_line : ℕ → List ℕ
commit_line k = made_line (actor_of k) (codes "commit" ∷ transaction_name k ∷ [])

-- what is enlisted or cloned, by the remainder of k by 5
abbrev pub enlisted_lines : ℕ → List ℕ
enlisted_lines k =
    if k % 5 == 0 then volatile_line (codes "yes") k
    else if k % 5 == 1 then volatile_line (codes "no") k
    else if k % 5 == 2 then owner_line k
    else if k % 5 == 3 then first_durable_line k ++ second_durable_line k
    else clone_line k

-- what comes of it after `par`
abbrev pub work_lines : ℕ → List ℕ
work_lines k = enlisted_lines k ++ commit_line k

-- what a text says of each number from 1 to n, in order
abbrev pub up_to : (ℕ → List ℕ) → ℕ → List ℕ
up_to f zero = []
up_to f (suc n) = up_to f n ++ f (suc n)

-- Gen: n transactions are begun, the threads begin, and each transaction is worked on
unfoldable pub gen : ℕ → List ℕ
gen n = up_to begin_line n ++ par_line ++ up_to work_lines n
