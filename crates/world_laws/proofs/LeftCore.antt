-- What is left at the coordinator: how an entry changes it.
use Rattle.std.proofs.Common.{◌≡◌, ℕ, zero, suc, ◌+◌, ◌*◌, ◌≤◌, ◌==◌, Bool, true, false, ◌&&◌, not, List, ◌∷◌, length, map, if◌then◌else◌, refl, arith}
use Rattle.std.proofs.lemmas.List.{length-map}
use Rattle.dtx_values.specs.declared.entry.Entry.{Entry}
use Rattle.dtx_values.specs.declared.entry.Entry.TheVariants.{Down as Ended, Got, Sent, Stopped, Restarted, Logged, LogFull, Freed, Recovered}
use Rattle.dtx_values.specs.declared.message.Conn.{Conn}
use Rattle.dtx_values.specs.declared.message.Conn.TheVariants.{Begin, Voter, Enl, Again}
use Rattle.dtx_values.specs.declared.message.Dir.{Dir}
use Rattle.dtx_values.specs.declared.message.Dir.TheVariants.{Up, Down}
use Rattle.dtx_values.specs.declared.message.Message.{Message}
use Rattle.dtx_values.specs.declared.message.Message.TheVariants.{BeginBegin, BeginCommit, BeginCommitOne, EnlistEnlist, EnlistAck, EnlistOneAborted, EnlistOneCommitted, EnlistOneInDoubt, EnlistSingle, ReenlistReenlist, ReenlistAck}
use Rattle.dtx_values.specs.declared.number.EnlNo.{EnlNo}
use Rattle.dtx_values.specs.Lines.{has_line}
use Rattle.dtx_model.specs.declared.desk.Stage.{Stage}
use Rattle.dtx_model.specs.declared.desk.Stage.TheVariants.{Idle, Active, Sole, Given, Answered, Aborted, Recorded, Over, Unknown}
use Rattle.dtx_model.specs.Coordinated.{Coordinated, abort_if, aborts, ballot_of, but, decides, follow, is_active, is_sole, is_undecided, stage_if, with_ack, with_ballot}
use Rattle.dtx_model.specs.Entries.{is_commit_got}
use Rattle.dtx_model.proofs.Bools.{and_left, and_right}
use Rattle.half_parts.proofs.Lists.{length-filter-le}
use Rattle.world_laws.specs.Left.{asks_left, commits, core_left, outcome_left, unless}

no : false ≡ true → ⊥
no e = absurd cc

-- fewer to hear make no more
pub out-le : (s : Stage) (n m : ℕ) → n ≤ m → outcome_left s n ≤ outcome_left s m
out-le Idle n m k = omega arith
out-le Active n m k = omega arith
out-le Sole n m k = omega arith
out-le Given n m k = omega arith
out-le Answered n m k = omega arith
out-le Aborted n m k = omega arith
out-le Recorded n m k = omega arith
out-le Over n m k = omega arith
out-le Unknown n m k = omega arith

-- nor does an abort
pub abort-out : (b : Bool) (s : Stage) (n m : ℕ) → n ≤ m → outcome_left (abort_if b s) n ≤ outcome_left s m
abort-out true Idle n m k = omega arith
abort-out true Active n m k = omega arith
abort-out true Sole n m k = omega arith
abort-out true Given n m k = omega arith
abort-out true Answered n m k = omega arith
abort-out true Aborted n m k = omega arith
abort-out true Recorded n m k = omega arith
abort-out true Over n m k = omega arith
abort-out true Unknown n m k = omega arith
abort-out false s n m k = out-le s n m k

-- so do those that may be asked
pub asks-le : (c n m : ℕ) → n ≤ m → asks_left c n ≤ asks_left c m
asks-le zero n m k = omega arith
asks-le (suc zero) n m k = k
asks-le (suc (suc c)) n m k = omega arith

-- what no less is left of, where there are no more desks, no more that wait, and the stage is the same or aborted
abbrev part : Stage → ℕ → ℕ → ℕ → Bool → ℕ
part s d w c o = outcome_left s (d + w) + asks_left c (2 * d + 2) + unless o 1

part-le : (b : Bool) (s : Stage) (d e v w : ℕ) (c : ℕ) (o : Bool) → d ≤ e → v ≤ w → part (abort_if b s) d v c o ≤ part s e w c o
part-le b s d e v w c o p q =
    let a = abort-out b s (d + v) (e + w) (omega arith) in
    let z = asks-le c (2 * d + 2) (2 * e + 2) (omega arith) in
    omega arith

-- an entry by which no desk comes, nobody that waits, and no record
abbrev pub is_core_free : Entry → Bool
is_core_free (Got c Up m) = false
is_core_free Logged = false
is_core_free (Restarted found) = false
is_core_free _ = true

-- SINGLE takes its own part from what is left
pub single-core : (asks : ℕ) (k : Coordinated) (e : EnlNo) → core_left asks (follow k (Sent (Enl e) Down EnlistSingle)) + (if is_sole k.stage then 2 else 0) ≤ core_left asks k
unfolding follow
single-core asks k e = by k.stage
  where
    by : (s : Stage) → (outcome_left (stage_if (is_sole s) Given s) (length k.desks + length k.waits) + asks_left asks (2 * length k.desks + 2) + unless k.stopped 1) + (if is_sole s then 2 else 0)
        ≤ outcome_left s (length k.desks + length k.waits) + asks_left asks (2 * length k.desks + 2) + unless k.stopped 1
    by Idle = omega arith
    by Active = omega arith
    by Sole = omega arith
    by Given = omega arith
    by Answered = omega arith
    by Aborted = omega arith
    by Recorded = omega arith
    by Over = omega arith
    by Unknown = omega arith

sent-core : (asks : ℕ) (k : Coordinated) (c : Conn) (d : Dir) (m : Message) → core_left asks (follow k (Sent c d m)) ≤ core_left asks k
unfolding follow
sent-core asks k (Again e) Down m = let z = length-filter-le (λ f. not (e.value == f.value)) k.waits in part-le false k.stage (length k.desks) (length k.desks) (length (but e.value k.waits)) (length k.waits) asks k.stopped (omega arith) z
sent-core asks k (Again e) Up m = omega arith
sent-core asks k Begin d m = omega arith
sent-core asks k Voter d m = omega arith
sent-core asks k (Enl e) Down EnlistSingle = let z = single-core asks k e in omega arith
sent-core asks k (Enl e) d m = omega arith

end-core : (asks : ℕ) (k : Coordinated) (c : Conn) (d : Dir) → core_left asks (follow k (Ended c d)) ≤ core_left asks k
unfolding follow
end-core asks k (Again e) Up = let z = length-filter-le (λ f. not (e.value == f.value)) k.waits in part-le false k.stage (length k.desks) (length k.desks) (length (but e.value k.waits)) (length k.waits) asks k.stopped (omega arith) z
end-core asks k Begin Up = part-le (not k.commit) k.stage (length k.desks) (length k.desks) (length k.waits) (length k.waits) asks k.stopped (omega arith) (omega arith)
end-core asks k Voter Up = part-le (not k.yes) k.stage (length k.desks) (length k.desks) (length k.waits) (length k.waits) asks k.stopped (omega arith) (omega arith)
end-core asks k (Enl e) Up = by (decides k e.value)
  where
    by : (b : Bool) → outcome_left (if b then Answered else abort_if (aborts k (Ended (Enl e) Up)) k.stage) (length k.desks + length k.waits) + asks_left asks (2 * length k.desks + 2) + unless k.stopped 1
        ≤ core_left asks k
    by true = omega arith
    by false = part-le (aborts k (Ended (Enl e) Up)) k.stage (length k.desks) (length k.desks) (length k.waits) (length k.waits) asks k.stopped (omega arith) (omega arith)
end-core asks k Begin Down = omega arith
end-core asks k Voter Down = omega arith
end-core asks k (Enl e) Down = omega arith
end-core asks k (Again e) Down = omega arith

-- a stop leaves less where the coordinator wasn't stopped
pub stopped-core : (asks : ℕ) (k : Coordinated) → core_left asks (follow k Stopped) + unless k.stopped 1 ≤ core_left asks k
unfolding follow
stopped-core asks k = let a = out-le k.stage (length k.desks + 0) (length k.desks + length k.waits) (omega arith) in omega arith

down-core : (asks : ℕ) (k : Coordinated) (c : Conn) (m : Message) → core_left asks (follow k (Got c Down m)) ≤ core_left asks k
unfolding follow
down-core asks k Begin m = omega arith
down-core asks k Voter m = omega arith
down-core asks k (Enl e) m = omega arith
down-core asks k (Again e) m = omega arith

freed-core : (asks : ℕ) (k : Coordinated) → core_left asks (follow k Freed) ≤ core_left asks k
unfolding follow
freed-core asks k = omega arith

full-core : (asks : ℕ) (k : Coordinated) → core_left asks (follow k LogFull) ≤ core_left asks k
unfolding follow
full-core asks k = part-le true k.stage (length k.desks) (length k.desks) (length k.waits) (length k.waits) asks k.stopped (omega arith) (omega arith)

-- such an entry leaves no more
pub core-free : (asks : ℕ) (k : Coordinated) (x : Entry) → is_core_free x ≡ true → core_left asks (follow k x) ≤ core_left asks k
unfolding follow
core-free asks k (Sent c d m) f = sent-core asks k c d m
core-free asks k (Ended c d) f = end-core asks k c d
core-free asks k Stopped f = let a = stopped-core asks k in omega arith
core-free asks k LogFull f = full-core asks k
core-free asks k Freed f = freed-core asks k
core-free asks k (Got c Down m) f = down-core asks k c m
core-free asks k (Got c Up m) f = absurd (no f)
core-free asks k Logged f = absurd (no f)
core-free asks k (Restarted found) f = absurd (no f)
core-free asks k (Recovered r) f = omega arith
core-free asks k x f = omega arith

-- The record: the outcome of each can come.
pub logged-core : (asks : ℕ) (k : Coordinated) → is_active k.stage ≡ true → core_left asks (follow k Logged) + (3 * length k.desks + 3 * length k.waits + 5) ≤ core_left asks k
unfolding follow
logged-core asks k a = by k.stage a
  where
    by : (s : Stage) → is_active s ≡ true
        → (1 + asks_left asks (2 * length k.desks + 2) + unless k.stopped 1) + (3 * length k.desks + 3 * length k.waits + 5)
        ≤ outcome_left s (length k.desks + length k.waits) + asks_left asks (2 * length k.desks + 2) + unless k.stopped 1
    by Active a = omega arith
    by Idle a = absurd cc
    by Sole a = absurd cc
    by Given a = absurd cc
    by Answered a = absurd cc
    by Aborted a = absurd cc
    by Recorded a = absurd cc
    by Over a = absurd cc
    by Unknown a = absurd cc

-- an abort: the outcome can't come to anybody any more
aborted-out : (s : Stage) (n e w : ℕ) → is_undecided s ≡ true → outcome_left (abort_if true s) n + (3 * e + 3 * w + 6) ≤ outcome_left s (e + w)
aborted-out Idle n e w a = omega arith
aborted-out Active n e w a = omega arith
aborted-out Sole n e w a = omega arith
aborted-out Given n e w a = absurd cc
aborted-out Answered n e w a = absurd cc
aborted-out Aborted n e w a = absurd cc
aborted-out Recorded n e w a = absurd cc
aborted-out Over n e w a = absurd cc
aborted-out Unknown n e w a = absurd cc

-- what an entry by which the coordinator aborts leaves of its desks, and of those who wait
pub record IsFewer (k : Coordinated) (x : Entry) : Type 0 where
  pub desks : length (follow k x).desks ≤ length k.desks
  pub waits : length (follow k x).waits ≤ length k.waits
  pub stage : (follow k x).stage ≡ abort_if (aborts k x) k.stage
  pub stopped : (follow k x).stopped ≡ k.stopped

-- such an entry leaves no more
pub fewer-core : (asks : ℕ) (k : Coordinated) (x : Entry) → IsFewer k x → core_left asks (follow k x) ≤ core_left asks k
fewer-core asks k x i = rw (i.stage, i.stopped) (
    let a = abort-out (aborts k x) k.stage (length (follow k x).desks + length (follow k x).waits) (length k.desks + length k.waits) (let p = i.desks in let q = i.waits in omega arith) in
    let z = asks-le asks (2 * length (follow k x).desks + 2) (2 * length k.desks + 2) (let p = i.desks in omega arith) in omega arith)

-- and where the coordinator aborts, the outcome of each is left to be sent
pub abort-core : (asks : ℕ) (k : Coordinated) (x : Entry) → IsFewer k x → (aborts k x && is_undecided k.stage) ≡ true → core_left asks (follow k x) + (3 * length k.desks + 3 * length k.waits + 6) ≤ core_left asks k
abort-core asks k x i a =
    let p = and_left (aborts k x) (is_undecided k.stage) a in
    let o = aborted-out k.stage (length (follow k x).desks + length (follow k x).waits) (length k.desks) (length k.waits) (and_right (aborts k x) (is_undecided k.stage) a) in
    rw (i.stage, i.stopped, p) (let z = asks-le asks (2 * length (follow k x).desks + 2) (2 * length k.desks + 2) (let d = i.desks in omega arith) in omega arith)

-- What is got. Each keeps its desks and who waits, but an ENLIST that is accepted, a REENLIST, a COMMIT, and the answer of the one that decides.
abbrev pub is_special : Conn → Message → Bool
is_special Begin BeginBegin = true
is_special Begin BeginCommit = true
is_special Begin BeginCommitOne = true
is_special (Enl e) (EnlistEnlist i) = true
is_special (Enl e) EnlistOneCommitted = true
is_special (Enl e) EnlistOneAborted = true
is_special (Enl e) EnlistOneInDoubt = true
is_special (Again e) (ReenlistReenlist i) = true
is_special _ _ = false

-- the enlistment of this connection decides
abbrev pub decides_on : Coordinated → Conn → Bool
decides_on k (Enl e) = decides k e.value
decides_on k c = false

-- any other message is one of these, unless it ends the connection of the one that decides
pub got-fewer : (k : Coordinated) (c : Conn) (m : Message) → is_special c m ≡ false → (not (has_line c Up m) && decides_on k c) ≡ false → IsFewer k (Got c Up m)
unfolding follow
got-fewer k Begin BeginBegin f d = absurd cc
got-fewer k Begin BeginCommitOne f d = absurd cc
got-fewer k Begin m f d = record { desks = omega arith; waits = omega arith; stage = refl; stopped = refl }
got-fewer k Voter m f d = record { desks = omega arith; waits = omega arith; stage = both (has_line Voter Up m) (abort_if (aborts k (Got Voter Up m)) k.stage); stopped = refl }
  where
    both : (b : Bool) (s : Stage) → (if b then s else s) ≡ s
    both true s = refl
    both false s = refl
got-fewer k (Enl e) (EnlistEnlist i) f d = absurd cc
got-fewer k (Enl e) EnlistAck f d = record { desks = let z = length-map k.desks (with_ack e.value) in omega arith; waits = omega arith; stage = refl; stopped = refl }
got-fewer k (Enl e) EnlistOneCommitted f d = absurd cc
got-fewer k (Enl e) EnlistOneAborted f d = absurd cc
got-fewer k (Enl e) EnlistOneInDoubt f d = absurd cc
got-fewer k (Enl e) m f d = record { desks = by (is_active k.stage); waits = omega arith; stage = same (has_line (Enl e) Up m) (decides k e.value) (abort_if (aborts k (Got (Enl e) Up m)) k.stage) d; stopped = refl }
  where
    same : (b c : Bool) (s : Stage) → (not b && c) ≡ false → (if b then s else if c then Answered else s) ≡ s
    same true c s d = refl
    same false true s d = absurd cc
    same false false s d = refl

    by : (b : Bool) → length (if b then map (with_ballot e.value (ballot_of m)) k.desks else k.desks) ≤ length k.desks
    by true = let z = length-map k.desks (with_ballot e.value (ballot_of m)) in omega arith
    by false = omega arith
got-fewer k (Again e) (ReenlistReenlist i) f d = absurd cc
got-fewer k (Again e) ReenlistAck f d = record { desks = let z = length-map k.desks (with_ack e.value) in omega arith; waits = omega arith; stage = refl; stopped = refl }
got-fewer k (Again e) m f d = record { desks = omega arith; waits = by (has_line (Again e) Up m); stage = refl; stopped = refl }
  where
    by : (b : Bool) → length (if b then k.waits else but e.value k.waits) ≤ length k.waits
    by true = omega arith
    by false = length-filter-le (λ f. not (e.value == f.value)) k.waits

-- one more COMMIT that came leaves no more to come
pub commits-more : (x : Entry) (h : List Entry) (k : Coordinated) → core_left (commits (x ∷ h)) k ≤ core_left (commits h) k
commits-more x h k = by (is_commit_got x) (commits h)
  where
    asked : (n : ℕ) → asks_left (suc n) (2 * length k.desks + 2) ≤ asks_left n (2 * length k.desks + 2)
    asked zero = omega arith
    asked (suc zero) = omega arith
    asked (suc (suc n)) = omega arith

    by : (b : Bool) (n : ℕ) → core_left (if b then suc n else n) k ≤ core_left n k
    by true n = let a = asked n in omega arith
    by false n = omega arith
