-- The coordinator's steps leave less: its act, what it does after a message, and after an end.
use Rattle.std.proofs.Common.{◌≡◌, ℕ, zero, suc, ◌+◌, ◌*◌, ◌<◌, ◌≤◌, Bool, true, false, ◌&&◌, ◌||◌, not, List, [], ◌∷◌, length, filter, Option, None, if◌then◌else◌, refl, ap, arith}
use Rattle.dtx_values.specs.declared.entry.Entry.{Entry}
use Rattle.dtx_values.specs.declared.entry.Entry.TheVariants.{Sent, Got, Logged, LogFull, Freed, Stopped}
use Rattle.dtx_values.specs.declared.message.Conn.{Conn}
use Rattle.dtx_values.specs.declared.message.Conn.TheVariants.{Begin, Voter, Enl, Again}
use Rattle.dtx_values.specs.declared.message.Dir.TheVariants.{Up, Down}
use Rattle.dtx_values.specs.declared.message.Info.{Info}
use Rattle.dtx_values.specs.declared.message.Message.{Message}
use Rattle.dtx_values.specs.declared.message.Message.TheVariants.{BeginBegin, BeginCommit, BeginCommitOne, BeginCommitted, BeginAborted, BeginInDoubt, VoterCommit, VoterAbort, VoterInDoubt, EnlistEnlist, EnlistCommit, EnlistAbort, EnlistOneAborted, EnlistOneCommitted, EnlistOneInDoubt, EnlistSingle, ReenlistCommitted, ReenlistAborted}
use Rattle.dtx_values.specs.declared.number.EnlNo.{EnlNo}
use Rattle.dtx_values.specs.Ends.{same_connection}
use Rattle.dtx_values.specs.Table.{insert_by}
use Rattle.dtx_model.specs.declared.desk.Ballot.{Ballot}
use Rattle.dtx_model.specs.declared.desk.Desk.{Desk}
use Rattle.dtx_model.specs.declared.desk.Stage.{Stage}
use Rattle.dtx_model.specs.declared.desk.Stage.TheVariants.{Idle, Active, Sole, Given, Answered, Aborted, Recorded, Over, Unknown}
use Rattle.dtx_model.specs.declared.waiting.EnteredCall.{EnteredCall}
use Rattle.dtx_model.specs.Caused.{is_full_answer, may_coordinate}
use Rattle.dtx_model.specs.Coordinated.{Coordinated, abort_sends, accepts, begin_if, commit_sends, coordinate, decides, desk_number, doubt_sends, follow, hears_one, is_active, is_given, is_one, is_prepared, is_recorded, is_sole, is_undecided, may_free, may_log, one_sends, sole_if, stage_if, still_hears, to, to_each, to_waiting, with_ballot}
use Rattle.dtx_model.specs.Steps.{Done, Full, LogAnswer, StoppedBefore, StoppedNow, appended, coordinates, freed}
use Rattle.dtx_model.specs.Wires.{in_transit}
use Rattle.dtx_model.specs.Words.{has, onto}
use Rattle.dtx_model.proofs.Bools.{and_left, and_right, not_true}
use Rattle.dtx_model.proofs.Counts.{length-insert_by}
use Rattle.history_table.proofs.Tests.{first_of_five, first_of_three, second_of_five, second_of_three}
use Rattle.half_parts.proofs.Lists.{length-filter-le}
use Rattle.world_laws.specs.Left.{asks_left, commits, core_left, half_left, opened, outcome_left, total, unless, weight, wires_left}
use Rattle.world_laws.proofs.LeftCore.{IsFewer, abort-core, commits-more, logged-core, stopped-core}
use Rattle.world_laws.proofs.LeftItems.{gain, got-half}
use Rattle.world_laws.proofs.LeftSpend.{Free, falls-by, free-cons, free-flat, free-if, free-join, free-more, free-none, left, less-free}
use Rattle.world_laws.proofs.LeftWires.{wires-got, wires-stopped}
use Rattle.dtx_model.specs.Observed.{observe}
use Rattle.dtx_model.specs.Half.{half_of}

no : false ≡ true → ⊥
no e = absurd cc

twos : {A : Type 0} (xs : List A) → total (λ x. 2) xs ≡ 2 * length xs
twos [] = refl
twos (x ∷ xs) = let a = twos xs in omega arith

threes : {A : Type 0} (xs : List A) → total (λ x. 3) xs ≡ 3 * length xs
threes [] = refl
threes (x ∷ xs) = let a = threes xs in omega arith

-- a message down
pub free-to : (k : Coordinated) (c : Conn) (m : Message) (n : ℕ) → weight Down m ≤ n → Free (to k c m) n
free-to k c m n l = free-if (has (same_connection c) k.known) (free-more n (let a = l in omega arith) (free-cons (Sent c Down m) refl (free-none 0))) (free-none n)

-- PREPARE to each desk
pub free-each2 : (k : Coordinated) (m : Message) (ds : List Desk) → weight Down m ≤ 2 → Free (to_each k m ds) (2 * length ds)
free-each2 k m ds l = free-more (2 * length ds) (let a = twos ds in omega arith) (free-flat (λ d. to k (Enl d.enlistment) m) 2 (λ d. free-to k (Enl d.enlistment) m 2 l) ds)

free-each3 : (k : Coordinated) (m : Message) (ds : List Desk) → weight Down m ≤ 3 → Free (to_each k m ds) (3 * length ds)
free-each3 k m ds l = free-more (3 * length ds) (let a = threes ds in omega arith) (free-flat (λ d. to k (Enl d.enlistment) m) 3 (λ d. free-to k (Enl d.enlistment) m 3 l) ds)

free-waiting : (k : Coordinated) (m : Message) → weight Down m ≤ 3 → Free (to_waiting k m) (3 * length k.waits)
free-waiting k m l = free-more (3 * length k.waits) (let a = threes k.waits in omega arith) (free-flat (λ e. to k (Again e) m) 3 (λ e. free-to k (Again e) m 3 l) k.waits)

-- what the coordinator sends where it aborts
pub free-abort : (k : Coordinated) → Free (abort_sends k) (3 * length k.desks + 3 * length k.waits + 4)
free-abort k =
    let heard = filter (λ (d : Desk). still_hears d.ballot) k.desks in
    let fewer = length-filter-le (λ (d : Desk). still_hears d.ballot) k.desks in
    free-more (3 * length k.desks + 3 * length k.waits + 4) (omega arith)
    (free-join (free-join (free-join (free-to k Begin BeginAborted 2 (omega arith)) (free-if k.no (free-none 2) (free-to k Voter VoterAbort 2 (omega arith))))
    (free-each3 k EnlistAbort heard (omega arith))) (free-waiting k ReenlistAborted (omega arith)))

free-commit : (k : Coordinated) → Free (commit_sends k) (3 * length k.desks + 3 * length k.waits + 4)
free-commit k =
    let told = filter (λ (d : Desk). is_prepared d.ballot) k.desks in
    let fewer = length-filter-le (λ (d : Desk). is_prepared d.ballot) k.desks in
    free-more (3 * length k.desks + 3 * length k.waits + 4) (omega arith)
    (free-join (free-join (free-join (free-to k Begin BeginCommitted 2 (omega arith)) (free-to k Voter VoterCommit 2 (omega arith)))
    (free-each3 k EnlistCommit told (omega arith))) (free-waiting k ReenlistCommitted (omega arith)))

-- what it sends where the one that decides said committed, or in its doubt
pub free-one : (k : Coordinated) → Free (one_sends k) 4
free-one k = free-join (free-to k Begin BeginCommitted 2 (omega arith)) (free-to k Voter VoterCommit 2 (omega arith))

pub free-doubt : (k : Coordinated) → Free (doubt_sends k) 4
free-doubt k = free-join (free-to k Begin BeginInDoubt 2 (omega arith)) (free-to k Voter VoterInDoubt 2 (omega arith))

-- an entry of the coordinator's that leaves so much less there
by-core : (ks : List EnteredCall) (h : List Entry) (x : Entry) (r : ℕ) → core_left (commits (x ∷ h)) (follow (coordinate h) x) + r ≤ core_left (commits (x ∷ h)) (coordinate h) → half_left (half_of ks (x ∷ h)) ≤ half_left (half_of ks h)
    → wires_left (x ∷ h) ≤ wires_left h → left ks (x ∷ h) + r ≤ left ks h
unfolding coordinate
by-core ks h x r c a w = let z = commits-more x h (coordinate h) in omega arith

-- The act.
may_parts : (k : Coordinated) → may_log k ≡ true → (k.stopped ≡ false) × (is_active k.stage ≡ true)
unfolding may_log
may_parts k m =
    (not_true k.stopped (first_of_five (not k.stopped) (is_active k.stage) k.commit k.yes _ m), second_of_five (not k.stopped) (is_active k.stage) k.commit k.yes _ m)

free_parts : (k : Coordinated) → may_free k ≡ true → (k.stopped ≡ false) × (is_recorded k.stage ≡ true)
unfolding may_free
free_parts k m =
    (not_true k.stopped (first_of_three (not k.stopped) (is_recorded k.stage) _ m), second_of_three (not k.stopped) (is_recorded k.stage) _ m)

stop_falls : (ks : List EnteredCall) (h : List Entry) → (coordinate h).stopped ≡ false → left ks (Stopped ∷ h) < left ks h
unfolding coordinate observe
stop_falls ks h n =
    let a = stopped-core (commits h) (coordinate h) in
    let one : unless (coordinate h).stopped 1 ≡ 1 = ap (λ b. unless b 1) n in
    let b = by-core ks h Stopped 1 (omega arith) (omega arith) (wires-stopped h) in omega arith

undecided : (s : Stage) → is_active s ≡ true → is_undecided s ≡ true
undecided Active a = refl
undecided Idle a = absurd cc
undecided Sole a = absurd cc
undecided Given a = absurd cc
undecided Answered a = absurd cc
undecided Aborted a = absurd cc
undecided Recorded a = absurd cc
undecided Over a = absurd cc
undecided Unknown a = absurd cc

full-fewer : (k : Coordinated) → IsFewer k LogFull
unfolding follow
full-fewer k = record { desks = omega arith; waits = omega arith; stage = refl; stopped = refl }

freed-less : (asks : ℕ) (k : Coordinated) → is_recorded k.stage ≡ true → core_left asks (follow k Freed) + 1 ≤ core_left asks k
unfolding follow
freed-less asks k r = by k.stage r
  where
    by : (s : Stage) → is_recorded s ≡ true → (0 + asks_left asks (2 * length k.desks + 2) + unless k.stopped 1) + 1 ≤ outcome_left s (length k.desks + length k.waits) + asks_left asks (2 * length k.desks + 2) + unless k.stopped 1
    by Recorded r = omega arith
    by Active r = absurd cc
    by Idle r = absurd cc
    by Sole r = absurd cc
    by Given r = absurd cc
    by Answered r = absurd cc
    by Aborted r = absurd cc
    by Over r = absurd cc
    by Unknown r = absurd cc

logged-desks : (k : Coordinated) → (length (follow k Logged).desks ≡ length k.desks) × (length (follow k Logged).waits ≡ length k.waits)
unfolding follow
logged-desks k = (refl, refl)

append_falls : (ks : List EnteredCall) (h : List Entry) (a : LogAnswer) → may_log (coordinate h) ≡ true → left ks (onto h (appended (coordinate h) a)) < left ks h
unfolding coordinate observe
append_falls ks h Done m =
    let k = coordinate h in
    let p = may_parts k m in
    let q = logged-desks k in
    let c = logged-core (commits h) k p.1 in
    falls-by ks h (commit_sends (follow k Logged)) Logged (3 * length k.desks + 3 * length k.waits + 5) (3 * length k.desks + 3 * length k.waits + 4)
    (by-core ks h Logged (3 * length k.desks + 3 * length k.waits + 5) c (omega arith) (omega arith))
    (less-free (free-more (3 * length k.desks + 3 * length k.waits + 4) (let a = q.0 in let b = q.1 in omega arith) (free-commit (follow k Logged)))) (omega arith)
append_falls ks h Full m =
    let k = coordinate h in
    let p = may_parts k m in
    let i = full-fewer k in
    let c = abort-core (commits h) k LogFull i (undecided k.stage p.1) in
    falls-by ks h (abort_sends (follow k LogFull)) LogFull (3 * length k.desks + 3 * length k.waits + 6) (3 * length k.desks + 3 * length k.waits + 4)
    (by-core ks h LogFull (3 * length k.desks + 3 * length k.waits + 6) c (omega arith) (omega arith))
    (less-free (free-more (3 * length k.desks + 3 * length k.waits + 4) (let a = i.desks in let b = i.waits in omega arith) (free-abort (follow k LogFull)))) (omega arith)
append_falls ks h StoppedNow m = stop_falls ks h (may_parts (coordinate h) m).0
append_falls ks h StoppedBefore m = stop_falls ks h (may_parts (coordinate h) m).0

free_falls : (ks : List EnteredCall) (h : List Entry) (a : LogAnswer) → may_free (coordinate h) ≡ true → is_full_answer a ≡ false → left ks (onto h (freed a)) < left ks h
unfolding coordinate observe
free_falls ks h Done m n = let p = free_parts (coordinate h) m in let c = by-core ks h Freed 1 (freed-less (commits h) (coordinate h) p.1) (omega arith) (omega arith) in omega arith
free_falls ks h Full m n = absurd cc
free_falls ks h StoppedNow m n = stop_falls ks h (free_parts (coordinate h) m).0
free_falls ks h StoppedBefore m n = stop_falls ks h (free_parts (coordinate h) m).0

-- the coordinator's act leaves less
pub coordinates_fall : (ks : List EnteredCall) (h : List Entry) (a : LogAnswer) → may_coordinate (coordinate h) a ≡ true → left ks (onto h (coordinates (coordinate h) a)) < left ks h
coordinates_fall ks h a m = by (may_log (coordinate h)) refl m
  where
    by : (b : Bool) → may_log (coordinate h) ≡ b → (b || (may_free (coordinate h) && not (is_full_answer a))) ≡ true
        → left ks (onto h (if b then appended (coordinate h) a else freed a)) < left ks h
    by true q m = append_falls ks h a q
    by false q m = free_falls ks h a (and_left (may_free (coordinate h)) (not (is_full_answer a)) m) (not_true (is_full_answer a) (and_right (may_free (coordinate h)) (not (is_full_answer a)) m))

-- A message that is got. The coordinator is left with so much, and the connections with the message's weight less.
pub got-by : (ks : List EnteredCall) (h : List Entry) (c : Conn) (m : Message) (ms : List Message) (a b : ℕ) → in_transit c Up h ≡ m ∷ ms → has (same_connection c) (opened h) ≡ true
    → core_left (commits (Got c Up m ∷ h)) (follow (coordinate h) (Got c Up m)) + b ≤ core_left (commits h) (coordinate h) + a → left ks (Got c Up m ∷ h) + weight Up m + b ≤ left ks h + a
unfolding coordinate
got-by ks h c m ms a b t o l =
    let w = wires-got c Up m ms h t o in
    let p = got-half ks c Up m h in
    let g : gain c Up m ≡ 0 = no_gain c in omega arith
  where
    no_gain : (c : Conn) → gain c Up m ≡ 0
    no_gain Begin = refl
    no_gain Voter = refl
    no_gain (Enl e) = refl
    no_gain (Again e) = refl

-- where the number of COMMITs doesn't matter
pub got-left : (ks : List EnteredCall) (h : List Entry) (c : Conn) (m : Message) (ms : List Message) (a b : ℕ) → in_transit c Up h ≡ m ∷ ms → has (same_connection c) (opened h) ≡ true
    → core_left (commits (Got c Up m ∷ h)) (follow (coordinate h) (Got c Up m)) + b ≤ core_left (commits (Got c Up m ∷ h)) (coordinate h) + a → left ks (Got c Up m ∷ h) + weight Up m + b ≤ left ks h + a
got-left ks h c m ms a b t o l = let z = commits-more (Got c Up m) h (coordinate h) in got-by ks h c m ms a b t o (omega arith)

-- BEGIN
pub begin-core : (asks : ℕ) (k : Coordinated) → core_left asks (follow k (Got Begin Up BeginBegin)) ≤ core_left asks k
unfolding follow
begin-core asks k = by k.stage
  where
    by : (s : Stage) → outcome_left (begin_if s) (length k.desks + length k.waits) + asks_left asks (2 * length k.desks + 2) + unless k.stopped 1
        ≤ outcome_left s (length k.desks + length k.waits) + asks_left asks (2 * length k.desks + 2) + unless k.stopped 1
    by Idle = omega arith
    by Active = omega arith
    by Sole = omega arith
    by Given = omega arith
    by Answered = omega arith
    by Aborted = omega arith
    by Recorded = omega arith
    by Over = omega arith
    by Unknown = omega arith

-- COMMIT, before which one came at most
pub commit-core : (asks : ℕ) (k : Coordinated) → asks ≤ 1 → core_left (suc asks) (follow k (Got Begin Up BeginCommit)) + (2 * length k.desks + 2) ≤ core_left asks k
unfolding follow
commit-core zero k l = omega arith
commit-core (suc zero) k l = omega arith
commit-core (suc (suc n)) k l = absurd (omega (arith, l))

-- COMMIT for a single phase, before which one came at most
pub commit-one-core : (asks : ℕ) (k : Coordinated) → asks ≤ 1 → core_left (suc asks) (follow k (Got Begin Up BeginCommitOne)) + (2 * length k.desks + 2) ≤ core_left asks k
unfolding follow
commit-one-core asks k l = let a = stages k.stage k.commit (is_one k.desks) (length k.desks + length k.waits) in let b = fewer asks l in omega arith
  where
    fewer : (n : ℕ) → n ≤ 1 → asks_left (suc n) (2 * length k.desks + 2) + (2 * length k.desks + 2) ≤ asks_left n (2 * length k.desks + 2)
    fewer zero l = omega arith
    fewer (suc zero) l = omega arith
    fewer (suc (suc n)) l = absurd (omega (arith, l))

    stages : (s : Stage) (came one : Bool) (n : ℕ) → outcome_left (sole_if (is_active s && not came) one s) n ≤ outcome_left s n
    stages Active true one n = omega arith
    stages Active false true n = omega arith
    stages Active false false n = omega arith
    stages Idle came one n = omega arith
    stages Sole came one n = omega arith
    stages Given came one n = omega arith
    stages Answered came one n = omega arith
    stages Aborted came one n = omega arith
    stages Recorded came one n = omega arith
    stages Over came one n = omega arith
    stages Unknown came one n = omega arith

-- where not exactly one enlistment came, the outcome of each is left to be sent
pub not-one-core : (asks : ℕ) (k : Coordinated) → accepts k ≡ true → is_one k.desks ≡ false
    → core_left asks (follow k (Got Begin Up BeginCommitOne)) + (3 * length k.desks + 3 * length k.waits + 6) ≤ core_left asks k
unfolding follow
not-one-core asks k a o = rw (a, o) (by k.stage (and_left (is_active k.stage) (not k.commit) a))
  where
    by : (s : Stage) → is_active s ≡ true → (0 + asks_left asks (2 * length k.desks + 2) + unless k.stopped 1) + (3 * length k.desks + 3 * length k.waits + 6)
        ≤ outcome_left s (length k.desks + length k.waits) + asks_left asks (2 * length k.desks + 2) + unless k.stopped 1
    by Active a = omega arith
    by Idle a = absurd cc
    by Sole a = absurd cc
    by Given a = absurd cc
    by Answered a = absurd cc
    by Aborted a = absurd cc
    by Recorded a = absurd cc
    by Over a = absurd cc
    by Unknown a = absurd cc

-- the answer of the one that decides, or its end: what is left of the outcome is what is sent by it
given-out : (s : Stage) (n : ℕ) → is_given s ≡ true → 3 * n + 6 ≤ outcome_left s n
given-out Given n g = omega arith
given-out Idle n g = absurd cc
given-out Active n g = absurd cc
given-out Sole n g = absurd cc
given-out Answered n g = absurd cc
given-out Aborted n g = absurd cc
given-out Recorded n g = absurd cc
given-out Over n g = absurd cc
given-out Unknown n g = absurd cc

-- so much is left where it decides, and nothing of it after its answer
pub is-left-given : (asks : ℕ) (k : Coordinated) (x : Entry) → is_given k.stage ≡ true → (follow k x).stage ≡ Answered → (follow k x).desks ≡ k.desks → (follow k x).stopped ≡ k.stopped
    → core_left asks (follow k x) + 6 ≤ core_left asks k
is-left-given asks k x g s d p = rw (s, d, p) (let a = given-out k.stage (length k.desks + length k.waits) g in omega arith)

-- ENLIST, by which a desk may come
pub enlist-core : (asks : ℕ) (k : Coordinated) (e : EnlNo) (i : Info) → core_left asks (follow k (Got (Enl e) Up (EnlistEnlist i))) ≤ core_left asks k + 7
unfolding follow
enlist-core asks k e i = by (accepts k)
  where
    more : length (insert_by desk_number (record { enlistment = e; manager = i.rm; ballot = None; acked = false }) k.desks) ≡ suc (length k.desks)
    more = length-insert_by desk_number (record { enlistment = e; manager = i.rm; ballot = None; acked = false }) k.desks

    stages : (s : Stage) (n : ℕ) → outcome_left s (n + 1) ≤ outcome_left s n + 3
    stages Idle n = omega arith
    stages Active n = omega arith
    stages Sole n = omega arith
    stages Given n = omega arith
    stages Answered n = omega arith
    stages Aborted n = omega arith
    stages Recorded n = omega arith
    stages Over n = omega arith
    stages Unknown n = omega arith

    prepares : (b n : ℕ) → asks_left b (2 * (n + 1) + 2) ≤ asks_left b (2 * n + 2) + 4
    prepares zero n = omega arith
    prepares (suc zero) n = omega arith
    prepares (suc (suc b)) n = omega arith

    none_yet : Option Ballot
    none_yet = None

    by : (b : Bool) → outcome_left k.stage (length (if b then insert_by desk_number (record { enlistment = e; manager = i.rm; ballot = none_yet; acked = false }) k.desks else k.desks) + length k.waits)
        + asks_left asks (2 * length (if b then insert_by desk_number (record { enlistment = e; manager = i.rm; ballot = none_yet; acked = false }) k.desks else k.desks) + 2) + unless k.stopped 1
        ≤ (outcome_left k.stage (length k.desks + length k.waits) + asks_left asks (2 * length k.desks + 2) + unless k.stopped 1) + 7
    by true =
        let n = length k.desks in
        let q = more in
        let p : n + 1 + length k.waits ≡ (n + length k.waits) + 1 = omega arith in
        let s : length (insert_by desk_number (record { enlistment = e; manager = i.rm; ballot = none_yet; acked = false }) k.desks) ≡ n + 1 = omega arith in
        rw (s, p) (let x = stages k.stage (n + length k.waits) in let y = prepares asks n in omega arith)
    by false = omega arith
