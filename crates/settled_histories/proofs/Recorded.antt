-- The coordinator's side: where COMMIT for two phases, YES and each vote were got and it has decided nothing, it may log.
use Rattle.std.proofs.Common.{ℕ, ◌==◌, Bool, false, ◌≡◌, true, List, [], ◌∷◌, ◌++◌, ◌&&◌, ◌∙◌, ap, refl, ◌||◌, Some, sym, None}
use Rattle.std.specs.Prelude.{not, map, if◌then◌else◌}
use Rattle.std.proofs.lemmas.Bool.{or_left, false_from_ne_true, eq-eqb, eqb-true}
use Rattle.dtx_values.specs.declared.entry.Entry.{Entry}
use Rattle.dtx_values.specs.declared.entry.Entry.TheVariants.{Sent, Got, Restarted}
use Rattle.dtx_values.specs.declared.message.Conn.TheVariants.{Enl, Begin, Voter, Again}
use Rattle.dtx_values.specs.declared.message.Dir.TheVariants.{Down, Up}
use Rattle.dtx_values.specs.declared.message.Message.{Message}
use Rattle.dtx_values.specs.declared.message.Message.TheVariants.{EnlistPrepare, BeginCommit, VoterAsk, VoterYes, EnlistEnlist, EnlistOneAborted, EnlistOneCommitted, EnlistOneInDoubt, EnlistPrepared, EnlistNo, EnlistReadonly, EnlistAck, ReenlistAck}
use Rattle.dtx_values.specs.declared.number.EnlNo.{EnlNo}
use Rattle.dtx_values.specs.Ends.{same_connection}
use Rattle.dtx_values.specs.Lines.{has_line}
use Rattle.dtx_values.specs.Table.{insert_by}
use Rattle.dtx_model.specs.declared.desk.Ballot.{Ballot}
use Rattle.dtx_model.specs.declared.desk.Ballot.TheVariants.{Prepared, ReadOnly}
use Rattle.dtx_model.specs.declared.desk.Desk.{Desk}
use Rattle.dtx_model.specs.Words.{has, each, onto, always}
use Rattle.dtx_model.specs.Entries.{is_commit_got, is_yes_got}
use Rattle.dtx_model.specs.Coordinated.{Coordinated, is_desk_of, to_each, coordinate, core_got, is_active, is_going, to, follow, is_ready, with_ballot, accepts, desk_number, with_ack, may_log}
use Rattle.dtx_model.proofs.Bools.{or_right, or_second, and_left, and_right, or_case, and_both, not_both, not_true}
use Rattle.history_table.proofs.Messages.{COMMIT, COMMIT_ONE, COMMIT_TWO, YES, ENLIST, VOTED}
use Rattle.history_table.proofs.Crossed.{is_got_on}
use Rattle.history_table.proofs.CoreStages.{stopped_same}
use Rattle.history_table.proofs.Scans.{each_more}
use Rattle.history_table.proofs.Tests.{not_up}
use Rattle.history_table.proofs.Managed.{each_inserted}
use Rattle.settled_histories.proofs.Stages.{IsOpenThere, active_at, active_stage, begin_got, committed_two, first_active, stage_seen, there_before, two_phase}
use Rattle.settled_histories.proofs.Fine.{IsFine}
use Rattle.settled_histories.proofs.Wired.{unstopped, newest}
use Rattle.settled_histories.proofs.Foregoing.{voted_commit, voted_two}
use Rattle.settled_histories.proofs.Rest.{is_ordered}

-- PREPARE is sent to this enlistment
abbrev pub is_prepare_to : ℕ → Entry → Bool
is_prepare_to e (Sent (Enl f) Down EnlistPrepare) = e == f.value
is_prepare_to e _ = false

has_second : {A : Type 0} (p : A → Bool) (xs ys : List A) → has p ys ≡ true → has p (xs ++ ys) ≡ true
has_second p [] ys k = k
has_second p (x ∷ xs) ys k = or_right (p x) (has p (xs ++ ys)) (has_second p xs ys k)

-- PREPARE is sent to each desk on a connection that is known
each_prepared : (k : Coordinated) (e : ℕ) (ds : List Desk) → each (λ d. has (same_connection (Enl d.enlistment)) k.known) ds ≡ true → has (is_desk_of e) ds ≡ true
    → has (is_prepare_to e) (to_each k EnlistPrepare ds) ≡ true
each_prepared k e [] n a = absurd cc
each_prepared k e (d ∷ ds) n a =
    rw (and_left (has (same_connection (Enl d.enlistment)) k.known) (each (λ d. has (same_connection (Enl d.enlistment)) k.known) ds) n)
    (or_case (is_desk_of e d) (has (is_desk_of e) ds) (λ q. or_left (is_desk_of e d) (has (is_prepare_to e) (to_each k EnlistPrepare ds)) q)
    (λ q. or_right (is_desk_of e d) (has (is_prepare_to e) (to_each k EnlistPrepare ds)) (each_prepared k e ds (and_right (has (same_connection (Enl d.enlistment)) k.known) (each (λ d. has (same_connection (Enl d.enlistment)) k.known) ds) n) q)) a)

-- an entry of a block stands after it
has_onto : {A : Type 0} (p : A → Bool) (h xs : List A) → has p xs ≡ true → has p (onto h xs) ≡ true
has_onto p h [] k = absurd cc
has_onto p h (x ∷ xs) k = or_case (p x) (has p xs) (λ q. stays p (x ∷ h) xs (or_left (p x) (has p h) q)) (λ q. has_onto p (x ∷ h) xs q) k
  where
    stays : {A : Type 0} (p : A → Bool) (h xs : List A) → has p h ≡ true → has p (onto h xs) ≡ true
    stays p h [] k = k
    stays p h (x ∷ xs) k = stays p (x ∷ h) xs (or_right (p x) (has p h) k)

-- so the block of COMMIT asks each desk to prepare
pub commit_asks : (id : ℕ) (h : List Entry) (e : ℕ) → is_active (coordinate h).stage ≡ true → each (λ d. has (same_connection (Enl d.enlistment)) (coordinate h).known) (coordinate h).desks ≡ true
    → has (is_desk_of e) (coordinate h).desks ≡ true → has (is_prepare_to e) (onto (Got Begin Up BeginCommit ∷ h) (core_got id (coordinate h) Begin BeginCommit)) ≡ true
unfolding core_got
commit_asks id h e a n d =
    has_onto (is_prepare_to e) (Got Begin Up BeginCommit ∷ h) (core_got id (coordinate h) Begin BeginCommit)
    (rw a (has_second (is_prepare_to e) (to (coordinate h) Voter VoterAsk) (to_each (coordinate h) EnlistPrepare (coordinate h).desks) (each_prepared (coordinate h) e (coordinate h).desks n d)))

-- COMMIT for two phases and YES are noted
pub commit_seen : (h : List Entry) → IsOpenThere h → has (is_got_on Begin Up COMMIT_TWO) h ≡ true → (coordinate h).commit ≡ true
unfolding coordinate follow
commit_seen [] r k = absurd cc
commit_seen (Got Begin Up BeginCommit ∷ h) r k =
    or_left (is_active (coordinate h).stage) (coordinate h).commit (ap is_active (first_active BeginCommit h refl r))
commit_seen (x ∷ h) r k = or_right (is_commit_got x && is_active (coordinate h).stage) (coordinate h).commit (commit_seen h (there_before x h r) k)

pub yes_seen : (h : List Entry) → IsOpenThere h → has (is_got_on Begin Up COMMIT_ONE) h ≡ false → has (is_got_on Voter Up YES) h ≡ true → (coordinate h).yes ≡ true
unfolding coordinate follow
yes_seen [] r n k = absurd cc
yes_seen (Got Voter Up VoterYes ∷ h) r n k =
    or_left (is_going (coordinate h).stage) (coordinate h).yes (ap is_going (active_at Voter VoterYes h refl (there_before (Got Voter Up VoterYes) h r) r.fine.wired.run.0 n))
yes_seen (x ∷ h) r n k =
    or_right (is_yes_got x && is_going (coordinate h).stage) (coordinate h).yes (yes_seen h (there_before x h r) (or_second (is_got_on Begin Up COMMIT_ONE x) (has (is_got_on Begin Up COMMIT_ONE) h) n) k)

-- it doesn't stand stopped
running : (h : List Entry) → IsFine h → (coordinate h).stopped ≡ false
running h f = stopped_same h ∙ unstopped h f.wired.unstopped

-- Each desk's ENLIST was got, and it is ready where its vote was got.
abbrev pub desk_seen : List Entry → Desk → Bool
desk_seen h d = has (is_got_on (Enl d.enlistment) Up ENLIST) h && (not (has (is_got_on (Enl d.enlistment) Up VOTED) h) || is_ready d.ballot)

more_seen : (a v n q r : Bool) → v ≡ false → (n && (not q || r)) ≡ true → ((a || n) && (not (v || q) || r)) ≡ true
more_seen a true n q r k s = absurd cc
more_seen true false true q r k s = s
more_seen true false false q r k s = absurd cc
more_seen false false n q r k s = s

-- an entry that is no vote of it leaves it so
stays_seen : (x : Entry) (h : List Entry) (d : Desk) → is_got_on (Enl d.enlistment) Up VOTED x ≡ false → desk_seen h d ≡ true → desk_seen (x ∷ h) d ≡ true
stays_seen x h d k s =
    more_seen (is_got_on (Enl d.enlistment) Up ENLIST x) (is_got_on (Enl d.enlistment) Up VOTED x) (has (is_got_on (Enl d.enlistment) Up ENLIST) h) (has (is_got_on (Enl d.enlistment) Up VOTED) h)
    (is_ready d.ballot) k s

no_vote : (a b : Bool) → (a && b && false) ≡ false
no_vote true true = refl
no_vote true false = refl
no_vote false b = refl

pub each_changed : (p q : Desk → Bool) (f : Desk → Desk) → ((d : Desk) → p d ≡ true → q (f d) ≡ true) → (ds : List Desk) → each p ds ≡ true → each q (map f ds) ≡ true
each_changed p q f sub [] k = refl
each_changed p q f sub (d ∷ ds) k = and_both (q (f d)) (each q (map f ds)) (sub d (and_left (p d) (each p ds) k)) (each_changed p q f sub ds (and_right (p d) (each p ds) k))

-- no vote was got before COMMIT
pub unvoted : (e : EnlNo) (h : List Entry) → IsOpenThere h → has (is_got_on Begin Up COMMIT) h ≡ false → has (is_got_on (Enl e) Up VOTED) h ≡ false
unvoted e h r n =
    false_from_ne_true (has (is_got_on (Enl e) Up VOTED) h) (λ k. not_both (has (is_got_on Begin Up COMMIT) h) (voted_commit e h r.fine.wired.run r.ordered k) n)

-- a vote is noted at its desk
voted_desk : (e : EnlNo) (b : Ballot) (m : Message) (h : List Entry) (d : Desk) → is_ready (Some b) ≡ true → VOTED m ≡ true → desk_seen h d ≡ true → desk_seen (Got (Enl e) Up m ∷ h) (with_ballot e.value (Some b) d) ≡ true
voted_desk e b m h d r v k = step (is_desk_of e.value d) refl
  where
    step : (c : Bool) → is_desk_of e.value d ≡ c → desk_seen (Got (Enl e) Up m ∷ h) (if c then record { enlistment = d.enlistment; manager = d.manager; ballot = Some b; acked = d.acked } else d) ≡ true
    step true q =
        and_both (has (is_got_on (Enl d.enlistment) Up ENLIST) (Got (Enl e) Up m ∷ h)) (not (has (is_got_on (Enl d.enlistment) Up VOTED) (Got (Enl e) Up m ∷ h)) || is_ready (Some b))
        (or_right (is_got_on (Enl d.enlistment) Up ENLIST (Got (Enl e) Up m)) (has (is_got_on (Enl d.enlistment) Up ENLIST) h)
        (and_left (has (is_got_on (Enl d.enlistment) Up ENLIST) h) (not (has (is_got_on (Enl d.enlistment) Up VOTED) h) || is_ready d.ballot) k))
        (or_right (not (has (is_got_on (Enl d.enlistment) Up VOTED) (Got (Enl e) Up m ∷ h))) (is_ready (Some b)) r)
    step false q = stays_seen (Got (Enl e) Up m) h d (other (d.enlistment.value == e.value) refl) k
      where
        other : (c : Bool) → (d.enlistment.value == e.value) ≡ c → (c && true && VOTED m) ≡ false
        other true p = absurd (not_both (e.value == d.enlistment.value) (eq-eqb e.value d.enlistment.value (sym (eqb-true d.enlistment.value e.value p))) q)
        other false p = refl

-- a vote is got after COMMIT for two phases
voted_phase : (e : EnlNo) (h : List Entry) → IsOpenThere h → has (is_got_on (Enl e) Up VOTED) h ≡ true → has (is_got_on Begin Up COMMIT_ONE) h ≡ false
voted_phase e h r k = two_phase h r.once (voted_two e h r.fine.wired.run r.ordered k)

own_vote : (e : EnlNo) (m : Message) (h : List Entry) → VOTED m ≡ true → has (is_got_on (Enl e) Up VOTED) (Got (Enl e) Up m ∷ h) ≡ true
own_vote e m h v = or_left ((e.value == e.value) && true && VOTED m) (has (is_got_on (Enl e) Up VOTED) h) (and_both ((e.value == e.value) && true) (VOTED m) (and_both (e.value == e.value) true (eq-eqb e.value e.value refl) refl) v)

pub desks_seen : (h : List Entry) → IsOpenThere h → each (desk_seen h) (coordinate h).desks ≡ true
unfolding coordinate follow
desks_seen [] r = refl
desks_seen (Got (Enl e) Up (EnlistEnlist i) ∷ h) r =
    let x = Got (Enl e) Up (EnlistEnlist i) in
    let before = there_before x h r in
    let old = each_more (desk_seen h) (desk_seen (x ∷ h)) (λ d k. stays_seen x h d (no_vote (d.enlistment.value == e.value) true) k) (coordinate h).desks (desks_seen h before) in
    let early : has (is_got_on Begin Up COMMIT) h ≡ false = not_true (has (is_got_on Begin Up COMMIT) h) (and_left (not (has (is_got_on Begin Up COMMIT) h)) (always is_ordered h) r.ordered) in
    step (accepts (coordinate h)) old
    (each_inserted (desk_seen (x ∷ h)) (record { enlistment = e; manager = i.rm; ballot = None; acked = false }) (coordinate h).desks (new (has (is_got_on (Enl e) Up VOTED) h) (unvoted e h before early)) old)
  where
    step : (b : Bool) → each (desk_seen (Got (Enl e) Up (EnlistEnlist i) ∷ h)) (coordinate h).desks ≡ true
        → each (desk_seen (Got (Enl e) Up (EnlistEnlist i) ∷ h)) (insert_by desk_number (record { enlistment = e; manager = i.rm; ballot = None; acked = false }) (coordinate h).desks) ≡ true
        → each (desk_seen (Got (Enl e) Up (EnlistEnlist i) ∷ h))
        (if b then insert_by desk_number (record { enlistment = e; manager = i.rm; ballot = None; acked = false }) (coordinate h).desks else (coordinate h).desks) ≡ true
    step true old more = more
    step false old more = old

    new : (v : Bool) → v ≡ false → ((((e.value == e.value) && true && true) || has (is_got_on (Enl e) Up ENLIST) h) && (not (((e.value == e.value) && true && false) || v) || false)) ≡ true
    new true q = absurd cc
    new false q = rw (eq-eqb e.value e.value refl) refl
desks_seen (Got (Enl e) Up EnlistPrepared ∷ h) r =
    rw (active_at (Enl e) EnlistPrepared h refl (there_before (Got (Enl e) Up EnlistPrepared) h r) r.fine.wired.run.0 (voted_phase e (Got (Enl e) Up EnlistPrepared ∷ h) r (own_vote e EnlistPrepared h refl)))
    (each_changed (desk_seen h) (desk_seen (Got (Enl e) Up EnlistPrepared ∷ h)) (with_ballot e.value (Some Prepared)) (λ d k. voted_desk e Prepared EnlistPrepared h d refl refl k) (coordinate h).desks
    (desks_seen h (there_before (Got (Enl e) Up EnlistPrepared) h r)))
desks_seen (Got (Enl e) Up EnlistReadonly ∷ h) r =
    rw (active_at (Enl e) EnlistReadonly h refl (there_before (Got (Enl e) Up EnlistReadonly) h r) r.fine.wired.run.0 (voted_phase e (Got (Enl e) Up EnlistReadonly ∷ h) r (own_vote e EnlistReadonly h refl)))
    (each_changed (desk_seen h) (desk_seen (Got (Enl e) Up EnlistReadonly ∷ h)) (with_ballot e.value (Some ReadOnly)) (λ d k. voted_desk e ReadOnly EnlistReadonly h d refl refl k) (coordinate h).desks
    (desks_seen h (there_before (Got (Enl e) Up EnlistReadonly) h r)))
desks_seen (Got (Enl e) Up EnlistNo ∷ h) r = absurd cc
desks_seen (Got (Enl e) Up EnlistAck ∷ h) r =
    each_changed (desk_seen h) (desk_seen (Got (Enl e) Up EnlistAck ∷ h)) (with_ack e.value) (λ d k. stays_seen (Got (Enl e) Up EnlistAck) h d (no_vote (d.enlistment.value == e.value) true) k) (coordinate h).desks
    (desks_seen h (there_before (Got (Enl e) Up EnlistAck) h r))
desks_seen (Got (Again e) Up ReenlistAck ∷ h) r =
    each_changed (desk_seen h) (desk_seen (Got (Again e) Up ReenlistAck ∷ h)) (with_ack e.value) (λ d k. stays_seen (Got (Again e) Up ReenlistAck) h d refl k) (coordinate h).desks
    (desks_seen h (there_before (Got (Again e) Up ReenlistAck) h r))
desks_seen (Got (Enl e) Up EnlistOneCommitted ∷ h) r =
    by
    (each_more (desk_seen h) (desk_seen (Got (Enl e) Up EnlistOneCommitted ∷ h)) (λ d k. stays_seen (Got (Enl e) Up EnlistOneCommitted) h d (no_vote (d.enlistment.value == e.value) true) k) (coordinate h).desks
    (desks_seen h (there_before (Got (Enl e) Up EnlistOneCommitted) h r))) (is_active (coordinate h).stage)
  where
    by : each (desk_seen (Got (Enl e) Up EnlistOneCommitted ∷ h)) (coordinate h).desks ≡ true → (b : Bool) → each (desk_seen (Got (Enl e) Up EnlistOneCommitted ∷ h)) (if b then map (with_ballot e.value None) (coordinate h).desks else (coordinate h).desks) ≡ true
    by old true = each_changed (desk_seen (Got (Enl e) Up EnlistOneCommitted ∷ h)) (desk_seen (Got (Enl e) Up EnlistOneCommitted ∷ h)) (with_ballot e.value None) (λ d k. k) (coordinate h).desks old
    by old false = old
desks_seen (Got (Enl e) Up EnlistOneAborted ∷ h) r = let q : true ≡ false = r.fine.unbad in absurd cc
desks_seen (Got (Enl e) Up EnlistOneInDoubt ∷ h) r = let q : true ≡ false = r.fine.unbad in absurd cc
desks_seen (Got (Enl e) Up m ∷ h) r = absurd (not_both (has_line (Enl e) Up m) (newest (Got (Enl e) Up m) h r.fine.wired) refl)
desks_seen (Got (Enl e) Down m ∷ h) r =
    each_more (desk_seen h) (desk_seen (Got (Enl e) Down m ∷ h)) (λ d k. stays_seen (Got (Enl e) Down m) h d (not_up (d.enlistment.value == e.value) (VOTED m)) k) (coordinate h).desks
    (desks_seen h (there_before (Got (Enl e) Down m) h r))
desks_seen (Restarted b ∷ h) r = absurd cc
desks_seen (x ∷ h) r = each_more (desk_seen h) (desk_seen (x ∷ h)) (λ d k. stays_seen x h d refl k) (coordinate h).desks (desks_seen h (there_before x h r))

-- where COMMIT for two phases, YES and the vote of each ENLIST were got and nothing is decided, the append is pending
pub may_append : (h : List Entry) → IsOpenThere h → has (is_got_on Begin Up COMMIT_TWO) h ≡ true → has (is_got_on Voter Up YES) h ≡ true
    → ((e : EnlNo) → has (is_got_on (Enl e) Up ENLIST) h ≡ true → has (is_got_on (Enl e) Up VOTED) h ≡ true) → may_log (coordinate h) ≡ true
unfolding may_log
may_append h r commit answer votes =
    all (coordinate h).stopped (is_active (coordinate h).stage) (coordinate h).commit (coordinate h).yes (each (λ d. is_ready d.ballot) (coordinate h).desks) (running h r.fine)
    (ap is_active (active_stage h (stage_seen h r) (begin_got COMMIT h r.fine (committed_two h commit)) (two_phase h r.once commit))) (commit_seen h r commit) (yes_seen h r (two_phase h r.once commit) answer)
    (each_more (desk_seen h) (λ d. is_ready d.ballot) ready (coordinate h).desks (desks_seen h r))
  where
    all : (a b c d e : Bool) → a ≡ false → b ≡ true → c ≡ true → d ≡ true → e ≡ true → (not a && b && c && d && e) ≡ true
    all a b c d e p q r s t = rw (p, q, r, s, t) refl

    ready : (d : Desk) → desk_seen h d ≡ true → is_ready d.ballot ≡ true
    ready d k = or_case (not (has (is_got_on (Enl d.enlistment) Up VOTED) h)) (is_ready d.ballot)
        (λ n. absurd (not_both (has (is_got_on (Enl d.enlistment) Up VOTED) h) (votes d.enlistment (and_left (has (is_got_on (Enl d.enlistment) Up ENLIST) h) (not (has (is_got_on (Enl d.enlistment) Up VOTED) h) || is_ready d.ballot) k)) (not_true (has (is_got_on (Enl d.enlistment) Up VOTED) h) n)))
        (λ q. q) (and_right (has (is_got_on (Enl d.enlistment) Up ENLIST) h) (not (has (is_got_on (Enl d.enlistment) Up VOTED) h) || is_ready d.ballot) k)
