-- Until COMMIT is got, the coordinator knows each desk's connection; and it has a desk for each ENLIST that it got.
use Rattle.std.proofs.Common.{◌≡◌, ◌∙◌, ℕ, ◌==◌, Bool, true, false, ◌&&◌, ◌||◌, List, [], ◌∷◌, Option, Some, None, refl}
use Rattle.std.specs.Prelude.{not, map, if◌then◌else◌}
use Rattle.std.proofs.lemmas.Bool.{false_from_ne_true, or_left}
use Rattle.dtx_values.specs.declared.entry.Entry.{Entry}
use Rattle.dtx_values.specs.declared.entry.Entry.TheVariants.{Got, Down as End, Stopped, Restarted}
use Rattle.dtx_values.specs.declared.message.Conn.{Conn}
use Rattle.dtx_values.specs.declared.message.Conn.TheVariants.{Begin, Voter, Enl, Again}
use Rattle.dtx_values.specs.declared.message.Dir.TheVariants.{Up, Down}
use Rattle.dtx_values.specs.declared.message.Message.{Message}
use Rattle.dtx_values.specs.declared.message.Message.TheVariants.{EnlistEnlist, EnlistOneAborted, EnlistPrepared, EnlistNo, EnlistReadonly, EnlistAck, ReenlistAck}
use Rattle.dtx_values.specs.declared.number.EnlNo.{EnlNo}
use Rattle.dtx_values.specs.Ends.{order_of, same_connection}
use Rattle.dtx_values.specs.Lines.{has_line, is_opening}
use Rattle.dtx_values.specs.Table.{insert_by}
use Rattle.dtx_model.specs.declared.desk.Ballot.{Ballot}
use Rattle.dtx_model.specs.declared.desk.Desk.{Desk}
use Rattle.dtx_model.specs.Words.{has, each, always}
use Rattle.dtx_model.specs.Entries.{is_any_single_sent, is_single_sent, is_vote_got}
use Rattle.dtx_model.specs.Coordinated.{accepts, ballot_of, coordinate, desk_number, desks_after, follow, is_active, is_desk_of, known_after, with_ack, with_ballot, without}
use Rattle.dtx_model.proofs.Bools.{and_left, or_case, or_first, or_second, or_right, not_both, not_true}
use Rattle.history_table.proofs.Lists.{has-insert}
use Rattle.history_table.proofs.Scans.{each_more, has_less}
use Rattle.history_table.proofs.Messages.{COMMIT, ENLIST, VOTED}
use Rattle.settled_histories.proofs.Fine.{IsFine, is_bad, is_spared}
use Rattle.settled_histories.proofs.Rest.{is_ordered}
use Rattle.settled_histories.proofs.Wired.{newest}
use Rattle.dtx_model.proofs.Connections.{same_self}
use Rattle.settled_histories.proofs.Knowledge.{elsewhere, known_still, known_without}
use Rattle.settled_histories.proofs.Stages.{IsOpenThere, active_at, commit_unseen, committed_one, single_committed, there_before, uncommitted_one}
use Rattle.history_table.proofs.LetDecide.{single_any}
use Rattle.settled_histories.proofs.Recorded.{each_changed}
use Rattle.history_table.proofs.Managed.{each_inserted}
use Rattle.settled_histories.proofs.Foregoing.{voted_commit}
use Rattle.history_table.proofs.CoreKnown.{has_made}
use Rattle.history_table.proofs.Crossed.{is_got_on}

-- a vote that was got is a good one
voted_well : (e : EnlNo) (h : List Entry) → has is_bad h ≡ false → has (is_vote_got e.value) h ≡ true → has (is_got_on (Enl e) Up VOTED) h ≡ true
voted_well e [] u k = absurd cc
voted_well e (x ∷ h) u k =
    or_case (is_vote_got e.value x) (has (is_vote_got e.value) h)
    (λ q. or_left (is_got_on (Enl e) Up VOTED x) (has (is_got_on (Enl e) Up VOTED) h) (at e x (or_first (is_bad x) (has is_bad h) u) q))
    (λ q. or_right (is_got_on (Enl e) Up VOTED x) (has (is_got_on (Enl e) Up VOTED) h) (voted_well e h (or_second (is_bad x) (has is_bad h) u) q)) k
  where
    on : (a : Bool) → a ≡ true → (a && true && true) ≡ true
    on true k = refl
    on false k = k

    at : (e : EnlNo) (x : Entry) → is_bad x ≡ false → is_vote_got e.value x ≡ true → is_got_on (Enl e) Up VOTED x ≡ true
    at e (Got (Enl f) Up EnlistPrepared) u q = on (e.value == f.value) q
    at e (Got (Enl f) Up EnlistReadonly) u q = on (e.value == f.value) q
    at e (Got (Enl f) Up EnlistNo) u q = absurd cc
    at e x u q = absurd cc

-- so before COMMIT the coordinator sees no end of an enlistment's own connection
unended : (e : EnlNo) (d : Conn) (h : List Entry) → IsOpenThere (End d Up ∷ h) → has (is_got_on Begin Up COMMIT) h ≡ false → same_connection (Enl e) d ≡ false
unended e (Enl f) h r n =
    let b = there_before (End (Enl f) Up) h r in
    let early : has is_any_single_sent h ≡ false =
    false_from_ne_true (has is_any_single_sent h) (λ q. not_both (has (is_got_on Begin Up COMMIT) h) (committed_one h (single_committed h b.ordered q)) n) in
    let voted : has (is_vote_got f.value) h ≡ true =
    spared (has (is_vote_got f.value) h) (has (is_single_sent f.value) h) (has_less (is_single_sent f.value) is_any_single_sent (single_any f.value) h early) (and_left (is_spared h (End (Enl f) Up)) (always is_spared h) r.fine.spared) in
    absurd (not_both (has (is_got_on Begin Up COMMIT) h) (voted_commit f h b.fine.wired.run b.ordered (voted_well f h b.fine.unbad voted)) n)
  where
    spared : (a s : Bool) → s ≡ false → not (not a && not s) ≡ true → a ≡ true
    spared true s n k = refl
    spared false true n k = absurd cc
    spared false false n k = absurd cc
unended e Begin h r n = refl
unended e Voter h r n = refl
unended e (Again f) h r n = refl

-- a connection stays known with any entry that comes before COMMIT
stays_known : (e : EnlNo) (x : Entry) (h : List Entry) (ks : List Conn) → IsOpenThere (x ∷ h) → has (is_got_on Begin Up COMMIT) h ≡ false → has (same_connection (Enl e)) ks ≡ true
    → has (same_connection (Enl e)) (known_after x ks) ≡ true
stays_known e (Got d Up m) h ks r n k = step (has_line d Up m) (is_opening d m) (newest (Got d Up m) h r.fine.wired)
  where
    step : (l o : Bool) → l ≡ true → has (same_connection (Enl e)) (if not l then without d ks else if o then insert_by order_of d (without d ks) else ks) ≡ true
    step true true q = known_still (Enl e) d ks k
    step true false q = k
    step false o q = absurd cc
stays_known e (End d Up) h ks r n k = known_without (Enl e) d ks (unended e d h r n) k
stays_known e Stopped h ks r n k = let q : true ≡ false = r.fine.wired.unstopped in absurd cc
stays_known e x h ks r n k = k

abbrev pub is_desk_known : List Conn → Desk → Bool
is_desk_known ks d = has (same_connection (Enl d.enlistment)) ks

-- until COMMIT is got, each desk's is known
pub desks_known : (h : List Entry) → IsOpenThere h → has (is_got_on Begin Up COMMIT) h ≡ false → each (is_desk_known (coordinate h).known) (coordinate h).desks ≡ true
unfolding coordinate follow
desks_known [] r n = refl
desks_known (x ∷ h) r n =
    changed x r.fine
    (each_more (is_desk_known (coordinate h).known) (is_desk_known (known_after x (coordinate h).known)) (λ d k. stays_known d.enlistment x h (coordinate h).known r early k) (coordinate h).desks
    (desks_known h (there_before x h r) early))
  where
    early : has (is_got_on Begin Up COMMIT) h ≡ false
    early = or_second (is_got_on Begin Up COMMIT x) (has (is_got_on Begin Up COMMIT) h) n

    both : (b : Bool) (xs ys : List Desk) (p : Desk → Bool) → each p xs ≡ true → each p ys ≡ true → each p (if b then xs else ys) ≡ true
    both true xs ys p a k = a
    both false xs ys p a k = k

    balloted : (ks : List Conn) (e : ℕ) (m : Message) (d : Desk) → is_desk_known ks d ≡ true → is_desk_known ks (with_ballot e (ballot_of m) d) ≡ true
    balloted ks e m d k = by (ballot_of m)
      where
        by : (o : Option Ballot) → is_desk_known ks (with_ballot e o d) ≡ true
        by (Some b) = at (is_desk_of e d)
          where
            at : (c : Bool) → is_desk_known ks (if c then record { enlistment = d.enlistment; manager = d.manager; ballot = Some b; acked = d.acked } else d) ≡ true
            at true = k
            at false = k
        by None = k

    changed : (x : Entry) → IsFine (x ∷ h) → each (is_desk_known (known_after x (coordinate h).known)) (coordinate h).desks ≡ true
        → each (is_desk_known (known_after x (coordinate h).known)) (desks_after (coordinate h) x) ≡ true
    changed (Got (Enl e) Up (EnlistEnlist i)) f k =
        let p = is_desk_known (insert_by order_of (Enl e) (without (Enl e) (coordinate h).known)) in
        let new : Desk = record { enlistment = e; manager = i.rm; ballot = None; acked = false } in
        both (accepts (coordinate h)) (insert_by desk_number new (coordinate h).desks) (coordinate h).desks p
        (each_inserted p new (coordinate h).desks
        (has-insert (same_connection (Enl e)) order_of (Enl e) (without (Enl e) (coordinate h).known)
        ∙ or_left (same_connection (Enl e) (Enl e)) (has (same_connection (Enl e)) (without (Enl e) (coordinate h).known)) (same_self (Enl e))) k) k
    changed (Got (Enl e) Up EnlistAck) f k = each_changed (is_desk_known (coordinate h).known) (is_desk_known (coordinate h).known) (with_ack e.value) (λ d q. q) (coordinate h).desks k
    changed (Got (Again e) Up ReenlistAck) f k = each_changed (is_desk_known (coordinate h).known) (is_desk_known (coordinate h).known) (with_ack e.value) (λ d q. q) (coordinate h).desks k
    changed (Got (Enl e) Up EnlistOneAborted) f k = let q : true ≡ false = f.unbad in absurd cc
    changed (Got (Enl e) Up m) f k =
        let p = is_desk_known (known_after (Got (Enl e) Up m) (coordinate h).known) in
        both (is_active (coordinate h).stage) (map (with_ballot e.value (ballot_of m)) (coordinate h).desks) (coordinate h).desks p
        (each_changed p p (with_ballot e.value (ballot_of m)) (balloted (known_after (Got (Enl e) Up m) (coordinate h).known) e.value m) (coordinate h).desks k) k
    changed (Restarted b) f k = absurd cc
    changed x f k = k

-- a desk keeps its name
named_ballot : (n e : ℕ) (o : Option Ballot) (d : Desk) → is_desk_of n d ≡ true → is_desk_of n (with_ballot e o d) ≡ true
named_ballot n e (Some b) d k = at (is_desk_of e d)
  where
    at : (c : Bool) → is_desk_of n (if c then record { enlistment = d.enlistment; manager = d.manager; ballot = Some b; acked = d.acked } else d) ≡ true
    at true = k
    at false = k
named_ballot n e None d k = k

-- another message
later : (a b : Bool) → ((a && true && false) || b) ≡ true → b ≡ true
later true b k = k
later false b k = k

either : (b : Bool) (p : Desk → Bool) (xs ys : List Desk) → has p xs ≡ true → has p ys ≡ true → has p (if b then xs else ys) ≡ true
either true p xs ys a k = a
either false p xs ys a k = k

-- it has a desk for each ENLIST that it got
pub desk_there : (e : EnlNo) (h : List Entry) → IsOpenThere h → has (is_got_on (Enl e) Up ENLIST) h ≡ true → has (is_desk_of e.value) (coordinate h).desks ≡ true
unfolding coordinate follow
desk_there e [] r k = absurd cc
desk_there e (Got (Enl f) Up (EnlistEnlist i) ∷ h) r k =
    let x = Got (Enl f) Up (EnlistEnlist i) in
    let before = there_before x h r in
    let early : has (is_got_on Begin Up COMMIT) h ≡ false = not_true (has (is_got_on Begin Up COMMIT) h) (and_left (not (has (is_got_on Begin Up COMMIT) h)) (always is_ordered h) r.ordered) in
    rw (active_at (Enl f) (EnlistEnlist i) h refl before r.fine.wired.run.0 (uncommitted_one h early), commit_unseen h early)
    (has-insert (is_desk_of e.value) desk_number (record { enlistment = f; manager = i.rm; ballot = None; acked = false }) (coordinate h).desks
    ∙ (or_case ((e.value == f.value) && true && true) (has (is_got_on (Enl e) Up ENLIST) h)
    (λ q. or_left (e.value == f.value) (has (is_desk_of e.value) (coordinate h).desks) (and_left (e.value == f.value) true (and_left ((e.value == f.value) && true) true q)))
    (λ q. or_right (e.value == f.value) (has (is_desk_of e.value) (coordinate h).desks) (desk_there e h before q)) k))
desk_there e (Got (Enl f) Up EnlistAck ∷ h) r k =
    has_made (is_desk_of e.value) (is_desk_of e.value) (with_ack f.value) (λ d q. q) (coordinate h).desks (desk_there e h (there_before (Got (Enl f) Up EnlistAck) h r) (later (e.value == f.value) (has (is_got_on (Enl e) Up ENLIST) h) k))
desk_there e (Got (Again f) Up ReenlistAck ∷ h) r k =
    has_made (is_desk_of e.value) (is_desk_of e.value) (with_ack f.value) (λ d q. q) (coordinate h).desks (desk_there e h (there_before (Got (Again f) Up ReenlistAck) h r) k)
desk_there e (Got (Enl f) Up EnlistOneAborted ∷ h) r k = let q : true ≡ false = r.fine.unbad in absurd cc
desk_there e (Got (Enl f) Up m ∷ h) r k =
    let there = desk_there e h (there_before (Got (Enl f) Up m) h r) (later (e.value == f.value) (has (is_got_on (Enl e) Up ENLIST) h) k) in
    either (is_active (coordinate h).stage) (is_desk_of e.value) (map (with_ballot f.value (ballot_of m)) (coordinate h).desks) (coordinate h).desks
    (has_made (is_desk_of e.value) (is_desk_of e.value) (with_ballot f.value (ballot_of m)) (named_ballot e.value f.value (ballot_of m)) (coordinate h).desks there) there
desk_there e (Got (Enl f) Down m ∷ h) r k = desk_there e h (there_before (Got (Enl f) Down m) h r) (elsewhere (e.value == f.value) (ENLIST m) (has (is_got_on (Enl e) Up ENLIST) h) k)
desk_there e (Restarted b ∷ h) r k = absurd cc
desk_there e (x ∷ h) r k = desk_there e h (there_before x h r) k
