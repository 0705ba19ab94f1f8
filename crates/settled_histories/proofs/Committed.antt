-- The rungs after a promotion: COMMIT, ASK, YES, PREPARE, the votes, and the decision.
use Rattle.std.proofs.Common.{◌≡◌, Bool, true, false, ◌&&◌, ◌||◌, List, [], ◌∷◌, None, refl, ap, sym, subst}
use Rattle.std.specs.Prelude.{not}
use Rattle.std.proofs.lemmas.Bool.{eqb-true}
use Rattle.dtx_values.specs.declared.entry.Entry.{Entry}
use Rattle.dtx_values.specs.declared.entry.Entry.TheVariants.{Decided, Enlisted, Voted, Requested, Sealed, LocalYes, Promoted, Sent, Got}
use Rattle.dtx_values.specs.declared.entry.Request.TheVariants.{Commit}
use Rattle.dtx_values.specs.declared.message.Conn.{Conn}
use Rattle.dtx_values.specs.declared.message.Conn.TheVariants.{Begin, Voter, Enl}
use Rattle.dtx_values.specs.declared.message.Dir.{Dir}
use Rattle.dtx_values.specs.declared.message.Dir.TheVariants.{Up, Down}
use Rattle.dtx_values.specs.declared.message.Message.{Message}
use Rattle.dtx_values.specs.declared.message.Message.TheVariants.{BeginCommit, BeginCommitOne, BeginCommitted, EnlistPrepare, EnlistPrepared, EnlistReadonly}
use Rattle.dtx_values.specs.declared.number.EnlNo.{EnlNo}
use Rattle.dtx_values.specs.declared.words.Vote.{Vote}
use Rattle.dtx_values.specs.declared.words.Vote.TheVariants.{Yes, No, Done}
use Rattle.dtx_model.specs.Words.{has, always, latest}
use Rattle.dtx_model.specs.Entries.{decision_of, is_asked, is_decision, is_promoted, is_sealed, is_vote, is_yes}
use Rattle.dtx_model.specs.Observed.{ends_of}
use Rattle.dtx_model.specs.Coordinated.{accepts, coordinate, is_active, is_one}
use Rattle.dtx_values.specs.Vote.{is_no}
use Rattle.dtx_values.specs.Class.{is_promotable}
use Rattle.dtx_values.specs.Ends.{knows, same_connection, same_direction}
use Rattle.dtx_model.proofs.Bools.{and_left, and_right, and_both, not_false, not_true, not_both, or_case, or_first, or_second, or_right}
use Rattle.settled_histories.proofs.Fine.{IsFine, is_bad}
use Rattle.settled_histories.proofs.MessageKinds.{ASK, BEGUN, COMMITTED, CREATED, VOTE}
use Rattle.history_table.proofs.Messages.{COMMIT, PREPARE, VOTED, YES}
use Rattle.history_table.proofs.EntryTests.{has_promotable, is_volatile_made}
use Rattle.settled_histories.proofs.Debts.{knows_there}
use Rattle.settled_histories.proofs.Knowledge.{knows_got, opening_known}
use Rattle.settled_histories.proofs.Stages.{IsOpenThere, earlier, first_accepted, first_active, one_asked, sent_known, there_before}
use Rattle.settled_histories.proofs.Arrived.{arrived}
use Rattle.dtx_model.proofs.Connections.{same_is}
use Rattle.settled_histories.proofs.Followed.{Demands, followed}
use Rattle.settled_histories.proofs.Openings.{once_sent}
use Rattle.settled_histories.proofs.Promoted.{climb, got_due, if_so}
use Rattle.settled_histories.proofs.Unblamed.{fine_before}
use Rattle.settled_histories.proofs.Foregoing.{commit_promoted}
use Rattle.settled_histories.proofs.Wired.{IsFirm, firm_before, firm_unended}
use Rattle.settled_histories.proofs.Rest.{IsQuiet, is_sound}
use Rattle.history_table.proofs.Crossed.{is_sent_on, is_got_on, got_sent}

-- a history in which nothing is decided
pub record IsOpen (h : List Entry) : Type 0 where
  pub fine : IsFine h
  pub undecided : has is_decision h ≡ false
  pub sound : always is_sound h ≡ true

pub open_before : (x : Entry) (h : List Entry) → IsOpen (x ∷ h) → IsOpen h
open_before x h r = record {
  fine = fine_before x h r.fine;
  undecided = or_second (is_decision x) (has is_decision h) r.undecided;
  sound = and_right (is_sound h x) (always is_sound h) r.sound;
}

pub none_decided : (h : List Entry) → has is_decision h ≡ false → latest decision_of h ≡ None
none_decided [] k = refl
none_decided (Decided x ∷ h) k = absurd cc
none_decided (x ∷ h) k = none_decided h k

-- the same, and a connection that is firm
pub record IsLinked (c : Conn) (h : List Entry) : Type 0 where
  pub opened : IsOpen h
  pub firm : IsFirm c h

linked_before : (c : Conn) (x : Entry) (h : List Entry) → IsLinked c (x ∷ h) → IsLinked c h
linked_before c x h r = record { opened = open_before x h r.opened; firm = firm_before c x h r.opened.fine.wired r.firm }

-- what the local side heard of the coordinator on a firm connection: both know it
heard_known : (c : Conn) (p : Message → Bool) (h : List Entry) → IsFine h → IsFirm c h → always is_sound h ≡ true → has (is_got_on c Down p) h ≡ true → knows_there c h ≡ true
heard_known c p h f g s k = opening_known c h f.wired (sent_known c p h s (once_sent c Down p h f.wired.run k)) (firm_unended c Up h f.wired g)

heard_up : (c : Conn) (d : Dir) (p : Message → Bool) (h : List Entry) → IsFine h → IsFirm c h → has (is_got_on c d p) h ≡ true → knows c (ends_of h) ≡ true
heard_up c d p h f g k = knows_got c d p h f.wired k (firm_unended c Down h f.wired g)

-- after a promotion: BEGUN and CREATED were got
pub promoted_begun : (h : List Entry) → always is_sound h ≡ true → has is_promoted h ≡ true → has (is_got_on Begin Down BEGUN) h ≡ true
promoted_begun h s k = earlier is_sound is_promoted (λ h. has (is_got_on Begin Down BEGUN) h) (λ x h q. or_right (is_got_on Begin Down BEGUN x) (has (is_got_on Begin Down BEGUN) h) q) at h s k
  where
    at : (x : Entry) (h : List Entry) → is_sound h x ≡ true → is_promoted x ≡ true → has (is_got_on Begin Down BEGUN) h ≡ true
    at (Promoted u c) h s k = and_left (has (is_got_on Begin Down BEGUN) h) (has (is_got_on Voter Down CREATED) h) (and_left (has (is_got_on Begin Down BEGUN) h && has (is_got_on Voter Down CREATED) h) (not (has is_sealed h)) s)
    at x h s k = absurd cc

pub promoted_created : (h : List Entry) → always is_sound h ≡ true → has is_promoted h ≡ true → has (is_got_on Voter Down CREATED) h ≡ true
promoted_created h s k = earlier is_sound is_promoted (λ h. has (is_got_on Voter Down CREATED) h) (λ x h q. or_right (is_got_on Voter Down CREATED x) (has (is_got_on Voter Down CREATED) h) q) at h s k
  where
    at : (x : Entry) (h : List Entry) → is_sound h x ≡ true → is_promoted x ≡ true → has (is_got_on Voter Down CREATED) h ≡ true
    at (Promoted u c) h s k = and_right (has (is_got_on Begin Down BEGUN) h) (has (is_got_on Voter Down CREATED) h) (and_left (has (is_got_on Begin Down BEGUN) h && has (is_got_on Voter Down CREATED) h) (not (has is_sealed h)) s)
    at x h s k = absurd cc

-- Row of the table of rules: COMMITTED is sent on b after a promotion.
abbrev pub is_committed_well : List Entry → Entry → Bool
is_committed_well past (Sent Begin Down BeginCommitted) = has is_promoted past
is_committed_well past x = true

pub committed_promoted : (h : List Entry) → always is_committed_well h ≡ true → has (is_sent_on Begin Down COMMITTED) h ≡ true → has is_promoted h ≡ true
committed_promoted h r k = earlier is_committed_well (is_sent_on Begin Down COMMITTED) (λ h. has is_promoted h) (λ x h q. or_right (is_promoted x) (has is_promoted h) q) sent h r k
  where
    sent : (x : Entry) (h : List Entry) → is_committed_well h x ≡ true → is_sent_on Begin Down COMMITTED x ≡ true → has is_promoted h ≡ true
    sent (Sent Begin Down BeginCommitted) h r k = r
    sent x h r k = absurd cc

-- a history in which nothing is decided at the coordinator, and whose v is firm
pub record IsAsking (h : List Entry) : Type 0 where
  pub there : IsOpenThere h
  pub firm : IsFirm Voter h

asking_before : (x : Entry) (h : List Entry) → IsAsking (x ∷ h) → IsAsking h
asking_before x h r = record { there = there_before x h r.there; firm = firm_before Voter x h r.there.fine.wired r.firm }

-- COMMIT got: ASK
ask_due : (m : Message) (past : List Entry) → IsAsking (Got Begin Up m ∷ past) → COMMIT m ≡ true → Demands IsAsking past (Got Begin Up m) (is_sent_on Voter Down ASK)
ask_due BeginCommit past r k =
    let before = asking_before (Got Begin Up BeginCommit) past r in
    let there = before.there in
    let sent : has (is_sent_on Begin Up COMMIT) past ≡ true = got_sent Begin Up BeginCommit COMMIT past r.there.fine.wired.run.0 refl in
    let known = heard_known Voter CREATED past there.fine before.firm there.sound (promoted_created past there.sound (commit_promoted past there.sound sent)) in
    let active : is_active (coordinate past).stage ≡ true = ap is_active (first_active BeginCommit past refl r.there) in
    record {
      test = is_sent_on Voter Down ASK;
      owed = if_so (is_active (coordinate past).stage && knows_there Voter past) (is_sent_on Voter Down ASK) (and_both (is_active (coordinate past).stage) (knows_there Voter past) active known);
      serves = λ x s t. t;
    }
ask_due BeginCommitOne past r k =
    let before = asking_before (Got Begin Up BeginCommitOne) past r in
    let there = before.there in
    let sent : has (is_sent_on Begin Up COMMIT) past ≡ true = got_sent Begin Up BeginCommitOne COMMIT past r.there.fine.wired.run.0 refl in
    let known = heard_known Voter CREATED past there.fine before.firm there.sound (promoted_created past there.sound (commit_promoted past there.sound sent)) in
    record {
      test = is_sent_on Voter Down ASK;
      owed = if_so (accepts (coordinate past) && is_one (coordinate past).desks && knows_there Voter past) (is_sent_on Voter Down ASK)
          (and_both (accepts (coordinate past) && is_one (coordinate past).desks) (knows_there Voter past)
          (and_both (accepts (coordinate past)) (is_one (coordinate past).desks) (first_accepted BeginCommitOne past refl r.there) (one_asked past r.there)) known);
      serves = λ x s t. t;
    }
ask_due m past r k = absurd cc

-- PREPARE got: asked
asked_due : (e : EnlNo) (m : Message) (past : List Entry) → IsOpen (Got (Enl e) Down m ∷ past) → PREPARE m ≡ true → Demands IsOpen past (Got (Enl e) Down m) (is_asked e.value)
asked_due e EnlistPrepare past r k = record { test = is_asked e.value; owed = refl; serves = λ x s t. t }
asked_due e m past r k = absurd cc

-- yes: YES
yes_due : (y : Entry) (past : List Entry) → IsLinked Voter (y ∷ past) → is_yes y ≡ true → Demands (IsLinked Voter) past y (is_sent_on Voter Up YES)
yes_due LocalYes past r k =
    let before = linked_before Voter LocalYes past r in
    record {
      test = is_sent_on Voter Up YES;
      owed = if_so (knows Voter (ends_of past)) (is_sent_on Voter Up YES)
          (heard_up Voter Down ASK past before.opened.fine before.firm (and_left (has (is_got_on Voter Down ASK) past) _ (and_left (is_sound past LocalYes) (always is_sound past) r.opened.sound)));
      serves = λ x s t. t;
    }
yes_due y past r k = absurd cc

-- a request to commit: COMMIT
abbrev pub is_commit_request : Entry → Bool
is_commit_request (Requested e Commit) = true
is_commit_request _ = false

request_due : (y : Entry) (past : List Entry) → IsLinked Begin (y ∷ past) → is_commit_request y ≡ true → Demands (IsLinked Begin) past y (is_sent_on Begin Up COMMIT)
request_due (Requested e Commit) past r k =
    let before = linked_before Begin (Requested e Commit) past r in
    let rule : has is_promoted past ≡ true = and_left (has is_promoted past) (always is_sound past) r.opened.sound in
    record {
      test = is_sent_on Begin Up COMMIT;
      owed = if_so (knows Begin (ends_of past)) (is_sent_on Begin Up COMMIT) (heard_up Begin Down BEGUN past before.opened.fine before.firm (promoted_begun past before.opened.sound rule));
      serves = λ x s t. t;
    }
request_due y past r k = absurd cc

-- sealed after the promotion, where no promotable was enlisted: COMMIT
pub record IsPlain (h : List Entry) : Type 0 where
  pub linked : IsLinked Begin h
  pub plain : has_promotable h ≡ false
  pub order : has is_sealed h ≡ true → has is_promoted h ≡ true

-- none was before
pub plain_first : (x : Entry) (h : List Entry) → has_promotable (x ∷ h) ≡ false → has_promotable h ≡ false
plain_first (Enlisted e c) h k = or_second (is_promotable c) (has_promotable h) k
plain_first x h k = k

plain_before : (x : Entry) (h : List Entry) → IsPlain (x ∷ h) → IsPlain h
plain_before x h r = record {
  linked = linked_before Begin x h r.linked;
  plain = plain_first x h r.plain;
  order = λ k. same x h k (and_left (is_sound h x) (always is_sound h) r.linked.opened.sound) (r.order (or_right (is_sealed x) (has is_sealed h) k));
}
  where
    same : (x : Entry) (h : List Entry) → has is_sealed h ≡ true → is_sound h x ≡ true → has is_promoted (x ∷ h) ≡ true → has is_promoted h ≡ true
    same (Promoted u c) h k s p = absurd (not_both (has is_sealed h) k (not_true (has is_sealed h) (and_right (has (is_got_on Begin Down BEGUN) h && has (is_got_on Voter Down CREATED) h) (not (has is_sealed h)) s)))
    same x h k s p = p

sealed_due : (y : Entry) (past : List Entry) → IsPlain (y ∷ past) → is_sealed y ≡ true → Demands IsPlain past y (is_sent_on Begin Up COMMIT)
sealed_due Sealed past r k =
    let before = linked_before Begin Sealed past r.linked in
    let first : has is_promoted past ≡ true = r.order refl in
    record {
      test = is_sent_on Begin Up COMMIT;
      owed = if_so (has is_promoted past && not (has_promotable past) && knows Begin (ends_of past)) (is_sent_on Begin Up COMMIT)
          (and_both (has is_promoted past && not (has_promotable past)) (knows Begin (ends_of past))
          (and_both (has is_promoted past) (not (has_promotable past)) first (not_false (has_promotable past) r.plain))
          (heard_up Begin Down BEGUN past before.opened.fine before.firm (promoted_begun past before.opened.sound first)));
      serves = λ x s t. t;
    }
sealed_due y past r k = absurd cc

-- The rungs. COMMIT is sent after the seal where no promotable was enlisted, and after a request.
pub seal_commits : (h : List Entry) → IsPlain h → IsQuiet h → has is_sealed h ≡ true → has (is_sent_on Begin Up COMMIT) h ≡ true
seal_commits h r w k = followed IsPlain plain_before is_sealed (is_sent_on Begin Up COMMIT) sealed_due h r w.paid w.free k

pub request_commits : (h : List Entry) → IsLinked Begin h → IsQuiet h → has is_commit_request h ≡ true → has (is_sent_on Begin Up COMMIT) h ≡ true
request_commits h r w k = followed (IsLinked Begin) (linked_before Begin) is_commit_request (is_sent_on Begin Up COMMIT) request_due h r w.paid w.free k

-- COMMIT sent: got, and ASK was got
pub commit_got : (h : List Entry) → IsLinked Begin h → IsQuiet h → has (is_sent_on Begin Up COMMIT) h ≡ true → has (is_got_on Begin Up COMMIT) h ≡ true
commit_got h r w k = arrived Begin Up COMMIT h r.opened.fine.wired r.firm (w.empty Begin Up) k

pub ask_got : (h : List Entry) → IsAsking h → IsQuiet h → has (is_got_on Begin Up COMMIT) h ≡ true → has (is_got_on Voter Down ASK) h ≡ true
ask_got h r w k = climb IsAsking asking_before (λ h r. r.there.fine) Begin Voter Up Down COMMIT ASK ask_due h r r.firm w k

-- the local yes: YES was got
pub yes_got : (h : List Entry) → IsLinked Voter h → IsQuiet h → has is_yes h ≡ true → has (is_got_on Voter Up YES) h ≡ true
yes_got h r w k =
    arrived Voter Up YES h r.opened.fine.wired r.firm (w.empty Voter Up) (followed (IsLinked Voter) (linked_before Voter) is_yes (is_sent_on Voter Up YES) yes_due h r w.paid w.free k)

-- PREPARE sent: asked
pub enlistment_asked : (e : EnlNo) (h : List Entry) → IsLinked (Enl e) h → IsQuiet h → has (is_sent_on (Enl e) Down PREPARE) h ≡ true → has (is_asked e.value) h ≡ true
enlistment_asked e h r w k =
    followed IsOpen open_before (is_got_on (Enl e) Down PREPARE) (is_asked e.value) (got_due IsOpen (Enl e) Down PREPARE (is_asked e.value) (asked_due e)) h r.opened w.paid w.free
    (arrived (Enl e) Down PREPARE h r.opened.fine.wired r.firm (w.empty (Enl e) Down) k)

-- voted: PREPARED or READONLY was got
pub record IsLasting (e : EnlNo) (h : List Entry) : Type 0 where
  pub linked : IsLinked (Enl e) h
  pub lasting : has (is_volatile_made e.value) h ≡ false

lasting_before : (e : EnlNo) (x : Entry) (h : List Entry) → IsLasting e (x ∷ h) → IsLasting e h
lasting_before e x h r = record { linked = linked_before (Enl e) x h r.linked; lasting = or_second (is_volatile_made e.value x) (has (is_volatile_made e.value) h) r.lasting }

vote_due : (e : EnlNo) (y : Entry) (past : List Entry) → IsLasting e (y ∷ past) → is_vote e.value y ≡ true → Demands (IsLasting e) past y (is_sent_on (Enl e) Up VOTED)
vote_due e (Voted f v) past r k =
    let same : Enl e ≡ Enl f = same_is (Enl e) (Enl f) k in
    let P : Conn → Type 0 = λ c. knows c (ends_of past) ≡ true in
    let other : has (is_volatile_made f.value) past ≡ false = subst (λ n. has (is_volatile_made n) past ≡ false) (eqb-true e.value f.value k) r.lasting in
    let before = linked_before (Enl e) (Voted f v) past r.linked in
    record {
      test = is_sent_on (Enl f) Up (VOTE v);
      owed = if_so (not (has (is_volatile_made f.value) past) && knows (Enl f) (ends_of past)) (is_sent_on (Enl f) Up (VOTE v))
          (and_both (not (has (is_volatile_made f.value) past)) (knows (Enl f) (ends_of past)) (not_false (has (is_volatile_made f.value) past) other)
          (subst P same (heard_up (Enl e) Down PREPARE past before.opened.fine before.firm prepared)));
      serves = λ x s t. voted v (or_first (is_no v) (has is_bad past) (fine_before x (Voted f v ∷ past) s.linked.opened.fine).unbad) x (subst (λ c. is_sent_on c Up (VOTE v) x ≡ true) (sym same) t);
    }
  where
    prepared : has (is_got_on (Enl e) Down PREPARE) past ≡ true
    prepared =
        let Q : Conn → Type 0 = λ c. has (is_got_on c Down PREPARE) past ≡ true in
        or_case (has (is_volatile_made f.value) past) (has (is_got_on (Enl f) Down PREPARE) past)
        (λ q. absurd (not_both (has (is_volatile_made e.value) past) (subst (λ n. has (is_volatile_made n) past ≡ true) (sym (eqb-true e.value f.value k)) q) r.lasting))
        (λ q. subst Q (sym (same_is (Enl e) (Enl f) k)) q) (and_left (has (is_volatile_made f.value) past || has (is_got_on (Enl f) Down PREPARE) past) (always is_sound past) r.linked.opened.sound)

    voted : (v : Vote) → is_no v ≡ false → (x : Entry) → is_sent_on (Enl e) Up (VOTE v) x ≡ true → is_sent_on (Enl e) Up VOTED x ≡ true
    voted v n (Sent c d m) t = and_both (same_connection (Enl e) c && same_direction Up d) (VOTED m) (and_left (same_connection (Enl e) c && same_direction Up d) (VOTE v m) t) (good v m n (and_right (same_connection (Enl e) c && same_direction Up d) (VOTE v m) t))
      where
        good : (v : Vote) (m : Message) → is_no v ≡ false → VOTE v m ≡ true → VOTED m ≡ true
        good Yes EnlistPrepared n k = refl
        good Done EnlistReadonly n k = refl
        good No m n k = absurd cc
        good _ _ n k = absurd cc
    voted v n x t = absurd cc
vote_due e y past r k = absurd cc

pub vote_got : (e : EnlNo) (h : List Entry) → IsLasting e h → IsQuiet h → has (is_vote e.value) h ≡ true → has (is_got_on (Enl e) Up VOTED) h ≡ true
vote_got e h r w k =
    arrived (Enl e) Up VOTED h r.linked.opened.fine.wired r.linked.firm (w.empty (Enl e) Up)
    (followed (IsLasting e) (lasting_before e) (is_vote e.value) (is_sent_on (Enl e) Up VOTED) (vote_due e) h r w.paid w.free k)
