-- What went before by the rows of the table: COMMIT before ASK and PREPARE, and so before the local yes and each vote that was got; and that no connection is lost before a promotion is over, where
-- nothing is pending and nothing is decided.
use Rattle.std.proofs.Common.{◌≡◌, true, List, ◌==◌, false, ◌&&◌, sym, subst, Bool, ◌||◌, ◌∷◌, refl}
use Rattle.std.proofs.lemmas.Bool.{eqb-true, or_left, false_from_ne_true}
use Rattle.dtx_values.specs.declared.entry.Entry.{Entry}
use Rattle.dtx_values.specs.declared.entry.Entry.TheVariants.{Sent, LocalYes, Voted, Got}
use Rattle.dtx_values.specs.declared.message.Conn.{Conn}
use Rattle.dtx_values.specs.declared.message.Conn.TheVariants.{Begin, Voter, Enl, Again}
use Rattle.dtx_values.specs.declared.message.Dir.TheVariants.{Up, Down}
use Rattle.dtx_values.specs.declared.message.Message.{Message}
use Rattle.dtx_values.specs.declared.message.Message.TheVariants.{BeginCommit, BeginCommitOne, VoterAsk, EnlistPrepare, EnlistPrepared, EnlistReadonly}
use Rattle.dtx_values.specs.declared.number.EnlNo.{EnlNo}
use Rattle.dtx_values.specs.Vote.{is_good}
use Rattle.dtx_model.specs.Words.{has, always}
use Rattle.dtx_model.specs.Entries.{is_promoted, is_yes, is_vote, is_good_vote}
use Rattle.dtx_model.specs.Tied.{is_ready_got}
use Rattle.dtx_model.specs.Wires.{WireRun, is_lost_wire}
use Rattle.dtx_model.proofs.Bools.{or_right, and_left, and_right, not_both, or_case}
use Rattle.dtx_model.proofs.Connections.{same_is}
use Rattle.history_table.proofs.Crossed.{is_sent_on, is_got_on}
use Rattle.history_table.proofs.Messages.{COMMIT, COMMIT_TWO, PREPARE, VOTED}
use Rattle.history_table.proofs.Tests.{not_up}
use Rattle.history_table.proofs.EntryTests.{is_volatile_made, is_enlisted}
use Rattle.history_table.proofs.Scans.{has_more}
use Rattle.history_table.proofs.Keeping.{Keeps, before}
use Rattle.history_table.proofs.Sendings.{good_if_ready}
use Rattle.history_table.proofs.Table.{rule}
use Rattle.history_table.proofs.HalfRows.{voted_enlisted}
use Rattle.settled_histories.proofs.Rest.{is_sound, is_ordered}
use Rattle.settled_histories.proofs.Stages.{committed_two, earlier}
use Rattle.settled_histories.proofs.MessageKinds.{ASK}
use Rattle.settled_histories.proofs.Openings.{once_sent}
use Rattle.settled_histories.proofs.Wired.{IsFirm, is_plain}
use Rattle.settled_histories.proofs.Joined.{IsJoined}

-- COMMIT was sent after a promotion
pub commit_promoted : (h : List Entry) → always is_sound h ≡ true → has (is_sent_on Begin Up COMMIT) h ≡ true → has is_promoted h ≡ true
commit_promoted h s k = earlier is_sound (is_sent_on Begin Up COMMIT) (λ h. has is_promoted h) (λ x h q. or_right (is_promoted x) (has is_promoted h) q) at h s k
  where
    at : (x : Entry) (h : List Entry) → is_sound h x ≡ true → is_sent_on Begin Up COMMIT x ≡ true → has is_promoted h ≡ true
    at (Sent Begin Up BeginCommit) h s k = s
    at (Sent Begin Up BeginCommitOne) h s k = s
    at x h s k = absurd cc

-- the local yes came after ASK
pub yes_asked : (h : List Entry) → always is_sound h ≡ true → has is_yes h ≡ true → has (is_got_on Voter Down ASK) h ≡ true
yes_asked h s k = earlier is_sound is_yes (λ h. has (is_got_on Voter Down ASK) h) (λ x h q. or_right (is_got_on Voter Down ASK x) (has (is_got_on Voter Down ASK) h) q) at h s k
  where
    at : (x : Entry) (h : List Entry) → is_sound h x ≡ true → is_yes x ≡ true → has (is_got_on Voter Down ASK) h ≡ true
    at LocalYes h s k = and_left (has (is_got_on Voter Down ASK) h) _ s
    at x h s k = absurd cc

-- ASK was sent after COMMIT was got, and PREPARE after that for two phases
pub ask_committed : (h : List Entry) → always is_ordered h ≡ true → has (is_sent_on Voter Down ASK) h ≡ true → has (is_got_on Begin Up COMMIT) h ≡ true
ask_committed h o k = earlier is_ordered (is_sent_on Voter Down ASK) (λ h. has (is_got_on Begin Up COMMIT) h) (λ x h q. or_right (is_got_on Begin Up COMMIT x) (has (is_got_on Begin Up COMMIT) h) q) at h o k
  where
    at : (x : Entry) (h : List Entry) → is_ordered h x ≡ true → is_sent_on Voter Down ASK x ≡ true → has (is_got_on Begin Up COMMIT) h ≡ true
    at (Sent Voter Down VoterAsk) h s k = s
    at x h s k = absurd cc

pub prepare_two : (e : EnlNo) (h : List Entry) → always is_ordered h ≡ true → has (is_sent_on (Enl e) Down PREPARE) h ≡ true → has (is_got_on Begin Up COMMIT_TWO) h ≡ true
prepare_two e h o k =
    earlier is_ordered (is_sent_on (Enl e) Down PREPARE) (λ h. has (is_got_on Begin Up COMMIT_TWO) h) (λ x h q. or_right (is_got_on Begin Up COMMIT_TWO x) (has (is_got_on Begin Up COMMIT_TWO) h) q) (at e) h o k
  where
    at : (e : EnlNo) (x : Entry) (h : List Entry) → is_ordered h x ≡ true → is_sent_on (Enl e) Down PREPARE x ≡ true → has (is_got_on Begin Up COMMIT_TWO) h ≡ true
    at e (Sent (Enl f) Down m) h s k = by_message f m h s (and_right ((e.value == f.value) && true) (PREPARE m) k)
      where
        by_message : (f : EnlNo) (m : Message) (h : List Entry) → is_ordered h (Sent (Enl f) Down m) ≡ true → PREPARE m ≡ true → has (is_got_on Begin Up COMMIT_TWO) h ≡ true
        by_message f EnlistPrepare h s k = s
        by_message f m h s k = absurd cc
    at e (Sent (Enl f) Up m) h s k = absurd (not_both ((e.value == f.value) && false && PREPARE m) k (not_up (e.value == f.value) (PREPARE m)))
    at e x h s k = absurd cc

pub prepare_committed : (e : EnlNo) (h : List Entry) → always is_ordered h ≡ true → has (is_sent_on (Enl e) Down PREPARE) h ≡ true → has (is_got_on Begin Up COMMIT) h ≡ true
prepare_committed e h o k = committed_two h (prepare_two e h o k)

-- a vote was sent after PREPARE was got
pub vote_prepared : (e : EnlNo) (h : List Entry) → always is_ordered h ≡ true → has (is_sent_on (Enl e) Up VOTED) h ≡ true → has (is_got_on (Enl e) Down PREPARE) h ≡ true
vote_prepared e h o k =
    earlier is_ordered (is_sent_on (Enl e) Up VOTED) (λ h. has (is_got_on (Enl e) Down PREPARE) h) (λ x h q. or_right (is_got_on (Enl e) Down PREPARE x) (has (is_got_on (Enl e) Down PREPARE) h) q) (at e) h o k
  where
    at : (e : EnlNo) (x : Entry) (h : List Entry) → is_ordered h x ≡ true → is_sent_on (Enl e) Up VOTED x ≡ true → has (is_got_on (Enl e) Down PREPARE) h ≡ true
    at e (Sent (Enl f) Up m) h s k =
        let P : Conn → Type 0 = λ c. has (is_got_on c Down PREPARE) h ≡ true in
        subst P (sym (same_is (Enl e) (Enl f) (and_left (e.value == f.value) true (and_left ((e.value == f.value) && true) (VOTED m) k)))) (by_message f m h s (and_right ((e.value == f.value) && true) (VOTED m) k))
      where
        by_message : (f : EnlNo) (m : Message) (h : List Entry) → is_ordered h (Sent (Enl f) Up m) ≡ true → VOTED m ≡ true → has (is_got_on (Enl f) Down PREPARE) h ≡ true
        by_message f EnlistPrepared h s k = s
        by_message f EnlistReadonly h s k = s
        by_message f m h s k = absurd cc
    at e (Sent (Enl f) Down m) h s k = absurd (not_both ((e.value == f.value) && false && VOTED m) k (not_up (e.value == f.value) (VOTED m)))
    at e x h s k = absurd cc

-- an enlistment is volatile, or got PREPARE; it stays so, and it is so of one with the same number
abbrev pub is_prepared : EnlNo → List Entry → Bool
is_prepared e h = has (is_volatile_made e.value) h || has (is_got_on (Enl e) Down PREPARE) h

pub prepared_stays : (e : EnlNo) (x : Entry) (h : List Entry) → is_prepared e h ≡ true → is_prepared e (x ∷ h) ≡ true
prepared_stays e x h q = more (is_volatile_made e.value x) (is_got_on (Enl e) Down PREPARE x) (has (is_volatile_made e.value) h) (has (is_got_on (Enl e) Down PREPARE) h) q
  where
    more : (a b c d : Bool) → (c || d) ≡ true → ((a || c) || (b || d)) ≡ true
    more true b c d k = refl
    more false b true d k = refl
    more false true false d k = refl
    more false false false d k = k

pub prepared_same : (e f : EnlNo) (h : List Entry) → (e.value == f.value) ≡ true → is_prepared f h ≡ true → is_prepared e h ≡ true
prepared_same e f h k s =
    let P : Conn → Type 0 = λ c. has (is_got_on c Down PREPARE) h ≡ true in
    or_case (has (is_volatile_made f.value) h) (has (is_got_on (Enl f) Down PREPARE) h)
    (λ a. or_left (has (is_volatile_made e.value) h) (has (is_got_on (Enl e) Down PREPARE) h) (subst (λ n. has (is_volatile_made n) h ≡ true) (sym (eqb-true e.value f.value k)) a))
    (λ a. or_right (has (is_volatile_made e.value) h) (has (is_got_on (Enl e) Down PREPARE) h) (subst P (sym (same_is (Enl e) (Enl f) k)) a)) s

-- whoever voted is so
pub voted_prepared : (e : EnlNo) (h : List Entry) → always is_sound h ≡ true → has (is_vote e.value) h ≡ true → is_prepared e h ≡ true
voted_prepared e h s k = earlier is_sound (is_vote e.value) (is_prepared e) (prepared_stays e) (at e) h s k
  where
    at : (e : EnlNo) (x : Entry) (h : List Entry) → is_sound h x ≡ true → is_vote e.value x ≡ true → is_prepared e h ≡ true
    at e (Voted f v) h s k = prepared_same e f h k s
    at e x h s k = absurd cc

-- so COMMIT was got where an enlistment got PREPARE, where a vote was got, and where the local side said yes
pub prepared_commit : (e : EnlNo) (h : List Entry) → WireRun h → always is_ordered h ≡ true → has (is_got_on (Enl e) Down PREPARE) h ≡ true → has (is_got_on Begin Up COMMIT) h ≡ true
prepared_commit e h run o k = prepare_committed e h o (once_sent (Enl e) Down PREPARE h run k)

pub prepared_two : (e : EnlNo) (h : List Entry) → WireRun h → always is_ordered h ≡ true → has (is_got_on (Enl e) Down PREPARE) h ≡ true → has (is_got_on Begin Up COMMIT_TWO) h ≡ true
prepared_two e h run o k = prepare_two e h o (once_sent (Enl e) Down PREPARE h run k)

pub voted_two : (e : EnlNo) (h : List Entry) → WireRun h → always is_ordered h ≡ true → has (is_got_on (Enl e) Up VOTED) h ≡ true → has (is_got_on Begin Up COMMIT_TWO) h ≡ true
voted_two e h run o k = prepared_two e h run o (vote_prepared e h o (once_sent (Enl e) Up VOTED h run k))

pub voted_commit : (e : EnlNo) (h : List Entry) → WireRun h → always is_ordered h ≡ true → has (is_got_on (Enl e) Up VOTED) h ≡ true → has (is_got_on Begin Up COMMIT) h ≡ true
voted_commit e h run o k = prepared_commit e h run o (vote_prepared e h o (once_sent (Enl e) Up VOTED h run k))

pub yes_commit : (h : List Entry) → WireRun h → always is_sound h ≡ true → always is_ordered h ≡ true → has is_yes h ≡ true → has (is_got_on Begin Up COMMIT) h ≡ true
yes_commit h run s o k = ask_committed h o (once_sent Voter Down ASK h run (yes_asked h s k))

-- an enlistment whose vote was got has voted, and so it stands
pub vote_cast : (e : EnlNo) (h : List Entry) → Keeps h → has (is_got_on (Enl e) Up VOTED) h ≡ true → has (is_vote e.value) h ≡ true
vote_cast e h k g = has_more (is_good_vote e.value) (is_vote e.value) cast h (good_if_ready e h k (has_more (is_got_on (Enl e) Up VOTED) (is_ready_got e.value) (ready e) h g))
  where
    cast : (x : Entry) → is_good_vote e.value x ≡ true → is_vote e.value x ≡ true
    cast (Voted f v) q = and_left (e.value == f.value) (is_good v) q
    cast x q = absurd cc

    ready : (e : EnlNo) (x : Entry) → is_got_on (Enl e) Up VOTED x ≡ true → is_ready_got e.value x ≡ true
    ready e (Got (Enl f) Up m) q = by f m (and_left (e.value == f.value) true (and_left ((e.value == f.value) && true) (VOTED m) q)) (and_right ((e.value == f.value) && true) (VOTED m) q)
      where
        by : (f : EnlNo) (m : Message) → (e.value == f.value) ≡ true → VOTED m ≡ true → is_ready_got e.value (Got (Enl f) Up m) ≡ true
        by f EnlistPrepared q k = q
        by f EnlistReadonly q k = q
        by f m q k = absurd cc
    ready e (Got (Enl f) Down m) q = absurd (not_both ((e.value == f.value) && false && VOTED m) q (not_up (e.value == f.value) (VOTED m)))
    ready e x q = absurd cc

pub vote_stood : (e : EnlNo) (h : List Entry) → Keeps h → has (is_vote e.value) h ≡ true → has (is_enlisted e.value) h ≡ true
vote_stood e h k v = before (is_vote e.value) (is_enlisted e.value) at h k v
  where
    at : (x : Entry) (h : List Entry) → Keeps h → rule h x ≡ true → is_vote e.value x ≡ true → has (is_enlisted e.value) h ≡ true
    at (Voted f v) h k r q = subst (λ n. has (is_enlisted n) h ≡ true) (sym (eqb-true e.value f.value q)) (voted_enlisted f v h r)
    at x h k r q = absurd cc

-- and it is promoted where COMMIT was got
pub got_promoted : (h : List Entry) → WireRun h → always is_sound h ≡ true → has (is_got_on Begin Up COMMIT) h ≡ true → has is_promoted h ≡ true
got_promoted h run s k = commit_promoted h s (once_sent Begin Up COMMIT h run k)

-- a connection of which it can't be that it was lost is firm
pub unlost_here : (c : Conn) (h : List Entry) → is_plain c ≡ true → (is_lost_wire c h ≡ true → ⊥) → IsFirm c h
unlost_here c h p f = record { plain = p; kept = false_from_ne_true (is_lost_wire c h) f }

-- before the promotion is over each is firm
pub unpromoted_firm : (h : List Entry) → WireRun h → IsJoined h → always is_sound h ≡ true → always is_ordered h ≡ true → has is_promoted h ≡ false → (c : Conn) → is_plain c ≡ true → IsFirm c h
unpromoted_firm h run j s o n c p = by c p
  where
    unsaid : has is_yes h ≡ false
    unsaid = false_from_ne_true (has is_yes h) (λ k. not_both (has is_promoted h) (got_promoted h run s (yes_commit h run s o k)) n)

    by : (c : Conn) → is_plain c ≡ true → IsFirm c h
    by Begin p = j.early Begin refl unsaid
    by Voter p = j.early Voter refl unsaid
    by (Enl e) p = unlost_here (Enl e) h refl (λ l. not_both (has is_promoted h) (got_promoted h run s (voted_commit e h run o (j.cast e l))) n)
    by (Again e) p = absurd cc
