-- More rows that a history keeps which keeps the joint table: what goes up on v and on an enlistment's connection is sent after BEGUN; and what must stand before
-- what the coordinator gets, sends and records does.
use Rattle.std.proofs.Common.{◌≡◌, Bool, true, List, [], ◌∷◌, refl, ◌&&◌, ◌||◌, ℕ, sym, subst, ◌==◌, false}
use Rattle.std.specs.Prelude.{not}
use Rattle.std.proofs.lemmas.Bool.{or_left, eqb-true, false_from_ne_true}
use Rattle.dtx_values.specs.declared.entry.Entry.{Entry}
use Rattle.dtx_values.specs.declared.entry.Entry.TheVariants.{Sent, Got, Voted, Freed, Logged, Restarted, Enlisted, LocalYes, Promoted, Requested}
use Rattle.dtx_values.specs.declared.message.Conn.{Conn}
use Rattle.dtx_values.specs.declared.message.Conn.TheVariants.{Begin, Enl, Voter}
use Rattle.dtx_values.specs.declared.message.Dir.{Dir}
use Rattle.dtx_values.specs.declared.message.Dir.TheVariants.{Down, Up}
use Rattle.dtx_values.specs.declared.message.Message.{Message}
use Rattle.dtx_values.specs.declared.message.Message.TheVariants.{BeginBegun, BeginCommit, BeginCommitOne, EnlistPrepare, EnlistSingle, EnlistEnlist, EnlistPrepared, EnlistReadonly, VoterAsk, VoterCreated, VoterYes}
use Rattle.dtx_values.specs.declared.number.EnlNo.{EnlNo}
use Rattle.dtx_values.specs.declared.words.Vote.TheVariants.{Yes, Done}
use Rattle.dtx_values.specs.Ends.{same_connection}
use Rattle.dtx_values.specs.Lines.{has_line, is_opening}
use Rattle.dtx_values.specs.declared.words.Vote.{Vote}
use Rattle.dtx_model.specs.Words.{always, has, each, all_of}
use Rattle.dtx_model.specs.Entries.{is_commit_got, is_two_phase_got, is_asked, is_decision, is_lost, is_vote, is_record, is_promoted, is_sealed, is_yes, is_yes_got}
use Rattle.dtx_model.specs.Promotes.{is_promoting, is_begun_got, is_created_got, is_under_way}
use Rattle.dtx_model.specs.Tied.{has_mark, enlist_got, is_logged, is_ready_got, is_stop}
use Rattle.dtx_model.specs.Wires.{opens}
use Rattle.dtx_model.proofs.Bools.{and_both, and_right, or_case, or_right, and_left, not_both, not_true, not_false}
use Rattle.dtx_model.specs.Outcome.{durables, enlisted}
use Rattle.dtx_model.specs.Learned.{coordinator_aborted}
use Rattle.dtx_model.specs.Coordinated.{coordinate, has_desk, is_sole}
use Rattle.dtx_model.specs.Caused.{same_vote}
use Rattle.history_table.proofs.Keeping.{Keeps, keeps_before, before, newest, fifth_of_five}
use Rattle.history_table.proofs.Table.{is_lone_owner, is_one_phase_got, is_there, may_commit, message_row, rule, is_prepare_got, is_opening_got, stands_volatile, is_cast, is_ask_got, have_come, volatiles_well}
use Rattle.history_table.proofs.Crossed.{is_got_on}
use Rattle.history_table.proofs.Messages.{COMMIT, COMMIT_ONE, COMMIT_TWO, PREPARE}
use Rattle.history_table.proofs.Tests.{eq_self, first_of_four, third_of_four, second_of_five, second_of_four}
use Rattle.history_table.proofs.Standing.{opened_if_got, unvolatile_if_opened, prepared_if_asked, begun_if_enlist, begun_if_voter}
use Rattle.history_table.proofs.EntryTests.{is_enlisted, is_volatile_of, is_volatile_made}
use Rattle.history_table.proofs.Scans.{has_more}
use Rattle.history_table.proofs.Sendings.{ends_has}
use Rattle.history_table.proofs.Leading.{opening_on}
use Rattle.settled_histories.proofs.MessageKinds.{BEGUN, CREATED, ASK}
use Rattle.settled_histories.proofs.Rest.{is_begun, is_ordered, is_sound}

-- a row that each entry keeps of a history that keeps the table
pub by_keeping : (row : List Entry → Entry → Bool) → ((x : Entry) (h : List Entry) → Keeps (x ∷ h) → row h x ≡ true) → (h : List Entry) → Keeps h → always row h ≡ true
by_keeping row at [] k = refl
by_keeping row at (x ∷ h) k = and_both (row h x) (always row h) (at x h k) (by_keeping row at h (keeps_before x h k))

pub row_of : (c : Conn) (d : Dir) (m : Message) (h : List Entry) → rule h (Sent c d m) ≡ true → message_row h c m ≡ true
row_of c d m h k = and_right (has_line c d m && has is_promoting h && is_there h c d m) (message_row h c m) k

begun_on : (x : Entry) → is_begun_got x ≡ true → is_got_on Begin Down BEGUN x ≡ true
begun_on (Got Begin Down (BeginBegun u)) k = refl
begun_on _ k = absurd cc

commit_on : (x : Entry) → is_commit_got x ≡ true → is_got_on Begin Up COMMIT x ≡ true
commit_on (Got Begin Up BeginCommit) k = refl
commit_on (Got Begin Up BeginCommitOne) k = refl
commit_on _ k = absurd cc

on_commit : (x : Entry) → is_got_on Begin Up COMMIT x ≡ true → is_commit_got x ≡ true
on_commit (Got Begin Up BeginCommit) k = refl
on_commit (Got Begin Up BeginCommitOne) k = refl
on_commit _ k = absurd cc

two_on : (x : Entry) → is_two_phase_got x ≡ true → is_got_on Begin Up COMMIT_TWO x ≡ true
two_on (Got Begin Up BeginCommit) k = refl
two_on _ k = absurd cc

one_on : (x : Entry) → is_one_phase_got x ≡ true → is_got_on Begin Up COMMIT_ONE x ≡ true
one_on (Got Begin Up BeginCommitOne) k = refl
one_on _ k = absurd cc

two_commit : (x : Entry) → is_two_phase_got x ≡ true → is_got_on Begin Up COMMIT x ≡ true
two_commit (Got Begin Up BeginCommit) k = refl
two_commit _ k = absurd cc

pub prepare_on : (e : EnlNo) (x : Entry) → is_prepare_got e.value x ≡ true → is_got_on (Enl e) Down PREPARE x ≡ true
prepare_on e (Got (Enl f) Down EnlistPrepare) k = and_both (same_connection (Enl e) (Enl f) && true) true (and_both (same_connection (Enl e) (Enl f)) true k refl) refl
prepare_on e _ k = absurd cc

enlist_opened : (e : EnlNo) (m : Message) (h : List Entry) → (is_opening (Enl e) m || has (opens (Enl e)) h) ≡ true → has (opens (Enl e)) (Sent (Enl e) Up m ∷ h) ≡ true
enlist_opened e m h k =
    or_case (is_opening (Enl e) m) (has (opens (Enl e)) h)
    (λ q. or_left (same_connection (Enl e) (Enl e) && is_opening (Enl e) m) (has (opens (Enl e)) h) (and_both (same_connection (Enl e) (Enl e)) (is_opening (Enl e) m) (eq_self e.value) q))
    (λ q. or_right (same_connection (Enl e) (Enl e) && is_opening (Enl e) m) (has (opens (Enl e)) h) q) k

-- What is sent is sent where the connection was opened, or opens it.
pub sent_opened : (c : Conn) (d : Dir) (m : Message) (h : List Entry) → Keeps h → rule h (Sent c d m) ≡ true → (is_opening c m || has (opens c) h) ≡ true
sent_opened c Up m h k r = third_of_four (has_line c Up m) (has is_promoting h) (is_opening c m || has (opens c) h) (message_row h c m) r
sent_opened c Down m h k r =
    or_right (is_opening c m) (has (opens c) h) (opened_if_got c h k (third_of_four (has_line c Down m) (has is_promoting h) (has (is_opening_got c) h) (message_row h c m) r))

-- who voted was asked
vote_asked : (n : ℕ) (x : Entry) (h : List Entry) → Keeps h → rule h x ≡ true → is_vote n x ≡ true → has (is_asked n) h ≡ true
vote_asked n (Voted f v) h k r t =
    let same : n ≡ f.value = eqb-true n f.value t in
    subst (λ m. has (is_asked m) h ≡ true) (sym same)
    (second_of_five (has (is_enlisted f.value) h) (has (is_asked f.value) h) (not (has (is_vote f.value) h)) (not (has (is_lost f.value) h)) (not (stands_volatile f.value h && has is_decision h)) r)
vote_asked n _ h k r t = absurd cc

pub asked_if_voted : (n : ℕ) (h : List Entry) → Keeps h → has (is_vote n) h ≡ true → has (is_asked n) h ≡ true
asked_if_voted n h k s = before (is_vote n) (is_asked n) (vote_asked n) h k s

-- a vote that is sent was cast after PREPARE
cast_vote : (e : EnlNo) (v : Vote) (x : Entry) → is_cast (Enl e) v x ≡ true → is_vote e.value x ≡ true
cast_vote e v (Voted f w) t = and_left (e.value == f.value) (same_vote v w) t
cast_vote e v _ t = absurd cc

pub prepared_if_cast : (e : EnlNo) (v : Vote) (h : List Entry) → Keeps h → has (opens (Enl e)) h ≡ true → has (is_cast (Enl e) v) h ≡ true → has (is_prepare_got e.value) h ≡ true
prepared_if_cast e v h k o s =
    or_case (stands_volatile e.value h) (has (is_prepare_got e.value) h) (λ t. absurd (not_both (stands_volatile e.value h) t (unvolatile_if_opened e h k o))) (λ t. t)
    (prepared_if_asked e.value h k (asked_if_voted e.value h k (has_more (is_cast (Enl e) v) (is_vote e.value) (cast_vote e v) h s)))

pub kept_begun : (h : List Entry) → Keeps h → always is_begun h ≡ true
kept_begun = by_keeping is_begun at
  where
    at : (x : Entry) (h : List Entry) → Keeps (x ∷ h) → is_begun h x ≡ true
    at (Sent Voter Up m) h k =
        has_more is_begun_got (is_got_on Begin Down BEGUN) begun_on h
        (begun_if_voter (Sent Voter Up m ∷ h) k (sent_opened Voter Up m h (keeps_before (Sent Voter Up m) h k) (newest (Sent Voter Up m) h k)))
    at (Sent (Enl e) Up m) h k =
        has_more is_begun_got (is_got_on Begin Down BEGUN) begun_on h
        (begun_if_enlist e (Sent (Enl e) Up m ∷ h) k (enlist_opened e m h (sent_opened (Enl e) Up m h (keeps_before (Sent (Enl e) Up m) h k) (newest (Sent (Enl e) Up m) h k))))
    at x h k = refl

marked : (h : List Entry) → has_mark h ≡ true → has is_record h ≡ true
marked [] k = absurd cc
marked (Logged ∷ h) k = refl
marked (Restarted true ∷ h) k = refl
marked (Restarted false ∷ h) k = absurd cc
marked (Freed ∷ h) k = absurd cc
marked (x ∷ h) k = or_right (is_record x) (has is_record h) (marked h k)

pub kept_ordered : (h : List Entry) → Keeps h → always is_ordered h ≡ true
kept_ordered = by_keeping is_ordered at
  where
    at : (x : Entry) (h : List Entry) → Keeps (x ∷ h) → is_ordered h x ≡ true
    at Freed h k = marked h (newest Freed h k)
    at (Got (Enl e) Up (EnlistEnlist i)) h k =
        not_false (has (is_got_on Begin Up COMMIT) h)
        (false_from_ne_true (has (is_got_on Begin Up COMMIT) h)
        (λ q. not_both (has is_commit_got h) (has_more (is_got_on Begin Up COMMIT) is_commit_got on_commit h q) (not_true (has is_commit_got h) (newest (Got (Enl e) Up (EnlistEnlist i)) h k))))
    at (Sent (Enl e) Up EnlistPrepared) h k =
        let b = keeps_before (Sent (Enl e) Up EnlistPrepared) h k in
        let r = newest (Sent (Enl e) Up EnlistPrepared) h k in
        has_more (is_prepare_got e.value) (is_got_on (Enl e) Down PREPARE) (prepare_on e) h
        (prepared_if_cast e Yes h b (sent_opened (Enl e) Up EnlistPrepared h b r) (row_of (Enl e) Up EnlistPrepared h r))
    at (Sent (Enl e) Up EnlistReadonly) h k =
        let b = keeps_before (Sent (Enl e) Up EnlistReadonly) h k in
        let r = newest (Sent (Enl e) Up EnlistReadonly) h k in
        has_more (is_prepare_got e.value) (is_got_on (Enl e) Down PREPARE) (prepare_on e) h
        (prepared_if_cast e Done h b (sent_opened (Enl e) Up EnlistReadonly h b r) (row_of (Enl e) Up EnlistReadonly h r))
    at (Sent (Enl e) Down EnlistPrepare) h k =
        has_more is_two_phase_got (is_got_on Begin Up COMMIT_TWO) two_on h (row_of (Enl e) Down EnlistPrepare h (newest (Sent (Enl e) Down EnlistPrepare) h k))
    at (Sent (Enl e) Down EnlistSingle) h k =
        let row = row_of (Enl e) Down EnlistSingle h (newest (Sent (Enl e) Down EnlistSingle) h k) in
        and_both (has (is_got_on Begin Up COMMIT_ONE) h) (is_sole (coordinate h).stage && has_desk (coordinate h) e.value)
        (has_more is_one_phase_got (is_got_on Begin Up COMMIT_ONE) one_on h (first_of_four (has is_one_phase_got h) (has is_yes_got h) (not (coordinator_aborted h)) _ row))
        (and_right (has is_one_phase_got h && has is_yes_got h && not (coordinator_aborted h)) (is_sole (coordinate h).stage && has_desk (coordinate h) e.value) row)
    at (Sent Voter Up VoterYes) h k = ends_has is_yes h (row_of Voter Up VoterYes h (newest (Sent Voter Up VoterYes) h k))
    at (Sent Voter Down VoterAsk) h k =
        has_more is_commit_got (is_got_on Begin Up COMMIT) commit_on h (row_of Voter Down VoterAsk h (newest (Sent Voter Down VoterAsk) h k))
    at x h k = refl

created_on : (x : Entry) → is_created_got x ≡ true → is_got_on Voter Down CREATED x ≡ true
created_on (Got Voter Down VoterCreated) k = refl
created_on _ k = absurd cc

ask_on : (x : Entry) → is_ask_got x ≡ true → is_got_on Voter Down ASK x ≡ true
ask_on (Got Voter Down VoterAsk) k = refl
ask_on _ k = absurd cc

pub made_volatile : (n : ℕ) (h : List Entry) → stands_volatile n h ≡ true → has (is_volatile_made n) h ≡ true
made_volatile n [] k = absurd cc
made_volatile n (Enlisted f c ∷ h) k =
    or_case (is_volatile_of n (f, c)) (has (is_volatile_of n) (enlisted h)) (λ q. or_left (is_volatile_made n (Enlisted f c)) (has (is_volatile_made n) h) q)
    (λ q. or_right (is_volatile_made n (Enlisted f c)) (has (is_volatile_made n) h) (made_volatile n h q)) k
made_volatile n (x ∷ h) k = made_volatile n h k

first_of_six : (a b c d e f : Bool) → (a && b && c && d && e && f) ≡ true → a ≡ true
first_of_six true b c d e f k = refl
first_of_six false b c d e f k = absurd cc

pub kept_sound : (h : List Entry) → Keeps h → always is_sound h ≡ true
kept_sound = by_keeping is_sound at
  where
    at : (x : Entry) (h : List Entry) → Keeps (x ∷ h) → is_sound h x ≡ true
    at (Promoted u c) h k =
        let r = newest (Promoted u c) h k in
        let both = fifth_of_five (not (has is_decision h)) (not (has is_sealed h)) (is_under_way h) (have_come h) (has is_begun_got h && has is_created_got h) r in
        and_both (has (is_got_on Begin Down BEGUN) h && has (is_got_on Voter Down CREATED) h) (not (has is_sealed h))
        (and_both (has (is_got_on Begin Down BEGUN) h) (has (is_got_on Voter Down CREATED) h)
        (has_more is_begun_got (is_got_on Begin Down BEGUN) begun_on h (and_left (has is_begun_got h) (has is_created_got h) both))
        (has_more is_created_got (is_got_on Voter Down CREATED) created_on h (and_right (has is_begun_got h) (has is_created_got h) both)))
        (second_of_five (not (has is_decision h)) (not (has is_sealed h)) (is_under_way h) (have_come h) (has is_begun_got h && has is_created_got h) r)
    at (Requested e q) h k =
        second_of_four (not (has is_decision h)) (has is_promoted h) (has is_sealed h) _ (newest (Requested e q) h k)
    at (Sent c Down m) h k =
        has_more (is_opening_got c) (is_got_on c Up (is_opening c)) (opening_on c) h
        (third_of_four (has_line c Down m) (has is_promoting h) (has (is_opening_got c) h) (message_row h c m) (newest (Sent c Down m) h k))
    at (Sent Begin Up BeginCommit) h k =
        second_of_four (has is_sealed h) (has is_promoted h) (not (has is_decision h)) _ (and_left (may_commit h) (not (is_lone_owner (durables h))) (row_of Begin Up BeginCommit h (newest (Sent Begin Up BeginCommit) h k)))
    at (Sent Begin Up BeginCommitOne) h k =
        second_of_four (has is_sealed h) (has is_promoted h) (not (has is_decision h)) _ (and_left (may_commit h) (is_lone_owner (durables h)) (row_of Begin Up BeginCommitOne h (newest (Sent Begin Up BeginCommitOne) h k)))
    at LocalYes h k =
        let r = fifth_of_five (not (has is_decision h)) (has is_sealed h) (has is_promoted h) (volatiles_well h) (has is_ask_got h && not (has is_yes h)) (newest LocalYes h k) in
        and_both (has (is_got_on Voter Down ASK) h) (not (has is_yes h)) (has_more is_ask_got (is_got_on Voter Down ASK) ask_on h (and_left (has is_ask_got h) (not (has is_yes h)) r))
        (and_right (has is_ask_got h) (not (has is_yes h)) r)
    at Logged h k = has_more is_two_phase_got (is_got_on Begin Up COMMIT) two_commit h (first_of_six (has is_two_phase_got h) (has is_yes_got h) (each (λ i. has (is_ready_got i.enl.value) h) (all_of enlist_got h)) (not (coordinator_aborted h)) (not (has is_logged h)) (not (has is_stop h)) (newest Logged h k))
    at (Voted e v) h k =
        let r = newest (Voted e v) h k in
        let asked : has (is_asked e.value) h ≡ true = second_of_five (has (is_enlisted e.value) h) (has (is_asked e.value) h) (not (has (is_vote e.value) h)) (not (has (is_lost e.value) h)) (not (stands_volatile e.value h && has is_decision h)) r in
        or_case (stands_volatile e.value h) (has (is_prepare_got e.value) h)
        (λ q. or_left (has (is_volatile_made e.value) h) (has (is_got_on (Enl e) Down PREPARE) h) (made_volatile e.value h q))
        (λ q. or_right (has (is_volatile_made e.value) h) (has (is_got_on (Enl e) Down PREPARE) h) (has_more (is_prepare_got e.value) (is_got_on (Enl e) Down PREPARE) (prepare_on e) h q))
        (prepared_if_asked e.value h (keeps_before (Voted e v) h k) asked)
    at x h k = refl
