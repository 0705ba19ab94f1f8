-- While the coordinator withholds, it hasn't aborted: also where it let one decide, and that one answered or was lost. So whoever comes back waits where nothing stands decided.
use Rattle.std.proofs.Common.{◌≡◌, ℕ, ◌==◌, Bool, true, false, ◌&&◌, ◌||◌, ◌⊎◌, inl, inr, List, [], ◌∷◌, refl, ap, sym, subst}
use Rattle.std.specs.Prelude.{not, if◌then◌else◌}
use Rattle.std.proofs.lemmas.Bool.{eqb-true, false_from_ne_true, or_left}
use Rattle.dtx_values.specs.declared.entry.Entry.{Entry}
use Rattle.dtx_values.specs.declared.entry.Entry.TheVariants.{Decided, Down as End, Freed, Got, LocalYes, LogFull, Logged, OwnerAnswered, Promoting, Restarted, Sent, Voted}
use Rattle.dtx_values.specs.declared.message.Conn.{Conn}
use Rattle.dtx_values.specs.declared.message.Conn.TheVariants.{Begin, Voter, Enl, Again}
use Rattle.dtx_values.specs.declared.message.Dir.TheVariants.{Up, Down}
use Rattle.dtx_values.specs.declared.message.Message.{Message}
use Rattle.dtx_values.specs.declared.message.Message.TheVariants.{BeginAbort, BeginBegin, BeginCommit, BeginCommitOne, EnlistNo, EnlistOneAborted, EnlistOneCommitted, EnlistOneInDoubt, EnlistPrepare, EnlistSingle, VoterNo, VoterYes}
use Rattle.dtx_values.specs.declared.number.EnlNo.{EnlNo}
use Rattle.dtx_values.specs.declared.words.Outcome.{Outcome}
use Rattle.dtx_values.specs.declared.words.Outcome.TheVariants.{Aborted as AbortedOutcome, Committed, InDoubt}
use Rattle.dtx_values.specs.declared.words.Vote.TheVariants.{No}
use Rattle.dtx_values.proofs.SameNumbers.{same_enlistment}
use Rattle.dtx_values.specs.Lines.{has_line}
use Rattle.dtx_model.specs.declared.desk.Stage.{Stage}
use Rattle.dtx_model.specs.declared.desk.Stage.TheVariants.{Aborted, Active, Answered, Given, Idle, Over, Recorded, Sole, Unknown}
use Rattle.dtx_model.specs.Words.{ever, has, latest}
use Rattle.dtx_model.specs.Entries.{decision_of, is_any_hand, is_any_single_sent, is_commit_got, is_decision, is_hand, is_one_got, is_promoted, is_record, is_sealed, is_single_sent, is_two_phase_got, is_vote, is_vote_got, is_yes, is_yes_got}
use Rattle.dtx_model.specs.Learned.{coordinator_aborted, is_abort, is_decided_there, is_first_abort}
use Rattle.dtx_model.specs.Outcome.{durables, is_lone, is_veto_end}
use Rattle.dtx_model.specs.Observed.{is_request}
use Rattle.dtx_model.specs.Promotes.{is_promoting}
use Rattle.dtx_model.specs.Caused.{same_vote}
use Rattle.dtx_model.specs.Wires.{opens}
use Rattle.dtx_model.specs.Coordinated.{Coordinated, abort_if, aborts, begin_if, behind_restart, coordinate, decides, ended_stage, follow, has_desk, hears_one, is_active, is_given, is_one, is_sole, is_undecided, sole_if, stage_after, stage_if}
use Rattle.dtx_model.proofs.Bools.{and_both, and_left, and_right, not_both, not_false, not_true, or_case, or_false, or_right, or_second}
use Rattle.history_table.proofs.Tests.{eq_self}
use Rattle.history_table.proofs.Scans.{has_more}
use Rattle.history_table.proofs.EntryTests.{has_promotable, is_answer, is_decided}
use Rattle.history_table.proofs.Handed.{is_answered}
use Rattle.history_table.proofs.Table.{ends_with, is_abort_decided, is_abort_request, is_ask_got, is_prepare_got, is_cast, is_lone_owner, may_answer, may_commit, rule, stands_volatile, volatiles_well, is_abort_sent, is_commit_sent, is_one_aborted, is_one_committed, is_one_in_doubt, is_one_phase_got, is_yes_sent, message_row}
use Rattle.history_table.proofs.Messages.{COMMIT, PREPARE, YES}
use Rattle.settled_histories.proofs.MessageKinds.{ABORT, NO, VOTER_NO}
use Rattle.history_table.proofs.Keeping.{Keeps, keeps_before, newest}
use Rattle.history_table.proofs.Crossed.{IsStill, end_opened, end_still, got_sent, is_got_on, is_sent_on, still_more, still_silent, was_sent}
use Rattle.history_table.proofs.Sendings.{commit_got_on, from_got, got_line, yes_got_on}
use Rattle.history_table.proofs.CoreKnown.{later_opened, open_unaborted, sent_opened_there}
use Rattle.history_table.proofs.CoreStages.{IsLive, come, live_restart}
use Rattle.history_table.proofs.Marks.{unopened_again}
use Rattle.history_table.proofs.Standing.{opened_if_got, prepared_if_asked, unvolatile_if_opened}
use Rattle.history_table.proofs.LetDecide.{aborted_if_one, answered_once, commit_if_single, committed_if_one, doubted_if_one, lone_if_one, one_apart, one_if_single, sealed_if_handed, promoted_if_single, single_any, single_unrecorded, yes_got_if_single}
use Rattle.history_table.proofs.Recording.{can_two_phase}
use Rattle.history_table.proofs.SinglePhase.{single_only}
use Rattle.settled_histories.proofs.AllCome.{AreStood, come_stood, now_stood}
use Rattle.settled_histories.proofs.Awaits.{awaits, upheld_before, upheld_unrecorded, withholds, withholds_upheld}
use Rattle.settled_histories.proofs.BeforeRows.{asked_if_voted, row_of}
use Rattle.settled_histories.proofs.OneDecides.{got_single, still_decides}

-- One was let decide: it decides, has answered, or was lost.
abbrev is_let : Stage → Bool
is_let Given = true
is_let Answered = true
is_let _ = false

let_live : IsLive is_let
let_live = record { aborted = refl; recorded = refl; over = refl; unknown = refl }

let_new : (k : Coordinated) (x : Entry) → is_let (stage_after k x) ≡ true → (is_any_single_sent x || is_let k.stage) ≡ true
let_new k x a =
    come is_let let_live k x
    (record {
      stays = λ u. or_right (is_any_single_sent x) (is_let k.stage) u;
      begun = λ u o q. absurd cc;
      alone = λ u a o q. absurd cc;
      lets = λ u a q. or_left (is_any_single_sent x) (is_let k.stage) q;
      answers = λ u g. or_right (is_any_single_sent x) (is_let k.stage) (given k.stage g);
    }) a
  where
    given : (s : Stage) → is_given s ≡ true → is_let s ≡ true
    given Given g = refl
    given _ g = absurd cc

-- so SINGLE was sent
pub single_if_let : (h : List Entry) → is_let (coordinate h).stage ≡ true → has is_any_single_sent h ≡ true
unfolding coordinate follow
single_if_let [] t = absurd cc
single_if_let (x ∷ h) t =
    or_case (is_any_single_sent x) (is_let (coordinate h).stage) (λ q. or_left (is_any_single_sent x) (has is_any_single_sent h) q)
    (λ q. or_right (is_any_single_sent x) (has is_any_single_sent h) (single_if_let h q)) (let_new (coordinate h) x t)

let_apart : (s : Stage) → withholds s ≡ true → is_undecided s ≡ false → is_let s ≡ true
let_apart Given w n = refl
let_apart Answered w n = refl
let_apart _ w n = absurd cc

-- it was sent to one
single_to : (h : List Entry) → has is_any_single_sent h ≡ true → (e : EnlNo) × (has (is_single_sent e.value) h ≡ true)
single_to [] k = absurd cc
single_to (Sent (Enl e) Down EnlistSingle ∷ h) k = (e, or_left (e.value == e.value) (has (is_single_sent e.value) h) (eq_self e.value))
single_to (x ∷ h) k = let v = single_to h k in (v.0, or_right (is_single_sent v.0.value x) (has (is_single_sent v.0.value) h) v.1)

-- COMMIT and the abort of b aren't both sent.
unaborting : (h : List Entry) → may_commit h ≡ true → has is_abort_sent h ≡ false
unaborting h m =
    not_true (has is_abort_sent h)
    (and_left (not (has is_abort_sent h)) (not (has_promotable h) || has is_request h)
    (and_right (has is_sealed h && has is_promoted h && not (has is_decision h)) (not (has is_abort_sent h) && (not (has_promotable h) || has is_request h)) m))

commits_unaborted : (x : Entry) (h : List Entry) → rule h x ≡ true → is_commit_sent x ≡ true → has is_abort_sent h ≡ false
commits_unaborted (Sent Begin Up BeginCommit) h r t = unaborting h (and_left (may_commit h) (not (is_lone_owner (durables h))) (row_of Begin Up BeginCommit h r))
commits_unaborted (Sent Begin Up BeginCommitOne) h r t = unaborting h (and_left (may_commit h) (is_lone_owner (durables h)) (row_of Begin Up BeginCommitOne h r))
commits_unaborted x h r t = absurd cc

aborts_uncommitted : (x : Entry) (h : List Entry) → rule h x ≡ true → is_abort_sent x ≡ true → has is_commit_sent h ≡ false
aborts_uncommitted (Sent Begin Up BeginAbort) h r t =
    not_true (has is_commit_sent h) (and_right (is_abort_decided h || ends_with is_abort_request h) (not (has is_commit_sent h)) (row_of Begin Up BeginAbort h r))
aborts_uncommitted x h r t = absurd cc

abort_is_no_commit : (x : Entry) → is_abort_sent x ≡ true → is_commit_sent x ≡ true → ⊥
abort_is_no_commit (Sent Begin Up BeginAbort) a b = absurd cc
abort_is_no_commit x a b = absurd cc

not_both_sent : (h : List Entry) → Keeps h → has is_commit_sent h ≡ true → has is_abort_sent h ≡ true → ⊥
not_both_sent [] k c a = absurd cc
not_both_sent (x ∷ h) k c a =
    let r = newest x h k in
    or_case (is_commit_sent x) (has is_commit_sent h)
    (λ q. or_case (is_abort_sent x) (has is_abort_sent h) (λ p. abort_is_no_commit x p q) (λ p. not_both (has is_abort_sent h) p (commits_unaborted x h r q)) a)
    (λ q. or_case (is_abort_sent x) (has is_abort_sent h) (λ p. not_both (has is_commit_sent h) q (aborts_uncommitted x h r p)) (λ p. not_both_sent h (keeps_before x h k) q p) a) c

abort_sent_on : (x : Entry) → is_sent_on Begin Up ABORT x ≡ true → is_abort_sent x ≡ true
abort_sent_on (Sent Begin Up m) t = by m t
  where
    by : (m : Message) → ABORT m ≡ true → is_abort_sent (Sent Begin Up m) ≡ true
    by BeginAbort t = refl
    by m t = absurd cc
abort_sent_on (Sent Begin Down m) t = absurd cc
abort_sent_on (Sent Voter d m) t = absurd cc
abort_sent_on (Sent (Enl e) d m) t = absurd cc
abort_sent_on (Sent (Again e) d m) t = absurd cc
abort_sent_on x t = absurd cc

no_abort_got : (h : List Entry) → Keeps (Got Begin Up BeginAbort ∷ h) → has is_commit_got h ≡ true → ⊥
no_abort_got h k c =
    let past = keeps_before (Got Begin Up BeginAbort) h k in
    not_both_sent h past (was_sent Begin Up COMMIT h past.wires (has_more is_commit_got (is_got_on Begin Up COMMIT) commit_got_on h c))
    (has_more (is_sent_on Begin Up ABORT) is_abort_sent abort_sent_on h (got_sent Begin Up BeginAbort ABORT h k.wires.0 refl))

-- Nor are the voter's YES and No.
yes_undecided : (h : List Entry) → Keeps h → ends_with is_yes h ≡ true → has is_decision h ≡ false
yes_undecided [] k t = absurd cc
yes_undecided (LocalYes ∷ h) k t =
    not_true (has is_decision h) (and_left (not (has is_decision h)) (has is_sealed h)
    (and_left (not (has is_decision h) && has is_sealed h) (has is_promoted h)
    (and_left (not (has is_decision h) && has is_sealed h && has is_promoted h) (volatiles_well h)
    (and_left (not (has is_decision h) && has is_sealed h && has is_promoted h && volatiles_well h) (has is_ask_got h && not (has is_yes h)) (newest LocalYes h k)))))
yes_undecided (x ∷ h) k t = absurd cc

decided_there : (o : Outcome) (h : List Entry) → is_decided o (latest decision_of h) ≡ true → has is_decision h ≡ true
decided_there o [] k = absurd cc
decided_there o (Decided x ∷ h) k = refl
decided_there o (x ∷ h) k = or_right (is_decision x) (has is_decision h) (decided_there o h k)

-- it sends No only where the local side has aborted
pub no_decided : (h : List Entry) → Keeps h → has (is_sent_on Voter Up VOTER_NO) h ≡ true → has is_decision h ≡ true
no_decided [] k t = absurd cc
no_decided (x ∷ h) k t =
    or_right (is_decision x) (has is_decision h)
    (or_case (is_sent_on Voter Up VOTER_NO x) (has (is_sent_on Voter Up VOTER_NO) h) (λ q. now x (newest x h k) q) (λ q. no_decided h (keeps_before x h k) q) t)
  where
    now : (x : Entry) → rule h x ≡ true → is_sent_on Voter Up VOTER_NO x ≡ true → has is_decision h ≡ true
    now (Sent Voter Up VoterNo) r q = decided_there AbortedOutcome h (and_left (is_abort_decided h) (not (has is_yes_sent h)) (row_of Voter Up VoterNo h r))
    now x r q = absurd cc

not_both_voted : (h : List Entry) → Keeps h → has is_yes_sent h ≡ true → has (is_sent_on Voter Up VOTER_NO) h ≡ true → ⊥
not_both_voted [] k c a = absurd cc
not_both_voted (x ∷ h) k c a =
    let past = keeps_before x h k in
    or_case (is_yes_sent x) (has is_yes_sent h)
    (λ q. or_case (is_sent_on Voter Up VOTER_NO x) (has (is_sent_on Voter Up VOTER_NO) h) (λ p. apart x p q)
    (λ p. not_both (has is_decision h) (no_decided h past p) (yes_undecided h past (yes_row x (newest x h k) q))) a)
    (λ q. or_case (is_sent_on Voter Up VOTER_NO x) (has (is_sent_on Voter Up VOTER_NO) h) (λ p. not_both (has is_yes_sent h) q (no_row x (newest x h k) p)) (λ p. not_both_voted h past q p) a) c
  where
    apart : (x : Entry) → is_sent_on Voter Up VOTER_NO x ≡ true → is_yes_sent x ≡ true → ⊥
    apart (Sent Voter Up VoterNo) a b = absurd cc
    apart x a b = absurd cc

    yes_row : (x : Entry) → rule h x ≡ true → is_yes_sent x ≡ true → ends_with is_yes h ≡ true
    yes_row (Sent Voter Up VoterYes) r t = row_of Voter Up VoterYes h r
    yes_row x r t = absurd cc

    no_row : (x : Entry) → rule h x ≡ true → is_sent_on Voter Up VOTER_NO x ≡ true → has is_yes_sent h ≡ false
    no_row (Sent Voter Up VoterNo) r t = not_true (has is_yes_sent h) (and_right (is_abort_decided h) (not (has is_yes_sent h)) (row_of Voter Up VoterNo h r))
    no_row x r t = absurd cc

no_no_got : (h : List Entry) → Keeps (Got Voter Up VoterNo ∷ h) → has is_yes_got h ≡ true → ⊥
no_no_got h k c =
    let past = keeps_before (Got Voter Up VoterNo) h k in
    not_both_voted h past (was_sent Voter Up YES h past.wires (has_more is_yes_got (is_got_on Voter Up YES) yes_got_on h c)) (got_sent Voter Up VoterNo VOTER_NO h k.wires.0 refl)

-- A vote of an enlistment whose connection was opened comes after its PREPARE, which is sent for two phases.
pub vote_two : (e : EnlNo) (h : List Entry) → Keeps h → has (opens (Enl e)) h ≡ true → has (is_vote e.value) h ≡ true → has is_two_phase_got h ≡ true
vote_two e h k o v =
    from_got (Enl e) Down PREPARE (λ g. has is_two_phase_got g) (λ x g t. or_right (is_two_phase_got x) (has is_two_phase_got g) t) prepare_of h k
    (has_more (is_prepare_got e.value) (is_got_on (Enl e) Down PREPARE) (prepare_on e) h
    (or_case (stands_volatile e.value h) (has (is_prepare_got e.value) h) (λ t. absurd (not_both (stands_volatile e.value h) t (unvolatile_if_opened e h k o))) (λ t. t)
    (prepared_if_asked e.value h k (asked_if_voted e.value h k v))))
  where
    prepare_of : (m : Message) (h : List Entry) → Keeps h → PREPARE m ≡ true → has_line (Enl e) Down m ≡ true → message_row h (Enl e) m ≡ true → has is_two_phase_got h ≡ true
    prepare_of EnlistPrepare h k t l r = r
    prepare_of _ h k t l r = absurd cc

    prepare_on : (e : EnlNo) (x : Entry) → is_prepare_got e.value x ≡ true → is_got_on (Enl e) Down PREPARE x ≡ true
    prepare_on e (Got (Enl f) Down EnlistPrepare) t = and_both ((e.value == f.value) && true) true (and_both (e.value == f.value) true t refl) refl
    prepare_on e _ t = absurd cc

no_two : (e : EnlNo) (h : List Entry) → Keeps (Got (Enl e) Up EnlistNo ∷ h) → has is_two_phase_got h ≡ true
no_two e h k =
    let past = keeps_before (Got (Enl e) Up EnlistNo) h k in
    let opened = opened_if_got (Enl e) h past (later_opened (Enl e) EnlistNo h k refl) in
    vote_two e h past opened
    (from_got (Enl e) Up NO (λ g. has (is_vote e.value) g) (λ x g t. or_right (is_vote e.value x) (has (is_vote e.value) g) t) no_of (Got (Enl e) Up EnlistNo ∷ h) k
    (or_left (is_got_on (Enl e) Up NO (Got (Enl e) Up EnlistNo)) (has (is_got_on (Enl e) Up NO) h) (and_both ((e.value == e.value) && true) true (and_both (e.value == e.value) true (eq_self e.value) refl) refl)))
  where
    cast : (x : Entry) → is_cast (Enl e) No x ≡ true → is_vote e.value x ≡ true
    cast (Voted f w) t = and_left (e.value == f.value) (same_vote No w) t
    cast x t = absurd cc

    no_of : (m : Message) (h : List Entry) → Keeps h → NO m ≡ true → has_line (Enl e) Up m ≡ true → message_row h (Enl e) m ≡ true → has (is_vote e.value) h ≡ true
    no_of EnlistNo h k t l r = has_more (is_cast (Enl e) No) (is_vote e.value) cast h r
    no_of _ h k t l r = absurd cc

-- Where the stage is Answered, who was let decide has answered, or its connection is seen to be ended.
abbrev is_past : Stage → Bool
is_past Answered = true
is_past _ = false

abbrev IsSpent : EnlNo → List Entry → Type 0
IsSpent e h = (has (is_one_got e.value) h ≡ true) ⊎ IsStill (Enl e) Up h

past_abort : (b : Bool) (s : Stage) → is_given s ≡ true → is_past (abort_if b s) ≡ true → ⊥
past_abort true Given g t = absurd cc
past_abort false Given g t = absurd cc
past_abort b s g t = absurd cc

past_given : (s : Stage) → is_given s ≡ true → is_past s ≡ true → ⊥
past_given Given g t = absurd cc
past_given s g t = absurd cc

abbrev IsLeaving : Coordinated → Entry → Type 0
IsLeaving k x = (f : EnlNo) × ((is_one_got f.value x ≡ true) ⊎ (x ≡ End (Enl f) Up))

leaves_ended : (k : Coordinated) (c : Conn) → is_given k.stage ≡ true → is_past (ended_stage k c (End c Up)) ≡ true → IsLeaving k (End c Up)
leaves_ended k (Enl f) g t = (f, inr refl)
leaves_ended k Begin g t = absurd (past_abort (aborts k (End Begin Up)) k.stage g t)
leaves_ended k Voter g t = absurd (past_abort (aborts k (End Voter Up)) k.stage g t)
leaves_ended k (Again f) g t = absurd (past_abort (aborts k (End (Again f) Up)) k.stage g t)

leaves_got : (k : Coordinated) (c : Conn) (m : Message) → has_line c Up m ≡ true → is_given k.stage ≡ true → is_past (stage_after k (Got c Up m)) ≡ true → IsLeaving k (Got c Up m)
leaves_got k Begin BeginBegin l g t = absurd (begun k.stage g t)
  where
    begun : (s : Stage) → is_given s ≡ true → is_past (begin_if s) ≡ true → ⊥
    begun Given g t = absurd cc
    begun s g t = absurd cc
leaves_got k Begin BeginCommitOne l g t = absurd (sole k.stage (not k.commit) (is_one k.desks) g t)
  where
    sole : (s : Stage) (c o : Bool) → is_given s ≡ true → is_past (sole_if (is_active s && c) o s) ≡ true → ⊥
    sole Given c o g t = absurd cc
    sole s c o g t = absurd cc
leaves_got k (Enl f) EnlistOneCommitted l g t = (f, inl (eq_self f.value))
leaves_got k (Enl f) EnlistOneInDoubt l g t = (f, inl (eq_self f.value))
leaves_got k (Enl f) EnlistOneAborted l g t = (f, inl (eq_self f.value))
leaves_got k c m l g t = absurd (lined (has_line c Up m) l t)
  where
    lined : (b : Bool) → b ≡ true → is_past (if b then abort_if (aborts k (Got c Up m)) k.stage else ended_stage k c (Got c Up m)) ≡ true → ⊥
    lined true q t = past_abort (aborts k (Got c Up m)) k.stage g t
    lined false q t = absurd cc

leaves : (k : Coordinated) (x : Entry) → ((c : Conn) (m : Message) → x ≡ Got c Up m → has_line c Up m ≡ true) → is_given k.stage ≡ true → is_past (stage_after k x) ≡ true → IsLeaving k x
leaves k (Got c Up m) l g t = leaves_got k c m (l c m refl) g t
leaves k (Got Begin Down m) l g t = absurd (past_given k.stage g t)
leaves k (Got Voter Down m) l g t = absurd (past_given k.stage g t)
leaves k (Got (Enl e) Down m) l g t = absurd (past_given k.stage g t)
leaves k (Got (Again e) Down m) l g t = absurd (past_given k.stage g t)
leaves k (Sent (Enl e) Down EnlistSingle) l g t = absurd (single k.stage g t)
  where
    single : (s : Stage) → is_given s ≡ true → is_past (stage_if (is_sole s) Given s) ≡ true → ⊥
    single Given g t = absurd cc
    single s g t = absurd cc
leaves k (Sent (Enl e) Down m) l g t = absurd (past_given k.stage g t)
leaves k (Sent (Enl e) Up m) l g t = absurd (past_given k.stage g t)
leaves k (Sent Begin Down m) l g t = absurd (past_given k.stage g t)
leaves k (Sent Begin Up m) l g t = absurd (past_given k.stage g t)
leaves k (Sent Voter Down m) l g t = absurd (past_given k.stage g t)
leaves k (Sent Voter Up m) l g t = absurd (past_given k.stage g t)
leaves k (Sent (Again e) Down m) l g t = absurd (past_given k.stage g t)
leaves k (Sent (Again e) Up m) l g t = absurd (past_given k.stage g t)
leaves k (End c Up) l g t = leaves_ended k c g t
leaves k (End c Down) l g t = absurd (past_given k.stage g t)
leaves k Logged l g t = absurd cc
leaves k Freed l g t = absurd cc
leaves k (Restarted found) l g t = absurd (restarts found k.stage t)
  where
    restarts : (b : Bool) (s : Stage) → is_past (behind_restart b s) ≡ true → ⊥
    restarts true s t = absurd cc
    restarts false Recorded t = absurd cc
    restarts false Over t = absurd cc
    restarts false s t = absurd cc
leaves k x l g t = absurd (past_abort (aborts k x) k.stage g t)

past_live : IsLive is_past
past_live = record { aborted = refl; recorded = refl; over = refl; unknown = refl }

past_new : (k : Coordinated) (x : Entry) → is_past (stage_after k x) ≡ true → (is_given k.stage || is_past k.stage) ≡ true
past_new k x a =
    come is_past past_live k x
    (record {
      stays = λ u. or_right (is_given k.stage) (is_past k.stage) u;
      begun = λ u o q. absurd cc;
      alone = λ u a o q. absurd cc;
      lets = λ u a q. absurd cc;
      answers = λ u g. or_left (is_given k.stage) (is_past k.stage) g;
    }) a

spent_more : (e : EnlNo) (x : Entry) (h : List Entry) → Keeps (x ∷ h) → has (opens (Enl e)) h ≡ true → IsSpent e h → IsSpent e (x ∷ h)
spent_more e x h k o (inl s) = inl (or_right (is_one_got e.value x) (has (is_one_got e.value) h) s)
spent_more e x h k o (inr s) =
    let n = unopened_again e x h k o in
    inr (still_more (Enl e) Up x h (λ m p. absurd (not_both (opens (Enl e) x) p n)) (λ p. absurd (not_both (opens (Enl e) x) p n)) s)

pub single_opened : (e : EnlNo) (h : List Entry) → Keeps h → has (is_single_sent e.value) h ≡ true → has (opens (Enl e)) h ≡ true
single_opened e h k s = opened_if_got (Enl e) h k (sent_opened_there (Enl e) (λ m. true) h k (has_more (is_single_sent e.value) (is_sent_on (Enl e) Down (λ m. true)) on h s))
  where
    on : (x : Entry) → is_single_sent e.value x ≡ true → is_sent_on (Enl e) Down (λ m. true) x ≡ true
    on (Sent (Enl f) Down EnlistSingle) t = and_both ((e.value == f.value) && true) true (and_both (e.value == f.value) true t refl) refl
    on _ t = absurd cc

-- what was let decide is all that came
only_one : (e f : EnlNo) (h : List Entry) → Keeps h → AreStood h → has (is_single_sent e.value) h ≡ true → has (opens (Enl f)) h ≡ true → (f.value == e.value) ≡ true
only_one e f h k a s o =
    let any = has_more (is_single_sent e.value) is_any_single_sent (single_any e.value) h s in
    single_only f.value e.value h k s
    (come_stood f h k (now_stood h a) (and_left (has is_sealed h) (is_lone_owner (durables h)) (lone_if_one h k (one_if_single h k any))) (promoted_if_single h k any) o)

spent_now : (e : EnlNo) (x : Entry) (h : List Entry) → Keeps (x ∷ h) → AreStood h → has (is_single_sent e.value) h ≡ true → IsLeaving (coordinate h) x → IsSpent e (x ∷ h)
spent_now e x h k a s (f, inl t) =
    let past = keeps_before x h k in
    let P : ℕ → Type 0 = λ n. has (is_one_got n) (x ∷ h) ≡ true in
    let here : has (is_one_got f.value) (x ∷ h) ≡ true = or_left (is_one_got f.value x) (has (is_one_got f.value) h) t in
    let same = only_one e f h past a s (single_opened f h past (got_single f.value x h k t)) in
    inl (subst P (eqb-true f.value e.value same) here)
spent_now e x h k a s (f, inr t) =
    let Q : Entry → Type 0 = λ y. Keeps (y ∷ h) → IsSpent e (y ∷ h) in
    subst Q (sym t) ended k
  where
    ended : Keeps (End (Enl f) Up ∷ h) → IsSpent e (End (Enl f) Up ∷ h)
    ended k =
        let past = keeps_before (End (Enl f) Up) h k in
        let same = same_enlistment f e (eqb-true f.value e.value (only_one e f h past a s (end_opened (Enl f) Up h k.wires.0))) in
        let P : EnlNo → Type 0 = λ g. IsSpent g (End (Enl f) Up ∷ h) in
        subst P same (inr (end_still (Enl f) Up h k.wires.0))

sole_now : (x : Entry) (h : List Entry) (e : ℕ) → Keeps (x ∷ h) → is_single_sent e x ≡ true → is_past (stage_after (coordinate h) x) ≡ true → ⊥
sole_now (Sent (Enl f) Down EnlistSingle) h e k t p =
    by (coordinate h).stage
    (and_left (is_sole (coordinate h).stage) (has_desk (coordinate h) f.value)
    (and_right (has is_one_phase_got h && has is_yes_got h && not (coordinator_aborted h)) (is_sole (coordinate h).stage && has_desk (coordinate h) f.value)
    (row_of (Enl f) Down EnlistSingle h (newest (Sent (Enl f) Down EnlistSingle) h k)))) p
  where
    by : (s : Stage) → is_sole s ≡ true → is_past (stage_if (is_sole s) Given s) ≡ true → ⊥
    by Sole a p = absurd cc
    by s a p = absurd cc
sole_now x h e k t p = absurd cc

pub answered_spent : (e : EnlNo) (h : List Entry) → Keeps h → AreStood h → is_past (coordinate h).stage ≡ true → has (is_single_sent e.value) h ≡ true → IsSpent e h
unfolding coordinate follow
answered_spent e [] k a p s = absurd cc
answered_spent e (x ∷ h) k a p s =
    let past = keeps_before x h k in
    or_case (is_single_sent e.value x) (has (is_single_sent e.value) h) (λ q. absurd (sole_now x h e.value k q p))
    (λ q. or_case (is_given (coordinate h).stage) (is_past (coordinate h).stage)
    (λ g. spent_now e x h k a.1 q (leaves (coordinate h) x (λ c m r. line c m r) g p))
    (λ b. spent_more e x h k (single_opened e h past q) (answered_spent e h past a.1 b q)) (past_new (coordinate h) x p)) s
  where
    line : (c : Conn) (m : Message) → x ≡ Got c Up m → has_line c Up m ≡ true
    line c m r = let P : Entry → Type 0 = λ y. Keeps (y ∷ h) in got_line c Up m h (subst P r k)

-- An owner answers once.
doubt_apart : (h : List Entry) → Keeps h → has (is_answered AbortedOutcome) h ≡ true → has (is_answered InDoubt) h ≡ true → ⊥
doubt_apart [] k a b = absurd cc
doubt_apart (x ∷ h) k a b =
    or_case (is_answered AbortedOutcome x) (has (is_answered AbortedOutcome) h)
    (λ p. or_case (is_answered InDoubt x) (has (is_answered InDoubt) h) (λ q. apart x p q) (λ q. not_both (has is_answer h) (has_more (is_answered InDoubt) is_answer (any InDoubt) h q) (first x (newest x h k) (any AbortedOutcome x p))) b)
    (λ p. or_case (is_answered InDoubt x) (has (is_answered InDoubt) h) (λ q. not_both (has is_answer h) (has_more (is_answered AbortedOutcome) is_answer (any AbortedOutcome) h p) (first x (newest x h k) (any InDoubt x q)))
    (λ q. doubt_apart h (keeps_before x h k) p q) b) a
  where
    apart : (x : Entry) → is_answered AbortedOutcome x ≡ true → is_answered InDoubt x ≡ true → ⊥
    apart (OwnerAnswered f AbortedOutcome) p q = absurd cc
    apart (OwnerAnswered f o) p q = absurd cc
    apart x p q = absurd cc

    any : (o : Outcome) (x : Entry) → is_answered o x ≡ true → is_answer x ≡ true
    any o (OwnerAnswered f p) t = refl
    any o x t = absurd cc

    first : (x : Entry) → rule h x ≡ true → is_answer x ≡ true → has is_answer h ≡ false
    first (OwnerAnswered f o) r t = not_true (has is_answer h) (and_right (may_answer h && has (is_hand f.value) h) (not (has is_answer h)) r)
    first x r t = absurd cc

-- What it got for an answer is one of three.
one_kinds : (e : ℕ) (h : List Entry) → has (is_one_got e) h ≡ true → (has is_one_aborted h || (has is_one_committed h || has is_one_in_doubt h)) ≡ true
one_kinds e [] t = absurd cc
one_kinds e (x ∷ h) t =
    or_case (is_one_got e x) (has (is_one_got e) h)
    (λ q. or_case (is_one_aborted x) (is_one_committed x || is_one_in_doubt x) (λ a. or_left (is_one_aborted x || has is_one_aborted h) _ (or_left (is_one_aborted x) (has is_one_aborted h) a))
    (λ b. or_right (is_one_aborted x || has is_one_aborted h) _
    (or_case (is_one_committed x) (is_one_in_doubt x) (λ c. or_left (is_one_committed x || has is_one_committed h) _ (or_left (is_one_committed x) (has is_one_committed h) c))
    (λ d. or_right (is_one_committed x || has is_one_committed h) _ (or_left (is_one_in_doubt x) (has is_one_in_doubt h) d)) b)) (one x q))
    (λ q. or_case (has is_one_aborted h) (has is_one_committed h || has is_one_in_doubt h) (λ a. or_left (is_one_aborted x || has is_one_aborted h) _ (or_right (is_one_aborted x) (has is_one_aborted h) a))
    (λ b. or_right (is_one_aborted x || has is_one_aborted h) _
    (or_case (has is_one_committed h) (has is_one_in_doubt h) (λ c. or_left (is_one_committed x || has is_one_committed h) _ (or_right (is_one_committed x) (has is_one_committed h) c))
    (λ d. or_right (is_one_committed x || has is_one_committed h) _ (or_right (is_one_in_doubt x) (has is_one_in_doubt h) d)) b)) (one_kinds e h q)) t
  where
    one : (x : Entry) → is_one_got e x ≡ true → (is_one_aborted x || (is_one_committed x || is_one_in_doubt x)) ≡ true
    one (Got (Enl f) Up EnlistOneCommitted) t = refl
    one (Got (Enl f) Up EnlistOneInDoubt) t = refl
    one (Got (Enl f) Up EnlistOneAborted) t = refl
    one _ t = absurd cc

aborted_by_one : (h : List Entry) → has is_record h ≡ false → has is_one_aborted h ≡ true → coordinator_aborted h ≡ true
unfolding coordinator_aborted
aborted_by_one [] r t = absurd cc
aborted_by_one (x ∷ h) r t =
    let before = or_second (is_record x) (has is_record h) r in
    or_case (is_one_aborted x) (has is_one_aborted h) (λ q. or_left (is_first_abort h x) (ever is_first_abort h) (one x before q)) (λ q. or_right (is_first_abort h x) (ever is_first_abort h) (aborted_by_one h before q)) t
  where
    one : (x : Entry) → has is_record h ≡ false → is_one_aborted x ≡ true → is_first_abort h x ≡ true
    one (Got (Enl f) Up EnlistOneAborted) b t = not_false (has is_record h) b
    one _ b t = absurd cc

-- The Aborted of the one that it let decide makes it abort.
unrefused : (e : EnlNo) (h : List Entry) → Keeps (Got (Enl e) Up EnlistOneAborted ∷ h) → AreStood h → coordinator_aborted h ≡ false → is_let (stage_after (coordinate h) (Got (Enl e) Up EnlistOneAborted)) ≡ true → ⊥
unrefused e h k a n w =
    let x = Got (Enl e) Up EnlistOneAborted in
    let past = keeps_before x h k in
    let s = got_single e.value x h k (eq_self e.value) in
    by (coordinate h).stage refl (unheard (hears_one (coordinate h) e.value) w) (still_let w) (λ u. still_decides e.value h past u s) (λ p. answered_spent e h past a p s)
  where
    unheard : (b : Bool) → is_let (stage_if b Aborted (coordinate h).stage) ≡ true → b ≡ false
    unheard true w = absurd cc
    unheard false w = refl

    still_let : is_let (stage_if (hears_one (coordinate h) e.value) Aborted (coordinate h).stage) ≡ true → is_let (coordinate h).stage ≡ true
    still_let w = or_held (hears_one (coordinate h) e.value) w
      where
        or_held : (b : Bool) → is_let (stage_if b Aborted (coordinate h).stage) ≡ true → is_let (coordinate h).stage ≡ true
        or_held true w = absurd cc
        or_held false w = w

    none_refused : has is_one_aborted h ≡ false
    none_refused =
        false_from_ne_true (has is_one_aborted h)
        (λ t. not_both (coordinator_aborted h)
        (aborted_by_one h (single_unrecorded h (keeps_before (Got (Enl e) Up EnlistOneAborted) h k) (has_more (is_single_sent e.value) is_any_single_sent (single_any e.value) h (got_single e.value (Got (Enl e) Up EnlistOneAborted) h k (eq_self e.value)))) t) n)

    spent : IsSpent e h → ⊥
    spent (inl t) = heard (one_kinds e.value h t)
      where
        past : Keeps h
        past = keeps_before (Got (Enl e) Up EnlistOneAborted) h k

        now : has (is_answered AbortedOutcome) h ≡ true
        now = aborted_if_one (Got (Enl e) Up EnlistOneAborted ∷ h) k refl

        heard : (has is_one_aborted h || (has is_one_committed h || has is_one_in_doubt h)) ≡ true → ⊥
        heard t =
            or_case (has is_one_aborted h) (has is_one_committed h || has is_one_in_doubt h) (λ q. not_both (has is_one_aborted h) q none_refused)
            (λ q. or_case (has is_one_committed h) (has is_one_in_doubt h) (λ c. not_both (has (is_answered Committed) h) (committed_if_one h past c) (answered_once h past now))
            (λ d. doubt_apart h past now (doubted_if_one h past d)) q) t
    spent (inr t) = still_silent (Enl e) Up EnlistOneAborted h t k.wires.0

    by : (s : Stage) → (coordinate h).stage ≡ s → hears_one (coordinate h) e.value ≡ false → is_let (coordinate h).stage ≡ true
        → (awaits (coordinate h).stage ≡ true → decides (coordinate h) e.value ≡ true) → (is_past (coordinate h).stage ≡ true → IsSpent e h) → ⊥
    by Given q u l d p = not_both (hears_one (coordinate h) e.value) (or_right (is_undecided (coordinate h).stage) (decides (coordinate h) e.value) (d (ap awaits q))) u
    by Answered q u l d p = spent (p (ap is_past q))
    by Idle q u l d p = absurd (not_both (is_let (coordinate h).stage) l (ap is_let q))
    by Active q u l d p = absurd (not_both (is_let (coordinate h).stage) l (ap is_let q))
    by Sole q u l d p = absurd (not_both (is_let (coordinate h).stage) l (ap is_let q))
    by Aborted q u l d p = absurd (not_both (is_let (coordinate h).stage) l (ap is_let q))
    by Recorded q u l d p = absurd (not_both (is_let (coordinate h).stage) l (ap is_let q))
    by Over q u l d p = absurd (not_both (is_let (coordinate h).stage) l (ap is_let q))
    by Unknown q u l d p = absurd (not_both (is_let (coordinate h).stage) l (ap is_let q))

-- So while one is let decide, nothing aborts.
aborts_let : (x : Entry) (h : List Entry) → Keeps (x ∷ h) → AreStood h → coordinator_aborted h ≡ false → is_let (stage_after (coordinate h) x) ≡ true → has is_any_single_sent (x ∷ h) ≡ true → is_abort h x ≡ true → ⊥
aborts_let (Got Begin Up BeginAbort) h k a n w s t = no_abort_got h k (commit_if_single h (keeps_before (Got Begin Up BeginAbort) h k) s)
aborts_let (Got Voter Up VoterNo) h k a n w s t = no_no_got h k (yes_got_if_single h (keeps_before (Got Voter Up VoterNo) h k) s)
aborts_let (Got (Enl e) Up EnlistNo) h k a n w s t =
    let past = keeps_before (Got (Enl e) Up EnlistNo) h k in not_both (has is_two_phase_got h) (no_two e h k) (one_apart h past (one_if_single h past s))
aborts_let (Got (Enl e) Up EnlistOneAborted) h k a n w s t = unrefused e h k a n w
aborts_let (Got Begin Up BeginBegin) h k a n w s t = absurd cc
aborts_let (Got Begin Up BeginCommitOne) h k a n w s t =
    not_both (has is_commit_got h) (commit_if_single h (keeps_before (Got Begin Up BeginCommitOne) h k) s) (not_true (has is_commit_got h) (and_right (not (is_lone h)) (not (has is_commit_got h)) t))
aborts_let (Got c Up m) h k a n w s t = absurd (not_both (has_line c Up m) (got_line c Up m h k) (not_true (has_line c Up m) (and_left (not (has_line c Up m)) (is_veto_end h c Up) t)))
aborts_let (End Begin Up) h k a n w s t = not_both (has is_commit_got h) (commit_if_single h (keeps_before (End Begin Up) h k) s) (not_true (has is_commit_got h) t)
aborts_let (End Voter Up) h k a n w s t = not_both (has is_yes_got h) (yes_got_if_single h (keeps_before (End Voter Up) h k) s) (not_true (has is_yes_got h) t)
aborts_let (End (Enl f) Up) h k a n w s t =
    let past = keeps_before (End (Enl f) Up) h k in
    let v = single_to h s in
    let same = only_one v.0 f h past a v.1 (end_opened (Enl f) Up h k.wires.0) in
    let P : ℕ → Type 0 = λ g. has (is_single_sent g) h ≡ true in
    not_both (has (is_single_sent f.value) h) (subst P (sym (eqb-true f.value v.0.value same)) v.1)
    (not_true (has (is_single_sent f.value) h) (and_right (not (has (is_vote_got f.value) h)) (not (has (is_single_sent f.value) h)) t))
aborts_let (End (Again f) Up) h k a n w s t = absurd cc
aborts_let (End c Down) h k a n w s t = absurd cc
aborts_let LogFull h k a n w s t =
    let past = keeps_before LogFull h k in not_both (has is_two_phase_got h) (can_two_phase h (newest LogFull h k)) (one_apart h past (one_if_single h past s))
aborts_let (Restarted found) h k a n w s t = live_restart is_let let_live found (coordinate h).stage w
aborts_let _ h k a n w s t = absurd cc

withheld_here : (x : Entry) (h : List Entry) → Keeps (x ∷ h) → AreStood h → coordinator_aborted h ≡ false → withholds (coordinate (x ∷ h)).stage ≡ true → coordinator_aborted (x ∷ h) ≡ false
unfolding coordinate follow coordinator_aborted
withheld_here x h k a n w = by (is_undecided (stage_after (coordinate h) x)) refl
  where
    by : (b : Bool) → is_undecided (stage_after (coordinate h) x) ≡ b → (is_first_abort h x || ever is_first_abort h) ≡ false
    by true u = open_unaborted (x ∷ h) k u
    by false u =
        let l = let_apart (stage_after (coordinate h) x) w u in
        or_false (is_first_abort h x) (ever is_first_abort h)
        (false_from_ne_true (is_first_abort h x) (λ t. aborts_let x h k a n l (single_if_let (x ∷ h) l) (and_left (is_abort h x) (not (has is_record h)) t))) n

pub withheld_unaborted : (h : List Entry) → Keeps h → AreStood h → withholds (coordinate h).stage ≡ true → coordinator_aborted h ≡ false
unfolding coordinate follow coordinator_aborted
withheld_unaborted [] k a w = refl
withheld_unaborted (x ∷ h) k a w = withheld_here x h k a.1 (withheld_unaborted h (keeps_before x h k) a.1 (upheld_before withholds withholds_upheld (coordinate h) x w)) w

-- so nothing is decided at the coordinator
pub withheld_open : (h : List Entry) → Keeps h → AreStood h → withholds (coordinate h).stage ≡ true → is_decided_there h ≡ false
withheld_open h k a w = or_false (has is_record h) (coordinator_aborted h) (upheld_unrecorded withholds withholds_upheld h w) (withheld_unaborted h k a w)

-- Before a promotion began nothing was handed over.
pub hand_promoting : (x : Entry) (h : List Entry) → Keeps (x ∷ h) → has is_promoting (x ∷ h) ≡ true → has is_any_hand h ≡ true → has is_promoting h ≡ true
hand_promoting (Promoting c) h k p t =
    absurd (not_both (has is_sealed h) (sealed_if_handed h (keeps_before (Promoting c) h k) t)
    (not_true (has is_sealed h) (and_right (not (has is_decision h)) (not (has is_sealed h)) (and_left (not (has is_decision h) && not (has is_sealed h)) (not (has is_promoting h)) (newest (Promoting c) h k)))))
hand_promoting x h k p t = p
