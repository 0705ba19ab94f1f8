-- Where the coordinator didn't stop, nothing is on the way, both sides saw the end of each connection that was lost, and nothing is decided: nothing bad came, no veto, no abort and no refusal, and no end was
-- a veto. For whatever ends the transaction decides at the local side in its block, or comes to the coordinator, which aborts and says so on b and on v, and one of these isn't lost.
use Rattle.std.proofs.Common.{◌≡◌, ℕ, ◌==◌, Bool, true, false, ◌&&◌, ◌||◌, List, [], ◌∷◌, refl, subst, sym}
use Rattle.std.specs.Prelude.{not}
use Rattle.std.proofs.lemmas.Bool.{eqb-true, false_from_ne_true, or_left, true_from_ne_false}
use Rattle.dtx_values.specs.declared.entry.Entry.{Entry}
use Rattle.dtx_values.specs.declared.entry.Entry.TheVariants.{Down as End, Enlisted, Got, LogFull, OwnerAnswered, PromoteReply, Requested, RollbackAsked, Sent, TimedOut, Voted}
use Rattle.dtx_values.specs.declared.entry.Request.TheVariants.{Abort}
use Rattle.dtx_values.specs.declared.message.Conn.{Conn}
use Rattle.dtx_values.specs.declared.message.Conn.TheVariants.{Begin, Voter, Enl}
use Rattle.dtx_values.specs.declared.message.Dir.{Dir}
use Rattle.dtx_values.specs.declared.message.Dir.TheVariants.{Up, Down}
use Rattle.dtx_values.specs.declared.message.Message.{Message}
use Rattle.dtx_values.specs.declared.message.Message.TheVariants.{BeginAbort, BeginAborted, BeginCommitted, BeginInDoubt, VoterAbort, VoterCommit, VoterInDoubt, EnlistNo, EnlistOneAborted, EnlistOneCommitted, EnlistOneInDoubt, EnlistPrepared, EnlistReadonly, EnlistSingle}
use Rattle.dtx_values.specs.declared.number.EnlNo.{EnlNo}
use Rattle.dtx_values.specs.declared.words.Vote.{Vote}
use Rattle.dtx_values.specs.declared.words.Vote.TheVariants.{Done, No, Yes}
use Rattle.dtx_values.specs.Class.{is_volatile}
use Rattle.dtx_values.specs.Vote.{is_good}
use Rattle.dtx_values.specs.Ends.{knows, same_connection, same_direction}
use Rattle.dtx_values.specs.Lines.{has_line}
use Rattle.dtx_model.specs.Words.{always, each, ever, has}
use Rattle.dtx_model.specs.Entries.{is_any_hand, is_any_owner, is_any_single_sent, is_asked, is_commit_got, is_decision, is_good_vote, is_hand, is_lost, is_one_got, is_promoted, is_record, is_single_sent, is_two_phase_got, is_vote, is_vote_got, is_yes, is_yes_got}
use Rattle.dtx_model.specs.Observed.{ends_of}
use Rattle.dtx_model.specs.Promotes.{is_promoting}
use Rattle.dtx_model.specs.Learned.{coordinator_aborted, is_abort, is_first_abort}
use Rattle.dtx_model.specs.Outcome.{enlisted, is_outcome_got, is_veto_end}
use Rattle.dtx_model.specs.Wires.{is_lost_wire}
use Rattle.dtx_model.specs.Coordinated.{coordinate, follow, stage_after}
use Rattle.dtx_model.specs.Caused.{same_vote}
use Rattle.dtx_model.proofs.Bools.{and_left, and_right, and_both, not_both, not_false, not_true, or_case, or_false, or_first, or_second, or_right, three_hold}
use Rattle.history_table.proofs.Tests.{eq_self}
use Rattle.dtx_model.proofs.Connections.{same_is}
use Rattle.history_table.proofs.Scans.{has_less, has_more}
use Rattle.history_table.proofs.EntryTests.{is_answer, is_enlisted, is_no_vote, is_volatile_made}
use Rattle.history_table.proofs.Table.{is_abort_request, is_cast, is_single_got, may_answer, message_row}
use Rattle.history_table.proofs.Keeping.{Keeps, keeps_before, newest}
use Rattle.history_table.proofs.Sendings.{commit_got_on, from_got, yes_got_on}
use Rattle.history_table.proofs.Undecided.{Stands, goes_on}
use Rattle.settled_histories.proofs.Wired.{IsFirm, IsWired, firm_before, firm_unended, is_end_on, is_plain, wired_before}
use Rattle.settled_histories.proofs.MessageKinds.{ABORT, ASK, BEGUN, NO, ONE, OUTCOME, VOTE, VOTER_NO, VOTER_OUTCOME}
use Rattle.history_table.proofs.Messages.{COMMIT, PREPARE, SINGLE, VOTED, YES}
use Rattle.settled_histories.proofs.Fine.{IsFine, is_caused, is_origin, is_pair, is_spared, is_spared_down}
use Rattle.settled_histories.proofs.Joined.{IsJoined}
use Rattle.settled_histories.proofs.Rest.{IsQuiet, is_ordered, is_sound}
use Rattle.settled_histories.proofs.Arrived.{arrived}
use Rattle.settled_histories.proofs.Followed.{Demands, followed}
use Rattle.settled_histories.proofs.Knowledge.{knows_got}
use Rattle.settled_histories.proofs.Promoted.{if_so}
use Rattle.settled_histories.proofs.Committed.{promoted_begun}
use Rattle.settled_histories.proofs.Foregoing.{unlost_here, yes_asked}
use Rattle.settled_histories.proofs.BeforeRows.{kept_sound}
use Rattle.settled_histories.proofs.Unblamed.{down_early, open_unblamed}
use Rattle.settled_histories.proofs.Ending.{IsGoingOn, is_local_end}
use Rattle.settled_histories.proofs.Announced.{IsAnnounced}
use Rattle.settled_histories.proofs.Requests.{IsRequesting}
use Rattle.settled_histories.proofs.AllCome.{AreStood}
use Rattle.settled_histories.proofs.LoneAsked.{lone_stood}
use Rattle.settled_histories.proofs.Awaits.{awaits, awaits_upheld, awaits_withholds, upheld_before, upheld_unrecorded}
use Rattle.settled_histories.proofs.Heard.{IsHeard, is_doubt_got}
use Rattle.settled_histories.proofs.OneDecides.{awaits_undoubted, unanswered_there, unended_single}
use Rattle.settled_histories.proofs.OnePhase.{hand_promoting, no_decided, single_opened, vote_two, withheld_unaborted}
use Rattle.history_table.proofs.LetDecide.{any_single_if_handed, handed_if_owner, one_apart, one_if_single, promoted_if_single, single_any, single_if_handed}
use Rattle.history_table.proofs.Recording.{promoting_if_promoted}
use Rattle.history_table.proofs.Handed.{hand_any}
use Rattle.history_table.proofs.LetHand.{single_got_if_handed}
use Rattle.history_table.proofs.Crossed.{is_sent_on, is_got_on, was_sent}

-- What reaches the coordinator, and makes it abort: the request of an abort, and a durable's No; and where its log is full.
abbrev pub is_core_end : Entry → Bool
is_core_end (Got Begin Up BeginAbort) = true
is_core_end (Got (Enl e) Up EnlistNo) = true
is_core_end LogFull = true
is_core_end _ = false

-- so while it awaits none of these came
core_end_aborts : (h : List Entry) → has is_record h ≡ false → has is_core_end h ≡ true → coordinator_aborted h ≡ true
unfolding coordinator_aborted
core_end_aborts [] r t = absurd cc
core_end_aborts (x ∷ h) r t =
    let before = or_second (is_record x) (has is_record h) r in
    or_case (is_core_end x) (has is_core_end h)
    (λ q. or_left (is_first_abort h x) (ever is_first_abort h) (and_both (is_abort h x) (not (has is_record h)) (one x q) (not_false (has is_record h) before)))
    (λ q. or_right (is_first_abort h x) (ever is_first_abort h) (core_end_aborts h before q)) t
  where
    one : (x : Entry) → is_core_end x ≡ true → is_abort h x ≡ true
    one (Got Begin Up BeginAbort) q = refl
    one (Got (Enl e) Up EnlistNo) q = refl
    one LogFull q = refl
    one _ q = absurd cc

-- What is asked of the history: it keeps the table, the coordinator didn't stop, what is bad has its cause, each demand is paid, nothing is on the way, and both sides saw the end of each plain
-- connection that was lost. Once it is sealed each whose connection was opened stands; and what came of the coordinator's doubt is decided.
pub record IsSettling (h : List Entry) : Type 0 where
  pub stands : Stands h
  pub wired : IsWired h
  pub caused : always is_caused h ≡ true
  pub ordered : always is_ordered h ≡ true
  pub quiet : IsQuiet h
  pub going : IsGoingOn h
  pub announced : IsAnnounced h
  pub requests : IsRequesting h
  pub stood : AreStood h
  pub heard : IsHeard h
  pub ended : (c : Conn) → is_plain c ≡ true → is_lost_wire c h ≡ true → (d : Dir) → has (is_end_on c d) h ≡ true

none_aborted : (h : List Entry) → IsSettling h → awaits (coordinate h).stage ≡ true → coordinator_aborted h ≡ false
none_aborted h r u = withheld_unaborted h r.stands.keeps r.stood (awaits_withholds (coordinate h).stage u)

none_ended : (h : List Entry) → IsSettling h → awaits (coordinate h).stage ≡ true → has is_core_end h ≡ false
none_ended h r u =
    false_from_ne_true (has is_core_end h)
    (λ t. not_both (coordinator_aborted h) (core_end_aborts h (upheld_unrecorded awaits awaits_upheld h u) t) (none_aborted h r u))

-- Before the local yes b and v are firm, since their end on the local side would be a veto.
pair_plain : (c : Conn) → is_pair c ≡ true → is_plain c ≡ true
pair_plain Begin p = refl
pair_plain Voter p = refl
pair_plain _ p = absurd cc

early_firm : (h : List Entry) → IsSettling h → has is_decision h ≡ false → (c : Conn) → is_pair c ≡ true → has is_yes h ≡ false → IsFirm c h
early_firm h r d c p y =
    let plain = pair_plain c p in
    unlost_here c h plain (λ l. not_both (has (is_end_on c Down) h) (r.ended c plain l Down) (down_early c h p (r.going d).spared y))

-- So where b is lost the local side said yes, and v is firm: else the outcome would be in doubt.
begin_lost_yes : (h : List Entry) → IsSettling h → has is_decision h ≡ false → is_lost_wire Begin h ≡ true → has is_yes h ≡ true
begin_lost_yes h r d l = true_from_ne_false (has is_yes h) (λ y. not_both (is_lost_wire Begin h) l (early_firm h r d Begin refl y).kept)

voter_firm : (h : List Entry) → IsSettling h → has is_decision h ≡ false → is_lost_wire Begin h ≡ true → IsFirm Voter h
voter_firm h r d l =
    unlost_here Voter h refl
    (λ v. not_both (has is_yes h && has (is_end_on Begin Down) h && has (is_end_on Voter Down) h)
    (three_hold (has is_yes h) (has (is_end_on Begin Down) h) (has (is_end_on Voter Down) h) (begin_lost_yes h r d l) (r.ended Begin refl l Down) (r.ended Voter refl v Down)) (r.going d).certain)

-- The voter sends No only where the local side has aborted.
voter_no_decided : (h : List Entry) → Keeps h → has (is_got_on Voter Up VOTER_NO) h ≡ true → has is_decision h ≡ true
voter_no_decided h k s = no_decided h k (was_sent Voter Up VOTER_NO h k.wires s)

-- The coordinator has decided nothing, since its decision would have come on b, or on v where b is lost.
-- the outcome or the coordinator's doubt came
abbrev is_verdict_got : Entry → Bool
is_verdict_got x = is_outcome_got x || is_doubt_got x

begin_heard : (h : List Entry) → IsSettling h → awaits (coordinate h).stage ≡ false → IsFirm Begin h → has is_verdict_got h ≡ true
begin_heard h r n f =
    has_more (is_got_on Begin Down OUTCOME) is_verdict_got come h
    (arrived Begin Down OUTCOME h r.wired f (r.quiet.empty Begin Down) (r.announced.on_begin n (firm_unended Begin Up h r.wired f)))
  where
    come : (x : Entry) → is_got_on Begin Down OUTCOME x ≡ true → is_verdict_got x ≡ true
    come (Got Begin Down BeginCommitted) k = refl
    come (Got Begin Down BeginAborted) k = refl
    come (Got Begin Down BeginInDoubt) k = refl
    come x k = absurd cc

voter_heard : (h : List Entry) → IsSettling h → has is_decision h ≡ false → awaits (coordinate h).stage ≡ false → has is_yes h ≡ true → IsFirm Voter h → has is_verdict_got h ≡ true
voter_heard h r d n y f =
    has_more (is_got_on Voter Down VOTER_OUTCOME) is_verdict_got come h
    (arrived Voter Down VOTER_OUTCOME h r.wired f (r.quiet.empty Voter Down)
    (r.announced.on_voter n (was_sent Voter Down ASK h r.wired.run (yes_asked h (kept_sound h r.stands.keeps) y)) (firm_unended Voter Up h r.wired f)
    (false_from_ne_true (has (is_got_on Voter Up VOTER_NO) h) (λ g. not_both (has is_decision h) (voter_no_decided h r.stands.keeps g) d))))
  where
    come : (x : Entry) → is_got_on Voter Down VOTER_OUTCOME x ≡ true → is_verdict_got x ≡ true
    come (Got Voter Down VoterCommit) k = refl
    come (Got Voter Down VoterAbort) k = refl
    come (Got Voter Down VoterInDoubt) k = refl
    come x k = absurd cc

unheard : (h : List Entry) → has is_outcome_got h ≡ false → has is_doubt_got h ≡ false → has is_verdict_got h ≡ false
unheard [] a b = refl
unheard (x ∷ h) a b =
    or_false (is_verdict_got x) (has is_verdict_got h) (or_false (is_outcome_got x) (is_doubt_got x) (or_first (is_outcome_got x) (has is_outcome_got h) a) (or_first (is_doubt_got x) (has is_doubt_got h) b))
    (unheard h (or_second (is_outcome_got x) (has is_outcome_got h) a) (or_second (is_doubt_got x) (has is_doubt_got h) b))

stage_open : (h : List Entry) → IsSettling h → has is_decision h ≡ false → awaits (coordinate h).stage ≡ true
stage_open h r d =
    true_from_ne_false (awaits (coordinate h).stage)
    (λ n. not_both (has is_verdict_got h) (by n (is_lost_wire Begin h) refl)
    (unheard h (goes_on h r.stands d).unheard (false_from_ne_true (has is_doubt_got h) (λ t. not_both (has is_decision h) (r.heard t) d))))
  where
    by : awaits (coordinate h).stage ≡ false → (b : Bool) → is_lost_wire Begin h ≡ b → has is_verdict_got h ≡ true
    by n false e = begin_heard h r n (record { plain = refl; kept = e })
    by n true e = voter_heard h r d n (begin_lost_yes h r d e) (voter_firm h r d e)

-- So no end that the coordinator saw was a veto either: it would have aborted.
spared_here : (x : Entry) (h : List Entry) → is_first_abort h x ≡ false → has is_record h ≡ false → is_spared_down h x ≡ true → is_spared h x ≡ true
spared_here (End c Down) h a r k = k
spared_here (End c Up) h a r k =
    not_false (is_veto_end h c Up)
    (false_from_ne_true (is_veto_end h c Up)
    (λ v. not_both (is_veto_end h c Up && not (has is_record h)) (and_both (is_veto_end h c Up) (not (has is_record h)) v (not_false (has is_record h) r)) a))
spared_here x h a r k = refl

open_spared : (h : List Entry) → ever is_first_abort h ≡ false → has is_record h ≡ false → always is_spared_down h ≡ true → always is_spared h ≡ true
open_spared [] a r k = refl
open_spared (x ∷ h) a r k =
    let unrecorded = or_second (is_record x) (has is_record h) r in
    and_both (is_spared h x) (always is_spared h)
    (spared_here x h (or_first (is_first_abort h x) (ever is_first_abort h) a) unrecorded (and_left (is_spared_down h x) (always is_spared_down h) k))
    (open_spared h (or_second (is_first_abort h x) (ever is_first_abort h) a) unrecorded (and_right (is_spared_down h x) (always is_spared_down h) k))

all_spared : (h : List Entry) → IsSettling h → has is_decision h ≡ false → always is_spared h ≡ true
unfolding coordinator_aborted
all_spared h r d = let u = stage_open h r d in open_spared h (none_aborted h r u) (upheld_unrecorded awaits awaits_upheld h u) (r.going d).spared

-- Where it saw the end of a connection, it had got what makes that end no veto: COMMIT, YES or the vote.
ended_got : (c : Conn) (q : Entry → Bool) → ((h : List Entry) → is_veto_end h c Up ≡ false → has q h ≡ true) → (h : List Entry) → always is_spared h ≡ true
    → has (is_end_on c Up) h ≡ true → has q h ≡ true
ended_got c q f [] k t = absurd cc
ended_got c q f (x ∷ h) k t =
    or_right (q x) (has q h)
    (or_case (is_end_on c Up x) (has (is_end_on c Up) h) (λ a. f h (one x (and_left (is_spared h x) (always is_spared h) k) a)) (λ a. ended_got c q f h (and_right (is_spared h x) (always is_spared h) k) a) t)
  where
    one : (x : Entry) → is_spared h x ≡ true → is_end_on c Up x ≡ true → is_veto_end h c Up ≡ false
    one (End e Up) k a =
        let P : Conn → Type 0 = λ y. is_veto_end h y Up ≡ false in
        subst P (sym (same_is c e (and_left (same_connection c e) true a))) (not_true (is_veto_end h e Up) k)
    one (End e Down) k a = let never : false ≡ true = and_right (same_connection c e) false a in absurd cc
    one x k a = absurd cc

-- an enlistment's: it had got the vote, since it goes on awaiting the one that it let decide
cast_ended : (e : EnlNo) (h : List Entry) → Keeps h → awaits (coordinate h).stage ≡ true → always is_spared h ≡ true → has (is_end_on (Enl e) Up) h ≡ true → has (is_vote_got e.value) h ≡ true
unfolding coordinate follow
cast_ended e [] k u s t = absurd cc
cast_ended e (x ∷ h) k u s t =
    let past = keeps_before x h k in
    let before = upheld_before awaits awaits_upheld (coordinate h) x u in
    or_right (is_vote_got e.value x) (has (is_vote_got e.value) h)
    (or_case (is_end_on (Enl e) Up x) (has (is_end_on (Enl e) Up) h) (λ a. now x k u (and_left (is_spared h x) (always is_spared h) s) a before)
    (λ a. cast_ended e h past before (and_right (is_spared h x) (always is_spared h) s) a) t)
  where
    here : Keeps (End (Enl e) Up ∷ h) → awaits (stage_after (coordinate h) (End (Enl e) Up)) ≡ true → is_spared h (End (Enl e) Up) ≡ true → awaits (coordinate h).stage ≡ true → has (is_vote_got e.value) h ≡ true
    here k u s b =
        true_from_ne_false (has (is_vote_got e.value) h)
        (λ n. or_case (has (is_vote_got e.value) h) (has (is_single_sent e.value) h) (λ q. not_both (has (is_vote_got e.value) h) q n)
        (λ q. unended_single e h (keeps_before (End (Enl e) Up) h k) b q k.wires.0 u)
        (either (has (is_vote_got e.value) h) (has (is_single_sent e.value) h) s))
      where
        either : (a b : Bool) → not (not a && not b) ≡ true → (a || b) ≡ true
        either true b t = refl
        either false true t = refl
        either false false t = absurd cc

    now : (x : Entry) → Keeps (x ∷ h) → awaits (stage_after (coordinate h) x) ≡ true → is_spared h x ≡ true → is_end_on (Enl e) Up x ≡ true → awaits (coordinate h).stage ≡ true → has (is_vote_got e.value) h ≡ true
    now (End c Up) k u s a b =
        let P : Conn → Type 0 = λ y. Keeps (End y Up ∷ h) → awaits (stage_after (coordinate h) (End y Up)) ≡ true → is_spared h (End y Up) ≡ true → has (is_vote_got e.value) h ≡ true in
        subst P (same_is (Enl e) c (and_left (same_connection (Enl e) c) true a)) (λ k u s. here k u s b) k u s
    now (End c Down) k u s a b = let never : false ≡ true = and_right (same_connection (Enl e) c) false a in absurd cc
    now x k u s a b = absurd cc

taken : (b : Bool) → not b ≡ false → b ≡ true
taken true k = refl
taken false k = absurd cc

-- A vote that it got and that didn't end the transaction is a good one.
vote_well : (e : EnlNo) (h : List Entry) → has is_core_end h ≡ false → has (is_vote_got e.value) h ≡ true → has (is_got_on (Enl e) Up VOTED) h ≡ true
vote_well e [] n t = absurd cc
vote_well e (x ∷ h) n t =
    or_case (is_vote_got e.value x) (has (is_vote_got e.value) h) (λ a. or_left (is_got_on (Enl e) Up VOTED x) (has (is_got_on (Enl e) Up VOTED) h) (one x (or_first (is_core_end x) (has is_core_end h) n) a))
    (λ a. or_right (is_got_on (Enl e) Up VOTED x) (has (is_got_on (Enl e) Up VOTED) h) (vote_well e h (or_second (is_core_end x) (has is_core_end h) n) a)) t
  where
    one : (x : Entry) → is_core_end x ≡ false → is_vote_got e.value x ≡ true → is_got_on (Enl e) Up VOTED x ≡ true
    one (Got (Enl f) Up EnlistPrepared) n a = and_both ((e.value == f.value) && true) true (and_both (e.value == f.value) true a refl) refl
    one (Got (Enl f) Up EnlistReadonly) n a = and_both ((e.value == f.value) && true) true (and_both (e.value == f.value) true a refl) refl
    one (Got (Enl f) Up EnlistNo) n a = absurd cc
    one _ n a = absurd cc

-- so it is where nothing is decided
pub undecided_joined : (h : List Entry) → IsSettling h → has is_decision h ≡ false → IsJoined h
undecided_joined h r d =
    record {
      undecided = undecided;
      early = early_firm h r d;
      commit = λ l. has_more is_commit_got (is_got_on Begin Up COMMIT) commit_got_on h (ended_got Begin is_commit_got (λ g v. taken (has is_commit_got g) v) h spared (r.ended Begin refl l Up));
      yes = λ l. has_more is_yes_got (is_got_on Voter Up YES) yes_got_on h (ended_got Voter is_yes_got (λ g v. taken (has is_yes_got g) v) h spared (r.ended Voter refl l Up));
      cast = λ e l. vote_well e h (none_ended h r undecided) (cast_ended e h r.stands.keeps undecided spared (r.ended (Enl e) refl l Up));
    }
  where
    undecided : awaits (coordinate h).stage ≡ true
    undecided = stage_open h r d

    spared : always is_spared h ≡ true
    spared = all_spared h r d

-- A request of an abort, and a durable's No, is sent where its connection is firm; so it came.
pub record IsSent (c : Conn) (h : List Entry) : Type 0 where
  pub wired : IsWired h
  pub firm : IsFirm c h
  pub sound : always is_sound h ≡ true

sent_before : (c : Conn) (x : Entry) (h : List Entry) → IsSent c (x ∷ h) → IsSent c h
sent_before c x h r = record { wired = wired_before x h r.wired; firm = firm_before c x h r.wired r.firm; sound = and_right (is_sound h x) (always is_sound h) r.sound }

-- what was got there shows that it is known
firm_known : (c : Conn) (p : Message → Bool) (h : List Entry) → IsSent c h → has (is_got_on c Down p) h ≡ true → knows c (ends_of h) ≡ true
firm_known c p h r k = knows_got c Down p h r.wired k (firm_unended c Down h r.wired r.firm)

request_due : (y : Entry) (past : List Entry) → IsSent Begin (y ∷ past) → is_abort_request y ≡ true → Demands (IsSent Begin) past y (is_sent_on Begin Up ABORT)
request_due (Requested e Abort) past r k =
    let b = sent_before Begin (Requested e Abort) past r in
    let rule : has is_promoted past ≡ true = and_left (has is_promoted past) (always is_sound past) r.sound in
    record {
      test = is_sent_on Begin Up ABORT;
      owed = if_so (knows Begin (ends_of past)) (is_sent_on Begin Up ABORT) (firm_known Begin BEGUN past b (promoted_begun past b.sound rule));
      serves = λ x s t. t;
    }
request_due y past r k = absurd cc

-- the No of an enlistment that isn't volatile
pub record IsVoter (e : EnlNo) (h : List Entry) : Type 0 where
  pub sent : IsSent (Enl e) h
  pub lasting : has (is_volatile_made e.value) h ≡ false

voter_before : (e : EnlNo) (x : Entry) (h : List Entry) → IsVoter e (x ∷ h) → IsVoter e h
voter_before e x h r = record { sent = sent_before (Enl e) x h r.sent; lasting = or_second (is_volatile_made e.value x) (has (is_volatile_made e.value) h) r.lasting }

no_due : (e : EnlNo) (y : Entry) (past : List Entry) → IsVoter e (y ∷ past) → is_cast (Enl e) No y ≡ true → Demands (IsVoter e) past y (is_sent_on (Enl e) Up NO)
no_due e (Voted f No) past r k =
    let name : (e.value == f.value) ≡ true = and_left (e.value == f.value) true k in
    let same : Enl e ≡ Enl f = same_is (Enl e) (Enl f) name in
    let S : Conn → Type 0 = λ c. IsSent c past in
    let b : IsSent (Enl f) past = subst S same (sent_before (Enl e) (Voted f No) past r.sent) in
    let other : has (is_volatile_made f.value) past ≡ false = subst (λ n. has (is_volatile_made n) past ≡ false) (eqb-true e.value f.value name) r.lasting in
    let prepared : has (is_got_on (Enl f) Down PREPARE) past ≡ true =
    or_case (has (is_volatile_made f.value) past) (has (is_got_on (Enl f) Down PREPARE) past) (λ q. absurd (not_both (has (is_volatile_made f.value) past) q other)) (λ q. q)
    (and_left (has (is_volatile_made f.value) past || has (is_got_on (Enl f) Down PREPARE) past) (always is_sound past) r.sent.sound) in
    record {
      test = is_sent_on (Enl f) Up (VOTE No);
      owed = if_so (not (has (is_volatile_made f.value) past) && knows (Enl f) (ends_of past)) (is_sent_on (Enl f) Up (VOTE No))
          (and_both (not (has (is_volatile_made f.value) past)) (knows (Enl f) (ends_of past)) (not_false (has (is_volatile_made f.value) past) other) (firm_known (Enl f) PREPARE past b prepared));
      serves = λ x s t. is_no x (subst (λ c. is_sent_on c Up (VOTE No) x ≡ true) (sym same) t);
    }
  where
    is_no : (x : Entry) → is_sent_on (Enl e) Up (VOTE No) x ≡ true → is_sent_on (Enl e) Up NO x ≡ true
    is_no (Sent c d m) k =
        and_both (same_connection (Enl e) c && same_direction Up d) (NO m) (and_left (same_connection (Enl e) c && same_direction Up d) (VOTE No m) k)
        (of_vote m (and_right (same_connection (Enl e) c && same_direction Up d) (VOTE No m) k))
      where
        of_vote : (m : Message) → VOTE No m ≡ true → NO m ≡ true
        of_vote EnlistNo k = refl
        of_vote m k = absurd cc
    is_no x k = absurd cc
no_due e (Voted f Yes) past r k = let never : false ≡ true = and_right (e.value == f.value) false k in absurd cc
no_due e (Voted f Done) past r k = let never : false ≡ true = and_right (e.value == f.value) false k in absurd cc
no_due e y past r k = absurd cc

-- and who voted well is no No
cast_well : (e : EnlNo) (v : Vote) → is_good v ≡ true → (x : Entry) → is_cast (Enl e) v x ≡ true → is_good_vote e.value x ≡ true
cast_well e v g (Voted f w) k = and_both (e.value == f.value) (is_good w) (and_left (e.value == f.value) (same_vote v w) k) (same v w g (and_right (e.value == f.value) (same_vote v w) k))
  where
    same : (v w : Vote) → is_good v ≡ true → same_vote v w ≡ true → is_good w ≡ true
    same Yes Yes g k = refl
    same Done Done g k = refl
    same v w g k = absurd cc
cast_well e v g x k = absurd cc

voted_good : (e : EnlNo) (h : List Entry) → Keeps h → has (is_got_on (Enl e) Up VOTED) h ≡ true → has (is_good_vote e.value) h ≡ true
voted_good e h k s = from_got (Enl e) Up VOTED (λ g. has (is_good_vote e.value) g) (λ x g t. or_right (is_good_vote e.value x) (has (is_good_vote e.value) g) t) of h k s
  where
    of : (m : Message) (h : List Entry) → Keeps h → VOTED m ≡ true → has_line (Enl e) Up m ≡ true → message_row h (Enl e) m ≡ true → has (is_good_vote e.value) h ≡ true
    of EnlistPrepared h k t l r = has_more (is_cast (Enl e) Yes) (is_good_vote e.value) (cast_well e Yes refl) h r
    of EnlistReadonly h k t l r = has_more (is_cast (Enl e) Done) (is_good_vote e.value) (cast_well e Done refl) h r
    of _ h k t l r = absurd cc

-- who voted No didn't vote yes or done
good_vote : (e : ℕ) (x : Entry) → is_good_vote e x ≡ true → is_vote e x ≡ true
good_vote e (Voted f v) k = and_left (e == f.value) (is_good v) k
good_vote e x k = absurd cc

no_good : (e : EnlNo) (h : List Entry) → Keeps h → has (is_cast (Enl e) No) h ≡ true → has (is_good_vote e.value) h ≡ false
no_good e [] k c = absurd cc
no_good e (Voted f v ∷ h) k c = by (no_good e h (keeps_before (Voted f v) h k)) (e.value == f.value) refl c
  where
    third : (a b c d e : Bool) → (a && b && c && d && e) ≡ true → c ≡ true
    third a b c d e k = and_right (a && b) c (and_left (a && b && c) d (and_left (a && b && c && d) e k))

    unvoted : has (is_vote f.value) h ≡ false
    unvoted = not_true (has (is_vote f.value) h) (third (has (is_enlisted f.value) h) (has (is_asked f.value) h) (not (has (is_vote f.value) h)) (not (has (is_lost f.value) h)) _ (newest (Voted f v) h k))

    bad : (v : Vote) → same_vote No v ≡ true → is_good v ≡ false
    bad No q = refl
    bad v q = absurd cc

    cast : (x : Entry) → is_cast (Enl e) No x ≡ true → is_vote e.value x ≡ true
    cast (Voted g w) q = and_left (e.value == g.value) (same_vote No w) q
    cast x q = absurd cc

    by : (has (is_cast (Enl e) No) h ≡ true → has (is_good_vote e.value) h ≡ false) → (b : Bool) → (e.value == f.value) ≡ b → ((b && same_vote No v) || has (is_cast (Enl e) No) h) ≡ true
        → ((b && is_good v) || has (is_good_vote e.value) h) ≡ false
    by ih false q t = ih t
    by ih true q t =
        let none : has (is_vote e.value) h ≡ false = subst (λ n. has (is_vote n) h ≡ false) (sym (eqb-true e.value f.value q)) unvoted in
        or_case (same_vote No v) (has (is_cast (Enl e) No) h)
        (λ a. or_false (is_good v) (has (is_good_vote e.value) h) (bad v a) (has_less (is_good_vote e.value) (is_vote e.value) (good_vote e.value) h none))
        (λ a. absurd (not_both (has (is_vote e.value) h) (has_more (is_cast (Enl e) No) (is_vote e.value) cast h a) none)) t
no_good e (x ∷ h) k c = no_good e h (keeps_before x h k) c

-- what each volatile is, one is
volatile_at : (e : ℕ) (q : ℕ → Bool) (h : List Entry) → each (λ x. not (is_volatile x.1) || q x.0.value) (enlisted h) ≡ true → has (is_volatile_made e) h ≡ true → q e ≡ true
volatile_at e q [] w k = absurd cc
volatile_at e q (Enlisted f c ∷ h) w k =
    or_case ((e == f.value) && is_volatile c) (has (is_volatile_made e) h)
    (λ a. subst (λ n. q n ≡ true) (sym (eqb-true e f.value (and_left (e == f.value) (is_volatile c) a)))
    (if_held (is_volatile c) (q f.value) (and_right (e == f.value) (is_volatile c) a) (and_left (not (is_volatile c) || q f.value) (each (λ x. not (is_volatile x.1) || q x.0.value) (enlisted h)) w)))
    (λ a. volatile_at e q h (and_right (not (is_volatile c) || q f.value) (each (λ x. not (is_volatile x.1) || q x.0.value) (enlisted h)) w) a) k
  where
    if_held : (a b : Bool) → a ≡ true → (not a || b) ≡ true → b ≡ true
    if_held true b e k = k
    if_held false b e k = absurd cc
volatile_at e q (x ∷ h) w k = volatile_at e q h w k

-- so who voted No isn't volatile, where nothing is decided
lasting_no : (e : EnlNo) (h : List Entry) → Stands h → has is_decision h ≡ false → has (is_cast (Enl e) No) h ≡ true → has (is_volatile_made e.value) h ≡ false
lasting_no e h s d c =
    false_from_ne_true (has (is_volatile_made e.value) h)
    (λ v. or_case (not (has (is_vote e.value) h)) (has (is_good_vote e.value) h) (λ n. not_both (has (is_vote e.value) h) (has_more (is_cast (Enl e) No) (is_vote e.value) cast h c) (not_true (has (is_vote e.value) h) n))
    (λ g. not_both (has (is_good_vote e.value) h) g (no_good e h s.keeps c))
    (volatile_at e.value (λ n. not (has (is_vote n) h) || has (is_good_vote n) h) h (goes_on h s d).willing v))
  where
    cast : (x : Entry) → is_cast (Enl e) No x ≡ true → is_vote e.value x ≡ true
    cast (Voted g w) q = and_left (e.value == g.value) (same_vote No w) q
    cast x q = absurd cc

-- one that voted No
no_voter : (h : List Entry) → has is_no_vote h ≡ true → (e : EnlNo) × (has (is_cast (Enl e) No) h ≡ true)
no_voter [] k = absurd cc
no_voter (Voted e No ∷ h) k = (e, or_left ((e.value == e.value) && true) (has (is_cast (Enl e) No) h) (and_both (e.value == e.value) true (eq_self e.value) refl))
no_voter (x ∷ h) k = let v = no_voter h k in (v.0, or_right (is_cast (Enl v.0) No x) (has (is_cast (Enl v.0) No) h) v.1)

-- so nothing that ends the transaction came
origin_absent : (h : List Entry) → has is_local_end h ≡ false → has is_core_end h ≡ false → has is_no_vote h ≡ false → has is_abort_request h ≡ false → has is_answer h ≡ false → has is_origin h ≡ false
origin_absent [] a b c d e = refl
origin_absent (x ∷ h) a b c d e =
    or_false (is_origin x) (has is_origin h)
    (one x (or_first (is_local_end x) (has is_local_end h) a) (or_first (is_core_end x) (has is_core_end h) b) (or_first (is_no_vote x) (has is_no_vote h) c)
    (or_first (is_abort_request x) (has is_abort_request h) d) (or_first (is_answer x) (has is_answer h) e))
    (origin_absent h (or_second (is_local_end x) (has is_local_end h) a) (or_second (is_core_end x) (has is_core_end h) b) (or_second (is_no_vote x) (has is_no_vote h) c)
    (or_second (is_abort_request x) (has is_abort_request h) d) (or_second (is_answer x) (has is_answer h) e))
  where
    one : (x : Entry) → is_local_end x ≡ false → is_core_end x ≡ false → is_no_vote x ≡ false → is_abort_request x ≡ false → is_answer x ≡ false → is_origin x ≡ false
    one RollbackAsked a b c d e = a
    one TimedOut a b c d e = a
    one LogFull a b c d e = b
    one (Voted f No) a b c d e = c
    one (PromoteReply f ok) a b c d e = a
    one (Requested f Abort) a b c d e = d
    one (OwnerAnswered f o) a b c d e = absurd cc
    one x a b c d e = refl

-- No abort was requested: on a firm b the request would have come, and where b was lost COMMIT was sent, before which none is.
none_requested : (h : List Entry) → IsSettling h → IsJoined h → has is_abort_request h ≡ false
none_requested h r j = false_from_ne_true (has is_abort_request h) (λ k. by k (is_lost_wire Begin h) refl)
  where
    come : (x : Entry) → is_got_on Begin Up ABORT x ≡ true → is_core_end x ≡ true
    come (Got Begin Up BeginAbort) k = refl
    come x k = absurd cc

    by : has is_abort_request h ≡ true → (b : Bool) → is_lost_wire Begin h ≡ b → ⊥
    by k true e = not_both (has (is_sent_on Begin Up COMMIT) h) (was_sent Begin Up COMMIT h r.wired.run (j.commit e)) (r.requests.apart k)
    by k false e =
        let firm : IsFirm Begin h = record { plain = refl; kept = e } in
        let sent : IsSent Begin h = record { wired = r.wired; firm = firm; sound = kept_sound h r.stands.keeps } in
        not_both (has is_core_end h)
        (has_more (is_got_on Begin Up ABORT) is_core_end come h
        (arrived Begin Up ABORT h r.wired firm (r.quiet.empty Begin Up)
        (followed (IsSent Begin) (sent_before Begin) is_abort_request (is_sent_on Begin Up ABORT) request_due h sent r.quiet.paid r.quiet.free k))) (none_ended h r j.undecided)

-- And nobody voted No: on a firm connection it would have come, and where that was lost a good vote came.
no_come : (e : EnlNo) (x : Entry) → is_got_on (Enl e) Up NO x ≡ true → is_core_end x ≡ true
no_come e (Got (Enl f) Up m) k = by f m (and_right ((e.value == f.value) && true) (NO m) k)
  where
    by : (f : EnlNo) (m : Message) → NO m ≡ true → is_core_end (Got (Enl f) Up m) ≡ true
    by f EnlistNo k = refl
    by f m k = absurd cc
no_come e (Got (Enl f) Down m) k = let never : false ≡ true = and_right (e.value == f.value) false (and_left ((e.value == f.value) && false) (NO m) k) in absurd cc
no_come e x k = absurd cc

none_by : (h : List Entry) → IsSettling h → has is_decision h ≡ false → IsJoined h → (e : EnlNo) → has (is_cast (Enl e) No) h ≡ true → ⊥
none_by h r d j e k = by (is_lost_wire (Enl e) h) refl
  where
    by : (b : Bool) → is_lost_wire (Enl e) h ≡ b → ⊥
    by true l = not_both (has (is_good_vote e.value) h) (voted_good e h r.stands.keeps (j.cast e l)) (no_good e h r.stands.keeps k)
    by false l =
        let firm : IsFirm (Enl e) h = record { plain = refl; kept = l } in
        let voter : IsVoter e h = record { sent = record { wired = r.wired; firm = firm; sound = kept_sound h r.stands.keeps }; lasting = lasting_no e h r.stands d k } in
        not_both (has is_core_end h)
        (has_more (is_got_on (Enl e) Up NO) is_core_end (no_come e) h
        (arrived (Enl e) Up NO h r.wired firm (r.quiet.empty (Enl e) Up)
        (followed (IsVoter e) (voter_before e) (is_cast (Enl e) No) (is_sent_on (Enl e) Up NO) (no_due e) h voter r.quiet.paid r.quiet.free k))) (none_ended h r j.undecided)

-- And no owner answered: its answer would have come on a firm connection; and where that was lost its vote came, which is asked for two phases.
record IsHandedTo (e : EnlNo) (h : List Entry) : Type 0 where
  sent : IsSent (Enl e) h
  keeps : Keeps h
  begun : has is_any_hand h ≡ true → has is_promoting h ≡ true

handed_before : (e : EnlNo) (x : Entry) (h : List Entry) → IsHandedTo e (x ∷ h) → IsHandedTo e h
handed_before e x h r = record {
  sent = sent_before (Enl e) x h r.sent;
  keeps = keeps_before x h r.keeps;
  begun = λ t. hand_promoting x h r.keeps (r.begun (or_right (is_any_hand x) (has is_any_hand h) t)) t;
}

single_on : (e : EnlNo) (x : Entry) → is_single_got e.value x ≡ true → is_got_on (Enl e) Down SINGLE x ≡ true
single_on e (Got (Enl f) Down EnlistSingle) t = and_both ((e.value == f.value) && true) true (and_both (e.value == f.value) true t refl) refl
single_on e x t = absurd cc

answer_due : (e : EnlNo) (y : Entry) (past : List Entry) → IsHandedTo e (y ∷ past) → is_any_owner e.value y ≡ true → Demands (IsHandedTo e) past y (is_sent_on (Enl e) Up ONE)
answer_due e (OwnerAnswered f o) past r k =
    let b = handed_before e (OwnerAnswered f o) past r in
    let same : Enl e ≡ Enl f = same_is (Enl e) (Enl f) k in
    let K : Conn → Type 0 = λ c. knows c (ends_of past) ≡ true in
    let hand : has (is_hand e.value) past ≡ true =
    subst (λ n. has (is_hand n) past ≡ true) (sym (eqb-true e.value f.value k))
    (and_right (may_answer past) (has (is_hand f.value) past) (and_left (may_answer past && has (is_hand f.value) past) (not (has is_answer past)) (newest (OwnerAnswered f o) past r.keeps))) in
    let promoting = b.begun (has_more (is_hand e.value) is_any_hand (hand_any e.value) past hand) in
    let promoted = promoted_if_single past b.keeps (any_single_if_handed e.value past b.keeps promoting hand) in
    let known = firm_known (Enl e) SINGLE past b.sent (has_more (is_single_got e.value) (is_got_on (Enl e) Down SINGLE) (single_on e) past (single_got_if_handed e.value past b.keeps promoting hand)) in
    record {
      test = is_sent_on (Enl f) Up ONE;
      owed = if_so (has is_promoted past && knows (Enl f) (ends_of past)) (is_sent_on (Enl f) Up ONE) (and_both (has is_promoted past) (knows (Enl f) (ends_of past)) promoted (subst K same known));
      serves = λ x s t. subst (λ c. is_sent_on c Up ONE x ≡ true) (sym same) t;
    }
answer_due e y past r k = absurd cc

-- who answered
owner_name : (h : List Entry) → has is_answer h ≡ true → (e : EnlNo) × (has (is_any_owner e.value) h ≡ true)
owner_name [] k = absurd cc
owner_name (OwnerAnswered e o ∷ h) k = (e, or_left (e.value == e.value) (has (is_any_owner e.value) h) (eq_self e.value))
owner_name (x ∷ h) k = let v = owner_name h k in (v.0, or_right (is_any_owner v.0.value x) (has (is_any_owner v.0.value) h) v.1)

one_come : (e : EnlNo) (x : Entry) → is_got_on (Enl e) Up ONE x ≡ true → is_one_got e.value x ≡ true
one_come e (Got (Enl f) Up m) k = by m (and_left (e.value == f.value) true (and_left ((e.value == f.value) && true) (ONE m) k)) (and_right ((e.value == f.value) && true) (ONE m) k)
  where
    by : (m : Message) → (e.value == f.value) ≡ true → ONE m ≡ true → is_one_got e.value (Got (Enl f) Up m) ≡ true
    by EnlistOneCommitted q k = q
    by EnlistOneAborted q k = q
    by EnlistOneInDoubt q k = q
    by m q k = absurd cc
one_come e (Got (Enl f) Down m) k = let never : false ≡ true = and_right (e.value == f.value) false (and_left ((e.value == f.value) && false) (ONE m) k) in absurd cc
one_come e x k = absurd cc

good_is_vote : (e : ℕ) (x : Entry) → is_good_vote e x ≡ true → is_vote e x ≡ true
good_is_vote e (Voted f v) k = and_left (e == f.value) (is_good v) k
good_is_vote e x k = absurd cc

pub none_answered : (h : List Entry) → IsSettling h → has is_decision h ≡ false → IsJoined h → has is_answer h ≡ false
none_answered h r d j = by (has is_promoted h) refl
  where
    answered : has is_promoted h ≡ true → (e : EnlNo) → has (is_any_owner e.value) h ≡ true → (b : Bool) → is_lost_wire (Enl e) h ≡ b → ⊥
    answered p e t true l =
        let k = r.stands.keeps in
        let promoting = promoting_if_promoted h k p in
        let hand = handed_if_owner e.value h k t in
        let single = single_if_handed e.value h k promoting hand in
        not_both (has is_two_phase_got h)
        (vote_two e h k (single_opened e h k single) (has_more (is_good_vote e.value) (is_vote e.value) (good_is_vote e.value) h (voted_good e h k (j.cast e l))))
        (one_apart h k (one_if_single h k (has_more (is_single_sent e.value) is_any_single_sent (single_any e.value) h single)))
    answered p e t false l =
        let k = r.stands.keeps in
        let firm : IsFirm (Enl e) h = record { plain = refl; kept = l } in
        let sent : IsHandedTo e h = record { sent = record { wired = r.wired; firm = firm; sound = kept_sound h k }; keeps = k; begun = λ q. promoting_if_promoted h k p } in
        not_both (has (is_one_got e.value) h)
        (has_more (is_got_on (Enl e) Up ONE) (is_one_got e.value) (one_come e) h
        (arrived (Enl e) Up ONE h r.wired firm (r.quiet.empty (Enl e) Up)
        (followed (IsHandedTo e) (handed_before e) (is_any_owner e.value) (is_sent_on (Enl e) Up ONE) (answer_due e) h sent r.quiet.paid r.quiet.free t)))
        (unanswered_there e.value h k j.undecided)

    by : (b : Bool) → has is_promoted h ≡ b → has is_answer h ≡ false
    by false p = (goes_on h r.stands d).unanswered p
    by true p = false_from_ne_true (has is_answer h) (λ t. let v = owner_name h t in answered p v.0 v.1 (is_lost_wire (Enl v.0) h) refl)

-- where nothing is decided, nothing bad came
pub undecided_fine : (h : List Entry) → IsSettling h → has is_decision h ≡ false → IsFine h
undecided_fine h r d =
    let u = r.going d in
    let j = undecided_joined h r d in
    let here = goes_on h r.stands d in
    let spared = all_spared h r d in
    let lone = lone_stood h r.stands.keeps r.stood in
    record {
      wired = r.wired;
      in_time = u.in_time;
      unbad =
          open_unblamed h r.wired lone (awaits_undoubted h r.stands.keeps j.undecided) spared u.in_time
          (origin_absent h u.unended (none_ended h r j.undecided) (none_no j) (none_requested h r j) (none_answered h r d j)) d here.unfailed r.caused;
      spared = spared;
      lone = lone;
    }
  where
    none_no : IsJoined h → has is_no_vote h ≡ false
    none_no j = false_from_ne_true (has is_no_vote h) (λ k. let v = no_voter h k in none_by h r d j v.0 v.1)
