-- Where nothing is lost and nothing ends the transaction of itself, nothing bad comes: no veto, no abort, no refusal. So it is where all are willing. While nothing is decided, an
-- enlistment or a connection may be lost as well, where no end is a veto.
use Rattle.std.proofs.Common.{◌≡◌, ℕ, ◌==◌, Bool, true, false, ◌&&◌, ◌||◌, List, [], ◌∷◌, Option, Some, None, refl, ap, sym, subst}
use Rattle.std.specs.Prelude.{not, if◌then◌else◌}
use Rattle.std.proofs.lemmas.Bool.{eqb-true, false_from_ne_true}
use Rattle.dtx_values.specs.declared.entry.Entry.{Entry}
use Rattle.dtx_values.specs.declared.entry.Entry.TheVariants.{Enlisted, CommitAsked, RollbackAsked, TimedOut, Voted, PromoteReply, Requested, OwnerAnswered, Decided, Told, PromotionFailed, Sent, Got, Down as End, Lost, LogFull, Restarted}
use Rattle.dtx_values.specs.declared.number.EnlNo.{EnlNo}
use Rattle.dtx_values.specs.declared.entry.Request.TheVariants.{Abort}
use Rattle.dtx_values.specs.declared.message.Conn.{Conn}
use Rattle.dtx_values.specs.declared.message.Conn.TheVariants.{Begin, Voter, Enl, Again}
use Rattle.dtx_values.specs.declared.message.Dir.{Dir}
use Rattle.dtx_values.specs.declared.message.Dir.TheVariants.{Up, Down}
use Rattle.dtx_values.specs.declared.message.Message.{Message}
use Rattle.dtx_values.specs.declared.message.Message.TheVariants.{BeginAbort, BeginAborted, BeginCommitOne, BeginInDoubt, VoterNo, VoterRefused, VoterAbort, VoterInDoubt, EnlistNo, EnlistRefused, EnlistAbort, EnlistOneAborted, EnlistOneInDoubt, ReenlistAborted}
use Rattle.dtx_values.specs.declared.note.Plan.{Plan}
use Rattle.dtx_values.specs.declared.words.Class.{Class}
use Rattle.dtx_values.specs.declared.words.Class.TheVariants.{Promotable}
use Rattle.dtx_values.specs.declared.words.Outcome.{Outcome}
use Rattle.dtx_values.specs.declared.words.Outcome.TheVariants.{Committed, Aborted, InDoubt}
use Rattle.dtx_values.specs.declared.words.Vote.{Vote}
use Rattle.dtx_values.specs.declared.words.Vote.TheVariants.{No}
use Rattle.dtx_values.specs.Class.{is_promotable}
use Rattle.dtx_values.specs.Ends.{same_connection, same_direction}
use Rattle.dtx_values.specs.Lines.{has_line}
use Rattle.dtx_values.specs.Vote.{is_no, voted_well}
use Rattle.dtx_model.specs.Words.{has, each, ever, always, latest, all_of, holds}
use Rattle.dtx_model.specs.Entries.{decision_of, handed_of, is_decision, is_owner, is_yes, same_outcome}
use Rattle.dtx_model.specs.Caused.{is_as_planned, is_outcome_planned, is_promotion_planned, is_request_planned, is_vote_planned}
use Rattle.dtx_model.specs.History.{is_asked_in_time, is_committed, is_ending, is_loss, is_willing, nobody}
use Rattle.dtx_model.specs.Learned.{coordinator_aborted, is_abort, is_first_abort}
use Rattle.dtx_model.specs.Outcome.{can_own, coordinator_doubt, doubt, enlisted, is_begin_end, is_deciding, is_lone, is_lost_owner, is_lost_single, is_outcome_got, is_veto, is_veto_end, is_voter_end, owner_doubt, single_doubt}
use Rattle.dtx_model.specs.Promotes.{ends_refused, ends_told, is_refusal}
use Rattle.dtx_model.specs.Wires.{WireRun, is_next, is_stopped, in_transit}
use Rattle.dtx_model.proofs.Bools.{and_both, and_left, and_never, and_right, or_case, or_false, or_first, or_second, not_both, not_false, not_true}
use Rattle.dtx_model.proofs.Connections.{same_is}
use Rattle.history_table.proofs.EntryTests.{is_decided, is_no_vote}
use Rattle.history_table.proofs.Handed.{is_answered}
use Rattle.history_table.proofs.Table.{is_one_in_doubt}
use Rattle.history_table.proofs.Scans.{has_more, has_less}
use Rattle.history_table.proofs.NextActs.{asked_well}
use Rattle.settled_histories.proofs.Wired.{IsWired, is_any_end, is_end_on, newest, unlost_unended, unstopped, wired_before}
use Rattle.settled_histories.proofs.Fine.{IsFine, any_class, blames, ends_aborted, ends_requested, has_cause, is_bad, is_bad_message, is_bad_outcome, is_caused, is_lone_asked, is_made, is_origin, is_pair, is_spared, is_spared_down}
use Rattle.history_table.proofs.Crossed.{is_sent_on, got_sent}
use Rattle.dtx_model.specs.AtLog.{is_restart}
use Rattle.dtx_model.specs.Observed.{is_promotion_failed}

-- While the local side hasn't said yes, the end of b or of v is a veto there: where each end there is spared, none came.
early_veto : (c : Conn) (h : List Entry) → is_pair c ≡ true → has is_yes h ≡ false → is_veto_end h c Down ≡ true
early_veto Begin h p y = not_false (has is_yes h) y
early_veto Voter h p y = not_false (has is_yes h) y
early_veto _ h p y = absurd cc

pub down_early : (c : Conn) (h : List Entry) → is_pair c ≡ true → always is_spared_down h ≡ true → has is_yes h ≡ false → has (is_end_on c Down) h ≡ false
down_early c [] p k y = refl
down_early c (x ∷ h) p k y =
    let none = or_second (is_yes x) (has is_yes h) y in
    or_false (is_end_on c Down x) (has (is_end_on c Down) h) (one x (and_left (is_spared_down h x) (always is_spared_down h) k) none)
    (down_early c h p (and_right (is_spared_down h x) (always is_spared_down h) k) none)
  where
    one : (x : Entry) → is_spared_down h x ≡ true → has is_yes h ≡ false → is_end_on c Down x ≡ false
    one (End e Down) k n =
        false_from_ne_true (same_connection c e && true)
        (λ q. let P : Conn → Type 0 = λ d. is_veto_end h d Down ≡ true in
        not_both (is_veto_end h e Down) (subst P (same_is c e (and_left (same_connection c e) true q)) (early_veto c h p n)) (not_true (is_veto_end h e Down) k))
    one (End e Up) k n = and_never (same_connection c e)
    one x k n = refl

-- where no end came, each is spared
none_spared : (h : List Entry) → has is_any_end h ≡ false → always is_spared h ≡ true
none_spared [] n = refl
none_spared (x ∷ h) n = and_both (is_spared h x) (always is_spared h) (one x (or_first (is_any_end x) (has is_any_end h) n)) (none_spared h (or_second (is_any_end x) (has is_any_end h) n))
  where
    one : (x : Entry) → is_any_end x ≡ false → is_spared h x ≡ true
    one (End c d) n = absurd cc
    one x n = refl

-- it was before its newest entry
pub fine_before : (x : Entry) (h : List Entry) → IsFine (x ∷ h) → IsFine h
fine_before x h f = record {
  wired = wired_before x h f.wired;
  in_time = and_right (is_asked_in_time h x) (always is_asked_in_time h) f.in_time;
  unbad = or_second (is_bad x) (has is_bad h) f.unbad;
  spared = and_right (is_spared h x) (always is_spared h) f.spared;
  lone = and_right (is_lone_asked h x) (always is_lone_asked h) f.lone;
}

-- the newest entry isn't bad, it has a line where it was got, is spared where it is an end, and where it is no loss it is no veto
lined : (c : Conn) (d : Dir) (m : Message) (h : List Entry) → IsFine (Got c d m ∷ h) → has_line c d m ≡ true
lined c d m h f = newest (Got c d m) h f.wired

spared_end : (c : Conn) (d : Dir) (h : List Entry) → IsFine (End c d ∷ h) → is_veto_end h c d ≡ false
spared_end c d h f = not_true (is_veto_end h c d) (and_left (not (is_veto_end h c d)) (always is_spared h) f.spared)

first_good : (x : Entry) (h : List Entry) → IsFine (x ∷ h) → is_bad x ≡ false
first_good x h f = or_first (is_bad x) (has is_bad h) f.unbad

no_veto : (x : Entry) (h : List Entry) → IsFine (x ∷ h) → is_loss x ≡ false → is_veto h x ≡ false
no_veto RollbackAsked h f l = absurd cc
no_veto TimedOut h f l = absurd cc
no_veto (Voted e No) h f l = absurd cc
no_veto (OwnerAnswered e Aborted) h f l = absurd cc
no_veto (PromoteReply e ok) h f l = first_good (PromoteReply e ok) h f
no_veto (Requested e Abort) h f l = absurd cc
no_veto LogFull h f l = absurd cc
no_veto (Restarted found) h f l = absurd cc
no_veto CommitAsked h f l = asked_well h (and_left (is_asked_in_time h CommitAsked) (always is_asked_in_time h) f.in_time)
no_veto (Lost e) h f l = absurd cc
no_veto (End c d) h f l = spared_end c d h f
no_veto (Got Begin Up BeginCommitOne) h f l = ap (λ b. not b && is_veto_end h Begin Up) (and_left (is_lone h) (always is_lone_asked h) f.lone)
no_veto (Got c d m) h f l = ap (λ b. not b && is_veto_end h c d) (lined c d m h f)
no_veto x h f l = refl

no_refusal : (x : Entry) (h : List Entry) → IsFine (x ∷ h) → is_refusal x ≡ false
no_refusal (Got Begin Down BeginAborted) h f = absurd cc
no_refusal (Got Voter Down (VoterRefused c)) h f = absurd cc
no_refusal (Got Voter Down VoterAbort) h f = absurd cc
no_refusal (Got (Enl e) Down (EnlistRefused c)) h f = absurd cc
no_refusal (Got (Enl e) Down EnlistAbort) h f = absurd cc
no_refusal x h f = refl

unended : (x : Entry) (h : List Entry) → IsFine (x ∷ h) → ends_told h x ≡ false
unended x [] f = refl
unended x (Got (Enl e) Down EnlistAbort ∷ h) f = let q : true ≡ false = or_first true (has is_bad h) (or_second (is_bad x) (true || has is_bad h) f.unbad) in absurd cc
unended x (y ∷ h) f = refl

-- where nothing is lost, nothing stands that is to blame for an abort
pub no_blame : (h : List Entry) → IsFine h → has is_loss h ≡ false → ends_refused h ≡ false
no_blame [] f l = refl
no_blame (x ∷ h) f l =
    or_false (is_veto h x || is_refusal x) (ends_told h x) (or_false (is_veto h x) (is_refusal x) (no_veto x h f (or_first (is_loss x) (has is_loss h) l)) (no_refusal x h f)) (unended x h f)

-- the coordinator hasn't aborted
no_abort_here : (x : Entry) (h : List Entry) → IsFine (x ∷ h) → is_abort h x ≡ false
no_abort_here (Got Begin Up BeginAbort) h f = absurd cc
no_abort_here (Got Voter Up VoterNo) h f = absurd cc
no_abort_here (Got (Enl e) Up EnlistNo) h f = absurd cc
no_abort_here (Got (Enl e) Up EnlistOneAborted) h f = absurd cc
no_abort_here (Got Begin Up BeginCommitOne) h f = ap (λ b. not b && is_veto_end h Begin Up) (and_left (is_lone h) (always is_lone_asked h) f.lone)
no_abort_here (Got c Up m) h f = with_line (has_line c Up m) (is_veto_end h c Up) (lined c Up m h f)
  where
    with_line : (b v : Bool) → b ≡ true → (not b && v) ≡ false
    with_line true v l = refl
    with_line false v l = absurd cc
no_abort_here (End c Up) h f = spared_end c Up h f
no_abort_here (End c Down) h f = refl
no_abort_here LogFull h f = absurd cc
no_abort_here (Restarted found) h f = absurd cc
no_abort_here x h f = refl

pub no_abort : (h : List Entry) → IsFine h → coordinator_aborted h ≡ false
unfolding coordinator_aborted
no_abort [] f = refl
no_abort (x ∷ h) f = or_false (is_first_abort h x) (ever is_first_abort h) (rw (no_abort_here x h f) refl) (no_abort h (fine_before x h f))

-- no outcome but committed was decided
pub decided_well : (x : Outcome) (h : List Entry) → has is_bad h ≡ false → is_decided x (latest decision_of h) ≡ true → is_bad_outcome x ≡ false
decided_well x [] u k = absurd cc
decided_well x (Decided y ∷ h) u k = same x y k (or_first (is_bad_outcome y) (has is_bad h) u)
  where
    same : (x y : Outcome) → same_outcome x y ≡ true → is_bad_outcome y ≡ false → is_bad_outcome x ≡ false
    same Committed y k u = refl
    same Aborted Aborted k u = absurd cc
    same InDoubt InDoubt k u = absurd cc
    same x y k u = absurd cc
decided_well x (y ∷ h) u k = decided_well x h (or_second (is_bad y) (has is_bad h) u) k

-- where nothing is lost, the one that the coordinator let decide isn't
unlost_undoubted : (h : List Entry) → IsFine h → has is_loss h ≡ false → single_doubt h ≡ false
unfolding single_doubt
unlost_undoubted h f l = none h f (unlost_unended h f.wired l)
  where
    one : (x : Entry) (h : List Entry) → IsFine (x ∷ h) → is_any_end x ≡ false → is_lost_single h x ≡ false
    one (End c d) h f n = absurd cc
    one (Got (Enl e) Up m) h f n = let line : has_line (Enl e) Up m ≡ true = lined (Enl e) Up m h f in ap (λ b. is_deciding h (if b then None else Some e)) line
    one (Got (Enl e) Down m) h f n = refl
    one (Got Begin d m) h f n = refl
    one (Got Voter d m) h f n = refl
    one (Got (Again e) d m) h f n = refl
    one _ h f n = refl

    none : (h : List Entry) → IsFine h → has is_any_end h ≡ false → ever is_lost_single h ≡ false
    none [] f n = refl
    none (x ∷ h) f n = or_false (is_lost_single h x) (ever is_lost_single h) (one x h f (or_first (is_any_end x) (has is_any_end h) n)) (none h (fine_before x h f) (or_second (is_any_end x) (has is_any_end h) n))

-- where nothing is lost, nobody holds the commit in doubt
no_doubt : (h : List Entry) → IsFine h → has is_loss h ≡ false → doubt h ≡ false
unfolding doubt owner_doubt coordinator_doubt single_doubt
no_doubt h f l =
    or_false (owner_doubt h || coordinator_doubt h) (single_doubt h)
    (or_false (owner_doubt h) (coordinator_doubt h)
    (or_false (has (λ e. has (is_owner e.value InDoubt) h) (all_of handed_of h)) (ever is_lost_owner h) (unanswered (all_of handed_of h)) (unlost_owner h l))
    (unseen (has is_yes h) (has is_begin_end h) (has is_voter_end h) (not (has is_outcome_got h)) (unseen_end h f (unlost_unended h f.wired l)))) (unlost_undoubted h f l)
  where
    answered : (e : ℕ) (x : Entry) → is_owner e InDoubt x ≡ true → is_bad x ≡ true
    answered e (OwnerAnswered f InDoubt) k = refl
    answered e (OwnerAnswered f x) k = outcome (e == f.value) x k
      where
        outcome : (b : Bool) (x : Outcome) → (b && same_outcome InDoubt x) ≡ true → is_bad_outcome x ≡ true
        outcome true InDoubt k = refl
        outcome b x k = absurd cc
    answered e x k = absurd cc

    unanswered : (es : List EnlNo) → has (λ e. has (is_owner e.value InDoubt) h) es ≡ false
    unanswered [] = refl
    unanswered (e ∷ es) = or_false (has (is_owner e.value InDoubt) h) (has (λ e. has (is_owner e.value InDoubt) h) es) (has_less (is_owner e.value InDoubt) is_bad (answered e.value) h f.unbad) (unanswered es)

    unlost_owner : (h : List Entry) → has is_loss h ≡ false → ever is_lost_owner h ≡ false
    unlost_owner [] n = refl
    unlost_owner (Lost e ∷ h) n = absurd cc
    unlost_owner (x ∷ h) n = unlost_owner h (or_second (is_loss x) (has is_loss h) n)

    unseen_end : (h : List Entry) → IsFine h → has is_any_end h ≡ false → has is_begin_end h ≡ false
    unseen_end [] f n = refl
    unseen_end (End c d ∷ h) f n = absurd cc
    unseen_end (Got Begin Down m ∷ h) f n = let l : has_line Begin Down m ≡ true = lined Begin Down m h f in rw l (unseen_end h (fine_before (Got Begin Down m) h f) n)
    unseen_end (x ∷ h) f n = unseen_end h (fine_before x h f) (or_second (is_any_end x) (has is_any_end h) n)

    unseen : (a b c d : Bool) → b ≡ false → (a && b && c && d) ≡ false
    unseen true b c d k = rw k refl
    unseen false b c d k = refl

-- nothing is to blame for a decision
undue : (h : List Entry) → IsFine h → has is_loss h ≡ false → blames h ≡ false
undue [] f l = refl
undue (PromotionFailed ∷ h) f l = absurd cc
undue (x ∷ h) f l = no_blame (x ∷ h) f l

not_requested : (h : List Entry) → IsFine h → ends_requested h ≡ false
not_requested [] f = refl
not_requested (Requested e Abort ∷ h) f = absurd cc
not_requested (x ∷ h) f = refl

not_aborted : (h : List Entry) → IsFine h → ends_aborted h ≡ false
not_aborted [] f = refl
not_aborted (Got (Enl e) Down EnlistAbort ∷ h) f = absurd cc
not_aborted (Got (Again e) Down ReenlistAborted ∷ h) f = absurd cc
not_aborted (x ∷ h) f = refl

-- a bad message that was sent is bad
bad_sent : (c : Conn) (d : Dir) (x : Entry) → is_sent_on c d is_bad_message x ≡ true → is_bad x ≡ true
bad_sent c d (Sent e r m) k = and_right (same_connection c e && same_direction d r) (is_bad_message m) k
bad_sent c d x k = absurd cc

-- no restart came
pub unrestarted : (h : List Entry) → has is_bad h ≡ false → has is_restart h ≡ false
unrestarted h u = has_less is_restart is_bad restarts h u
  where
    restarts : (x : Entry) → is_restart x ≡ true → is_bad x ≡ true
    restarts (Restarted found) k = refl
    restarts x k = absurd cc

-- what the coordinator sends only where it has aborted or was stopped isn't sent
unsent : (h : List Entry) → IsFine h → (coordinator_aborted h || has is_restart h) ≡ true → ⊥
unsent h f k = not_both (coordinator_aborted h || has is_restart h) k (or_false (coordinator_aborted h) (has is_restart h) (no_abort h f) (unrestarted h f.unbad))

-- no owner answered so
unsaid : (o : Outcome) (h : List Entry) → is_bad_outcome o ≡ true → has is_bad h ≡ false → has (is_answered o) h ≡ true → ⊥
unsaid o h b u k = not_both (has (is_answered o) h) k (has_less (is_answered o) is_bad (one o b) h u)
  where
    one : (o : Outcome) → is_bad_outcome o ≡ true → (x : Entry) → is_answered o x ≡ true → is_bad x ≡ true
    one Aborted b (OwnerAnswered e Aborted) k = refl
    one InDoubt b (OwnerAnswered e InDoubt) k = refl
    one Committed b x k = absurd cc
    one o b x k = absurd cc

-- nor is the coordinator in doubt
undoubted : (h : List Entry) → has is_bad h ≡ false → single_doubt h ≡ false → (single_doubt h || has is_one_in_doubt h) ≡ true → ⊥
undoubted h u n k = not_both (single_doubt h || has is_one_in_doubt h) k (or_false (single_doubt h) (has is_one_in_doubt h) n (has_less is_one_in_doubt is_bad one h u))
  where
    one : (x : Entry) → is_one_in_doubt x ≡ true → is_bad x ≡ true
    one (Got (Enl e) Up EnlistOneInDoubt) k = refl
    one x k = absurd cc

good_sent : (m : Message) (h : List Entry) → IsFine h → single_doubt h ≡ false → has_cause h m ≡ true → is_bad_message m ≡ false
good_sent BeginInDoubt h f n r = absurd (undoubted h f.unbad n r)
good_sent VoterInDoubt h f n r = absurd (undoubted h f.unbad n r)
good_sent EnlistOneAborted h f n r = absurd (unsaid Aborted h refl f.unbad r)
good_sent EnlistOneInDoubt h f n r = absurd (unsaid InDoubt h refl f.unbad r)
good_sent BeginAbort h f n r =
    or_case (is_decided Aborted (latest decision_of h)) (ends_requested h) (λ a. decided_well Aborted h f.unbad a) (λ a. absurd (not_both (ends_requested h) a (not_requested h f))) r
good_sent VoterNo h f n r = decided_well Aborted h f.unbad r
good_sent EnlistNo h f n r = absurd (not_both (has is_no_vote h) r (has_less is_no_vote is_bad votes h f.unbad))
  where
    votes : (x : Entry) → is_no_vote x ≡ true → is_bad x ≡ true
    votes (Voted e No) k = refl
    votes x k = absurd cc
good_sent BeginAborted h f n r = absurd (unsent h f r)
good_sent (VoterRefused c) h f n r = absurd (unsent h f r)
good_sent VoterAbort h f n r = absurd (unsent h f r)
good_sent (EnlistRefused c) h f n r = absurd (unsent h f r)
good_sent EnlistAbort h f n r = absurd (unsent h f r)
good_sent ReenlistAborted h f n r = absurd (unsent h f r)
good_sent m h f n r = refl

good_got : (c : Conn) (d : Dir) (m : Message) (h : List Entry) → IsFine h → is_next m (in_transit c d h) → is_bad_message m ≡ false
good_got c d m h f n =
    false_from_ne_true (is_bad_message m) (λ b. not_both (has is_bad h) (has_more (is_sent_on c d is_bad_message) is_bad (bad_sent c d) h (got_sent c d m is_bad_message h n b)) f.unbad)

good_told : (x : Outcome) (h : List Entry) → IsFine h → (is_decided x (latest decision_of h) || (same_outcome x Aborted && ends_aborted h) || same_outcome x Committed) ≡ true → is_bad_outcome x ≡ false
good_told Committed h f r = refl
good_told Aborted h f r =
    or_case (is_decided Aborted (latest decision_of h)) (ends_aborted h) (λ a. decided_well Aborted h f.unbad a) (λ a. absurd (not_both (ends_aborted h) a (not_aborted h f)))
    (either (is_decided Aborted (latest decision_of h) || ends_aborted h) r)
  where
    either : (b : Bool) → (b || false) ≡ true → b ≡ true
    either true k = refl
    either false k = absurd cc
good_told InDoubt h f r = decided_well InDoubt h f.unbad (either (is_decided InDoubt (latest decision_of h)) r)
  where
    either : (b : Bool) → ((b || false) || false) ≡ true → b ≡ true
    either true k = refl
    either false k = absurd cc

-- the newest entry isn't bad, where it doesn't end the transaction of itself, and is no decision and no failure of the promotion
good_open : (x : Entry) (h : List Entry) → IsFine h → single_doubt h ≡ false → WireRun (x ∷ h) → is_origin x ≡ false → is_decision x ≡ false → is_promotion_failed x ≡ false → is_caused h x ≡ true → is_bad x ≡ false
good_open RollbackAsked h f s run n d u r = absurd cc
good_open TimedOut h f s run n d u r = absurd cc
good_open LogFull h f s run n d u r = absurd cc
good_open (Voted e v) h f s run n d u r = n
good_open (OwnerAnswered e x) h f s run n d u r = n
good_open (PromoteReply e ok) h f s run n d u r = n
good_open (Requested e Abort) h f s run n d u r = absurd cc
good_open PromotionFailed h f s run n d u r = absurd cc
good_open (Decided x) h f s run n d u r = absurd cc
good_open (Told q x) h f s run n d u r = good_told x h f r
good_open (Sent c m v) h f s run n d u r = good_sent v h f s r
good_open (Got c m v) h f s run n d u r = good_got c m v h f run.0
good_open (Restarted found) h f s run n d u r = absurd (not_both (is_stopped h) r (unstopped h f.wired.unstopped))
good_open x h f s run n d u r = refl

-- nor where nothing is lost before it
good_here : (x : Entry) (h : List Entry) → IsFine h → WireRun (x ∷ h) → is_origin x ≡ false → has is_loss h ≡ false → is_caused h x ≡ true → is_bad x ≡ false
good_here PromotionFailed h f run n l r = absurd (not_both (ends_refused h) r (no_blame h f l))
good_here (Decided Committed) h f run n l r = refl
good_here (Decided Aborted) h f run n l r = absurd (not_both (blames h) r (undue h f l))
good_here (Decided InDoubt) h f run n l r = absurd (not_both (doubt h) r (no_doubt h f l))
good_here x h f run n l r = good_open x h f (unlost_undoubted h f l) run n refl refl r

-- where nothing is lost and nothing ends the transaction of itself, nothing bad comes
pub unblamed : (h : List Entry) → IsWired h → always is_lone_asked h ≡ true → always is_asked_in_time h ≡ true → has is_origin h ≡ false → has is_loss h ≡ false → always is_caused h ≡ true → has is_bad h ≡ false
unblamed [] w o a n l r = refl
unblamed (x ∷ h) w o a n l r =
    let in_time = and_right (is_asked_in_time h x) (always is_asked_in_time h) a in
    let unlost = or_second (is_loss x) (has is_loss h) l in
    let before = wired_before x h w in
    let lone = and_right (is_lone_asked h x) (always is_lone_asked h) o in
    let past = unblamed h before lone in_time (or_second (is_origin x) (has is_origin h) n) unlost (and_right (is_caused h x) (always is_caused h) r) in
    or_false (is_bad x) (has is_bad h)
    (good_here x h (record { wired = before; in_time = in_time; unbad = past; spared = none_spared h (unlost_unended h before unlost); lone = lone }) w.run (or_first (is_origin x) (has is_origin h) n) unlost
    (and_left (is_caused h x) (always is_caused h) r)) past

-- nor where no end is a veto, nothing is decided, the promotion didn't fail, and nothing ends the transaction of itself, whatever was lost
pub open_unblamed : (h : List Entry) → IsWired h → always is_lone_asked h ≡ true → single_doubt h ≡ false → always is_spared h ≡ true → always is_asked_in_time h ≡ true → has is_origin h ≡ false → has is_decision h ≡ false → has is_promotion_failed h ≡ false
    → always is_caused h ≡ true → has is_bad h ≡ false
unfolding single_doubt
open_unblamed [] w o g s a n d u r = refl
open_unblamed (x ∷ h) w o g s a n d u r =
    let lone = and_right (is_lone_asked h x) (always is_lone_asked h) o in
    let undoubted = or_second (is_lost_single h x) (ever is_lost_single h) g in
    let in_time = and_right (is_asked_in_time h x) (always is_asked_in_time h) a in
    let before = wired_before x h w in
    let spared = and_right (is_spared h x) (always is_spared h) s in
    let past = open_unblamed h before lone undoubted spared in_time (or_second (is_origin x) (has is_origin h) n) (or_second (is_decision x) (has is_decision h) d) (or_second (is_promotion_failed x) (has is_promotion_failed h) u)
    (and_right (is_caused h x) (always is_caused h) r) in
    or_false (is_bad x) (has is_bad h)
    (good_open x h (record { wired = before; in_time = in_time; unbad = past; spared = spared; lone = lone }) undoubted w.run (or_first (is_origin x) (has is_origin h) n) (or_first (is_decision x) (has is_decision h) d)
    (or_first (is_promotion_failed x) (has is_promotion_failed h) u) (and_left (is_caused h x) (always is_caused h) r)) past

-- an enlistment of a number is willing, with a class that passes
abbrev all_willing : (ℕ → Plan) → List Entry → Bool
all_willing p h = each (λ x. is_willing (p x.0.value) x.1) (enlisted h)

row_willing : (p : ℕ → Plan) (e : ℕ) (q : Class → Bool) (h : List Entry) → all_willing p h ≡ true → has (is_made e q) h ≡ true → (c : Class) × (q c ≡ true) × (is_willing (p e) c ≡ true)
row_willing p e q [] w k = absurd cc
row_willing p e q (Enlisted f c ∷ h) w k =
    or_case ((e == f.value) && q c) (has (is_made e q) h)
    (λ r. (
      c,
      and_right (e == f.value) (q c) r,
      subst (λ n. is_willing (p n) c ≡ true) (sym (eqb-true e f.value (and_left (e == f.value) (q c) r))) (and_left (is_willing (p f.value) c) (all_willing p h) w),
    ))
    (λ r. row_willing p e q h (and_right (is_willing (p f.value) c) (all_willing p h) w) r) k
row_willing p e q (x ∷ h) w k = row_willing p e q h w k

-- the plans of a willing one
plans_vote : (a b c : Bool) → (a && b && c) ≡ true → a ≡ true
plans_vote a b c k = and_left a b (and_left (a && b) c k)

plans_owner : (a o b c : Bool) → (a && (not o || b) && c) ≡ true → o ≡ true → b ≡ true
plans_owner a true b c k o = and_right a b (and_left (a && b) c k)
plans_owner a false b c k o = absurd cc

plans_promotion : (a b p c : Bool) → (a && b && (not p || c)) ≡ true → p ≡ true → c ≡ true
plans_promotion a b true c k p = and_right (a && b) c k
plans_promotion a b false c k p = absurd cc

voted_yes : (v : Vote) (o : Option Vote) → is_vote_planned o v ≡ true → voted_well o ≡ true → is_no v ≡ false
voted_yes No (Some No) k w = absurd cc
voted_yes No (Some v) k w = absurd cc
voted_yes No None k w = absurd cc
voted_yes v o k w = refl

owned_well : (x : Outcome) (o : Option Outcome) → is_outcome_planned o x ≡ true → is_committed o ≡ true → is_bad_outcome x ≡ false
owned_well Committed o k w = refl
owned_well x (Some Committed) k w = absurd cc
owned_well x (Some y) k w = absurd cc
owned_well x None k w = absurd cc

granted_well : (ok : Bool) (o : Option Bool) → is_promotion_planned o ok ≡ true → holds o ≡ true → not ok ≡ false
granted_well true o k w = refl
granted_well false (Some true) k w = absurd cc
granted_well false (Some false) k w = absurd cc
granted_well false None k w = absurd cc

requested_well : (o : Option Outcome) → is_request_planned o Abort ≡ true → is_committed o ≡ true → ⊥
requested_well (Some Aborted) k w = absurd cc
requested_well (Some x) k w = absurd cc
requested_well None k w = absurd cc

pub owns : (c : Class) → is_promotable c ≡ true → can_own c ≡ true
owns Promotable k = refl
owns c k = absurd cc

good_vote : (p : ℕ → Plan) (e : EnlNo) (v : Vote) (h : List Entry) → has (is_made e.value any_class) h ≡ true → is_vote_planned (p e.value).vote v ≡ true → all_willing p h ≡ true → is_no v ≡ false
good_vote p e v h r k w = let q = row_willing p e.value any_class h w r in voted_yes v (p e.value).vote k (plans_vote (voted_well (p e.value).vote) _ _ q.2)

good_answer : (p : ℕ → Plan) (e : EnlNo) (x : Outcome) (h : List Entry) → has (is_made e.value can_own) h ≡ true → is_outcome_planned (p e.value).owner x ≡ true → all_willing p h ≡ true
    → is_bad_outcome x ≡ false
good_answer p e x h r k w =
    let q = row_willing p e.value can_own h w r in
    owned_well x (p e.value).owner k (plans_owner (voted_well (p e.value).vote) (can_own q.0) (is_committed (p e.value).owner) _ q.2 q.1)

good_promotion : (p : ℕ → Plan) (e : EnlNo) (ok : Bool) (h : List Entry) → has (is_made e.value is_promotable) h ≡ true → is_promotion_planned (p e.value).promote ok ≡ true → all_willing p h ≡ true
    → not ok ≡ false
good_promotion p e ok h r k w =
    let q = row_willing p e.value is_promotable h w r in
    granted_well ok (p e.value).promote k (plans_promotion (voted_well (p e.value).vote) _ (is_promotable q.0) (holds (p e.value).promote) q.2 q.1)

good_request : (p : ℕ → Plan) (e : EnlNo) (h : List Entry) → has (is_made e.value is_promotable) h ≡ true → is_request_planned (p e.value).owner Abort ≡ true → all_willing p h ≡ true → ⊥
good_request p e h r k w =
    let q = row_willing p e.value is_promotable h w r in
    requested_well (p e.value).owner k (plans_owner (voted_well (p e.value).vote) (can_own q.0) (is_committed (p e.value).owner) _ q.2 (owns q.0 q.1))

-- who is willing doesn't end the transaction by its reply
willing_here : (p : ℕ → Plan) (x : Entry) (h : List Entry) → is_ending x ≡ false → is_caused h x ≡ true → is_as_planned p nobody h x ≡ true → all_willing p h ≡ true → is_origin x ≡ false
willing_here p RollbackAsked h n r k w = absurd cc
willing_here p TimedOut h n r k w = absurd cc
willing_here p LogFull h n r k w = absurd cc
willing_here p (Voted e v) h n r k w = good_vote p e v h r k w
willing_here p (OwnerAnswered e x) h n r k w = good_answer p e x h r k w
willing_here p (PromoteReply e ok) h n r k w = good_promotion p e ok h r k w
willing_here p (Requested e Abort) h n r k w = absurd (good_request p e h r k w)
willing_here p x h n r k w = refl

-- all are willing before the newest entry too
willing_before : (p : ℕ → Plan) (x : Entry) (h : List Entry) → all_willing p (x ∷ h) ≡ true → all_willing p h ≡ true
willing_before p (Enlisted e c) h w = and_right (is_willing (p e.value) c) (all_willing p h) w
willing_before p x h w = w

willing_origin : (p : ℕ → Plan) (h : List Entry) → has is_ending h ≡ false → always is_caused h ≡ true → always (is_as_planned p nobody) h ≡ true → all_willing p h ≡ true → has is_origin h ≡ false
willing_origin p [] n r k w = refl
willing_origin p (x ∷ h) n r k w =
    let before = willing_before p x h w in
    or_false (is_origin x) (has is_origin h)
    (willing_here p x h (or_first (is_ending x) (has is_ending h) n) (and_left (is_caused h x) (always is_caused h) r) (and_left (is_as_planned p nobody h x) (always (is_as_planned p nobody) h) k) before)
    (willing_origin p h (or_second (is_ending x) (has is_ending h) n) (and_right (is_caused h x) (always is_caused h) r) (and_right (is_as_planned p nobody h x) (always (is_as_planned p nobody) h) k) before)

-- where nothing is lost, nothing ends it, and all are willing and answer as planned, nothing bad comes
pub nothing_bad : (p : ℕ → Plan) (h : List Entry) → IsWired h → always is_lone_asked h ≡ true → always is_asked_in_time h ≡ true → has is_ending h ≡ false → has is_loss h ≡ false
    → always is_caused h ≡ true → always (is_as_planned p nobody) h ≡ true → each (λ x. is_willing (p x.0.value) x.1) (enlisted h) ≡ true → has is_bad h ≡ false
nothing_bad p h w o a n l r k v = unblamed h w o a (willing_origin p h n r k v) l r
