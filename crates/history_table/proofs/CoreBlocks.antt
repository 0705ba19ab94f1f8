-- The coordinator's blocks keep the table: what it does after a message or an end, its append and its free, stops and restarts. Of an ENLIST that comes this needs that COMMIT didn't
-- come before, which the local side sees to.
use Rattle.std.proofs.Common.{Bool, true, false, List, ◌≡◌, refl, ◌∷◌, ◌&&◌, [], ◌++◌, ◌||◌, ◌==◌, ℕ, sym, subst, ◌∙◌, ap}
use Rattle.std.specs.Prelude.{if◌then◌else◌, filter, not}
use Rattle.std.specs.List.{flat_map}
use Rattle.std.proofs.lemmas.Bool.{or_left, false_from_ne_true}
use Rattle.dtx_values.specs.declared.entry.Entry.{Entry}
use Rattle.dtx_values.specs.declared.entry.Entry.TheVariants.{Sent, Promoted, Got, Down as End, Stopped, LogFull, Logged}
use Rattle.dtx_values.specs.declared.message.Conn.{Conn}
use Rattle.dtx_values.specs.declared.message.Conn.TheVariants.{Enl, Again, Begin, Voter}
use Rattle.dtx_values.specs.declared.message.Dir.TheVariants.{Down, Up}
use Rattle.dtx_values.specs.declared.message.Message.{Message}
use Rattle.dtx_values.specs.declared.message.Message.TheVariants.{BeginBegun, BeginCommitOne, BeginCommitted, BeginAborted, BeginInDoubt, VoterInDoubt, VoterYes, EnlistOneAborted, EnlistOneCommitted, EnlistOneInDoubt, EnlistSingle, VoterCreated, VoterRefused, VoterAsk, VoterCommit, VoterAbort, EnlistEnlisted, EnlistRefused, EnlistPrepare, EnlistCommit, EnlistAbort, ReenlistCommitted, ReenlistAborted, VoterVoter, BeginBegin, BeginCommit, EnlistEnlist, ReenlistReenlist}
use Rattle.dtx_values.specs.declared.number.EnlNo.{EnlNo}
use Rattle.dtx_values.specs.Ends.{same_connection}
use Rattle.dtx_values.specs.Lines.{has_line, is_opening}
use Rattle.dtx_values.specs.declared.call.Call.{Call}
use Rattle.dtx_values.specs.declared.number.ActorNo.{ActorNo}
use Rattle.dtx_model.specs.declared.desk.Desk.{Desk}
use Rattle.dtx_model.specs.declared.desk.Stage.{Stage}
use Rattle.dtx_model.specs.declared.desk.Stage.TheVariants.{Idle, Active, Sole, Given, Answered as AnsweredStage, Aborted, Recorded, Over, Unknown}
use Rattle.dtx_model.specs.Words.{ever, has, each, onto}
use Rattle.dtx_model.specs.Entries.{is_any_single_sent, is_commit_got, is_one_got, is_record, is_decision, is_promoted, is_sealed, is_single_sent, is_two_phase_got}
use Rattle.dtx_model.specs.Outcome.{is_lost_single, single_doubt}
use Rattle.dtx_model.specs.Learned.{coordinator_aborted}
use Rattle.dtx_model.specs.Promotes.{is_promoting, is_begun_got, is_created_got, is_under_way, identifier_of}
use Rattle.dtx_model.specs.Tied.{has_mark, is_logged, can_log}
use Rattle.dtx_model.specs.Wires.{MayCross, is_stopped, in_transit, is_ended, is_lost_wire}
use Rattle.dtx_model.specs.Caused.{is_begin_sent, is_full_answer, may_coordinate, MayCome}
use Rattle.dtx_model.specs.Coordinated.{Coordinated, abort_block, ended_block, accepts, decides, doubt_sends, has_desk, hears_one, is_desk_of, is_one, is_sole, one_sends, coordinate, to, to_each, to_waiting, abort_sends, still_hears, commit_sends, is_prepared, has_aborted, is_active, is_undecided, opening_by, is_recorded, aborts, core_got, follow, is_enlisting, opening_answer, core_down, may_log, may_free}
use Rattle.dtx_model.specs.Steps.{Done, Full, LogAnswer, StoppedBefore, StoppedNow, appended, freed, coordinates, restarted, Step, Coordinates, Delivers, Stops, Restarts, delivered, Calls, Replies, Acts, after, block_at}
use Rattle.dtx_model.proofs.Bools.{and_left, and_right, and_both, or_false, or_right, not_false, not_both, not_true}
use Rattle.dtx_model.proofs.Writes.{is_letting}
use Rattle.dtx_model.specs.World.{World, has_left}
use Rattle.dtx_model.proofs.Quiet.{is_end, takes_next}
use Rattle.history_table.proofs.Table.{message_row, is_aborted_for_good, is_one_aborted, is_one_committed, is_one_in_doubt, is_one_phase_got, is_opening_got, may_let_decide, rule, ruled, have_come}
use Rattle.history_table.proofs.Sendings.{aborted_more, for_good_more, got_line, promoted_if_commit}
use Rattle.history_table.proofs.Doubting.{said_more}
use Rattle.history_table.proofs.LetDecide.{commit_if_single, one_phase_commit}
use Rattle.history_table.proofs.SinglePhase.{sole_one}
use Rattle.history_table.proofs.Decides.{decides_sent, decides_silent}
use Rattle.history_table.proofs.Tests.{eq_self, four_hold, first_of_four, second_of_four, third_of_four, fourth_of_four, first_of_five, second_of_five, first_of_three, second_of_three}
use Rattle.history_table.proofs.Scans.{each_more, each-append, has_less, has_more}
use Rattle.history_table.proofs.Keeping.{Keeps, fifth_of_five, before, keeps_before}
use Rattle.history_table.proofs.CoreStages.{known_got, has_recorded, active_begun, commit_noted, is_after_one, one_if_after, recorded_mark, sole_after, sole_open, stopped_same, begun_if_active, active_open}
use Rattle.history_table.proofs.CoreKnown.{known_promoting, open_single, open_unaborted, record_seen, refuses_there, several_there, got_there, aborted_there, aborts_there, work_begun, begin_was_sent, record_begun, may_log_can}
use Rattle.history_table.proofs.Recording.{calm_more, can_commit, if_record}
use Rattle.history_table.proofs.Crossed.{is_got_on}
use Rattle.history_table.proofs.Leading.{voter_new}

-- what a message that the coordinator sends needs before it; of SINGLE, see below
abbrev pub down_row : List Entry → Message → Bool
down_row h (BeginBegun u) = true
down_row h BeginCommitted = has is_logged h || has is_one_committed h
down_row h BeginAborted = is_aborted_for_good h
down_row h BeginInDoubt = single_doubt h || has is_one_in_doubt h
down_row h VoterCreated = true
down_row h (VoterRefused cause) = is_aborted_for_good h
down_row h VoterAsk = has is_commit_got h
down_row h VoterCommit = has is_logged h || has is_one_committed h
down_row h VoterAbort = is_aborted_for_good h
down_row h VoterInDoubt = single_doubt h || has is_one_in_doubt h
down_row h EnlistEnlisted = true
down_row h (EnlistRefused cause) = is_aborted_for_good h
down_row h EnlistPrepare = has is_two_phase_got h
down_row h EnlistCommit = has is_logged h
down_row h EnlistAbort = is_aborted_for_good h
down_row h ReenlistCommitted = has_mark h
down_row h ReenlistAborted = coordinator_aborted h
down_row h _ = false

down_message : (h : List Entry) (c : Conn) (m : Message) → down_row h m ≡ true → message_row h c m ≡ true
down_message h c (BeginBegun u) t = refl
down_message h c BeginCommitted t = t
down_message h c BeginAborted t = t
down_message h c BeginInDoubt t = t
down_message h c VoterCreated t = refl
down_message h c (VoterRefused cause) t = t
down_message h c VoterAsk t = t
down_message h c VoterCommit t = t
down_message h c VoterAbort t = t
down_message h c VoterInDoubt t = t
down_message h c EnlistEnlisted t = refl
down_message h c (EnlistRefused cause) t = t
down_message h c EnlistPrepare t = t
down_message h c EnlistCommit t = t
down_message h c EnlistAbort t = t
down_message h c ReenlistCommitted t = t
down_message h c ReenlistAborted t = t
down_message h c _ t = absurd cc

-- it stays met where the coordinator sends
down_more : (h : List Entry) (e : Conn) (n m : Message) → rule h (Sent e Down n) ≡ true → down_row h m ≡ true → down_row (Sent e Down n ∷ h) m ≡ true
down_more h e n BeginAborted r t = for_good_more (Sent e Down n) h r t
down_more h e n BeginInDoubt r t = said_more (Sent e Down n) h t
down_more h e n (VoterRefused cause) r t = for_good_more (Sent e Down n) h r t
down_more h e n VoterAbort r t = for_good_more (Sent e Down n) h r t
down_more h e n VoterInDoubt r t = said_more (Sent e Down n) h t
down_more h e n (EnlistRefused cause) r t = for_good_more (Sent e Down n) h r t
down_more h e n EnlistAbort r t = for_good_more (Sent e Down n) h r t
down_more h e n ReenlistAborted r t = aborted_more (Sent e Down n) h t
down_more h e n _ r t = t

-- the coordinator may send so: the message has a line, it is of a promotion, and the connection's opening message was got
abbrev pub may_send : List Entry → Entry → Bool
may_send h (Sent c Down m) = has_line c Down m && has is_promoting h && has (is_opening_got c) h && down_row h m
may_send h _ = false

send_rule : (h : List Entry) (x : Entry) → may_send h x ≡ true → rule h x ≡ true
send_rule h (Sent c Down m) t =
    let l = has_line c Down m in
    let p = has is_promoting h in
    let o = has (is_opening_got c) h in
    let r = down_row h m in
    four_hold l p o (message_row h c m) (first_of_four l p o r t) (second_of_four l p o r t) (third_of_four l p o r t) (down_message h c m (fourth_of_four l p o r t))
send_rule h _ t = absurd cc

send_more : (h : List Entry) (y x : Entry) → may_send h y ≡ true → may_send h x ≡ true → may_send (y ∷ h) x ≡ true
send_more h (Sent e Down n) (Sent c Down m) s t =
    let l = has_line c Down m in
    let p = has is_promoting h in
    let o = has (is_opening_got c) h in
    let r = down_row h m in
    four_hold l p o (down_row (Sent e Down n ∷ h) m) (first_of_four l p o r t) (second_of_four l p o r t) (third_of_four l p o r t) (down_more h e n m (send_rule h (Sent e Down n) s) (fourth_of_four l p o r t))
send_more h (Sent e Down n) _ s t = absurd cc
send_more h _ x s t = absurd cc

-- all of these may be sent there
pub record MaySend (h es : List Entry) : Type 0 where
  pub proof : each (may_send h) es ≡ true

-- entries that may be sent keep the table
pub sends_keep : (h es : List Entry) → MaySend h es → ruled h ≡ true → ruled (onto h es) ≡ true
sends_keep h [] s r = r
sends_keep h (x ∷ es) s r =
    let here = and_left (may_send h x) (each (may_send h) es) s.proof in
    sends_keep (x ∷ h) es
    (record { proof = each_more (may_send h) (may_send (x ∷ h)) (λ y t. send_more h x y here t) es (and_right (may_send h x) (each (may_send h) es) s.proof) })
    (and_both (rule h x) (ruled h) (send_rule h x here) r)

s_none : {h : List Entry} → MaySend h []
s_none = record { proof = refl }

s_join : {h x y : List Entry} → MaySend h x → MaySend h y → MaySend h (x ++ y)
s_join {h} {x} {y} p q = record { proof = each-append (may_send h) x y p.proof q.proof }

s_if : {h x y : List Entry} (b : Bool) → (b ≡ true → MaySend h x) → (b ≡ false → MaySend h y) → MaySend h (if b then x else y)
s_if true p q = p refl
s_if false p q = q refl

s_flat : {A : Type 0} {h : List Entry} (f : A → List Entry) → ((a : A) → MaySend h (f a)) → (xs : List A) → MaySend h (flat_map f xs)
s_flat f p [] = s_none
s_flat f p (x ∷ xs) = s_join (p x) (s_flat f p xs)

-- what is known there was opened, and is of a promotion
record IsHeld (k : Coordinated) (h : List Entry) : Type 0 where
  there : (c : Conn) → has (same_connection c) k.known ≡ true → has (is_opening_got c) h ≡ true
  promoting : (c : Conn) → has (same_connection c) k.known ≡ true → has is_promoting h ≡ true

held : (h : List Entry) → Keeps h → IsHeld (coordinate h) h
held h k = record { there = λ c t. known_got c h t; promoting = λ c t. known_promoting c h k (known_got c h t) }

held_more : (x : Entry) (h : List Entry) (k : Coordinated) → IsHeld k h → IsHeld k (x ∷ h)
held_more x h k i =
    record { there = λ c t. or_right (is_opening_got c x) (has (is_opening_got c) h) (i.there c t); promoting = λ c t. or_right (is_promoting x) (has is_promoting h) (i.promoting c t) }

s_to : {h : List Entry} (k : Coordinated) (c : Conn) (m : Message) → IsHeld k h → has_line c Down m ≡ true → down_row h m ≡ true → MaySend h (to k c m)
s_to {h} k c m i l r = s_if (has (same_connection c) k.known) (λ t. sent t) (λ t. s_none)
  where
    sent : has (same_connection c) k.known ≡ true → MaySend h (Sent c Down m ∷ [])
    sent t =
        record {
          proof = and_both (may_send h (Sent c Down m)) true (four_hold (has_line c Down m) (has is_promoting h) (has (is_opening_got c) h) (down_row h m) l (i.promoting c t) (i.there c t) r) refl;
        }

s_each : {h : List Entry} (k : Coordinated) (m : Message) (ds : List Desk) → IsHeld k h → ((e : EnlNo) → has_line (Enl e) Down m ≡ true) → down_row h m ≡ true → MaySend h (to_each k m ds)
s_each k m ds i l r = s_flat (λ d. to k (Enl d.enlistment) m) (λ d. s_to k (Enl d.enlistment) m i (l d.enlistment) r) ds

s_waiting : {h : List Entry} (k : Coordinated) (m : Message) → IsHeld k h → ((e : EnlNo) → has_line (Again e) Down m ≡ true) → down_row h m ≡ true → MaySend h (to_waiting k m)
s_waiting k m i l r = s_flat (λ e. to k (Again e) m) (λ e. s_to k (Again e) m i (l e) r) k.waits

-- what it sends where it aborts, and where it recorded the commit
s_abort : {h : List Entry} (k : Coordinated) → IsHeld k h → is_aborted_for_good h ≡ true → MaySend h (abort_sends k)
s_abort {h} k i a =
    s_join (s_join (s_join (s_to k Begin BeginAborted i refl a) (s_if k.no (λ t. s_none) (λ t. s_to k Voter VoterAbort i refl a)))
    (s_each k EnlistAbort (filter (λ d. still_hears d.ballot) k.desks) i (λ e. refl) a)) (s_waiting k ReenlistAborted i (λ e. refl) (and_left (coordinator_aborted h) (not (has is_any_single_sent h) || has is_one_aborted h) a))

s_commit : {h : List Entry} (k : Coordinated) → IsHeld k h → has is_logged h ≡ true → has_mark h ≡ true → MaySend h (commit_sends k)
s_commit {h} k i l r =
    s_join (s_join (s_join (s_to k Begin BeginCommitted i refl (or_left (has is_logged h) (has is_one_committed h) l)) (s_to k Voter VoterCommit i refl (or_left (has is_logged h) (has is_one_committed h) l))) (s_each k EnlistCommit (filter (λ d. is_prepared d.ballot) k.desks) i (λ e. refl) l))
    (s_waiting k ReenlistCommitted i (λ e. refl) r)

-- and where its one enlistment committed, or is in doubt
s_one : {h : List Entry} (k : Coordinated) → IsHeld k h → has is_one_committed h ≡ true → MaySend h (one_sends k)
s_one {h} k i o =
    s_join (s_to k Begin BeginCommitted i refl (or_right (has is_logged h) (has is_one_committed h) o)) (s_to k Voter VoterCommit i refl (or_right (has is_logged h) (has is_one_committed h) o))

s_doubt : {h : List Entry} (k : Coordinated) → IsHeld k h → (single_doubt h || has is_one_in_doubt h) ≡ true → MaySend h (doubt_sends k)
s_doubt k i d = s_join (s_to k Begin BeginInDoubt i refl d) (s_to k Voter VoterInDoubt i refl d)

-- The answer to VOTER and to ENLIST.
stage_open : (s : Stage) (b : Bool) → has_recorded s ≡ false → is_after_one s ≡ false → (is_undecided s ≡ true → is_active s ≡ true) → (is_active s ≡ true → b ≡ false) → ((is_active s && not b) || has_aborted s) ≡ true
stage_open Idle b r n f g = f refl
stage_open Active b r n f g = or_left (not b) false (not_false b (g refl))
stage_open Aborted b r n f g = refl
stage_open Unknown b r n f g = refl
stage_open Sole b r n f g = absurd cc
stage_open Given b r n f g = absurd cc
stage_open AnsweredStage b r n f g = absurd cc
stage_open Recorded b r n f g = absurd cc
stage_open Over b r n f g = absurd cc

answer_row : (h : List Entry) (good abort : Message) (refused : ℕ → Message) → down_row h good ≡ true → (is_aborted_for_good h ≡ true → down_row h abort ≡ true)
    → (is_aborted_for_good h ≡ true → (n : ℕ) → down_row h (refused n) ≡ true) → (s : Stage) (b : Bool) → ((is_active s && not b) || has_aborted s) ≡ true
    → (has_aborted s ≡ true → is_aborted_for_good h ≡ true) → down_row h (opening_by s b good abort refused) ≡ true
answer_row h good abort refused g a r Aborted b t f = a (f refl)
answer_row h good abort refused g a r Unknown b t f = r (f refl) 2
answer_row h good abort refused g a r Active false t f = g
answer_row h good abort refused g a r Active true t f = absurd cc
answer_row h good abort refused g a r Idle b t f = absurd cc
answer_row h good abort refused g a r Sole b t f = absurd cc
answer_row h good abort refused g a r Given b t f = absurd cc
answer_row h good abort refused g a r AnsweredStage b t f = absurd cc
answer_row h good abort refused g a r Recorded b t f = absurd cc
answer_row h good abort refused g a r Over b t f = absurd cc

commit_at : (h : List Entry) → Keeps h → can_log h ≡ true → has is_commit_got h ≡ true
commit_at h k c = can_commit h c

pub commit_if_record : (h : List Entry) → Keeps h → has is_record h ≡ true → has is_commit_got h ≡ true
commit_if_record h k t = if_record (λ g. has is_commit_got g) (λ x g w q. or_right (is_commit_got x) (has is_commit_got g) q) commit_at h k t

-- where COMMIT didn't come and BEGIN did, it accepts, or aborted
accepts_stage : (h : List Entry) → Keeps h → has is_commit_got h ≡ false → has (is_opening_got Begin) h ≡ true
    → ((is_active (coordinate h).stage && not (coordinate h).commit) || has_aborted (coordinate h).stage) ≡ true
accepts_stage h k n b =
    let single = has_less is_one_phase_got is_commit_got one_phase_commit h n in
    stage_open (coordinate h).stage (coordinate h).commit
    (false_from_ne_true (has_recorded (coordinate h).stage) (λ t. not_both (has is_commit_got h) (commit_if_record h k (record_seen h k t)) n))
    (false_from_ne_true (is_after_one (coordinate h).stage) (λ t. not_both (has is_one_phase_got h) (one_if_after h t) single)) (λ u. active_begun h b single u)
    (λ a. false_from_ne_true (coordinate h).commit (λ t. not_both (has is_commit_got h) (commit_noted h t) n))

-- where it aborted and nobody was let decide, it aborted for good
good_now : (x : Entry) (h : List Entry) → is_any_single_sent x ≡ false → has is_any_single_sent h ≡ false → coordinator_aborted (x ∷ h) ≡ true → is_aborted_for_good (x ∷ h) ≡ true
good_now x h y n a =
    and_both (coordinator_aborted (x ∷ h)) (not (has is_any_single_sent (x ∷ h)) || has is_one_aborted (x ∷ h)) a
    (or_left (not (has is_any_single_sent (x ∷ h))) (has is_one_aborted (x ∷ h)) (not_false (has is_any_single_sent (x ∷ h)) (or_false (is_any_single_sent x) (has is_any_single_sent h) y n)))

-- nobody is before COMMIT
early_single : (h : List Entry) → Keeps h → has is_commit_got h ≡ false → has is_any_single_sent h ≡ false
early_single h k n = false_from_ne_true (has is_any_single_sent h) (λ t. not_both (has is_commit_got h) (commit_if_single h k t) n)

pub promoted_created : (x : Entry) (h : List Entry) → Keeps h → rule h x ≡ true → is_promoted x ≡ true → has is_created_got h ≡ true
promoted_created (Promoted u c) h k r t =
    and_right (has is_begun_got h) (has is_created_got h)
    (fifth_of_five (not (has is_decision h)) (not (has is_sealed h)) (is_under_way h) (have_come h) (has is_begun_got h && has is_created_got h) r)
promoted_created _ h k r t = absurd (never t)
  where
    never : false ≡ true → ⊥
    never e = absurd cc

created_on : (x : Entry) → is_created_got x ≡ true → is_got_on Voter Down (λ m. true) x ≡ true
created_on (Got Voter Down VoterCreated) t = refl
created_on _ t = absurd cc

-- COMMIT comes after VOTER
commit_voter : (h : List Entry) → Keeps h → has is_commit_got h ≡ true → has (is_opening_got Voter) h ≡ true
commit_voter h k t =
    got_there Voter (λ m. true) h k
    (has_more is_created_got (is_got_on Voter Down (λ m. true)) created_on h (before is_promoted is_created_got promoted_created h k (promoted_if_commit h k t)))

voter_early : (u : ℕ) (h : List Entry) → Keeps (Got Voter Up (VoterVoter u) ∷ h) → has is_commit_got h ≡ false
voter_early u h k =
    let past = keeps_before (Got Voter Up (VoterVoter u)) h k in
    false_from_ne_true (has is_commit_got h) (λ t. not_both (has (is_opening_got Voter) h) (commit_voter h past t) (voter_new u h past k.wires.0))

-- the answer has a line
answer_line : (c : Conn) (good abort : Message) (refused : ℕ → Message) → has_line c Down good ≡ true → has_line c Down abort ≡ true → ((n : ℕ) → has_line c Down (refused n) ≡ true) → (s : Stage) (b : Bool)
    → has_line c Down (opening_by s b good abort refused) ≡ true
answer_line c good abort refused g a r Aborted b = a
answer_line c good abort refused g a r Unknown b = r 2
answer_line c good abort refused g a r Over b = r 2
answer_line c good abort refused g a r Active true = r 1
answer_line c good abort refused g a r Active false = g
answer_line c good abort refused g a r Idle b = r 1
answer_line c good abort refused g a r Sole b = r 1
answer_line c good abort refused g a r Given b = r 1
answer_line c good abort refused g a r AnsweredStage b = r 1
answer_line c good abort refused g a r Recorded b = r 1

mark_got : (c : Conn) (m : Message) (h : List Entry) → is_recorded (coordinate h).stage ≡ true → has_mark (Got c Up m ∷ h) ≡ true
mark_got c m h r = sym (recorded_mark h) ∙ r

-- What the coordinator does where it aborts, and after an end.
s_abort_block : (x : Entry) (h : List Entry) → is_any_single_sent x ≡ false → Keeps (x ∷ h) → MaySend (x ∷ h) (abort_block (coordinate h) x)
unfolding coordinate
s_abort_block x h y k =
    let past = keeps_before x h k in
    s_if (aborts (coordinate h) x && is_undecided (coordinate h).stage)
    (λ a. s_abort (follow (coordinate h) x) (held (x ∷ h) k)
    (good_now x h y (open_single h past (and_right (aborts (coordinate h) x) (is_undecided (coordinate h).stage) a)) (aborts_there h past x a))) (λ a. s_none)

lost_now : (e : EnlNo) (h : List Entry) → Keeps h → decides (coordinate h) e.value ≡ true → single_doubt (End (Enl e) Up ∷ h) ≡ true
unfolding single_doubt
lost_now e h k d =
    or_left (is_lost_single h (End (Enl e) Up)) (ever is_lost_single h)
    (and_both (has (is_single_sent e.value) h) (not (has (is_one_got e.value) h)) (decides_sent e.value h k d) (not_false (has (is_one_got e.value) h) (decides_silent e.value h k d)))

s_end : (c : Conn) (h : List Entry) → Keeps (End c Up ∷ h) → Keeps h → MaySend (End c Up ∷ h) (core_down (coordinate h) c)
unfolding core_down coordinate
s_end (Enl e) h k past =
    s_if (decides (coordinate h) e.value)
    (λ d. s_doubt (follow (coordinate h) (End (Enl e) Up)) (held (End (Enl e) Up ∷ h) k)
    (or_left (single_doubt (End (Enl e) Up ∷ h)) (has is_one_in_doubt h) (lost_now e h past d))) (λ d. s_abort_block (End (Enl e) Up) h refl k)
s_end Begin h k past = s_abort_block (End Begin Up) h refl k
s_end Voter h k past = s_abort_block (End Voter Up) h refl k
s_end (Again e) h k past = s_abort_block (End (Again e) Up) h refl k

-- What it does after a message that doesn't let the one enlistment decide.
s_got : (id : ℕ) (c : Conn) (m : Message) (h : List Entry) → Keeps (Got c Up m ∷ h) → Keeps h → is_letting c m ≡ false → (is_enlisting c m ≡ true → has is_commit_got h ≡ false)
    → MaySend (Got c Up m ∷ h) (core_got id (coordinate h) c m)
unfolding core_got coordinate
s_got id Begin BeginBegin h k past l n = s_to (follow (coordinate h) (Got Begin Up BeginBegin)) Begin (BeginBegun id) (held (Got Begin Up BeginBegin ∷ h) k) refl refl
s_got id Voter (VoterVoter u) h k past l n =
    let x : Entry = Got Voter Up (VoterVoter u) in
    s_to (follow (coordinate h) x) Voter (opening_answer (coordinate h) VoterCreated VoterAbort VoterRefused) (held (x ∷ h) k)
    (answer_line Voter VoterCreated VoterAbort VoterRefused refl refl (λ j. refl) (coordinate h).stage (coordinate h).commit)
    (answer_row (x ∷ h) VoterCreated VoterAbort VoterRefused refl (λ a. a) (λ a j. a) (coordinate h).stage (coordinate h).commit
    (accepts_stage h past (voter_early u h k) (work_begun Voter (VoterVoter u) h refl k))
    (λ a. good_now x h refl (early_single h past (voter_early u h k)) (aborted_more x h (aborted_there h past a))))
s_got id (Enl e) (EnlistEnlist i) h k past l n =
    let x : Entry = Got (Enl e) Up (EnlistEnlist i) in
    s_to (follow (coordinate h) x) (Enl e) (opening_answer (coordinate h) EnlistEnlisted EnlistAbort EnlistRefused) (held (x ∷ h) k)
    (answer_line (Enl e) EnlistEnlisted EnlistAbort EnlistRefused refl refl (λ j. refl) (coordinate h).stage (coordinate h).commit)
    (answer_row (x ∷ h) EnlistEnlisted EnlistAbort EnlistRefused refl (λ a. a) (λ a j. a) (coordinate h).stage (coordinate h).commit
    (accepts_stage h past (n refl) (work_begun (Enl e) (EnlistEnlist i) h refl k)) (λ a. good_now x h refl (early_single h past (n refl)) (aborted_more x h (aborted_there h past a))))
s_got id Begin BeginCommit h k past l n =
    let i = held_more (Got Begin Up BeginCommit) h (coordinate h) (held h past) in
    s_if (is_active (coordinate h).stage)
    (λ a. s_join (s_to (coordinate h) Voter VoterAsk i refl refl) (s_each (coordinate h) EnlistPrepare (coordinate h).desks i (λ e. refl) refl)) (λ a. s_none)
s_got id Begin BeginCommitOne h k past l n =
    let x : Entry = Got Begin Up BeginCommitOne in
    let i = held_more x h (coordinate h) (held h past) in
    s_if (not (accepts (coordinate h))) (λ a. s_none)
    (λ a. let accepted = shown (accepts (coordinate h)) a in
    s_if (is_one (coordinate h).desks) (λ o. s_to (coordinate h) Voter VoterAsk i refl refl)
    (λ o. s_abort (follow (coordinate h) x) (held (x ∷ h) k)
    (good_now x h refl (open_single h past (active_open (coordinate h).stage (and_left (is_active (coordinate h).stage) (not (coordinate h).commit) accepted))) (several_there h past accepted o))))
  where
    shown : (b : Bool) → not b ≡ false → b ≡ true
    shown true q = refl
    shown false q = absurd cc
s_got id Voter VoterYes h k past l n = absurd cc
s_got id (Enl e) EnlistOneCommitted h k past l n =
    s_if (decides (coordinate h) e.value) (λ d. s_one (coordinate h) (held_more (Got (Enl e) Up EnlistOneCommitted) h (coordinate h) (held h past)) refl) (λ d. s_none)
s_got id (Enl e) EnlistOneInDoubt h k past l n =
    let x : Entry = Got (Enl e) Up EnlistOneInDoubt in
    s_if (decides (coordinate h) e.value) (λ d. s_doubt (coordinate h) (held_more x h (coordinate h) (held h past)) (or_right (single_doubt (x ∷ h)) true refl)) (λ d. s_none)
s_got id (Enl e) EnlistOneAborted h k past l n =
    let x : Entry = Got (Enl e) Up EnlistOneAborted in
    s_if (hears_one (coordinate h) e.value)
    (λ d. s_abort (follow (coordinate h) x) (held (x ∷ h) k)
    (and_both (coordinator_aborted (x ∷ h)) (not (has is_any_single_sent h) || true) (refuses_there h past e d) (or_right (not (has is_any_single_sent h)) true refl))) (λ d. s_none)
s_got id (Again e) (ReenlistReenlist i) h k past l n =
    let x : Entry = Got (Again e) Up (ReenlistReenlist i) in
    s_if (is_recorded (coordinate h).stage) (λ r. s_to (follow (coordinate h) x) (Again e) ReenlistCommitted (held (x ∷ h) k) refl (mark_got (Again e) (ReenlistReenlist i) h r))
    (λ r. s_if (has_aborted (coordinate h).stage)
    (λ a. s_to (follow (coordinate h) x) (Again e) ReenlistAborted (held (x ∷ h) k) refl (aborted_more x h (aborted_there h past a))) (λ a. s_none))
s_got id c m h k past l n =
    s_if {h = Got c Up m ∷ h} {x = abort_block (coordinate h) (Got c Up m)} {y = ended_block (coordinate h) c (Got c Up m)} (has_line c Up m) (λ q. s_abort_block (Got c Up m) h refl k) (λ q. absurd (not_both (has_line c Up m) (got_line c Up m h k) q))

-- and after the one that does: SINGLE goes to the one enlistment
single_rule : (d : Desk) (h : List Entry) → Keeps (Got Voter Up VoterYes ∷ h) → is_sole (coordinate h).stage ≡ true → (coordinate h).desks ≡ d ∷ [] → has (same_connection (Enl d.enlistment)) (coordinate h).known ≡ true
    → rule (Got Voter Up VoterYes ∷ h) (Sent (Enl d.enlistment) Down EnlistSingle) ≡ true
unfolding coordinate follow
single_rule d h k s q t =
    let past = keeps_before (Got Voter Up VoterYes) h k in
    let g = Got Voter Up VoterYes ∷ h in
    let one = one_if_after h (sole_after (coordinate h).stage s) in
    let live = open_unaborted h past (sole_open (coordinate h).stage s) in
    let desk : has_desk (coordinate h) d.enlistment.value ≡ true = let P : List Desk → Type 0 = λ ds. has (is_desk_of d.enlistment.value) ds ≡ true in
    subst P (sym q) (or_left (d.enlistment.value == d.enlistment.value) false (eq_self d.enlistment.value)) in
    four_hold true (has is_promoting h) (has (is_opening_got (Enl d.enlistment)) h) (may_let_decide (Got Voter Up VoterYes ∷ h) (Enl d.enlistment)) refl
    (known_promoting (Enl d.enlistment) h past (known_got (Enl d.enlistment) h t)) (known_got (Enl d.enlistment) h t)
    (four_hold (has is_one_phase_got h) true (not (coordinator_aborted (Got Voter Up VoterYes ∷ h))) (is_sole (coordinate (Got Voter Up VoterYes ∷ h)).stage && has_desk (coordinate (Got Voter Up VoterYes ∷ h)) d.enlistment.value) one refl
    (not_false (coordinator_aborted (Got Voter Up VoterYes ∷ h)) (calm_more (Got Voter Up VoterYes) h refl live)) (and_both (is_sole (coordinate h).stage) (has_desk (coordinate h) d.enlistment.value) s desk))

single_ruled : (h : List Entry) → Keeps (Got Voter Up VoterYes ∷ h) → (b : Bool) → is_sole (coordinate h).stage ≡ b
    → ruled (onto (Got Voter Up VoterYes ∷ h) (if b then to_each (coordinate h) EnlistSingle (coordinate h).desks else [])) ≡ true
single_ruled h k false s = k.rules
single_ruled h k true s = by (coordinate h).desks refl (sole_one h s)
  where
    sent : (d : Desk) → (coordinate h).desks ≡ d ∷ [] → (b : Bool) → has (same_connection (Enl d.enlistment)) (coordinate h).known ≡ b
        → ruled (onto (Got Voter Up VoterYes ∷ h) ((if b then Sent (Enl d.enlistment) Down EnlistSingle ∷ [] else []) ++ [])) ≡ true
    sent d q true t = and_both (rule (Got Voter Up VoterYes ∷ h) (Sent (Enl d.enlistment) Down EnlistSingle)) (ruled (Got Voter Up VoterYes ∷ h)) (single_rule d h k s q t) k.rules
    sent d q false t = k.rules

    by : (ds : List Desk) → (coordinate h).desks ≡ ds → is_one ds ≡ true → ruled (onto (Got Voter Up VoterYes ∷ h) (to_each (coordinate h) EnlistSingle ds)) ≡ true
    by [] q o = absurd cc
    by (d ∷ []) q o = sent d q (has (same_connection (Enl d.enlistment)) (coordinate h).known) refl
    by (d ∷ c ∷ ds) q o = absurd cc

-- A message that comes upward keeps its row.
got_rule : (c : Conn) (m : Message) (h : List Entry) → (is_enlisting c m ≡ true → has is_commit_got h ≡ false) → rule h (Got c Up m) ≡ true
got_rule (Enl e) (EnlistEnlist i) h n = not_false (has is_commit_got h) (n refl)
got_rule _ _ h n = refl

got_keeps : (c : Conn) (m : Message) (h : List Entry) → Keeps h → MayCross h (Got c Up m) → (is_enlisting c m ≡ true → has is_commit_got h ≡ false) → Keeps (Got c Up m ∷ h)
got_keeps c m h k w n = record { rules = and_both (rule h (Got c Up m)) (ruled h) (got_rule c m h n) k.rules; ties = k.ties; wires = (w, k.wires) }

-- The blocks of a delivery upward keep the table.
got_other : (id : ℕ) (c : Conn) (m : Message) (h : List Entry) → Keeps h → MayCross h (Got c Up m) → is_letting c m ≡ false → (is_enlisting c m ≡ true → has is_commit_got h ≡ false)
    → ruled (onto h (Got c Up m ∷ core_got id (coordinate h) c m)) ≡ true
got_other id c m h k w l n =
    let now = got_keeps c m h k w n in sends_keep (Got c Up m ∷ h) (core_got id (coordinate h) c m) (s_got id c m h now k l n) now.rules

pub got_ruled : (id : ℕ) (c : Conn) (m : Message) (h : List Entry) → Keeps h → MayCross h (Got c Up m) → (is_enlisting c m ≡ true → has is_commit_got h ≡ false)
    → ruled (onto h (Got c Up m ∷ core_got id (coordinate h) c m)) ≡ true
unfolding core_got
got_ruled id Voter VoterYes h k w n = single_ruled h (got_keeps Voter VoterYes h k w n) (is_sole (coordinate h).stage) refl
got_ruled id c m h k w n = got_other id c m h k w refl n

pub end_ruled : (c : Conn) (h : List Entry) → Keeps h → MayCross h (End c Up) → ruled (onto h (End c Up ∷ core_down (coordinate h) c)) ≡ true
end_ruled c h k w =
    let now : Keeps (End c Up ∷ h) = record { rules = k.rules; ties = k.ties; wires = (w, k.wires) } in
    sends_keep (End c Up ∷ h) (core_down (coordinate h) c) (s_end c h now k) now.rules

-- Its act: the append and the free.
stop_ruled : (h : List Entry) → Keeps h → has is_begin_sent h ≡ true → (coordinate h).stopped ≡ false → ruled (Stopped ∷ h) ≡ true
stop_ruled h k b s =
    and_both (has is_begin_sent h && not (is_stopped h)) (ruled h)
    (and_both (has is_begin_sent h) (not (is_stopped h)) b (not_false (is_stopped h) (sym (stopped_same h) ∙ s))) k.rules

log_stops : (h : List Entry) → Keeps h → may_log (coordinate h) ≡ true → ruled (Stopped ∷ h) ≡ true
unfolding may_log
log_stops h k m =
    let c = coordinate h in
    let active = second_of_five (not c.stopped) (is_active c.stage) c.commit c.yes _ m in
    stop_ruled h k (begin_was_sent h k.wires (begun_if_active h active)) (not_true c.stopped (first_of_five (not c.stopped) (is_active c.stage) c.commit c.yes _ m))

free_stops : (h : List Entry) → Keeps h → may_free (coordinate h) ≡ true → ruled (Stopped ∷ h) ≡ true
unfolding may_free
free_stops h k m =
    let c = coordinate h in
    stop_ruled h k (record_begun h k (record_seen h k (recorded_has c.stage (second_of_three (not c.stopped) (is_recorded c.stage) _ m)))) (not_true c.stopped (first_of_three (not c.stopped) (is_recorded c.stage) _ m))
  where
    recorded_has : (s : Stage) → is_recorded s ≡ true → has_recorded s ≡ true
    recorded_has Recorded t = refl
    recorded_has _ t = absurd cc

appended_ruled : (h : List Entry) → Keeps h → may_log (coordinate h) ≡ true → (a : LogAnswer) → ruled (onto h (appended (coordinate h) a)) ≡ true
unfolding coordinate may_log
appended_ruled h k m Done =
    let can = may_log_can h k m in
    let now : Keeps (Logged ∷ h) = record { rules = and_both (can_log h) (ruled h) can k.rules; ties = k.ties; wires = (tt, k.wires) } in
    sends_keep (Logged ∷ h) (commit_sends (follow (coordinate h) Logged)) (s_commit (follow (coordinate h) Logged) (held (Logged ∷ h) now) refl refl) now.rules
appended_ruled h k m Full =
    let can = may_log_can h k m in
    let now : Keeps (LogFull ∷ h) = record { rules = and_both (can_log h) (ruled h) can k.rules; ties = k.ties; wires = (tt, k.wires) } in
    let c = coordinate h in
    let active = second_of_five (not c.stopped) (is_active c.stage) c.commit c.yes _ m in
    sends_keep (LogFull ∷ h) (abort_sends (follow (coordinate h) LogFull))
    (s_abort (follow (coordinate h) LogFull) (held (LogFull ∷ h) now) (good_now LogFull h refl (open_single h k (active_open c.stage active)) (aborts_there h k LogFull (active_open c.stage active)))) now.rules
appended_ruled h k m StoppedNow = log_stops h k m
appended_ruled h k m StoppedBefore = log_stops h k m

freed_ruled : (h : List Entry) → Keeps h → may_free (coordinate h) ≡ true → (a : LogAnswer) → ruled (onto h (freed a)) ≡ true
unfolding may_free
freed_ruled h k m Done =
    let c = coordinate h in
    and_both (has_mark h) (ruled h) (sym (recorded_mark h) ∙ second_of_three (not c.stopped) (is_recorded c.stage) _ m) k.rules
freed_ruled h k m Full = k.rules
freed_ruled h k m StoppedNow = free_stops h k m
freed_ruled h k m StoppedBefore = free_stops h k m

pub act_ruled : (h : List Entry) → Keeps h → (a : LogAnswer) → may_coordinate (coordinate h) a ≡ true → ruled (onto h (coordinates (coordinate h) a)) ≡ true
act_ruled h k a m = step (may_log (coordinate h)) refl m
  where
    step : (b : Bool) → may_log (coordinate h) ≡ b → (b || (may_free (coordinate h) && not (is_full_answer a))) ≡ true → ruled (onto h (if b then appended (coordinate h) a else freed a)) ≡ true
    step true e t = appended_ruled h k e a
    step false e t = freed_ruled h k (and_left (may_free (coordinate h)) (not (is_full_answer a)) t) a

-- Stops and restarts.
pub stops_ruled : (h : List Entry) → Keeps h → (has is_begin_sent h && not (coordinate h).stopped) ≡ true → ruled (Stopped ∷ h) ≡ true
stops_ruled h k t =
    stop_ruled h k (and_left (has is_begin_sent h) (not (coordinate h).stopped) t) (not_true (coordinate h).stopped (and_right (has is_begin_sent h) (not (coordinate h).stopped) t))

pub restart_ruled : (h : List Entry) → Keeps h → (found : Bool) → has is_begin_sent h ≡ true → ruled (onto h (restarted (coordinate h).stopped found)) ≡ true
restart_ruled h k found b = step (coordinate h).stopped refl
  where
    step : (s : Bool) → (coordinate h).stopped ≡ s → ruled (onto h (restarted s found)) ≡ true
    step true e = and_both (is_stopped h) (ruled h) (sym (stopped_same h) ∙ e) k.rules
    step false e = stop_ruled h k b e

-- the step is of the coordinator's side
abbrev pub is_core_step : Step → Bool
is_core_step (Coordinates a) = true
is_core_step (Delivers c Up) = true
is_core_step Stops = true
is_core_step (Restarts found) = true
is_core_step _ = false

-- no ENLIST is on the way to the coordinator once it got COMMIT
abbrev pub IsLate : List Entry → Type 0
IsLate h = (e : EnlNo) → has (is_opening (Enl e)) (in_transit (Enl e) Up h) ≡ true → has is_commit_got h ≡ false

first_stands : (e : EnlNo) (m : Message) (ms : List Message) (h : List Entry) → in_transit (Enl e) Up h ≡ m ∷ ms → is_opening (Enl e) m ≡ true → has (is_opening (Enl e)) (in_transit (Enl e) Up h) ≡ true
first_stands e m ms h q o = ap (has (is_opening (Enl e))) q ∙ first (is_opening (Enl e) m) (has (is_opening (Enl e)) ms) o
  where
    first : (a b : Bool) → a ≡ true → (a || b) ≡ true
    first true b p = refl
    first false b p = absurd cc

late_got : (c : Conn) (m : Message) (ms : List Message) (h : List Entry) → IsLate h → in_transit c Up h ≡ m ∷ ms → is_enlisting c m ≡ true → has is_commit_got h ≡ false
late_got (Enl e) (EnlistEnlist i) ms h l q t = l e (first_stands e (EnlistEnlist i) ms h q refl)
late_got _ m ms h l q t = absurd cc

delivered_ruled : (t : ℕ) (w : World) (c : Conn) → Keeps w.past → IsLate w.past → has_left c Up w.past ≡ true → (ms : List Message) → in_transit c Up w.past ≡ ms
    → ruled (onto w.past (delivered t w c Up ms)) ≡ true
delivered_ruled t w c k l p [] q = end_ruled c w.past k (is_end (is_lost_wire c w.past) (not (is_ended c Up w.past)) (in_transit c Up w.past) q p)
delivered_ruled t w c k l p (m ∷ ms) q = got_ruled (identifier_of t) c m w.past k (takes_next m ms (in_transit c Up w.past) q) (λ e. late_got c m ms w.past l q e)

-- after such a step the table is kept
pub core_ruled : (G : ℕ → ActorNo → Call → Type 0) (t : ℕ) (w : World) (m : Step) → is_core_step m ≡ true → MayCome G t w m → Keeps w.past → IsLate w.past → ruled (after t w m).past ≡ true
unfolding after block_at
core_ruled G t w (Coordinates a) s n k l = act_ruled w.past k a n
core_ruled G t w (Delivers c Up) s n k l = delivered_ruled t w c k l n (in_transit c Up w.past) refl
core_ruled G t w Stops s n k l = stops_ruled w.past k n
core_ruled G t w (Restarts found) s n k l = restart_ruled w.past k found n
core_ruled G t w (Calls n a c m) s q k l = absurd (never s)
  where
    never : false ≡ true → ⊥
    never e = absurd cc
core_ruled G t w (Replies e r) s q k l = absurd (never s)
  where
    never : false ≡ true → ⊥
    never e = absurd cc
core_ruled G t w Acts s q k l = absurd (never s)
  where
    never : false ≡ true → ⊥
    never e = absurd cc
core_ruled G t w (Delivers c Down) s q k l = absurd (never s)
  where
    never : false ≡ true → ⊥
    never e = absurd cc
