-- The blocks of steps that open no connection, by what each side knows of the connections: each message may go where it goes.
use Rattle.std.proofs.Common.{◌≡◌, ℕ, Bool, true, false, ◌&&◌, ◌||◌, not, List, [], ◌∷◌, ◌++◌, map, filter, Option, Some, None, is_some, find, refl, if◌then◌else◌}
use Rattle.dtx_values.specs.declared.call.Call.{Call}
use Rattle.dtx_values.specs.declared.call.Call.TheVariants.{Begin as BeginCall, Volatile, Durable, Promotable, Clone, Complete, Commit, Rollback, Marshal, Tick, Lose, Gone, Reenlist, Recovered}
use Rattle.dtx_values.specs.declared.entry.Answer.{Answer}
use Rattle.dtx_values.specs.declared.entry.Answer.TheVariants.{Ended as EndedAnswer}
use Rattle.dtx_values.specs.declared.entry.Ask.TheVariants.{Prepare, Promote, Single as AskSingle}
use Rattle.dtx_values.specs.declared.entry.Entry.{Entry}
use Rattle.dtx_values.specs.declared.entry.Entry.TheVariants.{Answered, Began, Cloned, Completed, Enlisted, CommitAsked, RollbackAsked, Clock, TimedOut, Late, Asked, Voted, PromoteReply, Requested, Sealed, Handed, OwnerAnswered, LocalYes, Decided, Told, Sent, Got, Down as Ended, Lost as LostEntry, Logged, LogFull, Freed, Recovered as RecoveredEntry, Acked}
use Rattle.dtx_values.specs.declared.entry.Party.TheVariants.{Client, Enl as Member}
use Rattle.dtx_values.specs.declared.message.Conn.{Conn}
use Rattle.dtx_values.specs.declared.message.Conn.TheVariants.{Begin, Voter, Enl, Again}
use Rattle.dtx_values.specs.declared.message.Dir.{Dir}
use Rattle.dtx_values.specs.declared.message.Dir.TheVariants.{Up, Down}
use Rattle.dtx_values.specs.declared.message.Message.{Message}
use Rattle.dtx_values.specs.declared.message.Message.TheVariants.{BeginBegin, BeginCommit, BeginAbort, BeginCommitOne, BeginBegun, BeginCommitted, BeginAborted, BeginInDoubt, VoterVoter, VoterNo, VoterYes, VoterCreated, VoterRefused, VoterAsk, VoterCommit, VoterAbort, VoterInDoubt, EnlistEnlist, EnlistAck, EnlistOneCommitted, EnlistOneAborted, EnlistOneInDoubt, EnlistEnlisted, EnlistRefused, EnlistPrepare, EnlistCommit, EnlistAbort, EnlistSingle, ReenlistReenlist, ReenlistAck, ReenlistCommitted, ReenlistAborted}
use Rattle.dtx_values.specs.declared.note.Note.{Note}
use Rattle.dtx_values.specs.declared.note.Note.TheVariants.{Single}
use Rattle.dtx_values.specs.declared.note.Reply.{Reply}
use Rattle.dtx_values.specs.declared.note.Reply.TheVariants.{Vote as VoteReply, Promote as Promotes, Owner as OwnerReply, Ack}
use Rattle.dtx_values.specs.declared.number.EnlNo.{EnlNo}
use Rattle.dtx_values.specs.declared.script.EnlistOption.{EnlistOption}
use Rattle.dtx_values.specs.declared.script.EnlistOption.TheVariants.{Plain, DuringPrepare}
use Rattle.dtx_values.specs.declared.words.Outcome.{Outcome}
use Rattle.dtx_values.specs.declared.words.Outcome.TheVariants.{Committed, Aborted, InDoubt}
use Rattle.dtx_values.specs.declared.words.Vote.{Vote}
use Rattle.dtx_values.specs.declared.words.Vote.TheVariants.{Yes, No, Done as VoteDone}
use Rattle.dtx_values.specs.Class.{is_promotable}
use Rattle.dtx_values.specs.Clones.{is_open_rollback}
use Rattle.dtx_values.specs.Ends.{knows, may_abort_by_begin, may_abort_by_voter, same_connection, tag_of, was_got}
use Rattle.dtx_values.specs.Lines.{has_line, is_opening}
use Rattle.dtx_values.specs.Owners.{commits_alone, owner_of}
use Rattle.dtx_values.specs.RecoveryInfo.{is_id}
use Rattle.dtx_values.specs.Table.{voted}
use Rattle.dtx_values.specs.Vote.{is_no}
use Rattle.dtx_values.specs.Waves.{all_voted, is_over, next_ask}
use Rattle.dtx_model.specs.declared.desk.Desk.{Desk}
use Rattle.dtx_model.specs.declared.desk.Stage.{Stage}
use Rattle.dtx_model.specs.declared.desk.Stage.TheVariants.{Idle, Active, Sole, Given, Answered as AnsweredStage, Aborted as AbortedStage, Recorded, Over, Unknown}
use Rattle.dtx_model.specs.declared.listener.Listener.{Listener}
use Rattle.dtx_model.specs.Acts.{tell, is_to_tell, promotable_in, under_way, commit_message, commit_sent, ask_or, after_seal, commit_act, yes_act, voter_act, promoted_act, sealed_act, asked_act, unasked_promotable, undecided_act, act_by, act_entries}
use Rattle.dtx_model.specs.Answers.{class_of, limit_of}
use Rattle.dtx_model.specs.Arrivals.{unless_decided, is_called_off, told_abort, has_both_ends, ended_there, ended_by, begin_arrived, voter_arrived, enlist_arrived, again_arrived, arrived, local_down}
use Rattle.dtx_model.specs.Coordinated.{Coordinated, abort_block, aborts, accepts, opening_by, abort_sends, commit_sends, core_down, core_got, decides, doubt_sends, ended_block, follow, has_aborted, hears_one, is_active, is_one, is_prepared, is_recorded, is_sole, is_undecided, may_log, one_sends, opening_answer, still_hears, to, to_each, to_waiting}
use Rattle.dtx_model.specs.Facts.{facts_if, is_late, local_facts, reaches, ticked, time_up}
use Rattle.dtx_model.specs.Frames.{is_valid}
use Rattle.dtx_model.specs.Half.{Half, sees, is_promoting, to_up, fails_if, decide, veto_message, veto, veto_if, over, stands, is_gone, was_told, is_handed}
use Rattle.dtx_model.specs.Observed.{Observed, track}
use Rattle.dtx_model.specs.Promotes.{is_promoting as is_start}
use Rattle.dtx_model.specs.Replies.{ack_on, conn_due, due_of, is_volatile_row, one_message, owner_entries, reply_entries, request_message, request_of, vote_message, voted_by}
use Rattle.dtx_model.specs.Steps.{LogAnswer, Done, Full, StoppedNow, StoppedBefore, appended, coordinates, freed}
use Rattle.dtx_model.specs.Words.{has}
use Rattle.dtx_model.specs.World.{World, half, cut, cut_upward, facts_at, gone_by, gone_decides, has_answered_there, open_ones}
use Rattle.dtx_model.proofs.Bools.{and_left, and_right, not_true}
use Rattle.world_laws.proofs.SendingApt.{Apt, apt_cons, apt_flat, apt_if, apt_join, apt_map, apt_none, apt_one, apt_sent, apt_when, can_send, is_apt}
use Rattle.dtx_model.proofs.Writes.{promotes}

-- the local side may send on what it knows, and a promotion began where it is promoting
pub record Hears (p : List Entry) (o : Observed) : Type 0 where
  pub up : (c : Conn) → knows c o.ends ≡ true → can_send c Up p ≡ true
  pub promoting : is_promoting o ≡ true → has is_start p ≡ true

-- the coordinator may send on what it knows
pub record Speaks (p : List Entry) (k : Coordinated) : Type 0 where
  pub down : (c : Conn) → has (same_connection c) k.known ≡ true → can_send c Down p ≡ true

-- a message that opens nothing, has a line there and is valid
abbrev pub is_later : Conn → Dir → Message → Bool
is_later c d m = is_valid m && has_line c d m && not (is_opening c m)

later : (p : List Entry) (c : Conn) (d : Dir) (m : Message) → is_later c d m ≡ true → can_send c d p ≡ true → is_apt p (Sent c d m) ≡ true
later p c d m l s =
    apt_sent p c d m (and_left (is_valid m) (has_line c d m) (and_left (is_valid m && has_line c d m) (not (is_opening c m)) l))
    (and_right (is_valid m) (has_line c d m) (and_left (is_valid m && has_line c d m) (not (is_opening c m)) l))
    (not_true (is_opening c m) (and_right (is_valid m && has_line c d m) (not (is_opening c m)) l)) s

-- the coordinator's blocks
apt_to : {p : List Entry} (k : Coordinated) → Speaks p k → (c : Conn) (m : Message) → is_later c Down m ≡ true → Apt p (to k c m)
apt_to {p} k s c m l = apt_when (has (same_connection c) k.known) (λ t. apt_one (Sent c Down m) (later p c Down m l (s.down c t)) refl) (λ t. apt_none)

apt_each : {p : List Entry} (k : Coordinated) → Speaks p k → (m : Message) → ((e : EnlNo) → is_later (Enl e) Down m ≡ true) → (ds : List Desk) → Apt p (to_each k m ds)
apt_each k s m l ds = apt_flat (λ d. to k (Enl d.enlistment) m) (λ d. apt_to k s (Enl d.enlistment) m (l d.enlistment)) ds

apt_waiting : {p : List Entry} (k : Coordinated) → Speaks p k → (m : Message) → ((e : EnlNo) → is_later (Again e) Down m ≡ true) → Apt p (to_waiting k m)
apt_waiting k s m l = apt_flat (λ e. to k (Again e) m) (λ e. apt_to k s (Again e) m (l e)) k.waits

apt_abort : {p : List Entry} (k : Coordinated) → Speaks p k → Apt p (abort_sends k)
apt_abort k s =
    apt_join (apt_join (apt_join (apt_to k s Begin BeginAborted refl) (apt_if k.no apt_none (apt_to k s Voter VoterAbort refl)))
    (apt_each k s EnlistAbort (λ e. refl) (filter (λ d. still_hears d.ballot) k.desks))) (apt_waiting k s ReenlistAborted (λ e. refl))

apt_commit : {p : List Entry} (k : Coordinated) → Speaks p k → Apt p (commit_sends k)
apt_commit k s =
    apt_join (apt_join (apt_join (apt_to k s Begin BeginCommitted refl) (apt_to k s Voter VoterCommit refl))
    (apt_each k s EnlistCommit (λ e. refl) (filter (λ d. is_prepared d.ballot) k.desks))) (apt_waiting k s ReenlistCommitted (λ e. refl))

apt_one_sends : {p : List Entry} (k : Coordinated) → Speaks p k → Apt p (one_sends k)
apt_one_sends k s = apt_join (apt_to k s Begin BeginCommitted refl) (apt_to k s Voter VoterCommit refl)

apt_doubt : {p : List Entry} (k : Coordinated) → Speaks p k → Apt p (doubt_sends k)
apt_doubt k s = apt_join (apt_to k s Begin BeginInDoubt refl) (apt_to k s Voter VoterInDoubt refl)

apt_abort_block : {p : List Entry} (k : Coordinated) (x : Entry) → Speaks p (follow k x) → Apt p (abort_block k x)
apt_abort_block k x s = apt_if (aborts k x && is_undecided k.stage) (apt_abort (follow k x) s) apt_none

apt_ended_block : {p : List Entry} (k : Coordinated) (c : Conn) (x : Entry) → Speaks p (follow k x) → Apt p (ended_block k c x)
apt_ended_block k (Enl e) x s = apt_if (decides k e.value) (apt_doubt (follow k x) s) (apt_abort_block k x s)
apt_ended_block k Begin x s = apt_abort_block k x s
apt_ended_block k Voter x s = apt_abort_block k x s
apt_ended_block k (Again e) x s = apt_abort_block k x s

-- the answer to VOTER or ENLIST
answer_later : (c : Conn) (good abort : Message) (refused : ℕ → Message) → is_later c Down good ≡ true → is_later c Down abort ≡ true → is_later c Down (refused 1) ≡ true
    → is_later c Down (refused 2) ≡ true → (s : Stage) (b : Bool) → is_later c Down (opening_by s b good abort refused) ≡ true
answer_later c good abort refused p q r t AbortedStage b = q
answer_later c good abort refused p q r t Unknown b = t
answer_later c good abort refused p q r t Over b = t
answer_later c good abort refused p q r t Active true = r
answer_later c good abort refused p q r t Active false = p
answer_later c good abort refused p q r t Idle b = r
answer_later c good abort refused p q r t Sole b = r
answer_later c good abort refused p q r t Given b = r
answer_later c good abort refused p q r t AnsweredStage b = r
answer_later c good abort refused p q r t Recorded b = r

-- after a message: k is what was known before it, and the history has it
pub apt_core_got : {p : List Entry} (id : ℕ) (k : Coordinated) (c : Conn) (m : Message) → is_id id ≡ true → Speaks p (follow k (Got c Up m)) → Apt p (core_got id k c m)
unfolding core_got follow
apt_core_got id k Begin BeginBegin v s = apt_to (follow k (Got Begin Up BeginBegin)) s Begin (BeginBegun id) (valid (is_id id) v)
  where
    valid : (b : Bool) → b ≡ true → (b && true && true) ≡ true
    valid true e = refl
    valid false e = absurd cc
apt_core_got id k Voter (VoterVoter u) v s =
    apt_to (follow k (Got Voter Up (VoterVoter u))) s Voter (opening_answer k VoterCreated VoterAbort VoterRefused) (answer_later Voter VoterCreated VoterAbort VoterRefused refl refl refl refl k.stage k.commit)
apt_core_got id k (Enl e) (EnlistEnlist i) v s =
    apt_to (follow k (Got (Enl e) Up (EnlistEnlist i))) s (Enl e) (opening_answer k EnlistEnlisted EnlistAbort EnlistRefused) (answer_later (Enl e) EnlistEnlisted EnlistAbort EnlistRefused refl refl refl refl k.stage k.commit)
apt_core_got {p} id k Begin BeginCommit v s =
    let before : Speaks p k = record { down = s.down } in
    apt_if (is_active k.stage) (apt_join (apt_to k before Voter VoterAsk refl) (apt_each k before EnlistPrepare (λ e. refl) k.desks)) apt_none
apt_core_got id k (Again e) (ReenlistReenlist i) v s =
    apt_if (is_recorded k.stage) (apt_to (follow k (Got (Again e) Up (ReenlistReenlist i))) s (Again e) ReenlistCommitted refl)
    (apt_if (has_aborted k.stage) (apt_to (follow k (Got (Again e) Up (ReenlistReenlist i))) s (Again e) ReenlistAborted refl) apt_none)
apt_core_got {p} id k Begin BeginCommitOne v s =
    let before : Speaks p k = record { down = s.down } in
    apt_if (not (accepts k)) apt_none (apt_if (is_one k.desks) (apt_to k before Voter VoterAsk refl) (apt_abort (follow k (Got Begin Up BeginCommitOne)) s))
apt_core_got {p} id k Voter VoterYes v s = let before : Speaks p k = record { down = s.down } in apt_if (is_sole k.stage) (apt_each k before EnlistSingle (λ e. refl) k.desks) apt_none
apt_core_got {p} id k (Enl e) EnlistOneCommitted v s = let before : Speaks p k = record { down = s.down } in apt_if (decides k e.value) (apt_one_sends k before) apt_none
apt_core_got {p} id k (Enl e) EnlistOneInDoubt v s = let before : Speaks p k = record { down = s.down } in apt_if (decides k e.value) (apt_doubt k before) apt_none
apt_core_got id k (Enl e) EnlistOneAborted v s = apt_if (hears_one k e.value) (apt_abort (follow k (Got (Enl e) Up EnlistOneAborted)) s) apt_none
apt_core_got id k c m v s = apt_if (has_line c Up m) (apt_abort_block k (Got c Up m) s) (apt_ended_block k c (Got c Up m) s)

-- after the end of a connection
pub apt_core_down : {p : List Entry} (k : Coordinated) (c : Conn) → Speaks p (follow k (Ended c Up)) → Apt p (core_down k c)
unfolding core_down
apt_core_down k c s = apt_ended_block k c (Ended c Up) s

-- the coordinator's act; where it is stopped by it, that is the whole block
abbrev pub is_hit : LogAnswer → Bool
is_hit StoppedNow = true
is_hit StoppedBefore = true
is_hit _ = false

-- the coordinator's act where the log isn't stopped
pub apt_coordinates : {p : List Entry} (k : Coordinated) (a : LogAnswer) → is_hit a ≡ false → Speaks p k → Apt p (coordinates k a)
unfolding follow
apt_coordinates {p} k a n s = apt_if (may_log k) (appends a n) (frees a n)
  where
    appends : (a : LogAnswer) → is_hit a ≡ false → Apt p (appended k a)
    appends Done n = apt_cons Logged refl refl (apt_commit (follow k Logged) (record { down = s.down }))
    appends Full n = apt_cons LogFull refl refl (apt_abort (follow k LogFull) (record { down = s.down }))
    appends StoppedNow n = absurd cc
    appends StoppedBefore n = absurd cc

    frees : (a : LogAnswer) → is_hit a ≡ false → Apt p (freed a)
    frees Done n = apt_one Freed refl refl
    frees Full n = apt_none
    frees StoppedNow n = absurd cc
    frees StoppedBefore n = absurd cc

-- the local side's blocks
apt_up : {p : List Entry} (o : Observed) → Hears p o → (c : Conn) (m : Message) → is_later c Up m ≡ true → Apt p (to_up o c m)
apt_up {p} o s c m l = apt_when (knows c o.ends) (λ t. apt_one (Sent c Up m) (later p c Up m l (s.up c t)) refl) (λ t. apt_none)

apt_decide : {p : List Entry} (h : Half) (x : Outcome) → Apt p (decide h x)
apt_decide {p} h x = by (is_promoting h.seen)
  where
    rest : Apt p (Decided x ∷ map (λ w. Answered w.0 (EndedAnswer x)) h.waits)
    rest = apt_cons (Decided x) refl refl (apt_map (λ w. Answered w.0 (EndedAnswer x)) (λ w. refl) (λ w. refl) h.waits)

    by : (b : Bool) → Apt p (fails_if b ++ Decided x ∷ map (λ w. Answered w.0 (EndedAnswer x)) h.waits)
    by true = record { proof = rest.proof; fails = refl }
    by false = rest

apt_message : {p : List Entry} (o : Observed) → Hears p o → Apt p (veto_message o)
apt_message {p} o s =
    apt_when (may_abort_by_begin o.ends) (λ t. apt_one (Sent Begin Up BeginAbort) (later p Begin Up BeginAbort refl (s.up Begin (and_right _ (knows Begin o.ends) t))) refl)
    (λ n. apt_when (may_abort_by_voter o.ends) (λ t. apt_one (Sent Voter Up VoterNo) (later p Voter Up VoterNo refl (s.up Voter (and_right _ (knows Voter o.ends) t))) refl) (λ t. apt_none))

-- a veto
pub apt_veto : {p : List Entry} (h : Half) → Hears p h.seen → Apt p (veto h)
unfolding veto
apt_veto h s = apt_join (apt_decide h Aborted) (apt_message h.seen s)

apt_veto_if : {p : List Entry} (b : Bool) (h : Half) → Hears p h.seen → Apt p (veto_if b h)
apt_veto_if true h s = apt_veto h s
apt_veto_if false h s = apt_none

apt_unless : {p : List Entry} (h : Half) {es : List Entry} → Apt p es → Apt p (unless_decided h es)
apt_unless h q = apt_if (is_some h.seen.decided) apt_none q

apt_ended_there : {p : List Entry} (h : Half) → Hears p h.seen → Apt p (ended_there h)
apt_ended_there h s = apt_if (not h.seen.yes) (apt_veto h s) (apt_if (has_both_ends h.seen) (apt_decide h InDoubt) apt_none)

apt_ended : {p : List Entry} (h : Half) → Hears p h.seen → (c : Conn) → Apt p (ended_by h c)
apt_ended h s Begin = apt_unless h (apt_ended_there h s)
apt_ended h s Voter = apt_unless h (apt_ended_there h s)
apt_ended h s (Enl e) = apt_unless h (apt_if (h.seen.yes || voted e.value h.seen.table) apt_none (apt_veto h s))
apt_ended h s (Again e) = apt_none

apt_told_abort : {p : List Entry} (h : Half) (e : EnlNo) → Apt p (told_abort h e)
apt_told_abort h e = apt_if (stands h.seen e.value && not (was_told h.seen e.value) && not (is_gone h.seen e.value)) (apt_one (Told (Member e) Aborted) refl refl) apt_none

-- the message opens a connection, gives places or ends the handover: BEGUN, CREATED or ENLISTED
abbrev pub is_going_on : Conn → Message → Bool
is_going_on Begin (BeginBegun u) = true
is_going_on Voter VoterCreated = true
is_going_on (Enl e) EnlistEnlisted = true
is_going_on _ _ = false

apt_begin : {p : List Entry} (t : ℕ) (h : Half) → Hears p h.seen → (m : Message) → is_going_on Begin m ≡ false → Apt p (begin_arrived t h m)
apt_begin t h s (BeginBegun u) g = absurd cc
apt_begin t h s BeginCommitted g = apt_unless h (apt_decide h Committed)
apt_begin t h s BeginAborted g = apt_unless h (apt_decide h Aborted)
apt_begin t h s BeginInDoubt g = apt_unless h (apt_decide h InDoubt)
apt_begin t h s _ g = apt_ended h s Begin

apt_voter : {p : List Entry} (t : ℕ) (h : Half) → Hears p h.seen → (m : Message) → is_going_on Voter m ≡ false → Apt p (voter_arrived t h m)
apt_voter t h s VoterCreated g = absurd cc
apt_voter t h s (VoterRefused cause) g = apt_unless h (apt_veto h s)
apt_voter t h s VoterAsk g = apt_none
apt_voter t h s VoterCommit g = apt_unless h (apt_decide h Committed)
apt_voter t h s VoterAbort g = apt_unless h (apt_decide h Aborted)
apt_voter t h s VoterInDoubt g = apt_unless h (apt_decide h InDoubt)
apt_voter t h s _ g = apt_ended h s Voter

apt_enlist : {p : List Entry} (t : ℕ) (h : Half) → Hears p h.seen → (e : EnlNo) (m : Message) → is_going_on (Enl e) m ≡ false → Apt p (enlist_arrived t h e m)
apt_enlist t h s e EnlistEnlisted g = absurd cc
apt_enlist t h s e (EnlistRefused cause) g = apt_unless h (apt_veto h s)
apt_enlist t h s e EnlistPrepare g = apt_one (Asked e Prepare) refl refl
apt_enlist t h s e EnlistCommit g = apt_one (Told (Member e) Committed) refl refl
apt_enlist t h s e EnlistSingle g = apt_if (is_called_off h.seen.decided || is_gone h.seen e.value) apt_none (apt_one (Handed e) refl refl)
apt_enlist t h s e EnlistAbort g = apt_join (apt_told_abort h e) (apt_unless h (apt_decide h Aborted))
apt_enlist t h s e _ g = apt_ended h s (Enl e)

apt_again : {p : List Entry} (h : Half) → Hears p h.seen → (e : EnlNo) (m : Message) → Apt p (again_arrived h e m)
apt_again h s e ReenlistCommitted = apt_one (Told (Member e) Committed) refl refl
apt_again h s e ReenlistAborted = apt_one (Told (Member e) Aborted) refl refl
apt_again h s e _ = apt_ended h s (Again e)

-- after a message of the coordinator
pub apt_arrived : {p : List Entry} (t : ℕ) (h : Half) → Hears p h.seen → (c : Conn) (m : Message) → is_going_on c m ≡ false → Apt p (arrived t h c m)
apt_arrived t h s Begin m g = apt_begin t h s m g
apt_arrived t h s Voter m g = apt_voter t h s m g
apt_arrived t h s (Enl e) m g = apt_enlist t h s e m g
apt_arrived t h s (Again e) m g = apt_again h s e m

-- BEGUN, where something was decided meanwhile
pub apt_begun_late : {p : List Entry} (h : Half) → Hears p h.seen → Apt p (to_up h.seen Begin BeginAbort)
apt_begun_late h s = apt_up h.seen s Begin BeginAbort refl

-- after the end of a connection at the local side
pub apt_local_down : {p : List Entry} (h : Half) (c : Conn) → Hears p (sees h (Ended c Down)).seen → Apt p (local_down h c)
unfolding local_down
apt_local_down h c s = apt_ended (sees h (Ended c Down)) s c

-- the local act
apt_tell : {p : List Entry} (x : Outcome) (l : Option Listener) (o : Option Outcome) → Apt p (tell x l o)
apt_tell x (Some l) o = apt_one (Told (Member l.enlistment) x) refl refl
apt_tell x None (Some y) = apt_none
apt_tell x None None = apt_one (Told Client x) refl refl

apt_ask : {p : List Entry} (e : Option EnlNo) (over : Bool) {es : List Entry} → Apt p es → Apt p (ask_or e over es)
apt_ask (Some e) over q = apt_one (Asked e Prepare) refl refl
apt_ask None over q = apt_if over q apt_none

apt_after_seal : {p : List Entry} (h : Half) {es : List Entry} → Apt p es → Apt p (after_seal h es)
apt_after_seal h q = apt_ask (next_ask h.seen.table false) (all_voted h.seen.table) q

apt_commit_act : {p : List Entry} (h : Half) (e : Option EnlNo) → Apt p (commit_act h e)
apt_commit_act h (Some e) = apt_one (Handed e) refl refl
apt_commit_act h None = apt_decide h Committed

apt_yes : {p : List Entry} (o : Observed) → Hears p o → Apt p (yes_act o)
apt_yes o s = apt_if o.yes apt_none (apt_cons LocalYes refl refl (apt_up o s Voter VoterYes refl))

apt_voter_act : {p : List Entry} (h : Half) → Hears p h.seen → Apt p (voter_act h)
apt_voter_act h s = apt_if (was_got Voter (tag_of VoterAsk) h.seen.ends) (apt_after_seal h (apt_yes h.seen s)) apt_none

apt_promoted_act : {p : List Entry} (h : Half) → Hears p h.seen → (e : Option EnlNo) → Apt p (promoted_act h e)
apt_promoted_act h s (Some e) = apt_if h.seen.single_asked (apt_voter_act h s) (apt_one (Asked e AskSingle) refl refl)
apt_promoted_act h s None = apt_voter_act h s

apt_sealed_act : {p : List Entry} (h : Half) → Hears p h.seen → Apt p (sealed_act h)
apt_sealed_act h s =
    apt_if h.seen.promoted (apt_promoted_act h s (promotable_in h.seen.table)) (apt_after_seal h (apt_if (is_some h.seen.handed) apt_none (apt_commit_act h (owner_of h.seen.table))))

commit_later : (b : Bool) → is_later Begin Up (if b then BeginCommitOne else BeginCommit) ≡ true
commit_later true = refl
commit_later false = refl

apt_commit_sent : {p : List Entry} (o : Observed) → Hears p o → Apt p (commit_sent o)
apt_commit_sent o s = apt_if (o.promoted && not (is_some (promotable_in o.table))) (apt_up o s Begin (commit_message o) (commit_later (commits_alone o.table))) apt_none

apt_asked_act : {p : List Entry} (h : Half) → Hears p h.seen → Apt p (asked_act h)
apt_asked_act h s =
    apt_if h.seen.sealed (apt_sealed_act h s)
    (apt_ask (next_ask h.seen.table true) (is_over h.seen.table h.seen.clones (under_way h)) (apt_cons Sealed refl refl (apt_commit_sent h.seen s)))

-- a promotable is asked to promote where a promotion is under way
apt_undecided : {p : List Entry} (h : Half) → Hears p h.seen → (e : Option EnlNo) → unasked_promotable h.seen ≡ e → Apt p (undecided_act h e)
apt_undecided h s (Some e) q = apt_one (Asked e Promote) (s.promoting (way (is_promoting h.seen) h.seen.promote_asked (promotable_in h.seen.table) q)) refl
  where
    way : (b a : Bool) (o : Option EnlNo) → (if b && not a then o else None) ≡ Some e → b ≡ true
    way true a o q = refl
    way false a o q = absurd cc
apt_undecided h s None q = apt_if h.seen.commit (apt_asked_act h s) apt_none

apt_act_by : {p : List Entry} (x : Option Outcome) (h : Half) → Hears p h.seen → Apt p (act_by x h)
apt_act_by (Some x) h s = apt_tell x (find (is_to_tell h.seen x) h.seen.listeners) h.seen.told_client
apt_act_by None h s = apt_undecided h s (unasked_promotable h.seen) refl

-- the first local act that applies
pub apt_act : {p : List Entry} (h : Half) → Hears p h.seen → Apt p (act_entries h)
unfolding act_entries
apt_act h s = apt_act_by h.seen.decided h s

-- replies
-- an acknowledgement is due on e or x alone
apt_ack : {p : List Entry} (o : Observed) → Hears p o → (c : Option Conn) → Apt p (ack_on o c)
apt_ack o s (Some Begin) = apt_none
apt_ack o s (Some Voter) = apt_none
apt_ack o s (Some (Enl e)) = apt_up o s (Enl e) EnlistAck refl
apt_ack o s (Some (Again e)) = apt_up o s (Again e) ReenlistAck refl
apt_ack o s None = apt_none

request_later : (x : Outcome) → is_later Begin Up (request_message x) ≡ true
request_later Committed = refl
request_later Aborted = refl
request_later InDoubt = refl

vote_later : (e : EnlNo) (v : Vote) → is_later (Enl e) Up (vote_message v) ≡ true
vote_later e Yes = refl
vote_later e No = refl
vote_later e VoteDone = refl

one_later : (e : EnlNo) (x : Outcome) → is_later (Enl e) Up (one_message x) ≡ true
one_later e Committed = refl
one_later e Aborted = refl
one_later e InDoubt = refl

apt_owner : {p : List Entry} (h : Half) → Hears p h.seen → (e : EnlNo) (x : Outcome) (n : Option Note) → Apt p (owner_entries h e x n)
apt_owner h s e x (Some Single) = apt_cons (Requested e (request_of x)) refl refl (apt_up h.seen s Begin (request_message x) (request_later x))
apt_owner h s e x _ = apt_cons (OwnerAnswered e x) refl refl (apt_if h.seen.promoted (apt_up h.seen s (Enl e) (one_message x) (one_later e x)) (apt_decide h x))

apt_voted : {p : List Entry} (h : Half) → Hears p h.seen → (e : EnlNo) (v : Vote) → Apt p (voted_by h e v)
apt_voted h s e v = apt_if (is_volatile_row h.seen e.value) (apt_veto_if (is_no v) h s) (apt_up h.seen s (Enl e) (vote_message v) (vote_later e v))

-- each reply but that of a promotable that promotes
pub apt_reply : {p : List Entry} (h : Half) → Hears p h.seen → (e : EnlNo) (r : Reply) → promotes r ≡ false → Apt p (reply_entries h e r)
unfolding reply_entries track
apt_reply h s e (VoteReply v) g = apt_cons (Voted e v) refl refl (apt_voted (sees h (Voted e v)) (record { up = s.up; promoting = s.promoting }) e v)
apt_reply h s e (Promotes true) g = absurd cc
apt_reply h s e (Promotes false) g = apt_cons (PromoteReply e false) refl refl (apt_veto (sees h (PromoteReply e false)) (record { up = s.up; promoting = s.promoting }))
apt_reply h s e (OwnerReply x) g = apt_owner h s e x (due_of h.seen e.value)
apt_reply h s e Ack g = apt_cons (Acked e) refl refl (apt_ack h.seen s (conn_due h.seen e.value))

-- calls
apt_time_up : {p : List Entry} (h : Half) → Hears p h.seen → Apt p (time_up h)
apt_time_up h s = apt_if (is_late h.seen) (apt_one Late refl refl) (apt_cons TimedOut refl refl (apt_veto h s))

class_unpromotable : (x : EnlistOption) → not (is_promotable (class_of x)) ≡ true
class_unpromotable Plain = refl
class_unpromotable DuringPrepare = refl

-- the call may open a connection, or makes a durable or promotable
abbrev pub may_open : Call → Bool
may_open (Durable u e r s) = true
may_open (Promotable u e r v x p) = true
may_open (Marshal u) = true
may_open (Reenlist e) = true
may_open _ = false

apt_facts : {p : List Entry} (t : ℕ) (h : Half) → Hears p h.seen → (c : Call) (a : Answer) → may_open c ≡ false → Apt p (local_facts t h c a)
unfolding track
apt_facts t h s (BeginCall u d) a g = apt_one (Began (limit_of d)) refl refl
apt_facts t h s (Volatile u e x v) a g = apt_one (Enlisted e (class_of x)) (class_unpromotable x) refl
apt_facts t h s (Durable u e r x) a g = absurd cc
apt_facts t h s (Promotable u e r v x y) a g = absurd cc
apt_facts t h s (Marshal u) a g = absurd cc
apt_facts t h s (Clone u c k) a g = apt_one (Cloned c k) refl refl
apt_facts t h s (Complete c) a g = apt_one (Completed c) refl refl
apt_facts t h s (Commit u) a g = apt_cons CommitAsked refl refl (apt_veto_if (has is_open_rollback h.seen.clones) (sees h CommitAsked) (record { up = s.up; promoting = s.promoting }))
apt_facts t h s (Rollback u) a g = apt_cons RollbackAsked refl refl (apt_veto (sees h RollbackAsked) (record { up = s.up; promoting = s.promoting }))
apt_facts t h s (Tick u n) a g =
    apt_cons (Clock (ticked h.seen.clock n)) refl refl (apt_if (reaches h.seen.limit h.seen.clock (ticked h.seen.clock n)) (apt_time_up h s) apt_none)
apt_facts t h s _ a g = apt_none

apt_gone_decides : {p : List Entry} (h : Half) → Hears p h.seen → (e : EnlNo) → Apt p (gone_decides h e)
apt_gone_decides h s e =
    apt_if (has_answered_there h.seen e.value) apt_none
    (apt_if (is_some h.seen.decided || voted e.value h.seen.table) apt_none (apt_if (is_handed h.seen.handed e.value) (apt_decide h InDoubt) (apt_veto h s)))

apt_gone : {p : List Entry} (w : World) → Hears p (half w).seen → (e : EnlNo) (cs : List Conn) → Apt p (gone_by w e cs)
unfolding track
apt_gone w s e [] = apt_cons (LostEntry e) refl refl (apt_gone_decides (sees (half w) (LostEntry e)) (record { up = s.up; promoting = s.promoting }) e)
apt_gone w s e (c ∷ cs) = apt_cons (LostEntry e) refl refl (apt_map (cut_upward w.past) (λ d. refl) (λ d. refl) (c ∷ cs))

-- the facts of a call that opens nothing
pub apt_facts_at : {p : List Entry} (t : ℕ) (w : World) → Hears p (half w).seen → (c : Call) (a : Answer) → may_open c ≡ false → Apt p (facts_at t w c a)
apt_facts_at t w s (Lose u c n m) a g = apt_one (cut w.past c n m) refl refl
apt_facts_at t w s (Gone e) a g = apt_gone w s e (open_ones w e)
apt_facts_at t w s (Reenlist e) a g = absurd cc
apt_facts_at t w s (Recovered u r) a g = apt_one (RecoveredEntry r) refl refl
apt_facts_at t w s c a g = apt_facts t (half w) s c a g

-- the same, where the call was done
pub apt_facts_if : {p : List Entry} (b : Bool) {es : List Entry} → Apt p es → Apt p (facts_if b es)
apt_facts_if true q = q
apt_facts_if false q = apt_none
