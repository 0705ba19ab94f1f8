-- The block of each step is walked once, here. What holds of no entries, of two lists together, of a decision, and of each entry that the block may have, holds of the block.
use Rattle.std.proofs.Common.{◌≡◌, ℕ, ◌==◌, Bool, true, false, ◌&&◌, ◌||◌, not, List, [], ◌∷◌, ◌++◌, map, filter, Option, Some, None, is_some, find, refl, ap, ◌∙◌, if◌then◌else◌, min}
use Rattle.std.specs.List.{flat_map, list_any}
use Rattle.dtx_values.specs.declared.call.Call.{Call}
use Rattle.dtx_values.specs.declared.call.Call.TheVariants.{Begin as BeginCall, Volatile, Durable, Promotable, Clone, Complete, Commit, Rollback, Marshal, Tick, Lose, Gone, Reenlist, Recovered}
use Rattle.dtx_values.specs.declared.entry.Answer.{Answer}
use Rattle.dtx_values.specs.declared.entry.Answer.TheVariants.{Fine, Wait, Id}
use Rattle.dtx_values.specs.declared.entry.Ask.TheVariants.{Prepare, Promote, Single as AskSingle}
use Rattle.dtx_values.specs.declared.entry.Entry.{Entry}
use Rattle.dtx_values.specs.declared.entry.Entry.TheVariants.{Answered, Began, Cloned, Completed, Enlisted, Init, CommitAsked, RollbackAsked, Clock, TimedOut, Late, Asked, Voted, PromoteReply, Requested, Sealed, Handed, OwnerAnswered, LocalYes, Told, Promoting, Promoted, Sent, Got, Cut, Down as Ended, Lost as LostEntry, Logged, LogFull, Freed, Stopped, Restarted, Reenlisted, Recovered as RecoveredEntry, Acked}
use Rattle.dtx_values.specs.declared.entry.Party.TheVariants.{Client, Enl as Member}
use Rattle.dtx_values.specs.declared.message.Conn.{Conn}
use Rattle.dtx_values.specs.declared.message.Conn.TheVariants.{Begin, Voter, Enl, Again}
use Rattle.dtx_values.specs.declared.message.Dir.TheVariants.{Up, Down}
use Rattle.dtx_values.specs.declared.message.Message.{Message}
use Rattle.dtx_values.specs.declared.message.Message.TheVariants.{BeginBegin, BeginCommit, BeginAbort, BeginBegun, BeginCommitted, BeginAborted, VoterVoter, VoterYes, VoterCreated, VoterRefused, VoterAsk, VoterCommit, VoterAbort, EnlistEnlist, EnlistPrepared, EnlistNo, EnlistReadonly, EnlistAck, EnlistEnlisted, EnlistRefused, EnlistPrepare, EnlistCommit, EnlistAbort, ReenlistReenlist, ReenlistAck, ReenlistCommitted, ReenlistAborted, BeginCommitOne, BeginInDoubt, VoterInDoubt, EnlistOneCommitted, EnlistOneAborted, EnlistOneInDoubt, EnlistSingle}
use Rattle.dtx_values.specs.declared.note.Note.{Note}
use Rattle.dtx_values.specs.declared.note.Note.TheVariants.{Single}
use Rattle.dtx_values.specs.declared.note.Reply.{Reply}
use Rattle.dtx_values.specs.declared.note.Reply.TheVariants.{Vote as VoteReply, Promote as Promotes, Owner as OwnerReply, Ack}
use Rattle.dtx_values.specs.declared.number.EnlNo.{EnlNo}
use Rattle.dtx_values.specs.declared.number.RmNo.{RmNo}
use Rattle.dtx_values.specs.declared.message.Info.{Info}
use Rattle.dtx_values.specs.declared.words.Cause.{Cause}
use Rattle.dtx_values.specs.declared.words.Cause.TheVariants.{Marshal as MarshalCause}
use Rattle.dtx_values.specs.declared.words.Class.TheVariants.{DurableSingle, Promotable as PromotableClass}
use Rattle.dtx_values.specs.declared.script.EnlistOption.{EnlistOption}
use Rattle.dtx_values.specs.declared.script.EnlistOption.TheVariants.{Plain as PlainOption, DuringPrepare}
use Rattle.dtx_values.specs.declared.words.Outcome.{Outcome}
use Rattle.dtx_values.specs.declared.words.Outcome.TheVariants.{Committed, Aborted, InDoubt}
use Rattle.dtx_values.specs.declared.words.Vote.{Vote}
use Rattle.dtx_values.specs.declared.words.Vote.TheVariants.{Yes, No, Done as VoteDone}
use Rattle.dtx_values.specs.Lines.{has_line}
use Rattle.dtx_values.specs.Clones.{is_open_block, is_open_rollback}
use Rattle.dtx_values.specs.Ends.{knows, may_abort_by_begin, may_abort_by_voter, same_connection, tag_of, was_got}
use Rattle.dtx_values.specs.Waves.{all_voted, is_over, next_ask, zeros_voted}
use Rattle.dtx_values.specs.Owners.{cause_of, commits_alone, owner_of}
use Rattle.dtx_values.specs.Class.{is_promotable}
use Rattle.dtx_values.specs.Support.{is_single}
use Rattle.dtx_values.specs.Vote.{is_no}
use Rattle.dtx_values.specs.Table.{voted}
use Rattle.dtx_model.specs.declared.listener.Listener.{Listener}
use Rattle.dtx_model.specs.declared.desk.Desk.{Desk}
use Rattle.dtx_model.specs.declared.desk.Stage.{Stage}
use Rattle.dtx_model.specs.declared.desk.Stage.TheVariants.{Idle, Active, Sole, Given, Answered as AnsweredStage, Aborted as AbortedStage, Recorded, Over, Unknown}
use Rattle.dtx_model.specs.declared.branch.Branch.{Branch}
use Rattle.dtx_model.specs.declared.waiting.Wanted.TheVariants.{Identifier, Place}
use Rattle.dtx_model.specs.Words.{has}
use Rattle.dtx_model.specs.Entries.{is_commit_message}
use Rattle.dtx_model.specs.Observed.{Observed, is_branch}
use Rattle.dtx_model.specs.Promotes.{identifier_of}
use Rattle.dtx_model.specs.Coordinated.{Coordinated, abort_block, accepts, decides, doubt_sends, ended_block, hears_one, is_one, is_sole, one_sends, opening_by, aborts, abort_sends, commit_sends, core_down, core_got, follow, has_aborted, is_active, is_prepared, is_recorded, is_undecided, may_log, opening_answer, still_hears, to, to_each, to_waiting}
use Rattle.dtx_model.specs.Waiting.{Waiter, is_place_of}
use Rattle.dtx_model.specs.Half.{Half, sees, is_promoting, to_up, veto_message, veto, veto_if, info, enlist_sent, by_manager, given, promoted_by, over, stands, is_gone, was_told, is_handed}
use Rattle.dtx_model.specs.Arrivals.{is_called_off, unless_decided, hand_over, place_given, told_abort, has_both_ends, ended_there, ended_by, begin_arrived, voter_arrived, enlist_arrived, again_arrived, arrived, local_down}
use Rattle.dtx_model.specs.Acts.{commit_message, tell, is_to_tell, promotable_in, under_way, commit_sent, ask_or, after_seal, commit_act, voter_act, promoted_act, sealed_act, asked_act, unasked_promotable, undecided_act, act_by, act_entries}
use Rattle.dtx_model.specs.Replies.{one_message, ack_on, conn_due, due_of, is_volatile_row, owner_entries, promote_entries, reply_entries, request_message, request_of, vote_message}
use Rattle.dtx_model.specs.Facts.{begin_promotion, durable_facts, facts_if, has_facts, is_late, local_facts, reaches, ticked, time_up}
use Rattle.dtx_model.specs.Answers.{class_of, limit_of}
use Rattle.dtx_model.specs.World.{World, has_answered_there, half, cut_upward, facts_at, gone_by, gone_decides, gone_unlinked, on_the_way, open_ones, reenlist_facts}
use Rattle.dtx_model.specs.Steps.{LogAnswer, Done, Full, StoppedNow, StoppedBefore, appended, coordinates, freed, restarted}
use Rattle.dtx_model.proofs.Bools.{and_right, or_right}
use Rattle.std.proofs.lemmas.Bool.{or_left}
use Rattle.dtx_values.specs.declared.number.TxNo.{TxNo}
use Rattle.dtx_values.specs.declared.script.Support.{Support}
use Rattle.dtx_model.proofs.Writes.{ByAct, ByCall, ByMessage, ByReply, IsClosed, Source, answers, is_giving, is_promotable_place, outcome_answers, OfLists, OfWritten, OfOutcomes}

-- what is found is there
place_found : (e : ℕ) (ws : List Waiter) (v : Waiter) → find (is_place_of e) ws ≡ Some v → is_promotable_place v ≡ true → has is_promotable_place ws ≡ true
place_found e [] v q t = absurd cc
place_found e (u ∷ us) v q t = step (is_place_of e u) q (λ r. place_found e us v r t)
  where
    step : (b : Bool) → (if b then Some u else find (is_place_of e) us) ≡ Some v → (find (is_place_of e) us ≡ Some v → has is_promotable_place us ≡ true)
        → (is_promotable_place u || has is_promotable_place us) ≡ true
    step true q f = let same : u ≡ v = cc in or_left (is_promotable_place u) (has is_promotable_place us) (ap is_promotable_place same ∙ t)
    step false q f = or_right (is_promotable_place u) (has is_promotable_place us) (f q)

implied : (a b : Bool) → (a ≡ true → b ≡ true) → (not a || b) ≡ true
implied true b f = f refl
implied false b f = refl

volatile_option : (x : EnlistOption) (b : Bool) → (not (is_promotable (class_of x)) || b) ≡ true
volatile_option PlainOption b = refl
volatile_option DuringPrepare b = refl

-- where phase zero is over, nothing is under way
over_none : (h : Half) → is_over h.seen.table h.seen.clones (under_way h) ≡ true → (under_way h == 0) ≡ true
unfolding is_over
over_none h t = and_right (zeros_voted h.seen.table && not (list_any is_open_block h.seen.clones)) (under_way h == 0) t

-- who is asked to promote is the promotable, while the promotion is under way
unasked_found : (h : Half) (e : EnlNo) → unasked_promotable h.seen ≡ Some e → (is_promoting h.seen ≡ true) × (promotable_in h.seen.table ≡ Some e)
unasked_found h e q = by (is_promoting h.seen) (not h.seen.promote_asked) q
  where
    by : (a b : Bool) → (if a && b then promotable_in h.seen.table else None) ≡ Some e → (a ≡ true) × (promotable_in h.seen.table ≡ Some e)
    by true true q = (refl, q)
    by true false q = absurd cc
    by false b q = absurd cc

-- What the local act does that isn't of a closed Q: P holds of what Q does, where a promotable is asked to promote, where it is asked for a single phase, and of the seal.
pub record OfKinds (h : Half) (Q P : List Entry → Type 0) : Type 0 where
  pub rest : (es : List Entry) → Q es → P es
  pub promote : (e : EnlNo) → h.seen.decided ≡ None → is_promoting h.seen ≡ true → promotable_in h.seen.table ≡ Some e → P (Asked e Promote ∷ [])
  pub single : (e : EnlNo) → h.seen.decided ≡ None → h.seen.sealed ≡ true → h.seen.promoted ≡ true → promotable_in h.seen.table ≡ Some e → P (Asked e AskSingle ∷ [])
  pub seal : h.seen.decided ≡ None → h.seen.sealed ≡ false → (under_way h == 0) ≡ true → P (Sealed ∷ commit_sent h.seen)

-- The coordinator's blocks.
module _ {P : List Entry → Type 0} (l : OfLists P) where
  holds_join : {x y : List Entry} → P x → P y → P (x ++ y)
  holds_join {x} {y} p q = l.join x y p q

  holds_cons : (x : Entry) {es : List Entry} → P (x ∷ []) → P es → P (x ∷ es)
  holds_cons x {es} p q = l.join (x ∷ []) es p q

  holds_if : (b : Bool) {x y : List Entry} → P x → P y → P (if b then x else y)
  holds_if true p q = p
  holds_if false p q = q

  holds_map : {A : Type 0} (f : A → Entry) → ((a : A) → P (f a ∷ [])) → (xs : List A) → P (map f xs)
  holds_map f p [] = l.none
  holds_map f p (x ∷ xs) = holds_cons (f x) (p x) (holds_map f p xs)

  holds_flat : {A : Type 0} (f : A → List Entry) → ((a : A) → P (f a)) → (xs : List A) → P (flat_map f xs)
  holds_flat f p [] = l.none
  holds_flat f p (x ∷ xs) = holds_join (p x) (holds_flat f p xs)

  pub of_to : (k : Coordinated) (c : Conn) (m : Message) → P (Sent c Down m ∷ []) → P (to k c m)
  of_to k c m p = holds_if (has (same_connection c) k.known) p l.none

  of_each : (k : Coordinated) (m : Message) (ds : List Desk) → ((e : EnlNo) → P (Sent (Enl e) Down m ∷ [])) → P (to_each k m ds)
  of_each k m ds p = holds_flat (λ d. to k (Enl d.enlistment) m) (λ d. of_to k (Enl d.enlistment) m (p d.enlistment)) ds

  of_waiting : (k : Coordinated) (m : Message) → ((e : EnlNo) → P (Sent (Again e) Down m ∷ [])) → P (to_waiting k m)
  of_waiting k m p = holds_flat (λ e. to k (Again e) m) (λ e. of_to k (Again e) m (p e)) k.waits

  of_opening : (c : Conn) (good abort : Message) (refused : ℕ → Message) → P (Sent c Down good ∷ []) → P (Sent c Down abort ∷ []) → ((n : ℕ) → P (Sent c Down (refused n) ∷ [])) → (s : Stage) (b : Bool)
      → P (Sent c Down (opening_by s b good abort refused) ∷ [])
  of_opening c good abort refused p q r AbortedStage b = q
  of_opening c good abort refused p q r Unknown b = r 2
  of_opening c good abort refused p q r Over b = r 2
  of_opening c good abort refused p q r Active true = r 1
  of_opening c good abort refused p q r Active false = p
  of_opening c good abort refused p q r Idle b = r 1
  of_opening c good abort refused p q r Sole b = r 1
  of_opening c good abort refused p q r Given b = r 1
  of_opening c good abort refused p q r AnsweredStage b = r 1
  of_opening c good abort refused p q r Recorded b = r 1

  -- what it sends where it aborts, and where it recorded the commit
  pub of_abort_sends : (k : Coordinated) → OfOutcomes P → P (abort_sends k)
  of_abort_sends k f =
      holds_join (holds_join (holds_join (of_to k Begin BeginAborted (f Begin BeginAborted refl refl)) (holds_if k.no l.none (of_to k Voter VoterAbort (f Voter VoterAbort refl refl))))
      (of_each k EnlistAbort (filter (λ d. still_hears d.ballot) k.desks) (λ e. f (Enl e) EnlistAbort refl refl))) (of_waiting k ReenlistAborted (λ e. f (Again e) ReenlistAborted refl refl))

  pub of_commit_sends : (k : Coordinated) → OfOutcomes P → P (commit_sends k)
  of_commit_sends k f =
      holds_join (holds_join (holds_join (of_to k Begin BeginCommitted (f Begin BeginCommitted refl refl)) (of_to k Voter VoterCommit (f Voter VoterCommit refl refl)))
      (of_each k EnlistCommit (filter (λ d. is_prepared d.ballot) k.desks) (λ e. f (Enl e) EnlistCommit refl refl))) (of_waiting k ReenlistCommitted (λ e. f (Again e) ReenlistCommitted refl refl))

  -- where its one enlistment committed, and where it is in doubt
  of_one_sends : (k : Coordinated) → OfOutcomes P → P (one_sends k)
  of_one_sends k f = holds_join (of_to k Begin BeginCommitted (f Begin BeginCommitted refl refl)) (of_to k Voter VoterCommit (f Voter VoterCommit refl refl))

  of_doubt_sends : (k : Coordinated) → OfOutcomes P → P (doubt_sends k)
  of_doubt_sends k f = holds_join (of_to k Begin BeginInDoubt (f Begin BeginInDoubt refl refl)) (of_to k Voter VoterInDoubt (f Voter VoterInDoubt refl refl))

  of_abort_block : (k : Coordinated) (x : Entry) → OfOutcomes P → P (abort_block k x)
  of_abort_block k x f = holds_if (aborts k x && is_undecided k.stage) (of_abort_sends (follow k x) f) l.none

  of_ended_block : (k : Coordinated) (c : Conn) (x : Entry) → OfOutcomes P → P (ended_block k c x)
  of_ended_block k (Enl e) x f = holds_if (decides k e.value) (of_doubt_sends (follow k x) f) (of_abort_block k x f)
  of_ended_block k Begin x f = of_abort_block k x f
  of_ended_block k Voter x f = of_abort_block k x f
  of_ended_block k (Again e) x f = of_abort_block k x f

  -- after a message, and after an end
  pub of_core_got : (id : ℕ) (k : Coordinated) (c : Conn) (m : Message) → ((d : Conn) (n : Message) → has_line d Down n ≡ true → answers c m n ≡ true → P (Sent d Down n ∷ [])) → P (core_got id k c m)
  unfolding core_got
  of_core_got id k Begin BeginBegin f = of_to (follow k (Got Begin Up BeginBegin)) Begin (BeginBegun id) (f Begin (BeginBegun id) refl refl)
  of_core_got id k Voter (VoterVoter u) f =
      of_to (follow k (Got Voter Up (VoterVoter u))) Voter (opening_answer k VoterCreated VoterAbort VoterRefused)
      (of_opening Voter VoterCreated VoterAbort VoterRefused (f Voter VoterCreated refl refl) (f Voter VoterAbort refl refl) (λ n. f Voter (VoterRefused n) refl refl) k.stage k.commit)
  of_core_got id k (Enl e) (EnlistEnlist i) f =
      of_to (follow k (Got (Enl e) Up (EnlistEnlist i))) (Enl e) (opening_answer k EnlistEnlisted EnlistAbort EnlistRefused)
      (of_opening (Enl e) EnlistEnlisted EnlistAbort EnlistRefused (f (Enl e) EnlistEnlisted refl refl) (f (Enl e) EnlistAbort refl refl) (λ n. f (Enl e) (EnlistRefused n) refl refl) k.stage k.commit)
  of_core_got id k Begin BeginCommit f =
      holds_if (is_active k.stage) (holds_join (of_to k Voter VoterAsk (f Voter VoterAsk refl refl)) (of_each k EnlistPrepare k.desks (λ e. f (Enl e) EnlistPrepare refl refl))) l.none
  of_core_got id k (Again e) (ReenlistReenlist i) f =
      holds_if (is_recorded k.stage) (of_to (follow k (Got (Again e) Up (ReenlistReenlist i))) (Again e) ReenlistCommitted (f (Again e) ReenlistCommitted refl refl))
      (holds_if (has_aborted k.stage) (of_to (follow k (Got (Again e) Up (ReenlistReenlist i))) (Again e) ReenlistAborted (f (Again e) ReenlistAborted refl refl)) l.none)
  of_core_got id k Begin BeginCommitOne f =
      holds_if (not (accepts k)) l.none
      (holds_if (is_one k.desks) (of_to k Voter VoterAsk (f Voter VoterAsk refl refl)) (of_abort_sends (follow k (Got Begin Up BeginCommitOne)) (λ d n t a. f d n t (outcome_answers Begin BeginCommitOne n a))))
  of_core_got id k Voter VoterYes f = holds_if (is_sole k.stage) (of_each k EnlistSingle k.desks (λ e. f (Enl e) EnlistSingle refl refl)) l.none
  of_core_got id k (Enl e) EnlistOneCommitted f = holds_if (decides k e.value) (of_one_sends k (λ d n t a. f d n t (outcome_answers (Enl e) EnlistOneCommitted n a))) l.none
  of_core_got id k (Enl e) EnlistOneInDoubt f = holds_if (decides k e.value) (of_doubt_sends k (λ d n t a. f d n t (outcome_answers (Enl e) EnlistOneInDoubt n a))) l.none
  of_core_got id k (Enl e) EnlistOneAborted f =
      holds_if (hears_one k e.value) (of_abort_sends (follow k (Got (Enl e) Up EnlistOneAborted)) (λ d n t a. f d n t (outcome_answers (Enl e) EnlistOneAborted n a))) l.none
  of_core_got id k c m f =
      holds_if (has_line c Up m) (of_abort_block k (Got c Up m) (λ d n t a. f d n t (outcome_answers c m n a))) (of_ended_block k c (Got c Up m) (λ d n t a. f d n t (outcome_answers c m n a)))

  pub of_core_down : (k : Coordinated) (c : Conn) → OfOutcomes P → P (core_down k c)
  unfolding core_down
  of_core_down k c f = of_ended_block k c (Ended c Up) f

  -- its act, and its restart
  pub of_appended : (k : Coordinated) (a : LogAnswer) → OfOutcomes P → P (Logged ∷ []) → P (LogFull ∷ []) → P (Stopped ∷ [])
      → P (appended k a)
  of_appended k Done f g n s = holds_cons Logged g (of_commit_sends (follow k Logged) f)
  of_appended k Full f g n s = holds_cons LogFull n (of_abort_sends (follow k LogFull) f)
  of_appended k StoppedNow f g n s = s
  of_appended k StoppedBefore f g n s = s

  pub of_freed : (a : LogAnswer) → P (Freed ∷ []) → P (Stopped ∷ []) → P (freed a)
  of_freed Done f s = f
  of_freed Full f s = l.none
  of_freed StoppedNow f s = s
  of_freed StoppedBefore f s = s

  pub of_coordinates : (k : Coordinated) (a : LogAnswer) → OfOutcomes P → P (Logged ∷ []) → P (LogFull ∷ []) → P (Freed ∷ [])
      → P (Stopped ∷ []) → P (coordinates k a)
  of_coordinates k a f g n r s = holds_if (may_log k) (of_appended k a f g n s) (of_freed a r s)

  pub of_restarted : (b found : Bool) → P (Stopped ∷ []) → P (Restarted found ∷ []) → P (restarted b found)
  of_restarted true found s r = r
  of_restarted false found s r = holds_cons Stopped s r

module _ {P : List Waiter → List Entry → Type 0} (w : IsClosed P) where
  -- What the local side writes in more than one of its steps.
  of_up : {ws : List Waiter} (o : Observed) (c : Conn) (m : Message) → P ws (Sent c Up m ∷ []) → P ws (to_up o c m)
  of_up {ws} o c m p = holds_if (w.lists ws) (knows c o.ends) p (w.lists ws).none

  of_message : {ws : List Waiter} (o : Observed) → P ws (veto_message o)
  of_message {ws} o = holds_if (w.lists ws) (may_abort_by_begin o.ends) (w.abort ws) (holds_if (w.lists ws) (may_abort_by_voter o.ends) (w.no ws) (w.lists ws).none)

  pub of_veto : (h : Half) → P h.waits (veto h)
  unfolding veto
  of_veto h = holds_join (w.lists h.waits) (w.decides h Aborted) (of_message h.seen)

  pub of_veto_if : (b : Bool) (h : Half) → P h.waits (veto_if b h)
  of_veto_if true h = of_veto h
  of_veto_if false h = (w.lists h.waits).none

  pub of_unless : (h : Half) {es : List Entry} → P h.waits es → P h.waits (unless_decided h es)
  of_unless h p = holds_if (w.lists h.waits) (is_some h.seen.decided) (w.lists h.waits).none p

  -- after an end
  of_ended_there : (h : Half) → P h.waits (ended_there h)
  of_ended_there h = holds_if (w.lists h.waits) (not h.seen.yes) (of_veto h) (holds_if (w.lists h.waits) (has_both_ends h.seen) (w.decides h InDoubt) (w.lists h.waits).none)

  of_ended : (h : Half) (c : Conn) → P h.waits (ended_by h c)
  of_ended h Begin = of_unless h (of_ended_there h)
  of_ended h Voter = of_unless h (of_ended_there h)
  of_ended h (Enl e) = of_unless h (holds_if (w.lists h.waits) (h.seen.yes || voted e.value h.seen.table) (w.lists h.waits).none (of_veto h))
  of_ended h (Again e) = (w.lists h.waits).none

  pub of_local_down : (h : Half) (c : Conn) → P h.waits (local_down h c)
  unfolding local_down
  of_local_down h c = of_ended (sees h (Ended c Down)) c

  -- after a message: the handover and what ends it
  of_given : {ws : List Waiter} (t : ℕ) (v : Waiter) → ((n u : ℕ) → P ws (Answered n (Id u) ∷ [])) → ((e : EnlNo) (i : Info) → P ws (Sent (Enl e) Up (EnlistEnlist i) ∷ [])) → P ws (given t v)
  of_given {ws} t (n, Identifier) p q = p n (identifier_of t)
  of_given {ws} t (n, Place e r c) p q = q e (info t e r)

  of_promoted : {ws : List Waiter} (t : ℕ) (c : Option Cause) → ((u : ℕ) (c : Cause) → P ws (Promoted u c ∷ [])) → P ws (promoted_by t c)
  of_promoted {ws} t (Some c) p = p (identifier_of t) c
  of_promoted {ws} t None p = (w.lists ws).none

  of_over : (t : ℕ) (h : Half) (ws : List Waiter) (d : Conn) (m : Message) → is_giving d m ≡ true → OfWritten (ByMessage ws d m) (P h.waits) → P h.waits (over t h)
  of_over t h ws d m g f =
      holds_join (w.lists h.waits) (of_promoted t h.seen.cause (λ u c. f (Promoted u c) g)) (holds_flat (w.lists h.waits) (given t) (λ v. of_given t v (λ n u. f (Answered n (Id u)) g) (λ e i. f (Sent (Enl e) Up (EnlistEnlist i)) g)) h.waits)

  of_manager : {ws : List Waiter} (f : EnlNo → RmNo → List Entry) → ((e : EnlNo) (r : RmNo) → P ws (f e r)) → (ms : List (EnlNo × RmNo)) (e : EnlNo) → P ws (by_manager f ms e)
  of_manager {ws} f p [] e = (w.lists ws).none
  of_manager {ws} f p (m ∷ ms) e = holds_if (w.lists ws) (e.value == m.0.value) (p e m.1) (of_manager f p ms e)

  of_hand_over : (t : ℕ) (h : Half) (ws : List Waiter) (d : Conn) (m : Message) → is_giving d m ≡ true → OfWritten (ByMessage ws d m) (P h.waits) → (o : Option EnlNo) → P h.waits (hand_over t h o)
  of_hand_over t h ws d m g f (Some e) = of_manager (enlist_sent t) (λ e r. f (Sent (Enl e) Up (EnlistEnlist (info t e r))) g) h.managers e
  of_hand_over t h ws d m g f None = of_over t h ws d m g f

  of_placed : (ws : List Waiter) (e : EnlNo) → OfWritten (ByMessage ws (Enl e) EnlistEnlisted) (P ws) → (v : Option Waiter) → find (is_place_of e.value) ws ≡ v → P ws (place_given v)
  of_placed ws e f (Some (n, Place i r c)) q =
      holds_cons (w.lists ws) (Enlisted i c) (f (Enlisted i c) (implied (is_promotable c) (has is_promotable_place ws) (λ t. place_found e.value ws (n, Place i r c) q t))) (f (Answered n Fine) refl)
  of_placed ws e f (Some (n, Identifier)) q = (w.lists ws).none
  of_placed ws e f None q = (w.lists ws).none

  of_told_abort : (h : Half) (e : EnlNo) → P h.waits (Told (Member e) Aborted ∷ []) → P h.waits (told_abort h e)
  of_told_abort h e p = holds_if (w.lists h.waits) (stands h.seen e.value && not (was_told h.seen e.value) && not (is_gone h.seen e.value)) p (w.lists h.waits).none

  of_begin : (t : ℕ) (h : Half) (m : Message) → P h.waits (Sent Voter Up (VoterVoter (identifier_of t)) ∷ []) → P h.waits (begin_arrived t h m)
  of_begin t h (BeginBegun u) p = holds_if (w.lists h.waits) (is_some h.seen.decided) (of_up h.seen Begin BeginAbort (w.abort h.waits)) (holds_if (w.lists h.waits) (is_promoting h.seen) p (w.lists h.waits).none)
  of_begin t h BeginCommitted p = of_unless h (w.decides h Committed)
  of_begin t h BeginAborted p = of_unless h (w.decides h Aborted)
  of_begin t h BeginInDoubt p = of_unless h (w.decides h InDoubt)
  of_begin t h _ p = of_ended h Begin

  of_voter : (t : ℕ) (h : Half) (m : Message) → OfWritten (ByMessage h.waits Voter m) (P h.waits) → P h.waits (voter_arrived t h m)
  of_voter t h VoterCreated f = of_unless h (holds_if (w.lists h.waits) (is_promoting h.seen) (of_hand_over t h h.waits Voter VoterCreated refl f h.seen.handover) (w.lists h.waits).none)
  of_voter t h (VoterRefused cause) f = of_unless h (of_veto h)
  of_voter t h VoterAsk f = (w.lists h.waits).none
  of_voter t h VoterCommit f = of_unless h (w.decides h Committed)
  of_voter t h VoterAbort f = of_unless h (w.decides h Aborted)
  of_voter t h VoterInDoubt f = of_unless h (w.decides h InDoubt)
  of_voter t h _ f = of_ended h Voter

  of_enlist : (t : ℕ) (h : Half) (e : EnlNo) (m : Message) → OfWritten (ByMessage h.waits (Enl e) m) (P h.waits) → P h.waits (enlist_arrived t h e m)
  of_enlist t h e EnlistEnlisted f =
      of_unless h
      (holds_if (w.lists h.waits) (is_promoting h.seen && is_handed h.seen.handover e.value) (of_over t h h.waits (Enl e) EnlistEnlisted refl f)
      (holds_if (w.lists h.waits) h.seen.promoted (of_placed h.waits e f (find (is_place_of e.value) h.waits) refl) (w.lists h.waits).none))
  of_enlist t h e (EnlistRefused cause) f = of_unless h (of_veto h)
  of_enlist t h e EnlistPrepare f = f (Asked e Prepare) refl
  of_enlist t h e EnlistCommit f = f (Told (Member e) Committed) refl
  of_enlist t h e EnlistSingle f = holds_if (w.lists h.waits) (is_called_off h.seen.decided || is_gone h.seen e.value) (w.lists h.waits).none (f (Handed e) refl)
  of_enlist t h e EnlistAbort f = holds_join (w.lists h.waits) (of_told_abort h e (f (Told (Member e) Aborted) refl)) (of_unless h (w.decides h Aborted))
  of_enlist t h e _ f = of_ended h (Enl e)

  of_again : (h : Half) (e : EnlNo) (m : Message) → OfWritten (ByMessage h.waits (Again e) m) (P h.waits) → P h.waits (again_arrived h e m)
  of_again h e ReenlistCommitted f = f (Told (Member e) Committed) refl
  of_again h e ReenlistAborted f = f (Told (Member e) Aborted) refl
  of_again h e _ f = of_ended h (Again e)

  pub of_arrived : (t : ℕ) (h : Half) (c : Conn) (m : Message) → OfWritten (ByMessage h.waits c m) (P h.waits) → P h.waits (arrived t h c m)
  of_arrived t h Begin m f = of_begin t h m (f (Sent Voter Up (VoterVoter (identifier_of t))) refl)
  of_arrived t h Voter m f = of_voter t h m f
  of_arrived t h (Enl e) m f = of_enlist t h e m f
  of_arrived t h (Again e) m f = of_again h e m f

  -- The local act.
  pub of_tell : (ws : List Waiter) (x : Outcome) (l : Option Listener) (o : Option Outcome) → ((e : EnlNo) → P ws (Told (Member e) x ∷ [])) → P ws (Told Client x ∷ []) → P ws (tell x l o)
  of_tell ws x (Some l) o p q = p l.enlistment
  of_tell ws x None (Some y) p q = (w.lists ws).none
  of_tell ws x None None p q = q

  pub of_commit_act : (h : Half) (e : Option EnlNo) → ((e : EnlNo) → P h.waits (Handed e ∷ [])) → P h.waits (commit_act h e)
  of_commit_act h (Some e) p = p e
  of_commit_act h None p = w.decides h Committed

  pub of_commit_sent : (ws : List Waiter) (o : Observed) → ((m : Message) → is_commit_message m ≡ true → P ws (Sent Begin Up m ∷ [])) → P ws (commit_sent o)
  of_commit_sent ws o p = holds_if (w.lists ws) (o.promoted && not (is_some (promotable_in o.table))) (of_up o Begin (commit_message o) (p (commit_message o) (by (commits_alone o.table)))) (w.lists ws).none
    where
      by : (b : Bool) → is_commit_message (if b then BeginCommitOne else BeginCommit) ≡ true
      by true = refl
      by false = refl

  module _ (Q : List Entry → Type 0) (h : Half) (f : OfWritten (ByAct (is_some h.seen.decided)) (P h.waits)) (g : OfKinds h (P h.waits) Q) where
    of_after_seal : {es : List Entry} → P h.waits es → P h.waits (after_seal h es)
    of_after_seal {es} p = by (next_ask h.seen.table false)
      where
        by : (e : Option EnlNo) → P h.waits (ask_or e (all_voted h.seen.table) es)
        by (Some e) = f (Asked e Prepare) refl
        by None = holds_if (w.lists h.waits) (all_voted h.seen.table) p (w.lists h.waits).none

    of_voter_act : P h.waits (voter_act h)
    of_voter_act =
        holds_if (w.lists h.waits) (was_got Voter (tag_of VoterAsk) h.seen.ends)
        (of_after_seal (holds_if (w.lists h.waits) h.seen.yes (w.lists h.waits).none (holds_cons (w.lists h.waits) LocalYes (f LocalYes refl) (of_up h.seen Voter VoterYes (f (Sent Voter Up VoterYes) refl))))) (w.lists h.waits).none

    of_promoted_act : h.seen.decided ≡ None → h.seen.sealed ≡ true → h.seen.promoted ≡ true → (o : Option EnlNo) → promotable_in h.seen.table ≡ o → Q (promoted_act h o)
    of_promoted_act d s p None q = g.rest (voter_act h) of_voter_act
    of_promoted_act d s p (Some e) q = by h.seen.single_asked
      where
        by : (b : Bool) → Q (if b then voter_act h else Asked e AskSingle ∷ [])
        by true = g.rest (voter_act h) of_voter_act
        by false = g.single e d s p q

    of_sealed_act : h.seen.decided ≡ None → h.seen.sealed ≡ true → Q (sealed_act h)
    of_sealed_act d s = by h.seen.promoted refl
      where
        local : List Entry
        local = after_seal h (if is_some h.seen.handed then [] else commit_act h (owner_of h.seen.table))

        by : (b : Bool) → h.seen.promoted ≡ b → Q (if b then promoted_act h (promotable_in h.seen.table) else local)
        by true p = of_promoted_act d s p (promotable_in h.seen.table) refl
        by false p = g.rest local (of_after_seal (holds_if (w.lists h.waits) (is_some h.seen.handed) (w.lists h.waits).none (of_commit_act h (owner_of h.seen.table) (λ e. f (Handed e) refl))))

    of_zero_act : h.seen.decided ≡ None → h.seen.sealed ≡ false → (e : Option EnlNo) (o : Bool) → (o ≡ true → (under_way h == 0) ≡ true) → Q (ask_or e o (Sealed ∷ commit_sent h.seen))
    of_zero_act d s (Some e) o u = g.rest (Asked e Prepare ∷ []) (f (Asked e Prepare) refl)
    of_zero_act d s None true u = g.seal d s (u refl)
    of_zero_act d s None false u = g.rest [] (w.lists h.waits).none

    of_asked_act : h.seen.decided ≡ None → Q (asked_act h)
    of_asked_act d = by h.seen.sealed refl
      where
        over_now : Bool
        over_now = is_over h.seen.table h.seen.clones (under_way h)

        by : (b : Bool) → h.seen.sealed ≡ b → Q (if b then sealed_act h else ask_or (next_ask h.seen.table true) over_now (Sealed ∷ commit_sent h.seen))
        by true s = of_sealed_act d s
        by false s = of_zero_act d s (next_ask h.seen.table true) over_now (λ t. over_none h t)

    of_undecided_act : h.seen.decided ≡ None → (o : Option EnlNo) → unasked_promotable h.seen ≡ o → Q (undecided_act h o)
    of_undecided_act d (Some e) q = let found = unasked_found h e q in g.promote e d found.0 found.1
    of_undecided_act d None q = by h.seen.commit
      where
        by : (b : Bool) → Q (if b then asked_act h else [])
        by true = of_asked_act d
        by false = g.rest [] (w.lists h.waits).none

    -- each kind
    pub of_act : Q (act_entries h)
    unfolding act_entries
    of_act = by h.seen.decided refl
      where
        by : (o : Option Outcome) → h.seen.decided ≡ o → Q (act_by o h)
        by (Some x) d =
            g.rest (act_by (Some x) h)
            (of_tell h.waits x (find (is_to_tell h.seen x) h.seen.listeners) h.seen.told_client (λ e. f (Told (Member e) x) (ap is_some d)) (f (Told Client x) (ap is_some d)))
        by None d = of_undecided_act d (unasked_promotable h.seen) refl

  -- the act as a whole
  pub of_whole_act : (h : Half) → OfWritten (ByAct (is_some h.seen.decided)) (P h.waits) → ((e : EnlNo) → P h.waits (Asked e Promote ∷ [])) → ((e : EnlNo) → P h.waits (Asked e AskSingle ∷ [])) → P h.waits (Sealed ∷ [])
      → ((m : Message) → is_commit_message m ≡ true → P h.waits (Sent Begin Up m ∷ [])) → P h.waits (act_entries h)
  of_whole_act h f p q s c =
      of_act (P h.waits) h f (record { rest = λ es r. r; promote = λ e d a b. p e; single = λ e d a b i. q e; seal = λ d a b. holds_cons (w.lists h.waits) Sealed s (of_commit_sent h.waits h.seen c) })

  -- Replies. An acknowledgement is due on e or x alone.
  pub of_ack : (ws : List Waiter) (o : Observed) (c : Option Conn) → ((e : EnlNo) → P ws (Sent (Enl e) Up EnlistAck ∷ [])) → ((e : EnlNo) → P ws (Sent (Again e) Up ReenlistAck ∷ [])) → P ws (ack_on o c)
  of_ack ws o (Some Begin) p q = (w.lists ws).none
  of_ack ws o (Some Voter) p q = (w.lists ws).none
  of_ack ws o (Some (Enl e)) p q = of_up o (Enl e) EnlistAck (p e)
  of_ack ws o (Some (Again e)) p q = of_up o (Again e) ReenlistAck (q e)
  of_ack ws o None p q = (w.lists ws).none

  of_vote_message : {ws : List Waiter} (s : Source) → OfWritten s (P ws) → (e : EnlNo) (v : Vote) → P ws (Sent (Enl e) Up (vote_message v) ∷ [])
  of_vote_message {ws} s f e Yes = f (Sent (Enl e) Up EnlistPrepared) refl
  of_vote_message {ws} s f e No = f (Sent (Enl e) Up EnlistNo) refl
  of_vote_message {ws} s f e VoteDone = f (Sent (Enl e) Up EnlistReadonly) refl

  of_request_message : {ws : List Waiter} → P ws (Sent Begin Up BeginCommit ∷ []) → (x : Outcome) → P ws (Sent Begin Up (request_message x) ∷ [])
  of_request_message {ws} p Committed = p
  of_request_message {ws} p Aborted = (w.abort ws)
  of_request_message {ws} p InDoubt = p

  of_one_message : {ws : List Waiter} (x y : Outcome) → OfWritten (ByReply (OwnerReply x)) (P ws) → (e : EnlNo) → P ws (Sent (Enl e) Up (one_message y) ∷ [])
  of_one_message x Committed f e = f (Sent (Enl e) Up EnlistOneCommitted) refl
  of_one_message x Aborted f e = f (Sent (Enl e) Up EnlistOneAborted) refl
  of_one_message x InDoubt f e = f (Sent (Enl e) Up EnlistOneInDoubt) refl

  of_owner : (h : Half) (e : EnlNo) (x : Outcome) (n : Option Note) → OfWritten (ByReply (OwnerReply x)) (P h.waits) → P h.waits (owner_entries h e x n)
  of_owner h e x (Some Single) f =
      holds_cons (w.lists h.waits) (Requested e (request_of x)) (f (Requested e (request_of x)) refl) (of_up h.seen Begin (request_message x) (of_request_message (f (Sent Begin Up BeginCommit) refl) x))
  of_owner h e x _ f =
      holds_cons (w.lists h.waits) (OwnerAnswered e x) (f (OwnerAnswered e x) refl)
      (holds_if (w.lists h.waits) h.seen.promoted (of_up h.seen (Enl e) (one_message x) (of_one_message x x f e)) (w.decides h x))

  of_promote : (h : Half) (e : EnlNo) (ok : Bool) → OfWritten (ByReply (Promotes ok)) (P h.waits) → P h.waits (promote_entries h e ok)
  of_promote h e true f = holds_cons (w.lists h.waits) (PromoteReply e true) (f (PromoteReply e true) refl) (f (Sent Begin Up BeginBegin) refl)
  of_promote h e false f = holds_cons (w.lists h.waits) (PromoteReply e false) (f (PromoteReply e false) refl) (of_veto (sees h (PromoteReply e false)))

  pub of_reply : (h : Half) (e : EnlNo) (r : Reply) → OfWritten (ByReply r) (P h.waits) → P h.waits (reply_entries h e r)
  unfolding reply_entries
  of_reply h e (VoteReply v) f =
      holds_cons (w.lists h.waits) (Voted e v) (f (Voted e v) refl)
      (holds_if (w.lists h.waits) (is_volatile_row (sees h (Voted e v)).seen e.value) (of_veto_if (is_no v) (sees h (Voted e v)))
      (of_up (sees h (Voted e v)).seen (Enl e) (vote_message v) (of_vote_message (ByReply (VoteReply v)) f e v)))
  of_reply h e (Promotes ok) f = of_promote h e ok f
  of_reply h e (OwnerReply x) f = of_owner h e x (due_of h.seen e.value) f
  of_reply h e Ack f = holds_cons (w.lists h.waits) (Acked e) (f (Acked e) refl) (of_ack h.waits h.seen (conn_due h.seen e.value) (λ e. f (Sent (Enl e) Up EnlistAck) refl) (λ e. f (Sent (Again e) Up ReenlistAck) refl))

  -- Calls.
  pub of_begin_promotion : (h : Half) (c : Option Cause) → ((c : Cause) → P h.waits (Promoting c ∷ [])) → P h.waits (Sent Begin Up BeginBegin ∷ []) → P h.waits (begin_promotion h c)
  of_begin_promotion h (Some c) p q = holds_cons (w.lists h.waits) (Promoting c) (p c) (holds_if (w.lists h.waits) (has (λ x. is_promotable x.class) h.seen.table) (w.lists h.waits).none q)
  of_begin_promotion h None p q = (w.lists h.waits).none

  of_durable : (t : ℕ) (h : Half) (u : TxNo) (e : EnlNo) (r : RmNo) (s : Support) (single : Bool) (a : Answer) → OfWritten (ByCall (Durable u e r s)) (P h.waits) → P h.waits (durable_facts t h e r single a)
  of_durable t h u e r s single Wait f =
      holds_if (w.lists h.waits) h.seen.promoted (f (Sent (Enl e) Up (EnlistEnlist (info t e r))) refl)
      (holds_if (w.lists h.waits) (is_promoting h.seen) (w.lists h.waits).none (of_begin_promotion h (cause_of h.seen.table single) (λ c. f (Promoting c) refl) (f (Sent Begin Up BeginBegin) refl)))
  of_durable t h u e r s single _ f = f (Enlisted e DurableSingle) refl

  of_time_up : (h : Half) → P h.waits (Late ∷ []) → P h.waits (TimedOut ∷ []) → P h.waits (time_up h)
  of_time_up h p q = holds_if (w.lists h.waits) (is_late h.seen) p (holds_cons (w.lists h.waits) TimedOut q (of_veto h))

  pub of_facts : (t : ℕ) (h : Half) (c : Call) (a : Answer) → OfWritten (ByCall c) (P h.waits) → P h.waits (local_facts t h c a)
  of_facts t h (BeginCall u d) a f = f (Began (limit_of d)) refl
  of_facts t h (Volatile u e x v) a f = f (Enlisted e (class_of x)) (volatile_option x false)
  of_facts t h (Durable u e r s) a f = of_durable t h u e r s (is_single s) a f
  of_facts t h (Promotable u e r v x p) a f = holds_cons (w.lists h.waits) (Enlisted e PromotableClass) (f (Enlisted e PromotableClass) refl) (f (Init e) refl)
  of_facts t h (Clone u c k) a f = f (Cloned c k) refl
  of_facts t h (Complete c) a f = f (Completed c) refl
  of_facts t h (Commit u) a f = holds_cons (w.lists h.waits) CommitAsked (f CommitAsked refl) (of_veto_if (has is_open_rollback h.seen.clones) (sees h CommitAsked))
  of_facts t h (Rollback u) a f = holds_cons (w.lists h.waits) RollbackAsked (f RollbackAsked refl) (of_veto (sees h RollbackAsked))
  of_facts t h (Marshal u) a f = holds_if (w.lists h.waits) (is_promoting h.seen) (w.lists h.waits).none (of_begin_promotion h (Some MarshalCause) (λ c. f (Promoting c) refl) (f (Sent Begin Up BeginBegin) refl))
  of_facts t h (Tick u n) a f =
      holds_cons (w.lists h.waits) (Clock (ticked h.seen.clock n)) (f (Clock (ticked h.seen.clock n)) refl)
      (holds_if (w.lists h.waits) (reaches h.seen.limit h.seen.clock (ticked h.seen.clock n)) (of_time_up h (f Late refl) (f TimedOut refl)) (w.lists h.waits).none)
  of_facts t h _ a f = (w.lists h.waits).none

  pub of_gone_decides : (h : Half) (e : EnlNo) → P h.waits (gone_decides h e)
  of_gone_decides h e = holds_if (w.lists h.waits) (has_answered_there h.seen e.value) (w.lists h.waits).none (holds_if (w.lists h.waits) (is_some h.seen.decided || voted e.value h.seen.table) (w.lists h.waits).none (holds_if (w.lists h.waits) (is_handed h.seen.handed e.value) (w.decides h InDoubt) (of_veto h)))

  pub of_gone_unlinked : (h : Half) (e : EnlNo) → P h.waits (LostEntry e ∷ []) → P h.waits (gone_unlinked h e)
  of_gone_unlinked h e p = holds_cons (w.lists h.waits) (LostEntry e) p (of_gone_decides (sees h (LostEntry e)) e)

  pub of_cuts : (ws : List Waiter) (v : World) (cs : List Conn) → ((c : Conn) (n m : ℕ) → P ws (Cut c n m ∷ [])) → P ws (map (cut_upward v.past) cs)
  of_cuts ws v cs p = holds_map (w.lists ws) (cut_upward v.past) (λ c. p c (on_the_way c Up v.past) 0) cs

  of_gone : (v : World) (e : EnlNo) (cs : List Conn) → P (half v).waits (LostEntry e ∷ []) → ((c : Conn) (n m : ℕ) → P (half v).waits (Cut c n m ∷ [])) → P (half v).waits (gone_by v e cs)
  of_gone v e [] p q = of_gone_unlinked (half v) e p
  of_gone v e (c ∷ cs) p q = holds_cons (w.lists (half v).waits) (LostEntry e) p (of_cuts (half v).waits v (c ∷ cs) q)

  pub of_reenlist : (ws : List Waiter) (t : ℕ) (b : Option Branch) → ((e : EnlNo) → P ws (Reenlisted e ∷ [])) → ((e : EnlNo) (i : Info) → P ws (Sent (Again e) Up (ReenlistReenlist i) ∷ [])) → P ws (reenlist_facts t b)
  of_reenlist ws t (Some b) p q = holds_cons (w.lists ws) (Reenlisted b.enlistment) (p b.enlistment) (q b.enlistment (info t b.enlistment b.manager))
  of_reenlist ws t None p q = (w.lists ws).none

  of_facts_at : (t : ℕ) (v : World) (c : Call) (a : Answer) → OfWritten (ByCall c) (P (half v).waits) → ((c : Conn) (n m : ℕ) → P (half v).waits (Cut c n m ∷ [])) → ((r : RmNo) → P (half v).waits (RecoveredEntry r ∷ []))
      → P (half v).waits (facts_at t v c a)
  of_facts_at t v (Lose u c n m) a f p q = p c (min n (on_the_way c Up v.past)) (min m (on_the_way c Down v.past))
  of_facts_at t v (Gone e) a f p q = of_gone v e (open_ones v e) (f (LostEntry e) refl) p
  of_facts_at t v (Reenlist e) a f p q = of_reenlist (half v).waits t (find (is_branch e.value) (half v).seen.branches) (λ e. f (Reenlisted e) refl) (λ e i. f (Sent (Again e) Up (ReenlistReenlist i)) refl)
  of_facts_at t v (Recovered u r) a f p q = q r
  of_facts_at t v c a f p q = of_facts t (half v) c a f

  -- what stands after the entry of the call
  pub of_called : (t : ℕ) (v : World) (c : Call) (a : Answer) → OfWritten (ByCall c) (P (half v).waits) → ((c : Conn) (n m : ℕ) → P (half v).waits (Cut c n m ∷ [])) → ((r : RmNo) → P (half v).waits (RecoveredEntry r ∷ []))
      → P (half v).waits (facts_if (has_facts a) (facts_at t v c a))
  of_called t v c a f p q = by (has_facts a)
    where
      by : (b : Bool) → P (half v).waits (facts_if b (facts_at t v c a))
      by true = of_facts_at t v c a f p q
      by false = (w.lists (half v).waits).none
