-- The block of each step pays what its entries demand. Three arrivals need a fact of what stands before them: CREATED, ENLISTED and COMMITTED.
use Rattle.std.proofs.Common.{◌≡◌, ℕ, ◌==◌, Bool, true, false, ◌&&◌, ◌||◌, List, [], ◌∷◌, ◌++◌, Option, Some, None, refl, ◌∙◌, ap, sym, subst}
use Rattle.std.specs.Prelude.{find, is_some, not, if◌then◌else◌}
use Rattle.std.specs.List.{flat_map}
use Rattle.std.proofs.lemmas.Bool.{or_left}
use Rattle.dtx_values.specs.declared.call.Call.{Call}
use Rattle.dtx_values.specs.declared.call.Call.TheVariants.{Durable, Marshal}
use Rattle.dtx_values.specs.declared.entry.Answer.{Answer}
use Rattle.dtx_values.specs.declared.entry.Answer.TheVariants.{Fine, True, Wait}
use Rattle.dtx_values.specs.declared.entry.Ask.TheVariants.{Prepare, Promote, Single as AskSingle}
use Rattle.dtx_values.specs.declared.entry.Entry.{Entry}
use Rattle.dtx_values.specs.declared.entry.Entry.TheVariants.{Acked, Asked, Called, Decided, Enlisted, Handed, Got, Down as Ended, LocalYes, LogFull, OwnerAnswered, Promoting, PromoteReply, PromotionFailed, Requested, Sealed, Sent, Stopped, Voted}
use Rattle.dtx_values.specs.declared.message.Conn.{Conn}
use Rattle.dtx_values.specs.declared.message.Conn.TheVariants.{Begin, Voter, Enl}
use Rattle.dtx_values.specs.declared.message.Dir.{Dir}
use Rattle.dtx_values.specs.declared.message.Dir.TheVariants.{Up, Down}
use Rattle.dtx_values.specs.declared.message.Message.{Message}
use Rattle.dtx_values.specs.declared.message.Message.TheVariants.{BeginAbort, BeginBegin, BeginBegun, BeginCommit, BeginCommitOne, BeginCommitted, EnlistSingle, EnlistAbort, EnlistEnlist, EnlistEnlisted, EnlistPrepare, EnlistRefused, VoterAbort, VoterAsk, VoterCreated, VoterRefused, VoterVoter, VoterYes}
use Rattle.dtx_values.specs.declared.note.Note.{Note}
use Rattle.dtx_values.specs.declared.note.Note.TheVariants.{Single}
use Rattle.dtx_values.specs.declared.note.Reply.{Reply}
use Rattle.dtx_values.specs.declared.note.Reply.TheVariants.{Vote as VoteReply, Promote as Promotes, Owner as OwnerReply, Ack}
use Rattle.dtx_values.specs.declared.number.ActorNo.{ActorNo}
use Rattle.dtx_values.specs.declared.number.EnlNo.{EnlNo}
use Rattle.dtx_values.specs.declared.number.RmNo.{RmNo}
use Rattle.dtx_values.specs.declared.row.Row.{Row}
use Rattle.dtx_values.specs.declared.words.Cause.{Cause}
use Rattle.dtx_values.specs.declared.words.Cause.TheVariants.{Marshal as MarshalCause}
use Rattle.dtx_values.specs.declared.words.Class.TheVariants.{DurableSingle}
use Rattle.dtx_values.specs.declared.words.Outcome.{Outcome}
use Rattle.dtx_values.specs.declared.words.Outcome.TheVariants.{Committed, Aborted, InDoubt}
use Rattle.dtx_values.specs.declared.words.Vote.{Vote}
use Rattle.dtx_values.specs.declared.words.Vote.TheVariants.{Yes, No, Done}
use Rattle.dtx_values.specs.Class.{is_promotable, is_volatile}
use Rattle.dtx_values.specs.Ends.{knows, order_of, same_connection, tag_of, was_got}
use Rattle.dtx_values.specs.Owners.{cause_of, commits_alone, owner_of}
use Rattle.dtx_values.specs.Row.{is_of}
use Rattle.dtx_values.specs.Support.{is_single}
use Rattle.dtx_values.specs.Vote.{is_no}
use Rattle.dtx_values.specs.Table.{insert_by}
use Rattle.dtx_values.specs.Waves.{all_voted, is_over, name_of, next_ask}
use Rattle.dtx_model.specs.declared.desk.Desk.{Desk}
use Rattle.dtx_model.specs.declared.desk.Stage.{Stage}
use Rattle.dtx_model.specs.declared.desk.Stage.TheVariants.{Aborted as AbortedStage, Active, Answered as AnsweredStage, Given, Idle, Over, Recorded, Sole, Unknown}
use Rattle.dtx_model.specs.declared.waiting.EnteredCall.{EnteredCall}
use Rattle.dtx_model.specs.declared.waiting.Wanted.TheVariants.{Identifier, Place}
use Rattle.dtx_model.specs.Words.{has, latest, onto}
use Rattle.dtx_model.specs.Entries.{decision_of, is_any_single_sent, is_decision, is_hand, is_promoted}
use Rattle.dtx_model.specs.Observed.{cause_of_promotion, ends_of, handover, is_promotion_failed, observe, rows, track}
use Rattle.dtx_model.specs.Outcome.{enlisted}
use Rattle.dtx_model.specs.Promotes.{identifier_of, is_promoting, is_under_way}
use Rattle.dtx_model.specs.Wires.{in_transit, is_next}
use Rattle.dtx_model.specs.Coordinated.{Coordinated, abort_sends, accepts, coordinate, core_got, follow, is_active, is_one, is_sole, may_log, opening_by, to_each, without}
use Rattle.dtx_model.specs.Waiting.{Waiter, is_place_of, managed, waiting}
use Rattle.dtx_model.specs.Half.{Half, by_manager, decide, ended, enlist_sent, fails_if, given, half_of, is_gone, is_handed, is_promoting as is_promoting_now, over, promoted_by, sees, to_up, veto_if}
use Rattle.dtx_model.specs.Arrivals.{hand_over, is_called_off, local_got, place_given}
use Rattle.dtx_model.specs.Acts.{act_by, act_entries, after_seal, ask_or, asked_act, commit_act, commit_sent, is_to_tell, promotable_in, promoted_act, sealed_act, unasked_promotable, under_way, undecided_act, voter_act, yes_act}
use Rattle.dtx_model.specs.Replies.{ack_on, answered_by, conn_due, due_of, is_volatile_row, one_message, owner_entries, reply_entries, request_message, request_of, vote_message, voted_by}
use Rattle.dtx_model.specs.Facts.{begin_promotion, durable_facts, facts_if, has_facts}
use Rattle.dtx_model.specs.World.{World, answer_at, core, facts_at, half}
use Rattle.dtx_model.specs.Steps.{LogAnswer, Done as LogDone, Full, StoppedNow, StoppedBefore, Step, Calls, Replies, Acts, Coordinates, Delivers, Stops, Restarts, after, appended, block_at, coordinates, delivered, ended_at, freed, restarted}
use Rattle.dtx_model.proofs.Bools.{and_both, and_left, not_both}
use Rattle.history_table.proofs.Lists.{has-insert}
use Rattle.history_table.proofs.Owned.{has_rows, decision_seen}
use Rattle.history_table.proofs.Tests.{eq_self}
use Rattle.history_table.proofs.EntryTests.{is_enlisted, has_promotable, is_volatile_made}
use Rattle.dtx_model.proofs.Connections.{same_self}
use Rattle.settled_histories.proofs.MessageKinds.{ABORT, ASK, BEGUN, ENLIST_ANSWER, ONE, VOTE, VOTER, VOTER_ANSWER}
use Rattle.history_table.proofs.Messages.{BEGIN, COMMIT, ENLIST, YES}
use Rattle.settled_histories.proofs.Debts.{created_next, debt, enlisted_next, is_decided_committed, is_desk_there, is_free, is_going_up, knows_there, meets, when}
use Rattle.settled_histories.proofs.Paid.{IsPaid, block_paid, logged_paid, silent_paid, single_paid}
use Rattle.settled_histories.proofs.SilentBlocks.{Silent, silent_abort, silent_ack, silent_called, silent_commit_act, silent_core_got, silent_decide, silent_ended_at, silent_freed, silent_local_got, silent_one, silent_restarted, silent_tell, silent_veto, silent_veto_if}
use Rattle.history_table.proofs.Crossed.{is_sent_on}
use Rattle.history_table.proofs.HalfKnows.{cause_seen}

-- the list begins with an entry that passes
abbrev leads : (Entry → Bool) → List Entry → Bool
leads q [] = false
leads q (y ∷ ys) = q y

-- a head whose demand, where it makes one, the list that follows meets
head_paid : (h : List Entry) (x : Entry) (b : Bool) (q : Entry → Bool) (es : List Entry) → debt h x ≡ when b q → (b ≡ true → leads q es ≡ true) → Silent es → IsPaid h → IsPaid (onto h (x ∷ es))
head_paid h x true q [] e f s p = absurd (not_both false (f refl) refl)
head_paid h x true q (y ∷ ys) e f s p = block_paid h x y ys p (ap (λ o. meets o y) e ∙ f refl) s.proof
head_paid h x false q es e f s p = silent_paid (x ∷ h) es (single_paid h x p (ap is_free e)) s.proof

-- a list that demands nothing, or either of two
list_paid : (h es : List Entry) → Silent es → IsPaid h → IsPaid (onto h es)
list_paid h es s p = silent_paid h es p s.proof

paid_if : (h : List Entry) (b : Bool) (xs ys : List Entry) → IsPaid (onto h xs) → IsPaid (onto h ys) → IsPaid (onto h (if b then xs else ys))
paid_if h true xs ys p q = p
paid_if h false xs ys p q = q

lead_if : (q : Entry → Bool) (b : Bool) (y : Entry) (ys zs : List Entry) → q y ≡ true → b ≡ true → leads q (if b then y ∷ ys else zs) ≡ true
lead_if q true y ys zs k e = k
lead_if q false y ys zs k e = absurd cc

lead_first : (q : Entry → Bool) (xs ys : List Entry) → leads q xs ≡ true → leads q (xs ++ ys) ≡ true
lead_first q [] ys k = absurd cc
lead_first q (x ∷ xs) ys k = k

failed_seen : (h : List Entry) → has is_promotion_failed h ≡ has is_promotion_failed h
failed_seen [] = refl
failed_seen (x ∷ h) = ap (λ b. is_promotion_failed x || b) (failed_seen h) ∙ ap (λ b. b || has is_promotion_failed h) (one x)
  where
    one : (x : Entry) → is_promotion_failed x ≡ is_promotion_failed x
    one PromotionFailed = refl
    one _ = refl

pub way_seen : (h : List Entry) → is_promoting_now (observe h) ≡ is_under_way h
unfolding observe
way_seen h = ap (λ b. b && not (has is_promoted h) && not (has is_promotion_failed h)) (cause_seen h) ∙ ap (λ b. has is_promoting h && not (has is_promoted h) && not b) (failed_seen h)

promotable_seen : (h : List Entry) → is_some (promotable_in (rows h)) ≡ has_promotable h
promotable_seen h = named (rows h) ∙ has_rows (λ e c. is_promotable c) h
  where
    named : (xs : List Row) → is_some (name_of (find (λ x. is_promotable x.class) xs)) ≡ has (λ x. is_promotable x.class) xs
    named [] = refl
    named (x ∷ xs) = step (is_promotable x.class) (named xs)
      where
        step : (b : Bool) → is_some (name_of (find (λ x. is_promotable x.class) xs)) ≡ has (λ x. is_promotable x.class) xs
            → is_some (name_of (if b then Some x else find (λ x. is_promotable x.class) xs)) ≡ (b || has (λ x. is_promotable x.class) xs)
        step true ih = refl
        step false ih = ih

volatile_seen : (e : ℕ) (h : List Entry) → has (λ x. is_of e x && is_volatile x.class) (rows h) ≡ has (is_volatile_made e) h
volatile_seen e h = has_rows (λ f c. (e == f.value) && is_volatile c) h ∙ listed h
  where
    listed : (h : List Entry) → has (λ x. (e == x.0.value) && is_volatile x.1) (enlisted h) ≡ has (is_volatile_made e) h
    listed [] = refl
    listed (Enlisted f c ∷ h) = ap (λ b. ((e == f.value) && is_volatile c) || b) (listed h)
    listed (x ∷ h) = listed h

-- The local act.
paid_ask : (h : List Entry) (o : Option EnlNo) (over : Bool) (es : List Entry) → IsPaid h → IsPaid (onto h es) → IsPaid (onto h (ask_or o over es))
paid_ask h (Some e) over es p q = silent_paid h (ask_or (Some e) over es) p refl
paid_ask h None over es p q = paid_if h over es [] q p

yes_paid : (ks : List EnteredCall) (h : List Entry) → IsPaid h → IsPaid (onto h (voter_act (half_of ks h)))
unfolding observe
yes_paid ks h p =
    paid_if h (was_got Voter (tag_of VoterAsk) (ends_of h)) (after_seal (half_of ks h) (yes_act (observe h))) []
    (paid_ask h (next_ask (rows h) false) (all_voted (rows h)) (yes_act (observe h)) p
    (paid_if h (observe h).yes [] (LocalYes ∷ to_up (observe h) Voter VoterYes) p
    (head_paid h LocalYes (knows Voter (ends_of h)) (is_sent_on Voter Up YES) (to_up (observe h) Voter VoterYes) refl
    (lead_if (is_sent_on Voter Up YES) (knows Voter (ends_of h)) (Sent Voter Up VoterYes) [] [] refl) (quiet_up (knows Voter (ends_of h))) p))) p
  where
    quiet_up : (b : Bool) → Silent (if b then Sent Voter Up VoterYes ∷ [] else [])
    quiet_up true = silent_one (Sent Voter Up VoterYes) refl
    quiet_up false = record { proof = refl }

promoted_paid : (ks : List EnteredCall) (h : List Entry) (o : Option EnlNo) → IsPaid h → IsPaid (onto h (promoted_act (half_of ks h) o))
promoted_paid ks h (Some e) p = paid_if h (observe h).single_asked (voter_act (half_of ks h)) (Asked e AskSingle ∷ []) (yes_paid ks h p) (silent_paid h (Asked e AskSingle ∷ []) p refl)
promoted_paid ks h None p = yes_paid ks h p

seal_paid : (h : List Entry) → IsPaid h → IsPaid (onto h (Sealed ∷ commit_sent (observe h)))
unfolding observe
seal_paid h p =
    head_paid h Sealed (has is_promoted h && not (has_promotable h) && knows Begin (ends_of h)) (is_sent_on Begin Up COMMIT) (commit_sent (observe h)) refl
    (λ b. step (has is_promoted h) (is_some (promotable_in (rows h))) (has_promotable h) (knows Begin (ends_of h)) (commits_alone (rows h)) (promotable_seen h) b)
    (quiet (has is_promoted h && not (is_some (promotable_in (rows h)))) (knows Begin (ends_of h)) (commits_alone (rows h))) p
  where
    step : (a s t k c : Bool) → s ≡ t → (a && not t && k) ≡ true
        → leads (is_sent_on Begin Up COMMIT) (if a && not s then (if k then Sent Begin Up (if c then BeginCommitOne else BeginCommit) ∷ [] else []) else []) ≡ true
    step true false true k c e b = absurd cc
    step true true true k c e b = absurd cc
    step true true false k c e b = absurd cc
    step true false false true true e b = refl
    step true false false true false e b = refl
    step true false false false c e b = absurd cc
    step false s t k c e b = absurd cc

    quiet : (a k c : Bool) → Silent (if a then (if k then Sent Begin Up (if c then BeginCommitOne else BeginCommit) ∷ [] else []) else [])
    quiet true true c = silent_one (Sent Begin Up (if c then BeginCommitOne else BeginCommit)) refl
    quiet true false c = record { proof = refl }
    quiet false k c = record { proof = refl }

act_paid : (ks : List EnteredCall) (h : List Entry) (d : Option Outcome) → IsPaid h → IsPaid (onto h (act_by d (half_of ks h)))
act_paid ks h (Some x) p = list_paid h _ (silent_tell x (find (is_to_tell (observe h) x) (observe h).listeners) (observe h).told_client) p
act_paid ks h None p = by_promotable (unasked_promotable (observe h))
  where
    v : Half
    v = half_of ks h

    by_promotable : (o : Option EnlNo) → IsPaid (onto h (undecided_act v o))
    by_promotable (Some e) = silent_paid h (Asked e Promote ∷ []) p refl
    by_promotable None =
        paid_if h v.seen.commit (asked_act v) []
        (paid_if h v.seen.sealed (sealed_act v) _
        (paid_if h v.seen.promoted (promoted_act v (promotable_in v.seen.table)) _ (promoted_paid ks h (promotable_in v.seen.table) p)
        (paid_ask h (next_ask v.seen.table false) (all_voted v.seen.table) (if is_some v.seen.handed then [] else commit_act v (owner_of v.seen.table)) p
        (paid_if h (is_some v.seen.handed) [] (commit_act v (owner_of v.seen.table)) p (list_paid h (commit_act v (owner_of v.seen.table)) (silent_commit_act v (owner_of v.seen.table)) p))))
        (paid_ask h (next_ask v.seen.table true) (is_over v.seen.table v.seen.clones (under_way v)) (Sealed ∷ commit_sent v.seen) p (seal_paid h p))) p

local_paid : (w : World) → IsPaid w.past → IsPaid (onto w.past (act_entries (half w)))
unfolding act_entries
local_paid w p = act_paid w.calls w.past (half w).seen.decided p

-- The replies.
up_silent : (b : Bool) (c : Conn) (m : Message) → Silent (if b then Sent c Up m ∷ [] else [])
up_silent true c m = silent_one (Sent c Up m) refl
up_silent false c m = record { proof = refl }

vote_sent : (e : EnlNo) (v : Vote) → is_sent_on (Enl e) Up (VOTE v) (Sent (Enl e) Up (vote_message v)) ≡ true
vote_sent e Yes = and_both (same_connection (Enl e) (Enl e) && true) true (and_both (same_connection (Enl e) (Enl e)) true (same_self (Enl e)) refl) refl
vote_sent e No = and_both (same_connection (Enl e) (Enl e) && true) true (and_both (same_connection (Enl e) (Enl e)) true (same_self (Enl e)) refl) refl
vote_sent e Done = and_both (same_connection (Enl e) (Enl e) && true) true (and_both (same_connection (Enl e) (Enl e)) true (same_self (Enl e)) refl) refl

vote_paid : (ks : List EnteredCall) (h : List Entry) (e : EnlNo) (v : Vote) → IsPaid h → IsPaid (onto h (Voted e v ∷ voted_by (sees (half_of ks h) (Voted e v)) e v))
unfolding observe track
vote_paid ks h e v p =
    let o = sees (half_of ks h) (Voted e v) in
    let seen : is_volatile_row o.seen e.value ≡ has (is_volatile_made e.value) h = volatile_seen e.value (Voted e v ∷ h) in
    head_paid h (Voted e v) (not (has (is_volatile_made e.value) h) && knows (Enl e) (ends_of h)) (is_sent_on (Enl e) Up (VOTE v)) (voted_by o e v) refl
    (λ b. step (is_volatile_row o.seen e.value) (has (is_volatile_made e.value) h) (knows (Enl e) (ends_of h)) (veto_if (is_no v) o) seen b)
    (quiet (is_volatile_row o.seen e.value) (knows (Enl e) (ends_of h)) (veto_if (is_no v) o) (silent_veto_if (is_no v) o)) p
  where
    step : (a b k : Bool) (es : List Entry) → a ≡ b → (not b && k) ≡ true → leads (is_sent_on (Enl e) Up (VOTE v)) (if a then es else (if k then Sent (Enl e) Up (vote_message v) ∷ [] else [])) ≡ true
    step false false true es q n = vote_sent e v
    step false false false es q n = absurd cc
    step true true k es q n = absurd cc
    step true false k es q n = absurd cc
    step false true k es q n = absurd cc

    quiet : (a k : Bool) (es : List Entry) → Silent es → Silent (if a then es else (if k then Sent (Enl e) Up (vote_message v) ∷ [] else []))
    quiet true k es s = s
    quiet false k es s = up_silent k (Enl e) (vote_message v)

request_paid : (ks : List EnteredCall) (h : List Entry) (e : EnlNo) (x : Outcome) → IsPaid h → IsPaid (onto h (Requested e (request_of x) ∷ to_up (observe h) Begin (request_message x)))
unfolding observe
request_paid ks h e Aborted p =
    head_paid h (Requested e (request_of Aborted)) (knows Begin (ends_of h)) (is_sent_on Begin Up ABORT) _ refl
    (lead_if (is_sent_on Begin Up ABORT) (knows Begin (ends_of h)) (Sent Begin Up BeginAbort) [] [] refl) (up_silent (knows Begin (ends_of h)) Begin BeginAbort) p
request_paid ks h e Committed p =
    head_paid h (Requested e (request_of Committed)) (knows Begin (ends_of h)) (is_sent_on Begin Up COMMIT) _ refl
    (lead_if (is_sent_on Begin Up COMMIT) (knows Begin (ends_of h)) (Sent Begin Up BeginCommit) [] [] refl) (up_silent (knows Begin (ends_of h)) Begin BeginCommit) p
request_paid ks h e InDoubt p =
    head_paid h (Requested e (request_of InDoubt)) (knows Begin (ends_of h)) (is_sent_on Begin Up COMMIT) _ refl
    (lead_if (is_sent_on Begin Up COMMIT) (knows Begin (ends_of h)) (Sent Begin Up BeginCommit) [] [] refl) (up_silent (knows Begin (ends_of h)) Begin BeginCommit) p

-- an owner's answer is sent where it is promoted; else it decides
one_sent : (e : EnlNo) (x : Outcome) → is_sent_on (Enl e) Up ONE (Sent (Enl e) Up (one_message x)) ≡ true
one_sent e Committed = and_both (same_connection (Enl e) (Enl e) && true) true (and_both (same_connection (Enl e) (Enl e)) true (same_self (Enl e)) refl) refl
one_sent e Aborted = and_both (same_connection (Enl e) (Enl e) && true) true (and_both (same_connection (Enl e) (Enl e)) true (same_self (Enl e)) refl) refl
one_sent e InDoubt = and_both (same_connection (Enl e) (Enl e) && true) true (and_both (same_connection (Enl e) (Enl e)) true (same_self (Enl e)) refl) refl

answer_paid : (ks : List EnteredCall) (h : List Entry) (e : EnlNo) (x : Outcome) → IsPaid h → IsPaid (onto h (OwnerAnswered e x ∷ answered_by (half_of ks h) e x))
unfolding observe
answer_paid ks h e x p =
    head_paid h (OwnerAnswered e x) (has is_promoted h && knows (Enl e) (ends_of h)) (is_sent_on (Enl e) Up ONE) (answered_by (half_of ks h) e x) refl
    (λ b. step (has is_promoted h) (knows (Enl e) (ends_of h)) (decide (half_of ks h) x) b)
    (quiet (has is_promoted h) (knows (Enl e) (ends_of h)) (decide (half_of ks h) x) (silent_decide (half_of ks h) x)) p
  where
    step : (a k : Bool) (es : List Entry) → (a && k) ≡ true → leads (is_sent_on (Enl e) Up ONE) (if a then (if k then Sent (Enl e) Up (one_message x) ∷ [] else []) else es) ≡ true
    step true true es b = one_sent e x
    step true false es b = absurd cc
    step false k es b = absurd cc

    quiet : (a k : Bool) (es : List Entry) → Silent es → Silent (if a then (if k then Sent (Enl e) Up (one_message x) ∷ [] else []) else es)
    quiet true k es s = up_silent k (Enl e) (one_message x)
    quiet false k es s = s

owner_paid : (ks : List EnteredCall) (h : List Entry) (e : EnlNo) (x : Outcome) (n : Option Note) → IsPaid h → IsPaid (onto h (owner_entries (half_of ks h) e x n))
owner_paid ks h e x (Some Single) p = request_paid ks h e x p
owner_paid ks h e x _ p = answer_paid ks h e x p

reply_paid : (ks : List EnteredCall) (h : List Entry) (e : EnlNo) (r : Reply) → IsPaid h → IsPaid (onto h (reply_entries (half_of ks h) e r))
unfolding reply_entries
reply_paid ks h e (VoteReply v) p = vote_paid ks h e v p
reply_paid ks h e (Promotes true) p = block_paid h (PromoteReply e true) (Sent Begin Up BeginBegin) [] p refl refl
reply_paid ks h e (Promotes false) p =
    list_paid (PromoteReply e false ∷ h) _ (silent_veto (sees (half_of ks h) (PromoteReply e false))) (single_paid h (PromoteReply e false) p refl)
reply_paid ks h e (OwnerReply x) p = owner_paid ks h e x (due_of (half_of ks h).seen e.value) p
reply_paid ks h e Ack p =
    list_paid (Acked e ∷ h) (ack_on (observe h) (conn_due (observe h) e.value)) (silent_ack (observe h) (conn_due (observe h) e.value)) (silent_paid h (Acked e ∷ []) p refl)

-- The calls.
not_lead : (q : Entry → Bool) (a : Bool) (y : Entry) → q y ≡ true → not a ≡ true → leads q (if a then [] else y ∷ []) ≡ true
not_lead q true y k e = absurd cc
not_lead q false y k e = k

-- v is what was seen before the call, and h the history with it
begin_paid : (v : Half) (h : List Entry) (o : Option Cause) → has (λ x. is_promotable x.class) v.seen.table ≡ has_promotable h → IsPaid h → IsPaid (onto h (begin_promotion v o))
begin_paid v h (Some c) e p =
    head_paid h (Promoting c) (not (has_promotable h)) (is_sent_on Begin Up BEGIN) (if has (λ x. is_promotable x.class) v.seen.table then [] else Sent Begin Up BeginBegin ∷ []) refl
    (λ b. not_lead (is_sent_on Begin Up BEGIN) (has (λ x. is_promotable x.class) v.seen.table) (Sent Begin Up BeginBegin) refl (ap not e ∙ b)) (quiet (has (λ x. is_promotable x.class) v.seen.table)) p
  where
    quiet : (a : Bool) → Silent (if a then [] else Sent Begin Up BeginBegin ∷ [])
    quiet true = record { proof = refl }
    quiet false = silent_one (Sent Begin Up BeginBegin) refl
begin_paid v h None e p = p

durable_paid : (t : ℕ) (v : Half) (h : List Entry) (e : EnlNo) (r : RmNo) (single : Bool) (x : Answer) → has (λ x. is_promotable x.class) v.seen.table ≡ has_promotable h → IsPaid h
    → IsPaid (onto h (facts_if (has_facts x) (durable_facts t v e r single x)))
durable_paid t v h e r single Wait q p =
    paid_if h v.seen.promoted (enlist_sent t e r) (if is_promoting_now v.seen then [] else begin_promotion v (cause_of v.seen.table single)) (silent_paid h (enlist_sent t e r) p refl)
    (paid_if h (is_promoting_now v.seen) [] (begin_promotion v (cause_of v.seen.table single)) p (begin_paid v h (cause_of v.seen.table single) q p))
durable_paid t v h e r single Fine q p = silent_paid h (Enlisted e DurableSingle ∷ []) p refl
durable_paid t v h e r single True q p = silent_paid h (Enlisted e DurableSingle ∷ []) p refl
durable_paid t v h e r single _ q p = p

marshal_paid : (v : Half) (h : List Entry) (x : Answer) → has (λ x. is_promotable x.class) v.seen.table ≡ has_promotable h → IsPaid h
    → IsPaid (onto h (facts_if (has_facts x) (if is_promoting_now v.seen then [] else begin_promotion v (Some MarshalCause))))
marshal_paid v h x q p = step (has_facts x)
  where
    step : (b : Bool) → IsPaid (onto h (facts_if b (if is_promoting_now v.seen then [] else begin_promotion v (Some MarshalCause))))
    step true = paid_if h (is_promoting_now v.seen) [] (begin_promotion v (Some MarshalCause)) p (begin_paid v h (Some MarshalCause) q p)
    step false = p

called_paid : (t : ℕ) (w : World) (n : ℕ) (a : ActorNo) (c : Call) (x : Answer) → IsPaid w.past → IsPaid (onto w.past (Called n a x ∷ facts_if (has_facts x) (facts_at t w c x)))
unfolding observe
called_paid t w n a (Durable u e r s) x p =
    durable_paid t (half w) (Called n a x ∷ w.past) e r (is_single s) x (has_rows (λ e c. is_promotable c) w.past) (silent_paid w.past (Called n a x ∷ []) p refl)
called_paid t w n a (Marshal u) x p = marshal_paid (half w) (Called n a x ∷ w.past) x (has_rows (λ e c. is_promotable c) w.past) (silent_paid w.past (Called n a x ∷ []) p refl)
called_paid t w n a c x p =
    list_paid (Called n a x ∷ w.past) (facts_if (has_facts x) (facts_at t w c x)) (silent_called t w c x refl) (silent_paid w.past (Called n a x ∷ []) p refl)

-- The coordinator.
appended_paid : (h : List Entry) (a : LogAnswer) → IsPaid h → IsPaid (onto h (appended (coordinate h) a))
unfolding coordinate
appended_paid h LogDone p = logged_paid h p
appended_paid h Full p = list_paid (LogFull ∷ h) (abort_sends (follow (coordinate h) LogFull)) (silent_abort (follow (coordinate h) LogFull)) (silent_paid h (LogFull ∷ []) p refl)
appended_paid h StoppedNow p = silent_paid h (Stopped ∷ []) p refl
appended_paid h StoppedBefore p = silent_paid h (Stopped ∷ []) p refl

coordinates_paid : (h : List Entry) (a : LogAnswer) → IsPaid h → IsPaid (onto h (coordinates (coordinate h) a))
coordinates_paid h a p = paid_if h (may_log (coordinate h)) (appended (coordinate h) a) (freed a) (appended_paid h a p) (list_paid h (freed a) (silent_freed a) p)

-- what it got opens the connection: it answers there
opening_known : (c : Conn) (k : Coordinated) → has (same_connection c) (insert_by order_of c (without c k.known)) ≡ true
opening_known c k = has-insert (same_connection c) order_of c (without c k.known) ∙ or_left (same_connection c c) (has (same_connection c) (without c k.known)) (same_self c)

answers_well : (p : Message → Bool) (s : Stage) (b : Bool) (good abort : Message) (refused : ℕ → Message) → p good ≡ true → p abort ≡ true → ((n : ℕ) → p (refused n) ≡ true) → p (opening_by s b good abort refused) ≡ true
answers_well p AbortedStage b good abort refused g a r = a
answers_well p Unknown b good abort refused g a r = r 2
answers_well p Over b good abort refused g a r = r 2
answers_well p Active true good abort refused g a r = r 1
answers_well p Active false good abort refused g a r = g
answers_well p Idle b good abort refused g a r = r 1
answers_well p Sole b good abort refused g a r = r 1
answers_well p Given b good abort refused g a r = r 1
answers_well p AnsweredStage b good abort refused g a r = r 1
answers_well p Recorded b good abort refused g a r = r 1

sent_on_own : (c : Conn) (p : Message → Bool) (m : Message) → p m ≡ true → is_sent_on c Down p (Sent c Down m) ≡ true
sent_on_own c p m k = and_both (same_connection c c && true) (p m) (and_both (same_connection c c) true (same_self c) refl) k

-- SINGLE goes first to a desk whose connection is known
single_leads : (h : List Entry) (ds : List Desk) → has (is_desk_there h) ds ≡ true → leads is_any_single_sent (to_each (coordinate h) EnlistSingle ds) ≡ true
single_leads h [] k = absurd cc
single_leads h (d ∷ ds) k = one (has (same_connection (Enl d.enlistment)) (coordinate h).known) (to_each (coordinate h) EnlistSingle ds) (single_leads h ds) k
  where
    one : (b : Bool) (es : List Entry) → (has (is_desk_there h) ds ≡ true → leads is_any_single_sent es ≡ true) → (b || has (is_desk_there h) ds) ≡ true
        → leads is_any_single_sent ((if b then Sent (Enl d.enlistment) Down EnlistSingle ∷ [] else []) ++ es) ≡ true
    one true es f k = refl
    one false es f k = f k

core_paid : (t : ℕ) (w : World) (c : Conn) (m : Message) → IsPaid w.past → IsPaid (onto (Got c Up m ∷ w.past) (core_got (identifier_of t) (coordinate w.past) c m))
unfolding core_got follow
core_paid t w Begin BeginBegin p =
    head_paid w.past (Got Begin Up BeginBegin) true (is_sent_on Begin Down BEGUN) (core_got (identifier_of t) (coordinate w.past) Begin BeginBegin) refl
    (λ b. lead_if (is_sent_on Begin Down BEGUN) (has (same_connection Begin) (insert_by order_of Begin (without Begin (coordinate w.past).known))) (Sent Begin Down (BeginBegun (identifier_of t))) [] [] refl
    (opening_known Begin (coordinate w.past))) (silent_core_got (identifier_of t) (coordinate w.past) Begin BeginBegin) p
core_paid t w Voter (VoterVoter u) p =
    let k = coordinate w.past in
    head_paid w.past (Got Voter Up (VoterVoter u)) true (is_sent_on Voter Down VOTER_ANSWER) (core_got (identifier_of t) k Voter (VoterVoter u)) refl
    (λ b. lead_if (is_sent_on Voter Down VOTER_ANSWER) (has (same_connection Voter) (insert_by order_of Voter (without Voter k.known)))
    (Sent Voter Down (opening_by k.stage k.commit VoterCreated VoterAbort VoterRefused)) [] []
    (sent_on_own Voter VOTER_ANSWER (opening_by k.stage k.commit VoterCreated VoterAbort VoterRefused) (answers_well VOTER_ANSWER k.stage k.commit VoterCreated VoterAbort VoterRefused refl refl (λ n. refl)))
    (opening_known Voter k)) (silent_core_got (identifier_of t) k Voter (VoterVoter u)) p
core_paid t w (Enl e) (EnlistEnlist i) p =
    let k = coordinate w.past in
    head_paid w.past (Got (Enl e) Up (EnlistEnlist i)) true (is_sent_on (Enl e) Down ENLIST_ANSWER) (core_got (identifier_of t) k (Enl e) (EnlistEnlist i)) refl
    (λ b. lead_if (is_sent_on (Enl e) Down ENLIST_ANSWER) (has (same_connection (Enl e)) (insert_by order_of (Enl e) (without (Enl e) k.known)))
    (Sent (Enl e) Down (opening_by k.stage k.commit EnlistEnlisted EnlistAbort EnlistRefused)) [] []
    (sent_on_own (Enl e) ENLIST_ANSWER (opening_by k.stage k.commit EnlistEnlisted EnlistAbort EnlistRefused)
    (answers_well ENLIST_ANSWER k.stage k.commit EnlistEnlisted EnlistAbort EnlistRefused refl refl (λ n. refl)))
    (opening_known (Enl e) k)) (silent_core_got (identifier_of t) k (Enl e) (EnlistEnlist i)) p
core_paid t w Begin BeginCommit p =
    let k = coordinate w.past in
    head_paid w.past (Got Begin Up BeginCommit) (is_active k.stage && knows_there Voter w.past) (is_sent_on Voter Down ASK) (core_got (identifier_of t) k Begin BeginCommit) refl
    (λ b. step (is_active k.stage) (has (same_connection Voter) k.known) (to_each k EnlistPrepare k.desks) b) (silent_core_got (identifier_of t) k Begin BeginCommit) p
  where
    step : (a b : Bool) (es : List Entry) → (a && b) ≡ true → leads (is_sent_on Voter Down ASK) (if a then (if b then Sent Voter Down VoterAsk ∷ [] else []) ++ es else []) ≡ true
    step true true es k = refl
    step true false es k = absurd cc
    step false b es k = absurd cc
core_paid t w Begin BeginCommitOne p =
    let k = coordinate w.past in
    head_paid w.past (Got Begin Up BeginCommitOne) (accepts k && is_one k.desks && knows_there Voter w.past) (is_sent_on Voter Down ASK) (core_got (identifier_of t) k Begin BeginCommitOne) refl
    (λ b. step (accepts k) (is_one k.desks) (has (same_connection Voter) k.known) (abort_sends (follow k (Got Begin Up BeginCommitOne))) b) (silent_core_got (identifier_of t) k Begin BeginCommitOne) p
  where
    step : (a o b : Bool) (es : List Entry) → (a && o && b) ≡ true → leads (is_sent_on Voter Down ASK) (if not a then [] else if o then (if b then Sent Voter Down VoterAsk ∷ [] else []) else es) ≡ true
    step true true true es k = refl
    step true true false es k = absurd cc
    step true false b es k = absurd cc
    step false o b es k = absurd cc
core_paid t w Voter VoterYes p =
    let k = coordinate w.past in
    head_paid w.past (Got Voter Up VoterYes) (is_sole k.stage && has (is_desk_there w.past) k.desks) is_any_single_sent (core_got (identifier_of t) k Voter VoterYes) refl
    (λ b. step (is_sole k.stage) (has (is_desk_there w.past) k.desks) (to_each k EnlistSingle k.desks) (single_leads w.past k.desks) b) (silent_core_got (identifier_of t) k Voter VoterYes) p
  where
    step : (a b : Bool) (es : List Entry) → (b ≡ true → leads is_any_single_sent es ≡ true) → (a && b) ≡ true → leads is_any_single_sent (if a then es else []) ≡ true
    step true true es f k = f refl
    step true false es f k = absurd cc
    step false b es f k = absurd cc
core_paid t w c m p = list_paid (Got c Up m ∷ w.past) (core_got (identifier_of t) (coordinate w.past) c m) (silent_core_got (identifier_of t) (coordinate w.past) c m) (single_paid w.past (Got c Up m) p refl)

-- The arrivals. What must stand before three of them: of CREATED, that the handover has a manager; of ENLISTED that is not the handover's, that the promotion is
-- over and a call waits for the place; and of COMMITTED, that no promotion is under way.
abbrev pub is_manager_of : ℕ → EnlNo × RmNo → Bool
is_manager_of e m = e == m.0.value

abbrev pub Serves : List EnteredCall → List Entry → Conn → Message → Type 0
Serves ks h Voter VoterCreated = has is_promoted h ≡ false → (e : EnlNo) → handover h ≡ Some e → has (is_manager_of e.value) (managed ks h) ≡ true
Serves ks h (Enl e) EnlistEnlisted =
    has is_decision h ≡ false → (is_under_way h && is_handed (handover h) e.value) ≡ false → (has is_promoted h ≡ true) × (has (is_place_of e.value) (waiting ks h) ≡ true)
Serves ks h Begin BeginCommitted = has is_decision h ≡ false → is_under_way h ≡ false
Serves ks h c m = Unit {0}

-- what the handover's ENLIST, or the end of the promotion, comes first with
manager_leads : (t : ℕ) (ms : List (EnlNo × RmNo)) (e : EnlNo) → has (is_manager_of e.value) ms ≡ true → leads (is_sent_on (Enl e) Up ENLIST) (by_manager (enlist_sent t) ms e) ≡ true
manager_leads t [] e k = absurd cc
manager_leads t (m ∷ ms) e k = step (e.value == m.0.value) k (manager_leads t ms e)
  where
    step : (b : Bool) → (b || has (is_manager_of e.value) ms) ≡ true → (has (is_manager_of e.value) ms ≡ true → leads (is_sent_on (Enl e) Up ENLIST) (by_manager (enlist_sent t) ms e) ≡ true)
        → leads (is_sent_on (Enl e) Up ENLIST) (if b then enlist_sent t e m.1 else by_manager (enlist_sent t) ms e) ≡ true
    step true k ih = and_both (same_connection (Enl e) (Enl e) && true) true (and_both (same_connection (Enl e) (Enl e)) true (same_self (Enl e)) refl) refl
    step false k ih = ih k

over_leads : (t : ℕ) (o : Option Cause) (es : List Entry) → is_some o ≡ true → leads is_promoted (promoted_by t o ++ es) ≡ true
over_leads t (Some c) es k = refl
over_leads t None es k = absurd cc

handed_leads : (t : ℕ) (v : Half) (o : Option EnlNo) → ((e : EnlNo) → o ≡ Some e → has (is_manager_of e.value) v.managers ≡ true) → is_some v.seen.cause ≡ true → leads (created_next o) (hand_over t v o) ≡ true
handed_leads t v (Some e) f k = manager_leads t v.managers e (f e refl)
handed_leads t v None f k = over_leads t v.seen.cause (flat_map (given t) v.waits) k

-- d and n say that it is decided, p and u that the promotion is under way
going_leads : (q : Entry → Bool) (d n p u : Bool) (xs es : List Entry) → d ≡ n → p ≡ u → (u ≡ true → leads q es ≡ true) → (u && not n) ≡ true → leads q (if d then xs else if p then es else []) ≡ true
going_leads q true true p true xs es e f g k = absurd cc
going_leads q true true p false xs es e f g k = absurd cc
going_leads q true false p u xs es e f g k = absurd cc
going_leads q false true p u xs es e f g k = absurd cc
going_leads q false false true true xs es e f g k = g refl
going_leads q false false true false xs es e f g k = absurd cc
going_leads q false false false true xs es e f g k = absurd cc
going_leads q false false false false xs es e f g k = absurd cc

-- while it is under way there is a cause, and it isn't over
pub caused_way : (a b c : Bool) → (a && not b && not c) ≡ true → a ≡ true
caused_way true b c k = refl
caused_way false b c k = absurd cc

pub unpromoted_way : (a b c : Bool) → (a && not b && not c) ≡ true → b ≡ false
unpromoted_way true true c k = absurd cc
unpromoted_way true false c k = refl
unpromoted_way false b c k = absurd cc

committed_leads : (d n p u : Bool) (es : List Entry) → d ≡ n → p ≡ u → (n ≡ false → u ≡ false) → not n ≡ true → leads is_decided_committed (if d then [] else fails_if p ++ Decided Committed ∷ es) ≡ true
committed_leads false false false u es e f g k = refl
committed_leads false false true true es e f g k = let no : true ≡ false = g refl in absurd cc
committed_leads false false true false es e f g k = absurd cc
committed_leads d true p u es e f g k = absurd cc
committed_leads true false p u es e f g k = absurd cc

-- a call that waits for the place is found
find_leads : (e : ℕ) (ws : List Waiter) → has (is_place_of e) ws ≡ true → leads (is_enlisted e) (place_given (find (is_place_of e) ws)) ≡ true
find_leads e [] k = absurd cc
find_leads e ((n, Identifier) ∷ ws) k = find_leads e ws k
find_leads e ((n, Place f r c) ∷ ws) k = step (e == f.value) refl k (find_leads e ws)
  where
    step : (b : Bool) → (e == f.value) ≡ b → (b || has (is_place_of e) ws) ≡ true → (has (is_place_of e) ws ≡ true → leads (is_enlisted e) (place_given (find (is_place_of e) ws)) ≡ true)
        → leads (is_enlisted e) (place_given (if b then Some (n, Place f r c) else find (is_place_of e) ws)) ≡ true
    step true q k ih = q
    step false q k ih = ih k

enlisted_leads : (e : ℕ) (d n a b p : Bool) (xs ys : List Entry) → d ≡ n → a ≡ b → (b ≡ true → leads is_promoted xs ≡ true) → (n ≡ false → b ≡ false → (p ≡ true) × (leads (is_enlisted e) ys ≡ true)) → not n ≡ true
    → leads (enlisted_next b e) (if d then [] else if a then xs else if p then ys else []) ≡ true
enlisted_leads e d true a b p xs ys h k f g r = absurd cc
enlisted_leads e true false a b p xs ys h k f g r = absurd cc
enlisted_leads e false false true true p xs ys h k f g r = f refl
enlisted_leads e false false true false p xs ys h k f g r = absurd cc
enlisted_leads e false false false true p xs ys h k f g r = absurd cc
enlisted_leads e false false false false true xs ys h k f g r = (g refl refl).1
enlisted_leads e false false false false false xs ys h k f g r = let no : false ≡ true = (g refl refl).0 in absurd cc

arrived_paid : (t : ℕ) (w : World) (c : Conn) (m : Message) → Serves w.calls w.past c m → IsPaid w.past → IsPaid (onto (Got c Down m ∷ w.past) (local_got t (half w) c m))
unfolding local_got observe track
arrived_paid t w Begin (BeginBegun u) f p =
    head_paid w.past (Got Begin Down (BeginBegun u)) (is_going_up w.past) (is_sent_on Voter Up VOTER) (local_got t (half w) Begin (BeginBegun u)) refl
    (going_leads (is_sent_on Voter Up VOTER) (is_some (latest decision_of w.past)) (has is_decision w.past) (is_promoting_now (observe w.past)) (is_under_way w.past) _
    (Sent Voter Up (VoterVoter (identifier_of t)) ∷ []) (decision_seen w.past) (way_seen w.past) (λ q. refl)) (silent_local_got t (half w) Begin (BeginBegun u)) p
arrived_paid t w Voter VoterCreated f p =
    let v = sees (half w) (Got Voter Down VoterCreated) in
    head_paid w.past (Got Voter Down VoterCreated) (is_going_up w.past) (created_next (handover w.past)) (local_got t (half w) Voter VoterCreated) refl
    (going_leads (created_next (handover w.past)) (is_some (latest decision_of w.past)) (has is_decision w.past) (is_promoting_now (observe w.past)) (is_under_way w.past) []
    (hand_over t v (handover w.past)) (decision_seen w.past) (way_seen w.past)
    (λ q. handed_leads t v (handover w.past) (f (unpromoted_way (has is_promoting w.past) (has is_promoted w.past) (has is_promotion_failed w.past) q)) (caused_way (is_some (latest cause_of_promotion w.past)) (has is_promoted w.past) (has is_promotion_failed w.past) (way_seen w.past ∙ q))))
    (silent_local_got t (half w) Voter VoterCreated) p
arrived_paid t w (Enl e) EnlistEnlisted f p =
    let v = sees (half w) (Got (Enl e) Down EnlistEnlisted) in
    let own = is_under_way w.past && is_handed (handover w.past) e.value in
    head_paid w.past (Got (Enl e) Down EnlistEnlisted) (not (has is_decision w.past)) (enlisted_next own e.value) (local_got t (half w) (Enl e) EnlistEnlisted) refl
    (enlisted_leads e.value (is_some (latest decision_of w.past)) (has is_decision w.past) (is_promoting_now (observe w.past) && is_handed (handover w.past) e.value) own (has is_promoted w.past) (over t v)
    (place_given (find (is_place_of e.value) (waiting w.calls w.past))) (decision_seen w.past) (ap (λ b. b && is_handed (handover w.past) e.value) (way_seen w.past))
    (λ q. over_leads t (latest cause_of_promotion w.past) (flat_map (given t) v.waits)
    (caused_way (is_some (latest cause_of_promotion w.past)) (has is_promoted w.past) (has is_promotion_failed w.past) (way_seen w.past ∙ and_left (is_under_way w.past) (is_handed (handover w.past) e.value) q)))
    (λ d o. let s = f d o in (s.0, find_leads e.value (waiting w.calls w.past) s.1))) (silent_local_got t (half w) (Enl e) EnlistEnlisted) p
arrived_paid t w (Enl e) EnlistPrepare f p = block_paid w.past (Got (Enl e) Down EnlistPrepare) (Asked e Prepare) [] p (eq_self e.value) refl
arrived_paid t w (Enl e) EnlistSingle f p =
    head_paid w.past (Got (Enl e) Down EnlistSingle) (not (is_called_off (latest decision_of w.past)) && not (is_gone (observe w.past) e.value)) (is_hand e.value) (local_got t (half w) (Enl e) EnlistSingle) refl
    (λ b. step (is_called_off (latest decision_of w.past)) (is_gone (observe w.past) e.value) b) (silent_local_got t (half w) (Enl e) EnlistSingle) p
  where
    step : (a g : Bool) → (not a && not g) ≡ true → leads (is_hand e.value) (if a || g then [] else Handed e ∷ []) ≡ true
    step false false b = eq_self e.value
    step false true b = absurd cc
    step true g b = absurd cc
arrived_paid t w Begin BeginCommitted f p =
    let v = sees (half w) (Got Begin Down BeginCommitted) in
    head_paid w.past (Got Begin Down BeginCommitted) (not (has is_decision w.past)) is_decided_committed (local_got t (half w) Begin BeginCommitted) refl
    (committed_leads (is_some (latest decision_of w.past)) (has is_decision w.past) (is_promoting_now (observe w.past)) (is_under_way w.past) (ended v.waits Committed) (decision_seen w.past) (way_seen w.past) f)
    (silent_local_got t (half w) Begin BeginCommitted) p
arrived_paid t w c m f p = list_paid (Got c Down m ∷ w.past) (local_got t (half w) c m) (silent_local_got t (half w) c m) (single_paid w.past (Got c Down m) p refl)

-- what must stand before a step: of a message that the local side gets next
abbrev pub MayServe : World → Step → Type 0
MayServe w (Delivers c Down) = (m : Message) → is_next m (in_transit c Down w.past) → Serves w.calls w.past c m
MayServe w _ = Unit {0}

delivered_paid : (t : ℕ) (w : World) (c : Conn) (d : Dir) (ms : List Message) → in_transit c d w.past ≡ ms → MayServe w (Delivers c d) → IsPaid w.past → IsPaid (onto w.past (delivered t w c d ms))
delivered_paid t w c d [] e f p = list_paid (Ended c d ∷ w.past) (ended_at w c d) (silent_ended_at w c d) (silent_paid w.past (Ended c d ∷ []) p refl)
delivered_paid t w c Up (m ∷ ms) e f p = core_paid t w c m p
delivered_paid t w c Down (m ∷ ms) e f p = arrived_paid t w c m (f m (subst (is_next m) (sym e) refl)) p

-- each step's block pays
pub step_pays : (t : ℕ) (w : World) (m : Step) → MayServe w m → IsPaid w.past → IsPaid (after t w m).past
unfolding after block_at
step_pays t w (Calls n a c m) f p = called_paid t w n a c (answer_at t w c m) p
step_pays t w (Replies e r) f p = reply_paid w.calls w.past e r p
step_pays t w Acts f p = local_paid w p
step_pays t w (Coordinates a) f p = coordinates_paid w.past a p
step_pays t w (Delivers c d) f p = delivered_paid t w c d (in_transit c d w.past) refl f p
step_pays t w Stops f p = silent_paid w.past (Stopped ∷ []) p refl
step_pays t w (Restarts found) f p = list_paid w.past (restarted (core w).stopped found) (silent_restarted (core w).stopped found) p
