-- Replays in which the log is sound and whose replies are all as planned, none by an object: what is pending makes one block.
use Rattle.std.proofs.Common.{◌≡◌, ℕ, zero, suc, ◌≤◌, ◌==◌, Bool, true, false, ◌&&◌, ◌||◌, List, [], ◌∷◌, Option, Some, None, is_some, refl, arith, ap, sym, subst, ◌∙◌, length, if◌then◌else◌}
use Rattle.std.specs.Prelude.{not}
use Rattle.std.proofs.lemmas.Bool.Decides.{nat_tests}
use Rattle.dtx_values.specs.declared.call.Call.{Call}
use Rattle.dtx_values.specs.declared.call.Call.TheVariants.{Await, Do}
use Rattle.dtx_values.specs.declared.entry.Entry.{Entry}
use Rattle.dtx_values.specs.declared.entry.Entry.TheVariants.{LogFull, OwnerAnswered, PromoteReply, Requested, Sent, Voted}
use Rattle.dtx_values.specs.declared.entry.Request.{Request}
use Rattle.dtx_values.specs.declared.entry.Request.TheVariants.{Commit as RequestCommit, Abort as RequestAbort}
use Rattle.dtx_values.specs.declared.message.Conn.TheVariants.{Begin}
use Rattle.dtx_values.specs.declared.message.Dir.TheVariants.{Up}
use Rattle.dtx_values.specs.declared.message.Message.TheVariants.{BeginBegin}
use Rattle.dtx_values.specs.declared.note.Note.{Note}
use Rattle.dtx_values.specs.declared.note.Note.TheVariants.{Prepare, Promote as PromoteNote, Hand, Single, Commit}
use Rattle.dtx_values.specs.declared.note.Reply.{Reply}
use Rattle.dtx_values.specs.declared.note.Reply.TheVariants.{Vote as VoteReply, Owner as OwnerReply, Promote as Promotes, Ack}
use Rattle.dtx_values.specs.declared.number.ActorNo.{ActorNo}
use Rattle.dtx_values.specs.declared.number.EnlNo.{EnlNo}
use Rattle.dtx_values.specs.declared.number.RmNo.{RmNo}
use Rattle.dtx_values.specs.declared.number.TxNo.{TxNo}
use Rattle.dtx_values.specs.declared.script.Line.{Line}
use Rattle.dtx_values.specs.declared.words.Outcome.{Outcome}
use Rattle.dtx_values.specs.declared.words.Outcome.TheVariants.{Committed, Aborted, InDoubt}
use Rattle.dtx_values.specs.declared.words.Vote.{Vote}
use Rattle.dtx_values.specs.declared.words.Vote.TheVariants.{Yes, No, Done as DoneVote}
use Rattle.dtx_model.specs.Words.{always, onto, past_of}
use Rattle.dtx_model.specs.Entries.{same_outcome}
use Rattle.dtx_model.specs.Coordinated.{Coordinated, abort_sends, follow, may_free, may_log}
use Rattle.dtx_model.specs.Half.{Half, sees, to_up, veto}
use Rattle.dtx_model.specs.Plans.{manager_of}
use Rattle.dtx_model.specs.Replies.{answered_by, due_of, fits, owner_entries, reply_entries, request_message, voted_by}
use Rattle.dtx_model.specs.Traces.{Placed, history, noted}
use Rattle.dtx_model.specs.World.{core, half}
use Rattle.dtx_model.specs.Steps.{LogAnswer, Done, Full, StoppedNow, StoppedBefore, Step, Calls, Coordinates, StepName, ReplyOf, LocalAct, CoordinatorAct, Delivery, appended, block_at, freed}
use Rattle.dtx_model.specs.Caused.{IsNamed, calls_in, has_object, is_as_planned, is_outcome_planned, is_promotion_planned, is_request_planned, is_up_to, is_vote_planned, may_coordinate, plans_of, same_vote}
use Rattle.dtx_model.specs.Replay.{block_in, world_at}
use Rattle.dtx_model.specs.Contexts.{scope_block, scope_calls, scopes_of}
use Rattle.dtx_model.specs.Calls.{call_of}
use Rattle.dtx_model.proofs.Bools.{and_left, and_right}
use Rattle.dtx_model.proofs.Histories.{history-noted, history-other, history-same}
use Rattle.dtx_model.proofs.Pasts.{always-before}
use Rattle.history_table.proofs.Tests.{eq_self}
use Rattle.script_histories.specs.LogQuiet.{is_log_full}
use Rattle.script_histories.proofs.ReplayTurns.{CallDone, LineDone, RoundsDone, StepsDone, after_block, calls_after, goes_on, scope_after}

-- the reply of each is the one that its line plans, and none is an object's; and no append finds the log full
abbrev pub is_planned_there : List Line → List Entry → Entry → Bool
is_planned_there s past x = is_as_planned (plans_of s) (has_object s 0) past x && not (is_log_full x)

abbrev pub IsPlanned : List Line → List Entry → Type 0
IsPlanned s h = always (is_planned_there s) h ≡ true

abbrev pub AllPlanned : List Line → List Placed → Type 0
AllPlanned s T = (u : TxNo) → IsPlanned s (history u.value T)

-- so it is of a step's own history,
pub step_planned : (s : List Line) (t : TxNo) (m : Step) (T : List Placed) → AllPlanned s (after_block s t m T) → IsPlanned s (onto (history t.value T) (block_in s t m T))
step_planned s t m T all =
    subst (IsPlanned s) (history-same t.value t T (block_in s t m T) (eq_self t.value)) (all t)

-- and so it was before a step,
pub planned_before : (s : List Line) (t : TxNo) (m : Step) (T : List Placed) → AllPlanned s (after_block s t m T) → AllPlanned s T
planned_before s t m T all u = by_name (u.value == t.value) refl
  where
    by_name : (b : Bool) → (u.value == t.value) ≡ b → IsPlanned s (history u.value T)
    by_name true e =
        always-before (is_planned_there s) (history u.value T) (block_in s t m T)
        (subst (IsPlanned s) (history-same u.value t T (block_in s t m T) e) (all u))
    by_name false e = subst (IsPlanned s) (history-other u.value t T (block_in s t m T) e) (all u)

-- before the steps of a `do` or an `await`,
steps_planned_before : (s : List Line) (t : TxNo) (k m : ℕ) (start T : List Placed) → AllPlanned s T → StepsDone s t k m start T → AllPlanned s start
steps_planned_before s t k zero start T all r = subst (AllPlanned s) r all
steps_planned_before s t k (suc m) start T all r = steps_planned_before s t k m start r.0 (planned_before s t r.3 r.0 (subst (AllPlanned s) r.7 all)) r.1

-- before what a line does
words_planned_before : (s : List Line) (a : ActorNo) (i : ℕ) (o : Option (TxNo × Call)) (start T : List Placed) → AllPlanned s T → CallDone s a i o start T → AllPlanned s start
words_planned_before s a i (Some (t, Do u k n)) start T all r = steps_planned_before s t k r.0 start r.1 (planned_before s t (Calls i a (Do u k n) r.0) r.1 (subst (AllPlanned s) r.3 all)) r.2.ran
words_planned_before s a i (Some (t, Await u)) start T all r = steps_planned_before s t 1 r.0 start r.1 (planned_before s t (Calls i a (Await u) 0) r.1 (subst (AllPlanned s) r.3 all)) r.2.ran
words_planned_before s a i (Some (t, c)) start T all r = planned_before s t (Calls i a c 0) start (subst (AllPlanned s) r all)
words_planned_before s a i None start T all r = subst (AllPlanned s) r all

calls_planned_before : (s : List Line) (n : ℕ) (a : ActorNo) (cs : List (TxNo × Call)) (T : List Placed) → AllPlanned s (calls_after s n a cs T) → AllPlanned s T
calls_planned_before s n a [] T all = all
calls_planned_before s n a (c ∷ cs) T all = planned_before s c.0 (Calls n a c.1 0) T (calls_planned_before s n a cs (after_block s c.0 (Calls n a c.1 0) T) all)

pub line_planned_before : (s before : List Line) (l : Line) (start T : List Placed) → AllPlanned s T → LineDone s before l start T → AllPlanned s start
line_planned_before s before l start T all r u =
    let n : ℕ = suc (length before) in
    let xs = scopes_of l.actor.value before in
    let es : List Entry = scope_block n l.actor l.body xs in
    subst (IsPlanned s) (history-noted u.value l.actor start es)
    (calls_planned_before s n l.actor (scope_calls l.body xs) (onto start (noted l.actor es)) (words_planned_before s l.actor n (call_of s l.body) (scope_after s n l xs start) T all r.1) u)

-- and before rounds
pub rounds_planned_before : (s : List Line) (start : List Placed) (xs : List (TxNo × Step)) (T : List Placed) → AllPlanned s T → RoundsDone s start xs T → AllPlanned s start
rounds_planned_before s start [] T all r = subst (AllPlanned s) r all
rounds_planned_before s start (x ∷ xs) T all r = rounds_planned_before s start xs r.0 (planned_before s x.0 x.1 r.0 (subst (AllPlanned s) r.4 all)) r.1

-- no manager has an object
none_up_to : (o : Option RmNo) → is_up_to 0 o ≡ false
none_up_to (Some r) = let low : 1 ≤ r.value = r.in_range.0 in grind (arith, nat_tests)
none_up_to None = refl

-- so the first entry of a block, where it is a reply, is the planned one
by_plan : (a b c : Bool) → a ≡ false → ((a && b) || c) ≡ true → c ≡ true
by_plan true b c f k = absurd cc
by_plan false b c f k = k

free_none : (s : List Line) (e : EnlNo) → has_object s 0 e.value ≡ false
free_none s e = none_up_to (manager_of (calls_in s (past_of s)) e.value)

first_planned : (s : List Line) (h : List Entry) (x : Entry) (xs : List Entry) → IsPlanned s (onto h (x ∷ xs)) → is_planned_there s h x ≡ true
first_planned s h x xs k = and_left (is_planned_there s h x) (always (is_planned_there s) h) (always-before (is_planned_there s) (x ∷ h) xs k)

first_as_planned : (s : List Line) (h : List Entry) (x : Entry) (xs : List Entry) → IsPlanned s (onto h (x ∷ xs)) → is_as_planned (plans_of s) (has_object s 0) h x ≡ true
first_as_planned s h x xs k = and_left (is_as_planned (plans_of s) (has_object s 0) h x) (not (is_log_full x)) (first_planned s h x xs k)

vote_planned : (s : List Line) (h : List Entry) (e : EnlNo) (v : Vote) (xs : List Entry) → IsPlanned s (onto h (Voted e v ∷ xs)) → is_vote_planned (plans_of s e.value).vote v ≡ true
vote_planned s h e v xs k =
    by_plan (has_object s 0 e.value) (is_some (plans_of s e.value).vote) (is_vote_planned (plans_of s e.value).vote v) (free_none s e) (first_as_planned s h (Voted e v) xs k)

promotion_planned : (s : List Line) (h : List Entry) (e : EnlNo) (b : Bool) (xs : List Entry) → IsPlanned s (onto h (PromoteReply e b ∷ xs)) → is_promotion_planned (plans_of s e.value).promote b ≡ true
promotion_planned s h e b xs k =
    by_plan (has_object s 0 e.value) (is_some (plans_of s e.value).promote) (is_promotion_planned (plans_of s e.value).promote b) (free_none s e) (first_as_planned s h (PromoteReply e b) xs k)

outcome_planned : (s : List Line) (h : List Entry) (e : EnlNo) (x : Outcome) (xs : List Entry) → IsPlanned s (onto h (OwnerAnswered e x ∷ xs)) → is_outcome_planned (plans_of s e.value).owner x ≡ true
outcome_planned s h e x xs k =
    by_plan (has_object s 0 e.value) (is_some (plans_of s e.value).owner) (is_outcome_planned (plans_of s e.value).owner x) (free_none s e) (first_as_planned s h (OwnerAnswered e x) xs k)

request_planned : (s : List Line) (h : List Entry) (e : EnlNo) (r : Request) (xs : List Entry) → IsPlanned s (onto h (Requested e r ∷ xs)) → is_request_planned (plans_of s e.value).owner r ≡ true
request_planned s h e r xs k =
    by_plan (has_object s 0 e.value) (is_some (plans_of s e.value).owner) (is_request_planned (plans_of s e.value).owner r) (free_none s e) (first_as_planned s h (Requested e r) xs k)

-- a plan has one vote, one promotion, one outcome and one request
vote_same : (w v : Vote) → same_vote w v ≡ true → w ≡ v
vote_same Yes Yes k = refl
vote_same No No k = refl
vote_same DoneVote DoneVote k = refl
vote_same _ _ k = absurd cc

outcome_same : (x y : Outcome) → same_outcome x y ≡ true → x ≡ y
outcome_same Committed Committed k = refl
outcome_same Aborted Aborted k = refl
outcome_same InDoubt InDoubt k = refl
outcome_same _ _ k = absurd cc

one_vote : (o : Option Vote) (v w : Vote) → is_vote_planned o v ≡ true → is_vote_planned o w ≡ true → v ≡ w
one_vote (Some x) v w a b = sym (vote_same x v a) ∙ vote_same x w b
one_vote None v w a b = absurd cc

one_promotion : (o : Option Bool) → is_promotion_planned o true ≡ true → is_promotion_planned o false ≡ true → ⊥
one_promotion (Some true) a b = cc
one_promotion (Some false) a b = cc
one_promotion None a b = cc

one_outcome : (o : Option Outcome) (x y : Outcome) → is_outcome_planned o x ≡ true → is_outcome_planned o y ≡ true → x ≡ y
one_outcome (Some z) x y a b = sym (outcome_same z x a) ∙ outcome_same z y b
one_outcome None x y a b = absurd cc

one_request : (o : Option Outcome) → is_request_planned o RequestAbort ≡ true → is_request_planned o RequestCommit ≡ true → ⊥
one_request (Some Committed) a b = cc
one_request (Some Aborted) a b = cc
one_request (Some InDoubt) a b = cc
one_request None a b = cc

-- Of one enlistment and one note, planned replies make one block: promotions,
promotions_same : (s : List Line) (h : List Entry) (o : Half) (e : EnlNo) (a b : Bool) → IsPlanned s (onto h (reply_entries o e (Promotes a))) → IsPlanned s (onto h (reply_entries o e (Promotes b)))
    → reply_entries o e (Promotes a) ≡ reply_entries o e (Promotes b)
unfolding reply_entries
promotions_same s h o e true true k j = refl
promotions_same s h o e false false k j = refl
promotions_same s h o e true false k j =
    absurd (one_promotion (plans_of s e.value).promote (promotion_planned s h e true (Sent Begin Up BeginBegin ∷ []) k) (promotion_planned s h e false (veto (sees o (PromoteReply e false))) j))
promotions_same s h o e false true k j =
    absurd (one_promotion (plans_of s e.value).promote (promotion_planned s h e true (Sent Begin Up BeginBegin ∷ []) j) (promotion_planned s h e false (veto (sees o (PromoteReply e false))) k))

-- requests, where what is requested is all that matters,
abbrev commits_by : Half → EnlNo → List Entry
commits_by o e = to_up o.seen Begin (request_message Committed)

abbrev aborts_by : Half → EnlNo → List Entry
aborts_by o e = to_up o.seen Begin (request_message Aborted)

apart_requests : (s : List Line) (h : List Entry) (o : Half) (e : EnlNo) → IsPlanned s (onto h (Requested e RequestAbort ∷ aborts_by o e))
    → IsPlanned s (onto h (Requested e RequestCommit ∷ commits_by o e)) → ⊥
apart_requests s h o e k j =
    one_request (plans_of s e.value).owner (request_planned s h e RequestAbort (aborts_by o e) k) (request_planned s h e RequestCommit (commits_by o e) j)

requests_same : (s : List Line) (h : List Entry) (o : Half) (e : EnlNo) (x y : Outcome) → IsPlanned s (onto h (owner_entries o e x (Some Single))) → IsPlanned s (onto h (owner_entries o e y (Some Single)))
    → owner_entries o e x (Some Single) ≡ owner_entries o e y (Some Single)
requests_same s h o e Aborted Aborted k j = refl
requests_same s h o e Aborted Committed k j = absurd (apart_requests s h o e k j)
requests_same s h o e Aborted InDoubt k j = absurd (apart_requests s h o e k j)
requests_same s h o e Committed Aborted k j = absurd (apart_requests s h o e j k)
requests_same s h o e InDoubt Aborted k j = absurd (apart_requests s h o e j k)
requests_same s h o e _ _ k j = refl

-- an owner's answers,
answers_same : (s : List Line) (h : List Entry) (o : Half) (e : EnlNo) (x y : Outcome) → IsPlanned s (onto h (OwnerAnswered e x ∷ answered_by o e x)) → IsPlanned s (onto h (OwnerAnswered e y ∷ answered_by o e y))
    → x ≡ y
answers_same s h o e x y k j = one_outcome (plans_of s e.value).owner x y (outcome_planned s h e x (answered_by o e x) k) (outcome_planned s h e y (answered_by o e y) j)

owners_same : (s : List Line) (h : List Entry) (o : Half) (e : EnlNo) (n : Option Note) (x y : Outcome) → IsPlanned s (onto h (owner_entries o e x n)) → IsPlanned s (onto h (owner_entries o e y n))
    → owner_entries o e x n ≡ owner_entries o e y n
owners_same s h o e (Some Single) x y k j = requests_same s h o e x y k j
owners_same s h o e n x y k j = ap (λ z. OwnerAnswered e z ∷ answered_by o e z) (answers_same s h o e x y k j)

-- and all
abbrev is_same_kind : Reply → Reply → Bool
is_same_kind (VoteReply v) (VoteReply w) = true
is_same_kind (Promotes a) (Promotes b) = true
is_same_kind (OwnerReply x) (OwnerReply y) = true
is_same_kind Ack Ack = true
is_same_kind _ _ = false

fit_alike : (n : Note) (r q : Reply) → fits r n ≡ true → fits q n ≡ true → is_same_kind r q ≡ true
fit_alike Prepare (VoteReply v) (VoteReply w) f g = refl
fit_alike Prepare _ _ f g = absurd cc
fit_alike PromoteNote (Promotes a) (Promotes b) f g = refl
fit_alike PromoteNote _ _ f g = absurd cc
fit_alike Hand (OwnerReply x) (OwnerReply y) f g = refl
fit_alike Hand _ _ f g = absurd cc
fit_alike Single (OwnerReply x) (OwnerReply y) f g = refl
fit_alike Single _ _ f g = absurd cc
fit_alike Commit Ack Ack f g = refl
fit_alike Commit _ _ f g = absurd cc
fit_alike _ (VoteReply v) q f g = absurd cc
fit_alike _ (Promotes a) q f g = absurd cc
fit_alike _ (OwnerReply x) q f g = absurd cc
fit_alike _ Ack q f g = absurd cc

replies_same : (s : List Line) (h : List Entry) (o : Half) (e : EnlNo) (r q : Reply) → is_same_kind r q ≡ true → IsPlanned s (onto h (reply_entries o e r)) → IsPlanned s (onto h (reply_entries o e q))
    → reply_entries o e r ≡ reply_entries o e q
unfolding reply_entries
replies_same s h o e (VoteReply v) (VoteReply w) a k j =
    let one = one_vote (plans_of s e.value).vote v w (vote_planned s h e v (voted_by (sees o (Voted e v)) e v) k) (vote_planned s h e w (voted_by (sees o (Voted e w)) e w) j) in
    ap (λ u. reply_entries o e (VoteReply u)) one
replies_same s h o e (Promotes a) (Promotes b) f k j = promotions_same s h o e a b k j
replies_same s h o e (OwnerReply x) (OwnerReply y) a k j = owners_same s h o e (due_of o.seen e.value) x y k j
replies_same s h o e Ack Ack a k j = refl
replies_same s h o e _ _ a k j = absurd cc

-- An act of the coordinator whose append didn't find the log full, and which neither stopped the log nor found it stopped, was done.
never_full : (s : List Line) (h : List Entry) (k : Coordinated) (log free : Bool) → (log || (free && false)) ≡ true → IsPlanned s (onto h (if log then appended k Full else freed Full)) → ⊥
never_full s h k true free may p =
    let there = first_planned s h LogFull (abort_sends (follow k LogFull)) p in
    let none = and_right (is_as_planned (plans_of s) (has_object s 0) h LogFull) (not (is_log_full LogFull)) there in cc
never_full s h k false true may p = cc
never_full s h k false false may p = cc

act_done : (s : List Line) (t : TxNo) (T : List Placed) (a : LogAnswer) → may_coordinate (core (world_at s t T)) a ≡ true → goes_on (Coordinates a) ≡ true
    → IsPlanned s (onto (history t.value T) (block_in s t (Coordinates a) T)) → a ≡ Done
unfolding block_at
act_done s t T Done may go p = refl
act_done s t T Full may go p =
    let k = core (world_at s t T) in absurd (never_full s (history t.value T) k (may_log k) (may_free k) may p)
act_done s t T StoppedNow may go p = absurd cc
act_done s t T StoppedBefore may go p = absurd cc

-- a step that goes on, and whose block is planned
pub record IsOwn (s : List Line) (t : TxNo) (T : List Placed) (m : Step) : Type 0 where
  pub goes : goes_on m ≡ true
  pub planned : IsPlanned s (onto (history t.value T) (block_in s t m T))

acts_same : (s : List Line) (t : TxNo) (T : List Placed) (m : Step) → IsNamed (world_at s t T) CoordinatorAct m → IsOwn s t T m → m ≡ Coordinates Done
acts_same s t T m (a, may, same) own =
    let here = subst (IsOwn s t T) same own in
    same ∙ ap (λ x. Coordinates x) (act_done s t T a may here.goes here.planned)

-- a reply that is due is one of its enlistment and its note
reply_same : (s : List Line) (t : TxNo) (T : List Placed) (e : EnlNo) (m k : Step) → IsNamed (world_at s t T) (ReplyOf e) m → IsNamed (world_at s t T) (ReplyOf e) k → IsOwn s t T m → IsOwn s t T k
    → block_in s t m T ≡ block_in s t k T
unfolding block_at
reply_same s t T e m k (r, n, due, fit, same) (q, o, owed, fits_too, alike) here there =
    let there_note : Some o ≡ Some n = sym owed ∙ due in
    let note : o ≡ n = cc in
    let kind = fit_alike n r q fit (subst (λ n. fits q n ≡ true) note fits_too) in
    let first = (subst (IsOwn s t T) same here).planned in
    let second = (subst (IsOwn s t T) alike there).planned in
    ap (λ m. block_in s t m T) same ∙ replies_same s (history t.value T) (half (world_at s t T)) e r q kind first second ∙ ap (λ m. block_in s t m T) (sym alike)

-- a name that is pending makes one block
pub one_block : (s : List Line) (t : TxNo) (T : List Placed) (n : StepName) (m k : Step) → IsNamed (world_at s t T) n m → IsNamed (world_at s t T) n k → IsOwn s t T m → IsOwn s t T k
    → block_in s t m T ≡ block_in s t k T
one_block s t T (ReplyOf e) m k p q here there = reply_same s t T e m k p q here there
one_block s t T LocalAct m k p q here there = ap (λ m. block_in s t m T) (p ∙ sym q)
one_block s t T CoordinatorAct m k p q here there = ap (λ m. block_in s t m T) (acts_same s t T m p here ∙ sym (acts_same s t T k q there))
one_block s t T (Delivery c d) m k p q here there = ap (λ m. block_in s t m T) (p ∙ sym q)
