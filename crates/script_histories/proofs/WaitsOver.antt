-- In each world that steps make: once the outcome is decided, no call waits.
use Rattle.std.proofs.Common.{◌≡◌, ℕ, ◌==◌, Bool, true, false, List, [], ◌∷◌, Option, Some, None, refl, ◌∙◌, ap, sym, subst}
use Rattle.std.specs.Prelude.{not, if◌then◌else◌}
use Rattle.std.proofs.lemmas.Bool.{false_from_ne_true, true_from_ne_false}
use Rattle.dtx_values.specs.declared.call.Call.{Call}
use Rattle.dtx_values.specs.declared.call.Call.TheVariants.{Durable, Marshal}
use Rattle.dtx_values.specs.declared.entry.Answer.{Answer}
use Rattle.dtx_values.specs.declared.entry.Answer.TheVariants.{Wait}
use Rattle.dtx_values.specs.declared.entry.Entry.{Entry}
use Rattle.dtx_values.specs.declared.entry.Entry.TheVariants.{Answered, Called, Got, Sent, Stopped}
use Rattle.dtx_values.specs.declared.message.Conn.{Conn}
use Rattle.dtx_values.specs.declared.message.Conn.TheVariants.{Begin, Enl, Voter}
use Rattle.dtx_values.specs.declared.message.Dir.{Dir}
use Rattle.dtx_values.specs.declared.message.Dir.TheVariants.{Down, Up}
use Rattle.dtx_values.specs.declared.message.Message.{Message}
use Rattle.dtx_values.specs.declared.message.Message.TheVariants.{BeginBegin, EnlistEnlisted, VoterCreated}
use Rattle.dtx_values.specs.declared.number.ActorNo.{ActorNo}
use Rattle.dtx_values.specs.declared.number.EnlNo.{EnlNo}
use Rattle.dtx_values.specs.declared.number.RmNo.{RmNo}
use Rattle.dtx_values.specs.declared.words.Cause.{Cause}
use Rattle.dtx_values.specs.declared.words.Cause.TheVariants.{Marshal as MarshalCause}
use Rattle.dtx_values.specs.Class.{is_promotable}
use Rattle.dtx_values.specs.Owners.{cause_of}
use Rattle.dtx_values.specs.Support.{is_single}
use Rattle.dtx_model.specs.declared.waiting.EnteredCall.{EnteredCall}
use Rattle.dtx_model.specs.Words.{each, has, onto}
use Rattle.dtx_model.specs.Entries.{is_call, is_decision}
use Rattle.dtx_model.specs.Observed.{observe}
use Rattle.dtx_model.specs.Promotes.{identifier_of, is_wait}
use Rattle.dtx_model.specs.Wires.{in_transit}
use Rattle.dtx_model.specs.Waiting.{Waiter, waiting}
use Rattle.dtx_model.specs.Half.{Half, enlist_sent, is_promoting, sees}
use Rattle.dtx_model.specs.Arrivals.{created, enlisted_at, local_got}
use Rattle.dtx_model.specs.Acts.{act_entries}
use Rattle.dtx_model.specs.Replies.{reply_entries}
use Rattle.dtx_model.specs.Facts.{begin_promotion, durable_facts, facts_if, has_facts, is_waiting_answer}
use Rattle.dtx_model.specs.World.{World, answer_at, core, facts_at, half}
use Rattle.dtx_model.specs.Steps.{Step, Calls, Replies, Acts, Coordinates, Delivers, Stops, Restarts, after, block_at, coordinates, delivered, restarted}
use Rattle.dtx_model.specs.Caused.{MayCome, Ran}
use Rattle.dtx_model.proofs.Bools.{and_both, and_left, and_right, not_both, not_true, or_case, or_false}
use Rattle.dtx_model.proofs.Heeding.{fresh}
use Rattle.dtx_model.proofs.Reading.{has-onto}
use Rattle.history_table.specs.Waited.{is_answer_of}
use Rattle.history_table.proofs.Scans.{each_more, none_more}
use Rattle.history_table.proofs.Tests.{eq_swap}
use Rattle.history_table.proofs.Owned.{decision_seen}
use Rattle.script_histories.proofs.OnTheWay.{each_but}
use Rattle.history_table.proofs.PlainBlocks.{Plain, is_plain, plain_act, plain_coordinates, plain_reply, plain_restarted}
use Rattle.history_table.proofs.DecidingBlocks.{are_answered, kept_act, kept_arrived, kept_called, kept_coordinates, kept_core_got, kept_ended_at, kept_reply, kept_restarted}
use Rattle.dtx_model.proofs.Writes.{may_begin}
use Rattle.script_histories.proofs.WaitingRuns.{decided_gives, other_gives, waits_as}
use Rattle.history_table.proofs.WaitingApart.{PassesGiven, created_pass, enlisted_pass, idle_call, idle_delivered, is_idle}

-- once it is decided no call waits
abbrev pub IsOver : List EnteredCall → List Entry → Type 0
IsOver ks h = has is_decision h ≡ true → waiting ks h ≡ []

abbrev makes_none_wait : List Entry → Bool
makes_none_wait es = each (λ x. not (is_wait x)) es

idle_unwaiting : (x : Entry) → is_idle x ≡ true → not (is_wait x) ≡ true
idle_unwaiting (Called n a x) k = absurd cc
idle_unwaiting _ k = refl

plain_unwaiting : (x : Entry) → is_plain x ≡ true → not (is_wait x) ≡ true
plain_unwaiting (Called n a x) k = absurd cc
plain_unwaiting _ k = refl

plain_waits : {es : List Entry} → Plain es → makes_none_wait es ≡ true
plain_waits {es} p = each_more is_plain (λ x. not (is_wait x)) plain_unwaiting es p.proof

idle_waits : (es : List Entry) → each is_idle es ≡ true → makes_none_wait es ≡ true
idle_waits es k = each_more is_idle (λ x. not (is_wait x)) idle_unwaiting es k

-- where a block answers each call that waits, and makes none wait, none is left
one_answered : (ks : List EnteredCall) (x : Entry) (h es : List Entry) → not (is_wait x) ≡ true → are_answered (waiting ks h) (x ∷ es) ≡ true → are_answered (waiting ks (x ∷ h)) es ≡ true
one_answered ks (Called n a Wait) h es u k = absurd cc
one_answered ks (Answered n y) h es u k =
    each_but n (λ w. has (is_answer_of w.0) (Answered n y ∷ es)) (λ w. has (is_answer_of w.0) es)
    (λ w o q. or_case (w.0 == n) (has (is_answer_of w.0) es) (λ s. absurd (not_both (n == w.0) (eq_swap n w.0 ∙ s) o)) (λ r. r) q) (waiting ks h) k
one_answered ks x h es u k = k

none_left : (ws : List Waiter) → are_answered ws [] ≡ true → ws ≡ []
none_left [] k = refl
none_left (w ∷ ws) k = absurd cc

all_answered : (ks : List EnteredCall) (h es : List Entry) → makes_none_wait es ≡ true → are_answered (waiting ks h) es ≡ true → waiting ks (onto h es) ≡ []
all_answered ks h [] u k = none_left (waiting ks h) k
all_answered ks h (x ∷ es) u k =
    all_answered ks (x ∷ h) es (and_right (not (is_wait x)) (makes_none_wait es) u) (one_answered ks x h es (and_left (not (is_wait x)) (makes_none_wait es) u) k)

block_over : (ks : List EnteredCall) (h es : List Entry) → makes_none_wait es ≡ true → (has is_decision es ≡ true → are_answered (waiting ks h) es ≡ true) → IsOver ks h → IsOver ks (onto h es)
block_over ks h es u f o = λ d.
    or_case (has is_decision es) (has is_decision h) (λ a. all_answered ks h es u (f a))
    (λ a. all_answered ks h es u (subst (λ ws. are_answered ws es ≡ true) (sym (o a)) refl)) (sym (has-onto is_decision h es) ∙ d)

-- a block that decides nothing
open_over : (ks : List EnteredCall) (h es : List Entry) → makes_none_wait es ≡ true → has is_decision es ≡ false → IsOver ks h → IsOver ks (onto h es)
open_over ks h es u n o = block_over ks h es u (λ d. absurd (not_both (has is_decision es) d n)) o

-- The arrivals: CREATED and ENLISTED decide nothing.
abbrev is_open : Entry → Bool
is_open x = not (is_decision x)

open_passes : PassesGiven is_open
open_passes = record { promoted = λ u c. refl; answered = λ n x. refl; placed = λ e c. refl; sent = λ e i. refl }

undecided_by : (es : List Entry) → each is_open es ≡ true → has is_decision es ≡ false
undecided_by es k = none_more is_open is_decision (λ x q. not_true (is_decision x) q) es k

got_answers : (t : ℕ) (w : World) (c : Conn) (m : Message) → has is_decision (local_got t (half w) c m) ≡ true → are_answered (half w).waits (local_got t (half w) c m) ≡ true
unfolding local_got
got_answers t w Voter VoterCreated d =
    let h = sees (half w) (Got Voter Down VoterCreated) in absurd (not_both (has is_decision (created t h)) d (undecided_by (created t h) (created_pass is_open open_passes t h)))
got_answers t w (Enl e) EnlistEnlisted d =
    let h = sees (half w) (Got (Enl e) Down EnlistEnlisted) in
    absurd (not_both (has is_decision (enlisted_at t h e)) d (undecided_by (enlisted_at t h e) (enlisted_pass is_open open_passes t h e)))
got_answers t w c m d = (kept_arrived t (sees (half w) (Got c Down m)) c m refl).answers d

delivered_answers : (t : ℕ) (w : World) (c : Conn) (d : Dir) (ms : List Message) → has is_decision (delivered t w c d ms) ≡ true → are_answered (half w).waits (delivered t w c d ms) ≡ true
delivered_answers t w c d [] k = (kept_ended_at w c d).answers k
delivered_answers t w c Up (m ∷ ms) k = (kept_core_got {ws = (half w).waits} (identifier_of t) (core w) c m).answers k
delivered_answers t w c Down (m ∷ ms) k = got_answers t w c m k

-- The calls. One that waits comes where nothing is decided, and decides nothing.
open_begin : (h : Half) (c : Option Cause) → has is_decision (begin_promotion h c) ≡ false
open_begin h None = refl
open_begin h (Some c) = step (has (λ x. is_promotable x.class) h.seen.table)
  where
    step : (b : Bool) → has is_decision (if b then [] else Sent Begin Up BeginBegin ∷ []) ≡ false
    step true = refl
    step false = refl

open_durable : (t : ℕ) (h : Half) (e : EnlNo) (r : RmNo) (s : Bool) → has is_decision (durable_facts t h e r s Wait) ≡ false
open_durable t h e r s = step h.seen.promoted (is_promoting h.seen)
  where
    step : (p q : Bool) → has is_decision (if p then enlist_sent t e r else if q then [] else begin_promotion h (cause_of h.seen.table s)) ≡ false
    step true q = refl
    step false true = refl
    step false false = open_begin h (cause_of h.seen.table s)

open_marshal : (h : Half) (b : Bool) → has is_decision (if b then [] else begin_promotion h (Some MarshalCause)) ≡ false
open_marshal h true = refl
open_marshal h false = open_begin h (Some MarshalCause)

open_wait : (t : ℕ) (w : World) (c : Call) (x : Answer) → may_begin c ≡ true → is_waiting_answer x ≡ true → has is_decision (facts_if (has_facts x) (facts_at t w c x)) ≡ false
open_wait t w (Durable u e r s) Wait p q = open_durable t (half w) e r (is_single s)
open_wait t w (Marshal u) Wait p q = open_marshal (half w) (is_promoting (half w).seen)
open_wait t w (Durable u e r s) x p q = absurd cc
open_wait t w (Marshal u) x p q = absurd cc
open_wait t w c x p q = absurd cc

called_over : (t : ℕ) (w : World) (n : ℕ) (a : ActorNo) (c : Call) (m : ℕ) → has (is_call n) w.past ≡ false → IsOver w.calls w.past
    → IsOver (record { line = n; actor = a; call = c } ∷ w.calls) (onto w.past (Called n a (answer_at t w c m) ∷ facts_if (has_facts (answer_at t w c m)) (facts_at t w c (answer_at t w c m))))
unfolding observe
called_over t w n a c m new o = by (is_waiting_answer x) refl
  where
    x : Answer
    x = answer_at t w c m

    es : List Entry
    es = facts_if (has_facts x) (facts_at t w c x)

    ks : List EnteredCall
    ks = record { line = n; actor = a; call = c } ∷ w.calls

    same : waiting ks w.past ≡ waiting w.calls w.past
    same = ap (λ (v : Half). v.waits) (fresh (record { line = n; actor = a; call = c }) w.calls w.past new)

    by : (b : Bool) → is_waiting_answer x ≡ b → IsOver ks (onto w.past (Called n a x ∷ es))
    by true q = λ d.
        let undecided : has is_decision w.past ≡ false =
        false_from_ne_true (has is_decision w.past) (λ k. not_both (is_waiting_answer x) q (decided_gives t w c m (decision_seen w.past ∙ k))) in
        let may : may_begin c ≡ true = true_from_ne_false (may_begin c) (λ k. not_both (is_waiting_answer x) q (other_gives t w c m k)) in
        absurd (not_both (has is_decision (onto w.past (Called n a x ∷ es))) d
        (has-onto is_decision w.past (Called n a x ∷ es) ∙ or_false (has is_decision es) (has is_decision w.past) (open_wait t w c x may q) undecided))
    by false q =
        block_over ks w.past (Called n a x ∷ es) (and_both (not (is_wait (Called n a x))) (makes_none_wait es) (ap not (waits_as n a x ∙ q)) (idle_waits es (idle_call t w c x)))
        (λ d. subst (λ ws. are_answered ws es ≡ true) (sym same) ((kept_called t w c x).answers d)) (λ d. same ∙ o d)

-- after each step
step_over : (G : ℕ → ActorNo → Call → Type 0) (t : ℕ) (w : World) (m : Step) → MayCome G t w m → IsOver w.calls w.past → IsOver (after t w m).calls (after t w m).past
unfolding after block_at
step_over G t w (Calls n a c m) q o = called_over t w n a c m q.1 o
step_over G t w (Replies e x) q o = block_over w.calls w.past (reply_entries (half w) e x) (plain_waits (plain_reply (half w) e x)) (kept_reply (half w) e x).answers o
step_over G t w Acts q o = block_over w.calls w.past (act_entries (half w)) (plain_waits (plain_act (half w))) (kept_act (half w)).answers o
step_over G t w (Coordinates x) q o =
    block_over w.calls w.past (coordinates (core w) x) (plain_waits (plain_coordinates (core w) x)) (kept_coordinates {ws = (half w).waits} (core w) x).answers o
step_over G t w (Delivers c d) q o =
    let ms = in_transit c d w.past in
    block_over w.calls w.past (delivered t w c d ms) (idle_waits (delivered t w c d ms) (idle_delivered t w c d ms)) (delivered_answers t w c d ms) o
step_over G t w Stops q o = open_over w.calls w.past (Stopped ∷ []) refl refl o
step_over G t w (Restarts found) q o =
    let b = (core w).stopped in
    block_over w.calls w.past (restarted b found) (plain_waits (plain_restarted b found)) (kept_restarted {ws = (half w).waits} b found).answers o

-- So in each world that steps made.
pub ran_over : (G : ℕ → ActorNo → Call → Type 0) (t : ℕ) (ms : List Step) (w : World) → Ran G t ms w → IsOver w.calls w.past
ran_over G t [] w r = subst (IsOver w.calls) (sym r.1) (λ d. absurd cc)
ran_over G t (m ∷ ms) w r = subst (λ (x : World). IsOver x.calls x.past) (sym r.3) (step_over G t r.0 m r.2 (ran_over G t ms r.0 r.1))
