-- Each step keeps what promotables, returns and clones come with, where the table stands after it.
use Rattle.std.proofs.Common.{◌≡◌, Bool, true, false, List, [], ◌∷◌, refl, ℕ, Option, Some, None, ◌==◌, ◌∙◌, sym, ap, ◌&&◌, ◌||◌}
use Rattle.std.specs.Prelude.{filter, if◌then◌else◌, not, find}
use Rattle.std.proofs.lemmas.Bool.{false_from_ne_true}
use Rattle.dtx_values.specs.declared.call.Call.{Call}
use Rattle.dtx_values.specs.declared.call.Call.TheVariants.{Durable, Reenlist, Promotable, Clone, Marshal}
use Rattle.dtx_values.specs.declared.entry.Answer.{Answer}
use Rattle.dtx_values.specs.declared.entry.Answer.TheVariants.{Wait, NoSuch, NotBegun}
use Rattle.dtx_values.specs.declared.entry.Entry.{Entry}
use Rattle.dtx_values.specs.declared.entry.Entry.TheVariants.{Answered, Called, Promoting, Sent, Enlisted, Init, Reenlisted, Cloned, PromoteReply, Down as Ended, Got, Stopped}
use Rattle.dtx_values.specs.declared.message.Conn.{Conn}
use Rattle.dtx_values.specs.declared.message.Conn.TheVariants.{Begin, Enl, Again}
use Rattle.dtx_values.specs.declared.message.Dir.{Dir}
use Rattle.dtx_values.specs.declared.message.Dir.TheVariants.{Up, Down}
use Rattle.dtx_values.specs.declared.message.Message.{Message}
use Rattle.dtx_values.specs.declared.message.Message.TheVariants.{BeginBegin, EnlistEnlist, ReenlistReenlist}
use Rattle.dtx_values.specs.declared.note.Reply.{Reply}
use Rattle.dtx_values.specs.declared.note.Reply.TheVariants.{Promote as Promotes}
use Rattle.dtx_values.specs.declared.number.ActorNo.{ActorNo}
use Rattle.dtx_values.specs.declared.number.EnlNo.{EnlNo}
use Rattle.dtx_values.specs.declared.number.RmNo.{RmNo}
use Rattle.dtx_values.specs.declared.words.Cause.{Cause}
use Rattle.dtx_values.specs.declared.words.Cause.TheVariants.{Marshal as MarshalCause}
use Rattle.dtx_values.specs.declared.words.Class.{Class}
use Rattle.dtx_values.specs.declared.words.Class.TheVariants.{Promotable as PromotableClass}
use Rattle.dtx_values.specs.declared.script.Support.TheVariants.{SinglePhase, TwoPhase}
use Rattle.dtx_values.specs.Class.{is_promotable, is_volatile}
use Rattle.dtx_values.specs.Ends.{knows, is_in}
use Rattle.dtx_values.specs.Owners.{cause_of}
use Rattle.dtx_values.specs.Support.{is_single}
use Rattle.dtx_model.specs.declared.branch.Branch.{Branch}
use Rattle.dtx_model.specs.declared.waiting.EnteredCall.{EnteredCall}
use Rattle.dtx_model.specs.Words.{each, has, onto}
use Rattle.dtx_model.specs.Entries.{is_decision, is_sealed, is_promoted, is_call}
use Rattle.dtx_model.specs.Observed.{rows, ends_of, is_branch, observe, is_promotion_failed}
use Rattle.dtx_model.specs.Outcome.{enlisted, can_own, durables, is_empty}
use Rattle.dtx_model.specs.Promotes.{is_promoting, identifier_of}
use Rattle.dtx_model.specs.Wires.{opens, is_ended, in_transit}
use Rattle.dtx_model.specs.Waiting.{wanted, call_at, waiter_line, waiting}
use Rattle.dtx_model.specs.Half.{Half, enlist_sent, info, is_promoting as sees_promoting, sees}
use Rattle.dtx_model.specs.Acts.{act_entries}
use Rattle.dtx_model.specs.Arrivals.{local_got}
use Rattle.dtx_model.specs.Facts.{begin_promotion, durable_facts, facts_if, has_facts}
use Rattle.dtx_model.specs.Replies.{reply_entries}
use Rattle.dtx_model.specs.Answers.{if_begun}
use Rattle.dtx_model.specs.World.{has_left, is_connected, is_linked, was_opened, reenlist_facts, World, branch_answer, core, half, is_finished_there, reenlist_answer, reenlist_by, unless_stopped, answer_at, facts_at}
use Rattle.dtx_model.specs.Steps.{called, delivered, ended_at, got_by, Step, Calls, Replies, Acts, Coordinates, Delivers, Stops, Restarts, after, block_at, coordinates, restarted}
use Rattle.dtx_model.specs.Caused.{MayCome}
use Rattle.dtx_model.proofs.Bools.{and_both, and_left, and_right, not_both, not_true, or_first}
use Rattle.history_table.proofs.TameBlocks.{is_unpromotable, tame_called, tame_cons, tame_reply, of_act, tame_arrived, tame_core_got, tame_ended_at, tame_coordinates, tame_restarted}
use Rattle.history_table.proofs.Lists.{each-insert}
use Rattle.history_table.proofs.Scans.{has_less, has_more}
use Rattle.history_table.proofs.Owned.{has_rows}
use Rattle.history_table.proofs.Table.{is_promotable_of, stands_promotable, class_row, is_enlist_got, is_opening_got}
use Rattle.history_table.proofs.Keeping.{Keeps, keeps_before, newest}
use Rattle.history_table.proofs.Marks.{IsMarked, opening_marked, tame_marked, promotable_marked, return_marked, opened_if_enlisted, cloned_marked, tame_onto, promote_marked, single_marked}
use Rattle.history_table.proofs.Handing.{keeps_within}
use Rattle.history_table.proofs.EntryTests.{is_enlisted}
use Rattle.history_table.proofs.Tests.{fourth_of_five, eq_self}
use Rattle.history_table.proofs.Sendings.{opened_promoting}
use Rattle.history_table.proofs.Standing.{opened_if_got}
use Rattle.history_table.proofs.HalfOwner.{enlist_opening}
use Rattle.history_table.proofs.Reenlisted.{opened_since}
use Rattle.history_table.proofs.WorldCalls.{both_ended, branch_done, makes_new}
use Rattle.history_table.proofs.EndsSeen.{ended_unknown}
use Rattle.history_table.proofs.HalfKnows.{way_seen}

-- What waits has no promotable's place.
each_filter : {A : Type 0} (p q : A → Bool) (xs : List A) → each p xs ≡ true → each p (filter q xs) ≡ true
each_filter p q [] k = refl
each_filter p q (x ∷ xs) k = by (q x) (each_filter p q xs (and_right (p x) (each p xs) k))
  where
    by : (b : Bool) → each p (filter q xs) ≡ true → each p (if b then x ∷ filter q xs else filter q xs) ≡ true
    by true r = and_both (p x) (each p (filter q xs)) (and_left (p x) (each p xs) k) r
    by false r = r

wanted_unpromotable : (n : ℕ) (o : Option Call) → is_unpromotable (n, wanted o) ≡ true
wanted_unpromotable n (Some (Durable u e r (SinglePhase v x))) = refl
wanted_unpromotable n (Some (Durable u e r (TwoPhase v))) = refl
wanted_unpromotable n (Some c) = refl
wanted_unpromotable n None = refl

pub all_unpromotable : (ks : List EnteredCall) (h : List Entry) → each is_unpromotable (waiting ks h) ≡ true
all_unpromotable ks [] = refl
all_unpromotable ks (Called n a Wait ∷ h) =
    each-insert is_unpromotable waiter_line (n, wanted (call_at ks n)) (waiting ks h)
    ∙ and_both (is_unpromotable (n, wanted (call_at ks n))) (each is_unpromotable (waiting ks h)) (wanted_unpromotable n (call_at ks n)) (all_unpromotable ks h)
all_unpromotable ks (Answered n x ∷ h) = each_filter is_unpromotable (λ w. not (n == w.0)) (waiting ks h) (all_unpromotable ks h)
all_unpromotable ks (x ∷ h) = all_unpromotable ks h

-- A promotion begins.
no_promotable : (e : ℕ) (h : List Entry) → has (λ x. is_promotable x.class) (rows h) ≡ false → stands_promotable e h ≡ false
no_promotable e h n =
    has_less (is_promotable_of e) (λ x. is_promotable x.1) (λ x t. and_right (e == x.0.value) (is_promotable x.1) t) (enlisted h) (sym (has_rows (λ (f : EnlNo) (c : Class). is_promotable c) h) ∙ n)

begin_marked : (G : ℕ → ActorNo → Call → Type 0) (h : List Entry) (v : Half) (o : Option Cause) → v.seen.table ≡ rows h → Keeps (onto h (begin_promotion v o)) → IsMarked G h
    → IsMarked G (onto h (begin_promotion v o))
begin_marked G h v None e k m = m
begin_marked G h v (Some c) e k m = by (has (λ x. is_promotable x.class) v.seen.table) refl k
  where
    by : (b : Bool) → has (λ x. is_promotable x.class) v.seen.table ≡ b → Keeps (onto h (Promoting c ∷ (if b then [] else Sent Begin Up BeginBegin ∷ [])))
        → IsMarked G (onto h (Promoting c ∷ (if b then [] else Sent Begin Up BeginBegin ∷ [])))
    by true q k = tame_marked G (Promoting c) h refl k m
    by false q k =
        opening_marked G (Promoting c ∷ h)
        (λ f s. absurd (not_both (stands_promotable f h) s (no_promotable f h (ap (has (λ x. is_promotable x.class)) (sym e) ∙ q))))
        (tame_marked G (Promoting c) h refl (keeps_within (Promoting c ∷ h) (Sent Begin Up BeginBegin ∷ []) k) m)

unless_marked : (G : ℕ → ActorNo → Call → Type 0) (h : List Entry) (v : Half) (o : Option Cause) (b : Bool) → v.seen.table ≡ rows h → Keeps (onto h (if b then [] else begin_promotion v o)) → IsMarked G h
    → IsMarked G (onto h (if b then [] else begin_promotion v o))
unless_marked G h v o true e k m = m
unless_marked G h v o false e k m = begin_marked G h v o e k m

-- A durable call.
durable_marked : (G : ℕ → ActorNo → Call → Type 0) (t : ℕ) (h : List Entry) (v : Half) (e : EnlNo) (r : RmNo) (s : Bool) (x : Answer) → v.seen.table ≡ rows h → Keeps (onto h (durable_facts t v e r s x)) → IsMarked G h
    → IsMarked G (onto h (durable_facts t v e r s x))
durable_marked G t h v e r s Wait q k m = by v.seen.promoted k
  where
    by : (b : Bool) → Keeps (onto h (if b then enlist_sent t e r else if sees_promoting v.seen then [] else begin_promotion v (cause_of v.seen.table s)))
        → IsMarked G (onto h (if b then enlist_sent t e r else if sees_promoting v.seen then [] else begin_promotion v (cause_of v.seen.table s)))
    by true k = tame_marked G (Sent (Enl e) Up (EnlistEnlist (info t e r))) h refl k m
    by false k = unless_marked G h v (cause_of v.seen.table s) (sees_promoting v.seen) q k m
durable_marked G t h v e r s x q k m = tame_marked G (Enlisted e _) h refl k m

-- A promotable's call: nothing was sent for its enlistment, so it is the first.
first_of_all : (h : List Entry) (e : EnlNo) → Keeps (Enlisted e PromotableClass ∷ h) → has (opens (Enl e)) h ≡ false → has (opens Begin) h ≡ false
first_of_all h e k n =
    let past = keeps_before (Enlisted e PromotableClass) h k in
    let row : class_row h e.value PromotableClass ≡ true =
    fourth_of_five (not (has is_decision h)) (not (has is_sealed h)) (not (has (is_enlisted e.value) h)) (class_row h e.value PromotableClass) (not (is_volatile PromotableClass && has (opens (Enl e)) h))
    (newest (Enlisted e PromotableClass) h k) in
    false_from_ne_true (has (opens Begin) h)
    (λ o. not_both (has is_promoting h) (opened_promoting Begin h past o)
    (not_true (has is_promoting h)
    (step (is_volatile PromotableClass) (has (is_enlist_got e.value) h) (not (has is_promoting h)) (can_own PromotableClass) (is_empty (durables h)) refl
    (λ g. not_both (has (opens (Enl e)) h) (opened_if_got (Enl e) h past (has_more (is_enlist_got e.value) (is_opening_got (Enl e)) (enlist_opening e) h g)) n) row)))
  where
    step : (v g p o n : Bool) → v ≡ false → (g ≡ true → ⊥) → (v || g || (p && o && n)) ≡ true → p ≡ true
    step true g p o n q f k = absurd cc
    step false true p o n q f k = absurd (f refl)
    step false false true o n q f k = refl
    step false false false o n q f k = absurd cc

promotable_call : (G : ℕ → ActorNo → Call → Type 0) (e : EnlNo) (h : List Entry) → has (opens (Enl e)) h ≡ false → IsMarked G h → Keeps (onto h (Enlisted e PromotableClass ∷ Init e ∷ []))
    → IsMarked G (onto h (Enlisted e PromotableClass ∷ Init e ∷ []))
promotable_call G e h n m k =
    tame_marked G (Init e) (Enlisted e PromotableClass ∷ h) refl k
    (promotable_marked G e PromotableClass h (first_of_all h e (keeps_before (Init e) (Enlisted e PromotableClass ∷ h) k) n) m)

-- One comes back whose own connection isn't linked: its end was seen.
unlinked_unknown : (e : EnlNo) (h : List Entry) → has (opens (Enl e)) h ≡ true → is_connected e h ≡ false → knows (Enl e) (ends_of h) ≡ false
unlinked_unknown e h o u =
    ended_unknown (Enl e) h
    (both_ended (was_opened (Enl e) h) (is_ended (Enl e) Up h) (is_ended (Enl e) Down h) (has_left (Enl e) Up h) (has_left (Enl e) Down h) (opened_since (Enl e) h o)
    (or_first (is_linked (Enl e) h) (is_linked (Again e) h) u))

return_block : (G : ℕ → ActorNo → Call → Type 0) (t : ℕ) (h : List Entry) (b : Branch) → knows (Enl b.enlistment) (ends_of h) ≡ false → IsMarked G h → Keeps (onto h (reenlist_facts t (Some b)))
    → IsMarked G (onto h (reenlist_facts t (Some b)))
return_block G t h b u m k =
    tame_marked G (Sent (Again b.enlistment) Up (ReenlistReenlist (info t b.enlistment b.manager))) (Reenlisted b.enlistment ∷ h) refl k (return_marked G b.enlistment h u m)

-- its ENLISTED was got
return_opened : (t : ℕ) (h : List Entry) (b : Branch) → Keeps (onto h (reenlist_facts t (Some b))) → has (opens (Enl b.enlistment)) h ≡ true
return_opened t h b k =
    let x = Reenlisted b.enlistment in
    let y = Sent (Again b.enlistment) Up (ReenlistReenlist (info t b.enlistment b.manager)) in
    let past = keeps_before y (x ∷ h) k in
    opened_if_enlisted b.enlistment h (keeps_before x h past) (newest x h past)

return_call : (G : ℕ → ActorNo → Call → Type 0) (t : ℕ) (w : World) (n : ℕ) (a : ActorNo) (e : EnlNo) (l : Option ℕ) → IsMarked G w.past → Keeps (onto w.past (called t w n a (Reenlist e) (if_begun l (reenlist_answer w e))))
    → IsMarked G (onto w.past (called t w n a (Reenlist e) (if_begun l (reenlist_answer w e))))
return_call G t w n a e None m k = tame_marked G (Called n a NotBegun) w.past refl k m
return_call G t w n a e (Some d) m k = by (find (is_branch e.value) (half w).seen.branches) k
  where
    some : (b : Branch) → (f : Bool) → has_facts (branch_answer w b) ≡ f → Keeps (onto (Called n a (branch_answer w b) ∷ w.past) (facts_if f (reenlist_facts t (Some b))))
        → IsMarked G (onto (Called n a (branch_answer w b) ∷ w.past) (facts_if f (reenlist_facts t (Some b))))
    some b false f k = tame_marked G (Called n a (branch_answer w b)) w.past refl k m
    some b true f k =
        let x = Called n a (branch_answer w b) in
        let g = branch_done b.enlisted (is_finished_there (half w).seen b.enlistment.value) (is_in b.manager.value (core w).recovered) (is_connected b.enlistment w.past) b.manager b.enlistment (unless_stopped w) f in
        return_block G t (x ∷ w.past) b (unlinked_unknown b.enlistment w.past (return_opened t (x ∷ w.past) b k) g.1)
        (tame_marked G x w.past refl (keeps_within (x ∷ w.past) (reenlist_facts t (Some b)) k) m) k

    by : (o : Option Branch) → Keeps (onto w.past (Called n a (reenlist_by w o) ∷ facts_if (has_facts (reenlist_by w o)) (reenlist_facts t o)))
        → IsMarked G (onto w.past (Called n a (reenlist_by w o) ∷ facts_if (has_facts (reenlist_by w o)) (reenlist_facts t o)))
    by None k = tame_marked G (Called n a NoSuch) w.past refl k m
    by (Some b) k = some b (has_facts (branch_answer w b)) refl k

-- The calls.
called_marked : (G : ℕ → ActorNo → Call → Type 0) (h : List Entry) (n : ℕ) (a : ActorNo) (x : Answer) (b : Bool) (es : List Entry) → IsMarked G h → Keeps (onto (Called n a x ∷ h) (facts_if b es))
    → (IsMarked G (Called n a x ∷ h) → Keeps (onto (Called n a x ∷ h) es) → IsMarked G (onto (Called n a x ∷ h) es)) → IsMarked G (onto (Called n a x ∷ h) (facts_if b es))
called_marked G h n a x true es m k f = f (tame_marked G (Called n a x) h refl (keeps_within (Called n a x ∷ h) es k) m) k
called_marked G h n a x false es m k f = tame_marked G (Called n a x) h refl k m

call_marked : (G : ℕ → ActorNo → Call → Type 0) (t : ℕ) (w : World) (n : ℕ) (a : ActorNo) (c : Call) (j : ℕ) → G n a c → makes_new w.past c ≡ true → Keeps (onto w.past (called t w n a c (answer_at t w c j))) → IsMarked G w.past
    → IsMarked G (onto w.past (called t w n a c (answer_at t w c j)))
unfolding observe answer_at
call_marked G t w n a (Durable u e r s) j g new k m =
    let x = answer_at t w (Durable u e r s) j in
    called_marked G w.past n a x (has_facts x) (durable_facts t (half w) e r (is_single s) x) m k (λ m k. durable_marked G t (Called n a x ∷ w.past) (half w) e r (is_single s) x refl k m)
call_marked G t w n a (Promotable u e r v o p) j g new k m =
    let x = answer_at t w (Promotable u e r v o p) j in
    called_marked G w.past n a x (has_facts x) (Enlisted e PromotableClass ∷ Init e ∷ []) m k
    (λ m k. promotable_call G e (Called n a x ∷ w.past) (not_true (has (opens (Enl e)) w.past) (and_right (not (has (is_enlisted e.value) w.past)) (not (has (opens (Enl e)) w.past)) new)) m k)
call_marked G t w n a (Clone u c d) j g new k m =
    let x = answer_at t w (Clone u c d) j in
    called_marked G w.past n a x (has_facts x) (Cloned c d ∷ []) m k
    (λ m k. cloned_marked G c d (Called n a x ∷ w.past) (record { number = n; actor = a; call = Clone u c d; may = g; makes = refl; called = rw (eq_self n) refl }) m)
call_marked G t w n a (Marshal u) j g new k m =
    let x = answer_at t w (Marshal u) j in
    called_marked G w.past n a x (has_facts x) (if sees_promoting (half w).seen then [] else begin_promotion (half w) (Some MarshalCause)) m k
    (λ m k. unless_marked G (Called n a x ∷ w.past) (half w) (Some MarshalCause) (sees_promoting (half w).seen) refl k m)
call_marked G t w n a (Reenlist e) j g new k m = return_call G t w n a e (half w).seen.limit m k
call_marked G t w n a c j g new k m =
    let x = answer_at t w c j in
    tame_onto G w.past (Called n a x ∷ facts_if (has_facts x) (facts_at t w c x)) (tame_cons (Called n a x) refl (tame_called t w c x refl)) k m

-- A promotable's promise, and the local act.
reply_marked : (G : ℕ → ActorNo → Call → Type 0) (w : World) (e : EnlNo) (r : Reply) → Keeps (onto w.past (reply_entries (half w) e r)) → IsMarked G w.past → IsMarked G (onto w.past (reply_entries (half w) e r))
unfolding reply_entries
reply_marked G w e (Promotes true) k m =
    opening_marked G (PromoteReply e true ∷ w.past) (λ f s. refl)
    (tame_marked G (PromoteReply e true) w.past refl (keeps_within (PromoteReply e true ∷ w.past) (Sent Begin Up BeginBegin ∷ []) k) m)
reply_marked G w e (Promotes false) k m = tame_onto G w.past (reply_entries (half w) e (Promotes false)) (tame_reply (half w) e (Promotes false) refl) k m
reply_marked G w e r k m = tame_onto G w.past (reply_entries (half w) e r) (tame_reply (half w) e r refl) k m

act_marked : (G : ℕ → ActorNo → Call → Type 0) (w : World) → IsMarked G w.past → Keeps (onto w.past (act_entries (half w))) → IsMarked G (onto w.past (act_entries (half w)))
unfolding observe
act_marked G w m =
    of_act (half w) (λ es. Keeps (onto w.past es) → IsMarked G (onto w.past es))
    (record {
      tame = λ es q k. tame_onto G w.past es q k m;
      promote = λ e p k. promote_marked G e w.past (begun p) m;
      single = λ e s p k. single_marked G e w.past s p m;
    })
  where
    begun : sees_promoting (half w).seen ≡ true → has is_promoting w.past ≡ true
    begun p = and_left (has is_promoting w.past) (not (has is_promoted w.past)) (and_left (has is_promoting w.past && not (has is_promoted w.past)) (not (has is_promotion_failed w.past)) (sym (way_seen w.past) ∙ p))

-- The deliveries.
delivered_marked : (G : ℕ → ActorNo → Call → Type 0) (t : ℕ) (w : World) (c : Conn) (d : Dir) (ms : List Message) → Keeps (onto w.past (delivered t w c d ms)) → IsMarked G w.past
    → IsMarked G (onto w.past (delivered t w c d ms))
unfolding local_got
delivered_marked G t w c d [] k m = tame_onto G w.past (Ended c d ∷ ended_at w c d) (tame_cons (Ended c d) refl (tame_ended_at w c d)) k m
delivered_marked G t w c Up (x ∷ ms) k m = tame_onto G w.past (Got c Up x ∷ got_by t w c Up x) (tame_cons (Got c Up x) refl (tame_core_got (identifier_of t) (core w) c x)) k m
delivered_marked G t w c Down (x ∷ ms) k m =
    tame_onto G w.past (Got c Down x ∷ got_by t w c Down x) (tame_cons (Got c Down x) refl (tame_arrived t (sees (half w) (Got c Down x)) c x (all_unpromotable w.calls w.past))) k m

-- After each step.
pub step_marked : (G : ℕ → ActorNo → Call → Type 0) (t : ℕ) (w : World) (m : Step) → MayCome G t w m → ((n : ℕ) (a : ActorNo) (c : Call) → G n a c → has (is_call n) w.past ≡ false → makes_new w.past c ≡ true)
    → Keeps (after t w m).past → IsMarked G w.past → IsMarked G (after t w m).past
unfolding after block_at
step_marked G t w (Calls n a c j) q new k m = call_marked G t w n a c j q.0 (new n a c q.0 q.1) k m
step_marked G t w (Replies e r) q new k m = reply_marked G w e r k m
step_marked G t w Acts q new k m = act_marked G w m k
step_marked G t w (Coordinates x) q new k m = tame_onto G w.past (coordinates (core w) x) (tame_coordinates (core w) x) k m
step_marked G t w (Delivers c d) q new k m = delivered_marked G t w c d (in_transit c d w.past) k m
step_marked G t w Stops q new k m = tame_marked G Stopped w.past refl k m
step_marked G t w (Restarts found) q new k m = tame_onto G w.past (restarted (core w).stopped found) (tame_restarted (core w).stopped found) k m
