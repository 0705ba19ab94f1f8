-- The calls that make an enlistment keep who is at the coordinator few; so each step does. So in each world that steps make, at most 16 are there.
use Rattle.std.proofs.Common.{◌≡◌, ◌≤◌, ◌<◌, ◌+◌, ℕ, Bool, true, false, List, [], ◌∷◌, Option, Some, is_some, refl, sym, subst, ap, ◌∙◌, arith}
use Rattle.std.specs.Prelude.{not, if◌then◌else◌}
use Rattle.std.proofs.lemmas.Bool.{or_left}
use Rattle.dtx_values.specs.declared.call.Call.{Call}
use Rattle.dtx_values.specs.declared.call.Call.TheVariants.{Volatile, Durable, Promotable}
use Rattle.dtx_values.specs.declared.entry.Answer.{Answer}
use Rattle.dtx_values.specs.declared.entry.Answer.TheVariants.{Fine, True, Wait}
use Rattle.dtx_values.specs.declared.entry.Entry.{Entry}
use Rattle.dtx_values.specs.declared.entry.Entry.TheVariants.{Called, Enlisted, Init, Stopped}
use Rattle.dtx_values.specs.declared.number.ActorNo.{ActorNo}
use Rattle.dtx_values.specs.declared.number.EnlNo.{EnlNo}
use Rattle.dtx_values.specs.declared.number.RmNo.{RmNo}
use Rattle.dtx_values.specs.declared.number.TxNo.{TxNo}
use Rattle.dtx_values.specs.declared.row.Row.{Row}
use Rattle.dtx_values.specs.declared.script.Support.{Support}
use Rattle.dtx_values.specs.declared.words.Class.TheVariants.{DurableSingle, Promotable as PromotableClass}
use Rattle.dtx_values.specs.declared.words.Outcome.{Outcome}
use Rattle.dtx_values.specs.Class.{is_volatile}
use Rattle.dtx_values.specs.Owners.{cause_of, may_own}
use Rattle.dtx_values.specs.Row.{is_lasting}
use Rattle.dtx_values.specs.Support.{is_single}
use Rattle.dtx_values.specs.Table.{how_many}
use Rattle.dtx_model.specs.declared.waiting.EnteredCall.{EnteredCall}
use Rattle.dtx_model.specs.Acts.{act_entries, lasts}
use Rattle.dtx_model.specs.Answers.{class_of, durable_answer, has_promotion, is_crowded, is_full, is_full_of_durables, local_answer, promotable_answer, wait_for}
use Rattle.dtx_model.specs.Caused.{AreMadeOnce, MayCome, Ran}
use Rattle.dtx_model.specs.Entries.{began_of, decision_of, is_call, is_decision, is_promoted, is_sealed}
use Rattle.dtx_model.specs.Facts.{begin_promotion, durable_facts, facts_if, has_facts}
use Rattle.dtx_model.specs.Half.{Half, enlist_sent, info, is_promoting}
use Rattle.dtx_model.specs.Observed.{branches, is_promotion_failed, observe, rows}
use Rattle.dtx_model.specs.Promotes.{identifier_of}
use Rattle.dtx_model.specs.Replies.{reply_entries}
use Rattle.dtx_model.specs.Steps.{Step, Calls, Replies, Acts, Coordinates, Delivers, Stops, Restarts, after, block_at, called, coordinates, restarted}
use Rattle.dtx_model.specs.Waiting.{call_at, is_place, is_place_of, waiter_line, waiting, wanted}
use Rattle.dtx_model.specs.Wires.{in_transit}
use Rattle.dtx_model.specs.Words.{has, latest, onto}
use Rattle.dtx_model.specs.World.{World, half, core, answer_at, facts_at}
use Rattle.dtx_model.proofs.Bools.{and_left, and_right, not_both, not_true, or_first, or_right, or_second}
use Rattle.dtx_model.proofs.Counts.{how_many-insert_by}
use Rattle.dtx_model.proofs.Heeding.{fresh}
use Rattle.half_parts.proofs.Lists.{not_counted}
use Rattle.history_table.proofs.DecidingBlocks.{kept_act, kept_begin_promotion, kept_called, kept_coordinates, kept_reply, kept_restarted}
use Rattle.history_table.proofs.Lists.{OfEach, has-insert}
use Rattle.history_table.proofs.Makers.{IsWaiter}
use Rattle.history_table.proofs.Makers.{ran_made}
use Rattle.history_table.proofs.Owned.{decision_seen}
use Rattle.history_table.proofs.PlainBlocks.{plain_act, plain_begin_promotion, plain_called, plain_coordinates, plain_reply, plain_restarted}
use Rattle.history_table.proofs.Waiters.{own_call}
use Rattle.world_laws.proofs.FewBranches.{Roomy, block_roomy, called_roomy, gentle_roomy, none_roomy, row_roomy, sent_roomy}
use Rattle.local_half.specs.Linked.{AreLinked}
use Rattle.history_table.proofs.Tests.{eq_self}
use Rattle.world_laws.proofs.Sendable.{ran_ends}
use Rattle.world_laws.proofs.SendingCalls.{unstarted}
use Rattle.dtx_values.specs.RecoveryInfo.{is_id}
use Rattle.world_laws.proofs.FewRuns.{IsIdle, delivered_roomy, durable_done, room_of, roomy_if, step_idle}
use Rattle.history_table.proofs.Makers.{option_volatile}
use Rattle.history_table.proofs.WorldCalls.{done_behind}
use Rattle.history_table.proofs.ToPromote.{owns_alone}

no : false ≡ true → ⊥
no e = absurd cc

-- with one more call, whose line is new
call_roomy : (ks : List EnteredCall) (h : List Entry) (k : EnteredCall) → has (is_call k.line) h ≡ false → Roomy ks h → Roomy (k ∷ ks) h
call_roomy ks h k new i =
    let waits : waiting (k ∷ ks) h ≡ waiting ks h = ap (λ (x : Half). x.waits) (fresh k ks h new) in
    record {
      few = λ d. subst (λ ws. how_many is_lasting (rows h) + how_many is_place ws ≤ 16) (sym waits) (i.few d);
      owner = i.owner;
      linked = subst (λ ws. AreLinked (has is_decision h) (rows h) ws (branches h) []) (sym waits) i.linked;
    }

facts_roomy : (ks : List EnteredCall) (h : List Entry) (b : Bool) (es : List Entry) → Roomy ks h → (b ≡ true → Roomy ks (onto h es)) → Roomy ks (onto h (facts_if b es))
facts_roomy ks h true es i f = f refl
facts_roomy ks h false es i f = i

-- A durable's call.
durable_roomy : (ks : List EnteredCall) (t n : ℕ) (a : ActorNo) (u : TxNo) (e : EnlNo) (r : RmNo) (s : Support) (v : Half) (x : Answer) (h : List Entry) → call_at ks n ≡ Some (Durable u e r s)
    → (has_facts x ≡ true → has is_decision h ≡ false) → (has_facts x ≡ true → how_many is_lasting (rows h) + how_many is_place (waiting ks h) < 16) → Roomy ks h
    → Roomy ks (onto (Called n a x ∷ h) (facts_if (has_facts x) (durable_facts t v e r (is_single s) x)))
durable_roomy ks t n a u e r s v Wait h call open' room i =
    let next = called_roomy ks n a Wait h (λ z d p. room refl) i in
    let c = cause_of v.seen.table (is_single s) in
    let now = Called n a Wait ∷ h in
    roomy_if ks now v.seen.promoted (enlist_sent t e r) (if is_promoting v.seen then [] else begin_promotion v c)
    (λ p. sent_roomy ks e (info t e r) now (open' refl)
    (or_right (lasts (rows h) e.value) (has (is_place_of e.value) (waiting ks now))
    (has-insert (is_place_of e.value) waiter_line (n, wanted (call_at ks n)) (waiting ks h)
    ∙ or_left (is_place_of e.value (n, wanted (call_at ks n))) (has (is_place_of e.value) (waiting ks h)) (ap (λ o. is_place_of e.value (n, wanted o)) call ∙ eq_self e.value))) next)
    (λ p. roomy_if ks now (is_promoting v.seen) [] (begin_promotion v c) (λ q. next) (λ q. block_roomy ks now (begin_promotion v c) (plain_begin_promotion v c) (kept_begin_promotion v c) next))
durable_roomy ks t n a u e r s v Fine h call open' room i = row_roomy ks e DurableSingle (Called n a Fine ∷ h) (λ d c. room refl) (called_roomy ks n a Fine h (λ z. absurd cc) i)
durable_roomy ks t n a u e r s v True h call open' room i = row_roomy ks e DurableSingle (Called n a True ∷ h) (λ d c. room refl) (called_roomy ks n a True h (λ z. absurd cc) i)
durable_roomy ks t n a u e r s v x h call open' room i = record { few = i.few; owner = i.owner; linked = i.linked }

-- A promotable's call: nothing lasts, and no call waits for a place.
owned : (xs : List Row) (p : Bool) → may_own xs p ≡ true → (p ≡ false) × (has is_lasting xs ≡ false)
unfolding may_own
owned xs p k = (not_true p (and_left (not p) (not (has is_lasting xs)) k), not_true (has is_lasting xs) (and_right (not p) (not (has is_lasting xs)) k))

-- a call that waits for no place leaves the places that are waited for
called_places : (ks : List EnteredCall) (n : ℕ) (a : ActorNo) (x : Answer) (h : List Entry) → is_place (n, wanted (call_at ks n)) ≡ false → how_many is_place (waiting ks (Called n a x ∷ h)) ≡ how_many is_place (waiting ks h)
called_places ks n a Wait h p = how_many-insert_by is_place waiter_line (n, wanted (call_at ks n)) (waiting ks h) ∙ rw p refl
called_places ks n a _ h p = refl

entered_roomy : (t : ℕ) (w : World) (n : ℕ) (a : ActorNo) (c : Call) (m : ℕ) → has (is_call n) w.past ≡ false → (has is_promotion_failed w.past ≡ true → has is_decision w.past ≡ true) → IsIdle w.calls w.past → Roomy w.calls w.past
    → Roomy (record { line = n; actor = a; call = c } ∷ w.calls) (onto w.past (called t w n a c (answer_at t w c m)))
unfolding answer_at local_answer observe
entered_roomy t w n a (Durable u e r s) m new failed idle i =
    let own : EnteredCall = record { line = n; actor = a; call = Durable u e r s } in
    let x = answer_at t w (Durable u e r s) m in
    let v = half w in
    let waits : waiting (own ∷ w.calls) w.past ≡ waiting w.calls w.past = ap (λ (y : Half). y.waits) (fresh own w.calls w.past new) in
    let done = λ (k : has_facts x ≡ true). done_behind (latest began_of w.past) (latest decision_of w.past) (durable_answer v (is_single s)) k in
    durable_roomy (own ∷ w.calls) t n a u e r s v x w.past (own_call n a (Durable u e r s) w.calls)
    (λ k. sym (decision_seen w.past) ∙ ap (λ (o : Option Outcome). is_some o) (done k).0)
    (λ k. subst (λ ws. how_many is_lasting (rows w.past) + how_many is_place ws < 16) (sym waits)
    (room_of (how_many is_lasting (rows w.past) + how_many is_place (waiting w.calls w.past))
    (durable_done (has is_sealed w.past) (is_full v) (is_crowded v) (is_full_of_durables v) (has_promotion v.seen) (wait_for (cause_of v.seen.table (is_single s))) (done k).1)))
    (call_roomy w.calls w.past own new i)
entered_roomy t w n a (Volatile u e o y) m new failed idle i =
    let own : EnteredCall = record { line = n; actor = a; call = Volatile u e o y } in
    let x = answer_at t w (Volatile u e o y) m in
    let next = called_roomy (own ∷ w.calls) n a x w.past (λ z d p. absurd (not_both (is_place (n, wanted (call_at (own ∷ w.calls) n))) p (ap (λ q. is_place (n, wanted q)) (own_call n a (Volatile u e o y) w.calls))))
    (call_roomy w.calls w.past own new i) in
    facts_roomy (own ∷ w.calls) (Called n a x ∷ w.past) (has_facts x) (Enlisted e (class_of o) ∷ []) next
    (λ k. row_roomy (own ∷ w.calls) e (class_of o) (Called n a x ∷ w.past) (λ d c. absurd (not_both (is_volatile (class_of o)) (option_volatile o) c)) next)
entered_roomy t w n a (Promotable u e r y z p) m new failed idle i =
    let own : EnteredCall = record { line = n; actor = a; call = Promotable u e r y z p } in
    let x = answer_at t w (Promotable u e r y z p) m in
    let v = half w in
    let next = called_roomy (own ∷ w.calls) n a x w.past (λ j d g. absurd (not_both (is_place (n, wanted (call_at (own ∷ w.calls) n))) g (ap (λ q. is_place (n, wanted q)) (own_call n a (Promotable u e r y z p) w.calls))))
    (call_roomy w.calls w.past own new i) in
    let waits : waiting (own ∷ w.calls) w.past ≡ waiting w.calls w.past = ap (λ (b : Half). b.waits) (fresh own w.calls w.past new) in
    let free = λ (k : has_facts x ≡ true).
    (let d = done_behind (latest began_of w.past) (latest decision_of w.past) (promotable_answer v) k in
    let alone = owned (rows w.past) (has_promotion (observe w.past)) (owns_alone (has is_sealed w.past) (may_own (rows w.past) (has_promotion (observe w.past))) (is_full v) d.1) in
    room (not_counted is_lasting (rows w.past) alone.1)
    (called_places (own ∷ w.calls) n a x w.past (ap (λ q. is_place (n, wanted q)) (own_call n a (Promotable u e r y z p) w.calls)) ∙ ap (how_many is_place) waits ∙ idle (sym (decision_seen w.past) ∙ ap (λ (o : Option Outcome). is_some o) d.0) (unstarted w.past (or_first (has is_promoted w.past) (is_promoting (observe w.past)) alone.0) (or_second (has is_promoted w.past) (is_promoting (observe w.past)) alone.0) d.0 failed))) in
    let after' = Called n a x ∷ w.past in
    facts_roomy (own ∷ w.calls) after' (has_facts x) (Enlisted e PromotableClass ∷ Init e ∷ []) next
    (λ k. gentle_roomy (own ∷ w.calls) (Init e) (Enlisted e PromotableClass ∷ after') refl (row_roomy (own ∷ w.calls) e PromotableClass after' (λ d c. free k) next))
  where
    room : {k l : ℕ} → k ≡ 0 → l ≡ 0 → k + l < 16
    room {k} {l} p q = omega (arith, p, q)
entered_roomy t w n a c m new failed idle i =
    let own : EnteredCall = record { line = n; actor = a; call = c } in
    let x = answer_at t w c m in
    block_roomy (own ∷ w.calls) (Called n a x ∷ w.past) (facts_if (has_facts x) (facts_at t w c x)) (plain_called t w c x refl) (kept_called t w c x)
    (called_roomy (own ∷ w.calls) n a x w.past (λ z d p. absurd (not_both (is_place (n, wanted (call_at (own ∷ w.calls) n))) p (ap (λ o. is_place (n, wanted o)) (own_call n a c w.calls))))
    (call_roomy w.calls w.past own new i))

-- After each step.
step_roomy : (G : ℕ → ActorNo → Call → Type 0) (t : ℕ) (w : World) (m : Step) → MayCome G t w m → OfEach (IsWaiter G w.calls w.past) (waiting w.calls w.past) → (has is_promotion_failed w.past ≡ true → has is_decision w.past ≡ true)
    → IsIdle w.calls w.past → Roomy w.calls w.past → Roomy (after t w m).calls (after t w m).past
unfolding after block_at
step_roomy G t w (Calls n a c m) q o failed idle i = entered_roomy t w n a c m q.1 failed idle i
step_roomy G t w (Replies e x) q o failed idle i = block_roomy w.calls w.past (reply_entries (half w) e x) (plain_reply (half w) e x) (kept_reply (half w) e x) i
step_roomy G t w Acts q o failed idle i = block_roomy w.calls w.past (act_entries (half w)) (plain_act (half w)) (kept_act (half w)) i
step_roomy G t w (Coordinates x) q o failed idle i = block_roomy w.calls w.past (coordinates (core w) x) (plain_coordinates (core w) x) (kept_coordinates {ws = []} (core w) x) i
step_roomy G t w (Delivers c d) q o failed idle i = delivered_roomy G t w c d (in_transit c d w.past) o i
step_roomy G t w Stops q o failed idle i = gentle_roomy w.calls Stopped w.past refl i
step_roomy G t w (Restarts found) q o failed idle i = block_roomy w.calls w.past (restarted (core w).stopped found) (plain_restarted (core w).stopped found) (kept_restarted {ws = []} (core w).stopped found) i

-- until something is decided or a promotion begins, no call waits for a place
pub ran_idle : (G : ℕ → ActorNo → Call → Type 0) (t : ℕ) (ms : List Step) (w : World) → is_id (identifier_of t) ≡ true → AreMadeOnce G → Ran G t ms w → IsIdle w.calls w.past
ran_idle G t [] w v once r = λ d s. ap (λ h. how_many is_place (waiting w.calls h)) r.1
ran_idle G t (m ∷ ms) w v once r =
    subst (λ (x : World). IsIdle x.calls x.past) (sym r.3) (step_idle G t r.0 m r.2 (ran_ends G t ms r.0 v once r.1).opened.going (ran_idle G t ms r.0 v once r.1))

-- so in each world that steps made, at most 16 are at the coordinator
pub ran_roomy : (G : ℕ → ActorNo → Call → Type 0) (t : ℕ) (ms : List Step) (w : World) → is_id (identifier_of t) ≡ true → AreMadeOnce G → Ran G t ms w → Roomy w.calls w.past
ran_roomy G t [] w v once r = subst (Roomy w.calls) (sym r.1) (none_roomy w.calls)
ran_roomy G t (m ∷ ms) w v once r =
    subst (λ (x : World). Roomy x.calls x.past) (sym r.3)
    (step_roomy G t r.0 m r.2 (ran_made G t ms r.0 r.1).waiters (ran_ends G t ms r.0 v once r.1).failed (ran_idle G t ms r.0 v once r.1) (ran_roomy G t ms r.0 v once r.1))
