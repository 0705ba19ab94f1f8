-- In each world that steps make, at most 16 enlistments are at the coordinator: each ENLIST is sent before anything is decided, of one that lasts or whose call waits for its
-- place, and these are at most 16.
use Rattle.std.proofs.Common.{◌≡◌, ◌<◌, ℕ, suc, ◌==◌, Bool, true, false, ◌&&◌, ◌||◌, List, [], ◌∷◌, ◌++◌, find, Option, Some, None, is_some, nat_le, refl, sym, subst, ap, ◌∙◌, arith}
use Rattle.std.specs.Prelude.{not, if◌then◌else◌}
use Rattle.std.specs.List.{flat_map}
use Rattle.std.proofs.lemmas.Bool.{or_left}
use Rattle.std.proofs.lemmas.Bool.Decides.{nat_tests}
use Rattle.dtx_values.specs.declared.call.Call.{Call}
use Rattle.dtx_values.specs.declared.call.Call.TheVariants.{Durable}
use Rattle.dtx_values.specs.declared.entry.Answer.{Answer}
use Rattle.dtx_values.specs.declared.entry.Answer.TheVariants.{Many, TooLate, Wait}
use Rattle.dtx_values.specs.declared.entry.Entry.{Entry}
use Rattle.dtx_values.specs.declared.entry.Entry.TheVariants.{Answered, Called, Down as Ended, Got, Promoted, Promoting, Sent, Stopped}
use Rattle.dtx_values.specs.declared.limits.TheConstants.{CALLS, DURABLES, ENLISTMENTS}
use Rattle.dtx_values.specs.declared.message.Conn.{Conn}
use Rattle.dtx_values.specs.declared.message.Conn.TheVariants.{Begin, Voter, Enl}
use Rattle.dtx_values.specs.declared.message.Dir.{Dir}
use Rattle.dtx_values.specs.declared.message.Dir.TheVariants.{Up, Down}
use Rattle.dtx_values.specs.declared.message.Message.{Message}
use Rattle.dtx_values.specs.declared.message.Message.TheVariants.{BeginBegin, EnlistEnlisted, VoterCreated}
use Rattle.dtx_values.specs.declared.number.ActorNo.{ActorNo}
use Rattle.dtx_values.specs.declared.number.EnlNo.{EnlNo}
use Rattle.dtx_values.specs.declared.number.RmNo.{RmNo}
use Rattle.dtx_values.specs.declared.words.Cause.{Cause}
use Rattle.dtx_values.specs.declared.words.Outcome.{Outcome}
use Rattle.dtx_values.specs.Class.{is_promotable}
use Rattle.dtx_values.specs.Owners.{cause_of}
use Rattle.dtx_values.specs.Support.{is_single}
use Rattle.dtx_values.specs.Table.{how_many}
use Rattle.dtx_model.specs.declared.waiting.EnteredCall.{EnteredCall}
use Rattle.dtx_model.specs.declared.waiting.Wanted.TheVariants.{Identifier, Place}
use Rattle.dtx_model.specs.Acts.{act_entries, lasts}
use Rattle.dtx_model.specs.Answers.{durable_answer, has_promotion, if_begun, is_crowded, is_full, is_full_of_durables, local_answer, unless_ended, wait_for}
use Rattle.dtx_model.specs.Arrivals.{arrived, created, enlisted_at, hand_over, local_got, place_given}
use Rattle.dtx_model.specs.Caused.{MayCome}
use Rattle.dtx_model.specs.Coordinated.{may_log}
use Rattle.dtx_model.specs.Entries.{began_of, decision_of, is_call, is_decision, is_promoted, is_sealed}
use Rattle.dtx_model.specs.Facts.{begin_promotion, durable_facts, facts_if, has_facts}
use Rattle.dtx_model.specs.Half.{Half, by_manager, enlist_sent, given, info, is_handed, is_promoting, over, promoted_by, sees}
use Rattle.dtx_model.specs.Observed.{Observed, handover, is_promotion_failed, observe, rows, track}
use Rattle.dtx_model.specs.Promotes.{identifier_of, is_promoting as is_start}
use Rattle.dtx_model.specs.Replies.{reply_entries}
use Rattle.dtx_model.specs.Steps.{Step, Calls, Replies, Acts, Coordinates, Delivers, Stops, Restarts, after, block_at, called, coordinates, delivered, ended_at, got_by, restarted}
use Rattle.dtx_model.specs.Waiting.{Waiter, call_at, is_place, is_place_of, waiter_line, waiting, wanted}
use Rattle.dtx_model.specs.Wires.{in_transit}
use Rattle.dtx_model.specs.Words.{each, has, latest, onto}
use Rattle.dtx_model.specs.World.{World, half, core, answer_at, facts_at}
use Rattle.dtx_model.proofs.Bools.{and_left, and_right, not_both, or_right, or_second}
use Rattle.dtx_model.proofs.Counts.{how_many-insert_by}
use Rattle.dtx_model.proofs.Heeding.{fresh}
use Rattle.dtx_model.proofs.Quiet.{Quiet, is_quiet, q_act, q_called, q_appended, q_ended_at, q_freed, q_got_by, q_if, q_one, q_reply, q_restarted}
use Rattle.dtx_model.proofs.Reading.{has-onto}
use Rattle.local_half.specs.Linked.{is_held}
use Rattle.half_parts.proofs.Lists.{how_many-filter-le}
use Rattle.half_parts.proofs.Waiters.{found_number}
use Rattle.history_table.proofs.DecidingBlocks.{kept_arrived, kept_core_got, kept_ended_at}
use Rattle.history_table.proofs.HalfKnows.{way_seen}
use Rattle.history_table.proofs.Lists.{OfEach, of-more}
use Rattle.history_table.proofs.Makers.{IsWaiter, waiter_more}
use Rattle.history_table.proofs.Owned.{decision_seen}
use Rattle.history_table.proofs.PlainBlocks.{plain_arrived, plain_core_got, plain_ended_at}
use Rattle.history_table.proofs.Waiters.{own_call}
use Rattle.world_laws.proofs.FewBranches.{Roomy, block_roomy, gentle_roomy, given_roomy, placed_roomy, sent_roomy}

no : false ≡ true → ⊥
no e = absurd cc

-- Until something is decided or a promotion begins, no call waits for a place.
abbrev pub IsIdle : List EnteredCall → List Entry → Type 0
IsIdle ks h = has is_decision h ≡ false → has is_start h ≡ false → how_many is_place (waiting ks h) ≡ 0

idle_more : (ks : List EnteredCall) (x : Entry) (h : List Entry) → is_quiet x ≡ true → IsIdle ks h → IsIdle ks (x ∷ h)
idle_more ks (Called n a y) h q i = absurd (no q)
idle_more ks (Answered n y) h q i = λ d s. let k = i d s in let le = how_many-filter-le is_place (λ w. not (n == w.0)) (waiting ks h) in omega (arith, k, le)
idle_more ks x h q i = λ d s. i (or_second (is_decision x) (has is_decision h) d) (or_second (is_start x) (has is_start h) s)

block_idle : (ks : List EnteredCall) (h es : List Entry) → Quiet es → IsIdle ks h → IsIdle ks (onto h es)
block_idle ks h [] q i = i
block_idle ks h (x ∷ es) q i =
    block_idle ks (x ∷ h) es (record { proof = and_right (is_quiet x) (each is_quiet es) q.proof }) (idle_more ks x h (and_left (is_quiet x) (each is_quiet es) q.proof) i)

-- a call that waits for no place
called_idle : (ks : List EnteredCall) (n : ℕ) (a : ActorNo) (x : Answer) (h : List Entry) → (x ≡ Wait → is_place (n, wanted (call_at ks n)) ≡ false) → IsIdle ks h → IsIdle ks (Called n a x ∷ h)
called_idle ks n a Wait h p i = λ d s.
    by (is_place (n, wanted (call_at ks n))) (how_many is_place (waiting ks (Called n a Wait ∷ h))) (how_many-insert_by is_place waiter_line (n, wanted (call_at ks n)) (waiting ks h)) (p refl) (i d s)
  where
    by : (v : Bool) (k : ℕ) → k ≡ (if v then suc (how_many is_place (waiting ks h)) else how_many is_place (waiting ks h)) → v ≡ false → how_many is_place (waiting ks h) ≡ 0 → k ≡ 0
    by true k e z q = absurd cc
    by false k e z q = e ∙ q
called_idle ks n a _ h p i = i

-- A durable's call that was done or waits: nothing is decided, and there is room; and one that waits does so in a promotion, or begins one.
pub durable_done : (s f c d p : Bool) (x : Answer) → has_facts (if s then TooLate else if f then Many ENLISTMENTS else if c then Many CALLS else if d then Many DURABLES else if p then Wait else x) ≡ true → d ≡ false
durable_done true f c d p x k = absurd cc
durable_done false true c d p x k = absurd cc
durable_done false false true d p x k = absurd cc
durable_done false false false true p x k = absurd cc
durable_done false false false false p x k = refl

-- fewer than 16
pub room_of : (n : ℕ) → nat_le 16 n ≡ false → n < 16
room_of n k = grind (arith, nat_tests)

wait_of : (l : Option ℕ) (d : Option Outcome) (a : Answer) → if_begun l (unless_ended d a) ≡ Wait → a ≡ Wait
wait_of None d a k = absurd cc
wait_of (Some n) (Some x) a k = absurd cc
wait_of (Some n) None a k = k

durable_caused : (s f c d p : Bool) (o : Option Cause) → (if s then TooLate else if f then Many ENLISTMENTS else if c then Many CALLS else if d then Many DURABLES else if p then Wait else wait_for o) ≡ Wait
    → p ≡ false → is_some o ≡ true
durable_caused true f c d p o k q = absurd cc
durable_caused false true c d p o k q = absurd cc
durable_caused false false true d p o k q = absurd cc
durable_caused false false false true p o k q = absurd cc
durable_caused false false false false true o k q = absurd cc
durable_caused false false false false false (Some c) k q = refl
durable_caused false false false false false None k q = absurd cc

started : (h : List Entry) → is_promoting (observe h) ≡ true → has is_start h ≡ true
started h k = by (has is_start h) (has is_promoted h) (has is_promotion_failed h) (sym (way_seen h) ∙ k)
  where
    by : (s p f : Bool) → (s && not p && not f) ≡ true → s ≡ true
    by true p f k = refl
    by false p f k = absurd cc

-- so a call that waits for a place waits in a promotion
durable_started : (t : ℕ) (h : List Entry) (v : Half) (e : EnlNo) (r : RmNo) (single : Bool) → v.seen ≡ observe h → (has is_promoted h ≡ true → has is_start h ≡ true)
    → (has_promotion v.seen ≡ false → is_some (cause_of v.seen.table single) ≡ true) → has is_start (onto h (durable_facts t v e r single Wait)) ≡ true
unfolding observe
durable_started t h v e r single s going cause =
    by v.seen.promoted (is_promoting v.seen) refl refl (cause_of v.seen.table single) cause
  where
    old : (es : List Entry) → has is_start h ≡ true → has is_start (onto h es) ≡ true
    old es k = has-onto is_start h es ∙ or_right (has is_start es) (has is_start h) k

    fresh' : (b : Bool) (c : Cause) → has is_start (onto h (Promoting c ∷ (if b then [] else Sent Begin Up BeginBegin ∷ []))) ≡ true
    fresh' true c = refl
    fresh' false c = refl

    by : (p w : Bool) → v.seen.promoted ≡ p → is_promoting v.seen ≡ w → (o : Option Cause) → ((p || w) ≡ false → is_some o ≡ true)
        → has is_start (onto h (if p then enlist_sent t e r else if w then [] else begin_promotion v o)) ≡ true
    by true w a b o f = old (enlist_sent t e r) (going (sym (ap (λ (o : Observed). o.promoted) s) ∙ a))
    by false true a b o f = started h (sym (ap is_promoting s) ∙ b)
    by false false a b (Some c) f = fresh' (has (λ x. is_promotable x.class) v.seen.table) c
    by false false a b None f = absurd (no (f refl))

durable_idle : (ks : List EnteredCall) (n : ℕ) (a : ActorNo) (x : Answer) (h es : List Entry) → Quiet es → (x ≡ Wait → has is_start (onto (Called n a x ∷ h) es) ≡ true) → IsIdle ks h → IsIdle ks (onto (Called n a x ∷ h) es)
durable_idle ks n a Wait h es q f i = λ d s. absurd (not_both (has is_start (onto (Called n a Wait ∷ h) es)) (f refl) s)
durable_idle ks n a x h es q f i = block_idle ks (Called n a x ∷ h) es q i

-- with one more call, whose line is new
pub call_idle : (ks : List EnteredCall) (h : List Entry) (k : EnteredCall) → has (is_call k.line) h ≡ false → IsIdle ks h → IsIdle (k ∷ ks) h
call_idle ks h k new i = λ d s. subst (λ ws. how_many is_place ws ≡ 0) (sym (ap (λ (x : Half). x.waits) (fresh k ks h new))) (i d s)

entered_idle : (t : ℕ) (w : World) (n : ℕ) (a : ActorNo) (c : Call) (m : ℕ) → has (is_call n) w.past ≡ false → (has is_promoted w.past ≡ true → has is_start w.past ≡ true) → IsIdle w.calls w.past
    → IsIdle (record { line = n; actor = a; call = c } ∷ w.calls) (onto w.past (called t w n a c (answer_at t w c m)))
unfolding answer_at local_answer observe
entered_idle t w n a (Durable u e r s) m new going i =
    let own : EnteredCall = record { line = n; actor = a; call = Durable u e r s } in
    let x = answer_at t w (Durable u e r s) m in
    let v = half w in
    let P : Answer → Type 0 = λ y. has is_start (onto (Called n a y ∷ w.past) (facts_if (has_facts y) (durable_facts t v e r (is_single s) y))) ≡ true in
    durable_idle (own ∷ w.calls) n a x w.past (facts_if (has_facts x) (durable_facts t v e r (is_single s) x)) (q_called t w (Durable u e r s) x)
    (λ z. subst P (sym z)
    (durable_started t (Called n a Wait ∷ w.past) v e r (is_single s) refl going
    (λ k. durable_caused (has is_sealed w.past) (is_full v) (is_crowded v) (is_full_of_durables v) (has_promotion v.seen) (cause_of v.seen.table (is_single s))
    (wait_of (latest began_of w.past) (latest decision_of w.past) (durable_answer v (is_single s)) z) k)))
    (call_idle w.calls w.past own new i)
entered_idle t w n a c m new going i =
    let own : EnteredCall = record { line = n; actor = a; call = c } in
    let x = answer_at t w c m in
    block_idle (own ∷ w.calls) (Called n a x ∷ w.past) (facts_if (has_facts x) (facts_at t w c x)) (q_called t w c x)
    (called_idle (own ∷ w.calls) n a x w.past (λ z. ap (λ o. is_place (n, wanted o)) (own_call n a c w.calls)) (call_idle w.calls w.past own new i))

delivered_idle : (t : ℕ) (w : World) (c : Conn) (d : Dir) (ms : List Message) → IsIdle w.calls w.past → IsIdle w.calls (onto w.past (delivered t w c d ms))
delivered_idle t w c d [] i = block_idle w.calls (Ended c d ∷ w.past) (ended_at w c d) (q_ended_at w c d) i
delivered_idle t w c d (m ∷ ms) i = block_idle w.calls (Got c d m ∷ w.past) (got_by t w c d m) (q_got_by t w c d m) i

-- after each step
pub step_idle : (G : ℕ → ActorNo → Call → Type 0) (t : ℕ) (w : World) (m : Step) → MayCome G t w m → (has is_promoted w.past ≡ true → has is_start w.past ≡ true) → IsIdle w.calls w.past → IsIdle (after t w m).calls (after t w m).past
unfolding after block_at
step_idle G t w (Calls n a c m) q going i = entered_idle t w n a c m q.1 going i
step_idle G t w (Replies e r) q going i = block_idle w.calls w.past (reply_entries (half w) e r) (q_reply (half w) e r) i
step_idle G t w Acts q going i = block_idle w.calls w.past (act_entries (half w)) (q_act (half w)) i
step_idle G t w (Coordinates x) q going i = block_idle w.calls w.past (coordinates (core w) x) (q_if (may_log (core w)) (q_appended (core w) x) (q_freed x)) i
step_idle G t w (Delivers c d) q going i = delivered_idle t w c d (in_transit c d w.past) i
step_idle G t w Stops q going i = block_idle w.calls w.past (Stopped ∷ []) (q_one Stopped refl) i
step_idle G t w (Restarts found) q going i = block_idle w.calls w.past (restarted (core w).stopped found) (q_restarted (core w).stopped found) i

-- The blocks that send an ENLIST or make an enlistment keep who is at the coordinator few.
pub roomy_if : (ks : List EnteredCall) (h : List Entry) (b : Bool) (xs ys : List Entry) → (b ≡ true → Roomy ks (onto h xs)) → (b ≡ false → Roomy ks (onto h ys)) → Roomy ks (onto h (if b then xs else ys))
roomy_if ks h true xs ys p q = p refl
roomy_if ks h false xs ys p q = q refl

managed_roomy : (ks : List EnteredCall) (t : ℕ) (h : List Entry) (e : EnlNo) (ms : List (EnlNo × RmNo)) → has is_decision h ≡ false → is_held (rows h) (waiting ks h) e.value ≡ true → Roomy ks h
    → Roomy ks (onto h (by_manager (enlist_sent t) ms e))
managed_roomy ks t h e [] d k i = i
managed_roomy ks t h e (m ∷ ms) d k i = roomy_if ks h (e.value == m.0.value) (enlist_sent t e m.1) (by_manager (enlist_sent t) ms e) (λ q. sent_roomy ks e (info t e m.1) h d k i) (λ q. managed_roomy ks t h e ms d k i)

-- v is what is known after the message, and h the history with it
record IsKnown (ks : List EnteredCall) (h : List Entry) (v : Half) : Type 0 where
  seen : v.seen ≡ observe h
  waits : v.waits ≡ waiting ks h

open_yet : (ks : List EnteredCall) (h : List Entry) (v : Half) → IsKnown ks h v → is_some v.seen.decided ≡ false → has is_decision h ≡ false
unfolding observe
open_yet ks h v k q = sym (decision_seen h) ∙ sym (ap (λ (o : Observed). is_some o.decided) k.seen) ∙ q

over_by : (G : ℕ → ActorNo → Call → Type 0) (ks : List EnteredCall) (t : ℕ) (h : List Entry) (o : Option Cause) → has is_decision h ≡ false → OfEach (IsWaiter G ks h) (waiting ks h) → Roomy ks h
    → Roomy ks (onto h (promoted_by t o ++ flat_map (given t) (waiting ks h)))
over_by G ks t h None d o i = given_roomy G ks t h (waiting ks h) h o o (λ e k. k) d i
over_by G ks t h (Some c) d o i = given_roomy G ks t h (waiting ks h) (Promoted (identifier_of t) c ∷ h) o o (λ e k. k) d (gentle_roomy ks (Promoted (identifier_of t) c) h refl i)

over_roomy : (G : ℕ → ActorNo → Call → Type 0) (ks : List EnteredCall) (t : ℕ) (h : List Entry) (v : Half) → IsKnown ks h v → has is_decision h ≡ false → OfEach (IsWaiter G ks h) (waiting ks h) → Roomy ks h
    → Roomy ks (onto h (over t v))
over_roomy G ks t h v k d o i =
    subst (λ ws. Roomy ks (onto h (promoted_by t v.seen.cause ++ flat_map (given t) ws))) (sym k.waits) (over_by G ks t h v.seen.cause d o i)

hand_roomy : (G : ℕ → ActorNo → Call → Type 0) (ks : List EnteredCall) (t : ℕ) (h : List Entry) (v : Half) (n : Option EnlNo) → handover h ≡ n → IsKnown ks h v → has is_decision h ≡ false → OfEach (IsWaiter G ks h) (waiting ks h)
    → Roomy ks h → Roomy ks (onto h (hand_over t v n))
hand_roomy G ks t h v None q k d o i = over_roomy G ks t h v k d o i
hand_roomy G ks t h v (Some e) q k d o i =
    managed_roomy ks t h e v.managers d
    (or_left (lasts (rows h) e.value) (has (is_place_of e.value) (waiting ks h)) (i.owner e.value (ap (λ n. is_handed n e.value) q ∙ itself))) i
  where
    itself : (e.value == e.value) ≡ true
    itself = grind (arith, nat_tests)

created_roomy : (G : ℕ → ActorNo → Call → Type 0) (ks : List EnteredCall) (t : ℕ) (h : List Entry) (v : Half) → IsKnown ks h v → OfEach (IsWaiter G ks h) (waiting ks h) → Roomy ks h → Roomy ks (onto h (created t v))
unfolding observe
created_roomy G ks t h v k o i =
    roomy_if ks h (is_some v.seen.decided) [] (if is_promoting v.seen then hand_over t v v.seen.handover else []) (λ q. i)
    (λ q. roomy_if ks h (is_promoting v.seen) (hand_over t v v.seen.handover) []
    (λ p. hand_roomy G ks t h v v.seen.handover (sym (ap (λ (x : Observed). x.handover) k.seen)) k (open_yet ks h v k q) o i) (λ p. i))

place_roomy : (G : ℕ → ActorNo → Call → Type 0) (ks : List EnteredCall) (h : List Entry) (e : EnlNo) (o : Option Waiter) → find (is_place_of e.value) (waiting ks h) ≡ o → OfEach (IsWaiter G ks h) (waiting ks h) → Roomy ks h
    → Roomy ks (onto h (place_given o))
place_roomy G ks h e (Some (n, Place f r c)) q w i =
    placed_roomy G ks h n f r c (subst (λ m. find (is_place_of m) (waiting ks h) ≡ Some (n, Place f r c)) (found_number e.value (waiting ks h) n f r c q) q) w i
place_roomy G ks h e (Some (n, Identifier)) q w i = i
place_roomy G ks h e None q w i = i

enlisted_roomy : (G : ℕ → ActorNo → Call → Type 0) (ks : List EnteredCall) (t : ℕ) (h : List Entry) (v : Half) (e : EnlNo) → IsKnown ks h v → OfEach (IsWaiter G ks h) (waiting ks h) → Roomy ks h → Roomy ks (onto h (enlisted_at t v e))
enlisted_roomy G ks t h v e k o i =
    let own = is_promoting v.seen && is_handed v.seen.handover e.value in
    let placed = place_given (find (is_place_of e.value) v.waits) in
    roomy_if ks h (is_some v.seen.decided) [] (if own then over t v else if v.seen.promoted then placed else []) (λ q. i)
    (λ q. roomy_if ks h own (over t v) (if v.seen.promoted then placed else []) (λ p. over_roomy G ks t h v k (open_yet ks h v k q) o i)
    (λ p. roomy_if ks h v.seen.promoted placed []
    (λ z. subst (λ ws. Roomy ks (onto h (place_given (find (is_place_of e.value) ws)))) (sym k.waits) (place_roomy G ks h e (find (is_place_of e.value) (waiting ks h)) refl o i)) (λ z. i)))

known_after : (w : World) (c : Conn) (m : Message) → IsKnown w.calls (Got c Down m ∷ w.past) (sees (half w) (Got c Down m))
unfolding observe track
known_after w c m = record { seen = refl; waits = refl }

got_roomy : (G : ℕ → ActorNo → Call → Type 0) (t : ℕ) (w : World) (c : Conn) (m : Message) → OfEach (IsWaiter G w.calls w.past) (waiting w.calls w.past) → Roomy w.calls w.past
    → Roomy w.calls (onto (Got c Down m ∷ w.past) (local_got t (half w) c m))
unfolding local_got
got_roomy G t w Voter VoterCreated o i =
    let x = Got Voter Down VoterCreated in
    created_roomy G w.calls t (x ∷ w.past) (sees (half w) x) (known_after w Voter VoterCreated) (of-more (IsWaiter G w.calls w.past) (IsWaiter G w.calls (x ∷ w.past)) (waiter_more G w.calls w.past x) (waiting w.calls w.past) o)
    (gentle_roomy w.calls x w.past refl i)
got_roomy G t w (Enl e) EnlistEnlisted o i =
    let x = Got (Enl e) Down EnlistEnlisted in
    enlisted_roomy G w.calls t (x ∷ w.past) (sees (half w) x) e (known_after w (Enl e) EnlistEnlisted)
    (of-more (IsWaiter G w.calls w.past) (IsWaiter G w.calls (x ∷ w.past)) (waiter_more G w.calls w.past x) (waiting w.calls w.past) o) (gentle_roomy w.calls x w.past refl i)
got_roomy G t w c m o i =
    let x = Got c Down m in
    block_roomy w.calls (x ∷ w.past) (arrived t (sees (half w) x) c m) (plain_arrived t (sees (half w) x) c m refl) (kept_arrived t (sees (half w) x) c m refl) (gentle_roomy w.calls x w.past refl i)

-- a delivery
pub delivered_roomy : (G : ℕ → ActorNo → Call → Type 0) (t : ℕ) (w : World) (c : Conn) (d : Dir) (ms : List Message) → OfEach (IsWaiter G w.calls w.past) (waiting w.calls w.past) → Roomy w.calls w.past
    → Roomy w.calls (onto w.past (delivered t w c d ms))
delivered_roomy G t w c d [] o i = block_roomy w.calls (Ended c d ∷ w.past) (ended_at w c d) (plain_ended_at w c d) (kept_ended_at w c d) (gentle_roomy w.calls (Ended c d) w.past refl i)
delivered_roomy G t w c Up (m ∷ ms) o i =
    block_roomy w.calls (Got c Up m ∷ w.past) (got_by t w c Up m) (plain_core_got (identifier_of t) (core w) c m) (kept_core_got {ws = []} (identifier_of t) (core w) c m) (gentle_roomy w.calls (Got c Up m) w.past refl i)
delivered_roomy G t w c Down (m ∷ ms) o i = got_roomy G t w c m o i
