-- In each world that steps make: after the promotion each call that waits has its ENLIST sent.
use Rattle.std.proofs.Common.{◌≡◌, true, List, Bool, ◌&&◌, refl, false, ◌||◌, ◌∷◌, [], ℕ, ◌++◌, Option, Some, None, ◌==◌, sym, subst, ◌∙◌, ap}
use Rattle.std.specs.Prelude.{not, if◌then◌else◌, is_some, find}
use Rattle.std.specs.List.{flat_map}
use Rattle.std.proofs.lemmas.Bool.{or_left}
use Rattle.dtx_values.specs.declared.call.Call.{Call}
use Rattle.dtx_values.specs.declared.call.Call.TheVariants.{Durable, Marshal, Volatile, Promotable}
use Rattle.dtx_values.specs.declared.entry.Answer.{Answer}
use Rattle.dtx_values.specs.declared.entry.Answer.TheVariants.{Fine, True, Wait}
use Rattle.dtx_values.specs.declared.entry.Entry.{Entry}
use Rattle.dtx_values.specs.declared.entry.Entry.TheVariants.{Called, Promoted, Got, Down as Ended, Enlisted, Stopped}
use Rattle.dtx_values.specs.declared.message.Conn.{Conn}
use Rattle.dtx_values.specs.declared.message.Conn.TheVariants.{Voter, Enl}
use Rattle.dtx_values.specs.declared.message.Dir.{Dir}
use Rattle.dtx_values.specs.declared.message.Dir.TheVariants.{Down, Up}
use Rattle.dtx_values.specs.declared.message.Message.{Message}
use Rattle.dtx_values.specs.declared.message.Message.TheVariants.{EnlistEnlisted, VoterCreated}
use Rattle.dtx_values.specs.declared.number.ActorNo.{ActorNo}
use Rattle.dtx_values.specs.declared.number.EnlNo.{EnlNo}
use Rattle.dtx_values.specs.declared.number.RmNo.{RmNo}
use Rattle.dtx_values.specs.declared.number.TxNo.{TxNo}
use Rattle.dtx_values.specs.declared.words.Class.TheVariants.{DurableSingle}
use Rattle.dtx_values.specs.declared.script.Support.{Support}
use Rattle.dtx_values.specs.declared.words.Cause.{Cause}
use Rattle.dtx_values.specs.declared.words.Outcome.{Outcome}
use Rattle.dtx_values.specs.Support.{is_single}
use Rattle.dtx_values.specs.Owners.{cause_of}
use Rattle.dtx_model.specs.declared.waiting.EnteredCall.{EnteredCall}
use Rattle.dtx_model.specs.declared.waiting.Wanted.TheVariants.{Identifier, Place}
use Rattle.dtx_model.specs.Words.{each, has, onto}
use Rattle.dtx_model.specs.Entries.{is_promoted, is_call, is_sealed}
use Rattle.dtx_model.specs.Promotes.{is_wait, identifier_of}
use Rattle.dtx_model.specs.Wires.{in_transit}
use Rattle.dtx_model.specs.Waiting.{waiting, Waiter, is_place_of, call_at, class_by, wanted}
use Rattle.dtx_model.specs.Half.{given, promoted_by, by_manager, enlist_sent, Half, is_promoting, is_handed, over, sees}
use Rattle.dtx_model.specs.Arrivals.{place_given, hand_over, created, enlisted_at, arrived, local_got}
use Rattle.dtx_model.specs.Acts.{act_entries}
use Rattle.dtx_model.specs.Replies.{reply_entries}
use Rattle.dtx_model.specs.Answers.{if_begun, unless_ended, durable_answer, marshal_answer, local_answer}
use Rattle.dtx_model.specs.Facts.{is_waiting_answer, facts_if, has_facts, durable_facts, begin_promotion}
use Rattle.dtx_model.specs.World.{World, half, core, answer_at, facts_at}
use Rattle.dtx_model.specs.Steps.{delivered, ended_at, got_by, Step, Calls, Replies, Acts, Coordinates, Delivers, Stops, Restarts, after, block_at, coordinates, restarted}
use Rattle.dtx_model.specs.Caused.{MayCome, Ran}
use Rattle.dtx_model.proofs.Bools.{and_right, not_true, and_left, not_both}
use Rattle.dtx_model.proofs.Heeding.{fresh}
use Rattle.dtx_model.proofs.Writes.{may_begin}
use Rattle.history_table.proofs.Waiters.{is_on_its_way, other_given, Gives, gives_begun, sure, is_durable_call, own_call, gives, seen_promoted}
use Rattle.history_table.proofs.PlainBlocks.{is_plain, Plain, plain_arrived, plain_core_got, plain_ended_at, plain_called, plain_begin_promotion, plain_act, plain_coordinates, plain_reply, plain_restarted}
use Rattle.history_table.proofs.Scans.{each_more}
use Rattle.script_histories.proofs.OnTheWay.{waits_stay, over_waits, durable_waits}

abbrev pub AreOnTheWay : List EnteredCall → List Entry → Type 0
AreOnTheWay ks h = has is_promoted h ≡ true → each (is_on_its_way h) (waiting ks h) ≡ true

-- an entry after which no call more waits, and no promotion more is over
abbrev pub is_still : Entry → Bool
is_still x = not (is_wait x) && not (is_promoted x)

plain_still : (x : Entry) → is_plain x ≡ true → is_still x ≡ true
plain_still (Called n a x) p = absurd cc
plain_still (Promoted u c) p = absurd cc
plain_still _ p = refl

all_still : {es : List Entry} → Plain es → each is_still es ≡ true
all_still {es} p = each_more is_plain is_still plain_still es p.proof

-- such entries keep it
promoted_before : (x : Entry) (h : List Entry) → is_still x ≡ true → has is_promoted (x ∷ h) ≡ true → has is_promoted h ≡ true
promoted_before x h s k = step (is_promoted x) (not_true (is_promoted x) (and_right (not (is_wait x)) (not (is_promoted x)) s)) k
  where
    step : (b : Bool) → b ≡ false → (b || has is_promoted h) ≡ true → has is_promoted h ≡ true
    step true n k = absurd cc
    step false n k = k

still_keeps : (ks : List EnteredCall) (past es : List Entry) → each is_still es ≡ true → AreOnTheWay ks past → AreOnTheWay ks (onto past es)
still_keeps ks past [] s w = w
still_keeps ks past (x ∷ es) s w =
    still_keeps ks (x ∷ past) es (and_right (is_still x) (each is_still es) s)
    (λ p. waits_stay ks x past (not_true (is_wait x) (and_left (not (is_wait x)) (not (is_promoted x)) first)) (w (promoted_before x past first p)))
  where
    first : is_still x ≡ true
    first = and_left (is_still x) (each is_still es) s

-- before entries that end no promotion it was promoted where it is
promoted_first : (past es : List Entry) → each is_still es ≡ true → has is_promoted (onto past es) ≡ true → has is_promoted past ≡ true
promoted_first past [] s k = k
promoted_first past (x ∷ es) s k = promoted_before x past (and_left (is_still x) (each is_still es) s) (promoted_first (x ∷ past) es (and_right (is_still x) (each is_still es) s) k)

-- The arrivals: by cases.
keeps_if : (ks : List EnteredCall) (past : List Entry) (b : Bool) (xs ys : List Entry) → AreOnTheWay ks (onto past xs) → AreOnTheWay ks (onto past ys) → AreOnTheWay ks (onto past (if b then xs else ys))
keeps_if ks past true xs ys p q = p
keeps_if ks past false xs ys p q = q

keeps_by : (ks : List EnteredCall) (past : List Entry) (b : Bool) (xs ys : List Entry) → (b ≡ true → AreOnTheWay ks (onto past xs)) → (b ≡ false → AreOnTheWay ks (onto past ys))
    → AreOnTheWay ks (onto past (if b then xs else ys))
keeps_by ks past true xs ys p q = p refl
keeps_by ks past false xs ys p q = q refl

over_keeps : (ks : List EnteredCall) (t : ℕ) (o : Option Cause) (past : List Entry) → AreOnTheWay ks (onto past (promoted_by t o ++ flat_map (given t) (waiting ks past)))
over_keeps ks t (Some c) past = λ p. over_waits ks t (Promoted (identifier_of t) c ∷ past)
over_keeps ks t None past = λ p. over_waits ks t past

still_manager : (t : ℕ) (ms : List (EnlNo × RmNo)) (e : EnlNo) → each is_still (by_manager (enlist_sent t) ms e) ≡ true
still_manager t [] e = refl
still_manager t (m ∷ ms) e = step (e.value == m.0.value) (still_manager t ms e)
  where
    step : (b : Bool) → each is_still (by_manager (enlist_sent t) ms e) ≡ true → each is_still (if b then enlist_sent t e m.1 else by_manager (enlist_sent t) ms e) ≡ true
    step true ih = refl
    step false ih = ih

still_placed : (o : Option Waiter) → each is_still (place_given o) ≡ true
still_placed (Some (n, Place e r c)) = refl
still_placed (Some (n, Identifier)) = refl
still_placed None = refl

-- h is what is known after the message
given_keeps : (ks : List EnteredCall) (t : ℕ) (past : List Entry) (h : Half) → h.waits ≡ waiting ks past → (o : Option EnlNo) → AreOnTheWay ks past → AreOnTheWay ks (onto past (hand_over t h o))
given_keeps ks t past h e (Some f) w = still_keeps ks past (hand_over t h (Some f)) (still_manager t h.managers f) w
given_keeps ks t past h e None w = subst (λ ws. AreOnTheWay ks (onto past (promoted_by t h.seen.cause ++ flat_map (given t) ws))) (sym e) (over_keeps ks t h.seen.cause past)

created_keeps : (ks : List EnteredCall) (t : ℕ) (past : List Entry) (h : Half) → h.waits ≡ waiting ks past → AreOnTheWay ks past → AreOnTheWay ks (onto past (created t h))
created_keeps ks t past h e w =
    keeps_if ks past (is_some h.seen.decided) [] (if is_promoting h.seen then hand_over t h h.seen.handover else []) w
    (keeps_if ks past (is_promoting h.seen) (hand_over t h h.seen.handover) [] (given_keeps ks t past h e h.seen.handover w) w)

enlisted_keeps : (ks : List EnteredCall) (t : ℕ) (past : List Entry) (h : Half) (f : EnlNo) → h.waits ≡ waiting ks past → AreOnTheWay ks past → AreOnTheWay ks (onto past (enlisted_at t h f))
enlisted_keeps ks t past h f e w =
    let own = is_promoting h.seen && is_handed h.seen.handover f.value in
    let placed = place_given (find (is_place_of f.value) h.waits) in
    keeps_if ks past (is_some h.seen.decided) [] (if own then over t h else if h.seen.promoted then placed else []) w
    (keeps_if ks past own (over t h) (if h.seen.promoted then placed else [])
    (subst (λ ws. AreOnTheWay ks (onto past (promoted_by t h.seen.cause ++ flat_map (given t) ws))) (sym e) (over_keeps ks t h.seen.cause past))
    (keeps_if ks past h.seen.promoted placed [] (still_keeps ks past placed (still_placed (find (is_place_of f.value) h.waits)) w) w))

got_keeps : (t : ℕ) (w : World) (c : Conn) (m : Message) → AreOnTheWay w.calls w.past → AreOnTheWay w.calls (onto (Got c Down m ∷ w.past) (local_got t (half w) c m))
unfolding local_got
got_keeps t w Voter VoterCreated k =
    created_keeps w.calls t (Got Voter Down VoterCreated ∷ w.past) (sees (half w) (Got Voter Down VoterCreated)) refl (still_keeps w.calls w.past (Got Voter Down VoterCreated ∷ []) refl k)
got_keeps t w (Enl e) EnlistEnlisted k =
    enlisted_keeps w.calls t (Got (Enl e) Down EnlistEnlisted ∷ w.past) (sees (half w) (Got (Enl e) Down EnlistEnlisted)) e refl
    (still_keeps w.calls w.past (Got (Enl e) Down EnlistEnlisted ∷ []) refl k)
got_keeps t w c m k =
    still_keeps w.calls (Got c Down m ∷ w.past) (arrived t (sees (half w) (Got c Down m)) c m) (all_still (plain_arrived t (sees (half w) (Got c Down m)) c m refl)) (still_keeps w.calls w.past (Got c Down m ∷ []) refl k)

delivered_keeps : (t : ℕ) (w : World) (c : Conn) (d : Dir) (ms : List Message) → AreOnTheWay w.calls w.past → AreOnTheWay w.calls (onto w.past (delivered t w c d ms))
delivered_keeps t w c d [] k = still_keeps w.calls w.past (Ended c d ∷ ended_at w c d) (all_still (plain_ended_at w c d)) k
delivered_keeps t w c Up (m ∷ ms) k = still_keeps w.calls w.past (Got c Up m ∷ got_by t w c Up m) (all_still (plain_core_got (identifier_of t) (core w) c m)) k
delivered_keeps t w c Down (m ∷ ms) k = got_keeps t w c m k

pub other_gives : (t : ℕ) (w : World) (c : Call) (m : ℕ) → may_begin c ≡ false → is_waiting_answer (answer_at t w c m) ≡ false
other_gives t w c m n = (other_given t w c m n).proof

-- once it is decided no call waits
decided_late : (o : Option ℕ) (d : Option Outcome) (x : Answer) → is_some d ≡ true → Gives (if_begun o (unless_ended d x))
decided_late o (Some y) x q = gives_begun o (sure refl)
decided_late o None x q = absurd cc

pub decided_gives : (t : ℕ) (w : World) (c : Call) (m : ℕ) → is_some (half w).seen.decided ≡ true → is_waiting_answer (answer_at t w c m) ≡ false
unfolding answer_at local_answer
decided_gives t w (Durable u e r s) m q = (decided_late (half w).seen.limit (half w).seen.decided (durable_answer (half w) (is_single s)) q).proof
decided_gives t w (Marshal u) m q = (decided_late (half w).seen.limit (half w).seen.decided (marshal_answer t (half w)) q).proof
decided_gives t w c m q = (other_given t w c m refl).proof

-- what a call that waits for nothing new writes
still_if : (b : Bool) (es : List Entry) → each is_still es ≡ true → each is_still (facts_if b es) ≡ true
still_if true es k = k
still_if false es k = refl

still_facts : (t : ℕ) (w : World) (c : Call) (x : Answer) → is_durable_call c ≡ false → each is_still (facts_if (has_facts x) (facts_at t w c x)) ≡ true
still_facts t w (Volatile u e o v) x n = still_if (has_facts x) _ refl
still_facts t w (Durable u e r s) x n = absurd cc
still_facts t w (Promotable u e r v o p) x n = still_if (has_facts x) _ refl
still_facts t w c x n = all_still (plain_called t w c x refl)

still_durable : (t : ℕ) (h : Half) (e : EnlNo) (r : RmNo) (single : Bool) (x : Answer) → is_waiting_answer x ≡ false → each is_still (facts_if (has_facts x) (durable_facts t h e r single x)) ≡ true
still_durable t h e r single Wait n = absurd cc
still_durable t h e r single Fine n = refl
still_durable t h e r single True n = refl
still_durable t h e r single _ n = refl

pub waits_as : (n : ℕ) (a : ActorNo) (x : Answer) → is_wait (Called n a x) ≡ is_waiting_answer x
waits_as n a Wait = refl
waits_as n a _ = refl

-- a call that doesn't wait, or not where it is promoted
call_keeps : (ks : List EnteredCall) (n : ℕ) (a : ActorNo) (x : Answer) (past es : List Entry) → (has is_promoted past ≡ true → is_waiting_answer x ≡ false) → each is_still es ≡ true
    → AreOnTheWay ks past → AreOnTheWay ks (onto (Called n a x ∷ past) es)
call_keeps ks n a x past es f s w = λ p. inner (promoted_first (Called n a x ∷ past) es s p) p
  where
    inner : has is_promoted past ≡ true → AreOnTheWay ks (onto (Called n a x ∷ past) es)
    inner q = still_keeps ks (Called n a x ∷ past) es s (λ p. waits_stay ks (Called n a x) past (waits_as n a x ∙ f q) (w q))

-- a durable call
durable_keeps : (ks : List EnteredCall) (t n : ℕ) (a : ActorNo) (u : TxNo) (e : EnlNo) (r : RmNo) (s : Support) (h : Half) (x : Answer) (past : List Entry)
    → call_at ks n ≡ Some (Durable u e r s) → h.seen.promoted ≡ has is_promoted past → AreOnTheWay ks past
    → AreOnTheWay ks (onto past (Called n a x ∷ facts_if (has_facts x) (durable_facts t h e r (is_single s) x)))
durable_keeps ks t n a u e r s h Wait past call seen w =
    keeps_by ks (Called n a Wait ∷ past) h.seen.promoted (enlist_sent t e r) (if is_promoting h.seen then [] else begin_promotion h (cause_of h.seen.table (is_single s)))
    (λ q p. durable_waits ks t n a e r (class_by s) past (ap wanted call) (w (sym seen ∙ q)))
    (λ q p. absurd (not_both (has is_promoted past) (promoted_first (Called n a Wait ∷ past) (if is_promoting h.seen then [] else begin_promotion h (cause_of h.seen.table (is_single s))) (by (is_promoting h.seen)) p) (sym seen ∙ q)))
  where
    by : (b : Bool) → each is_still (if b then [] else begin_promotion h (cause_of h.seen.table (is_single s))) ≡ true
    by true = refl
    by false = all_still (plain_begin_promotion h (cause_of h.seen.table (is_single s)))
durable_keeps ks t n a u e r s h Fine past call seen w = call_keeps ks n a Fine past (Enlisted e DurableSingle ∷ []) (λ p. refl) refl w
durable_keeps ks t n a u e r s h True past call seen w = call_keeps ks n a True past (Enlisted e DurableSingle ∷ []) (λ p. refl) refl w
durable_keeps ks t n a u e r s h x past call seen w = call_keeps ks n a x past [] (λ p. refl) refl w

-- a call that no entry has changes nothing yet
same_way : (n : ℕ) (a : ActorNo) (c : Call) (w : World) → has (is_call n) w.past ≡ false → AreOnTheWay w.calls w.past → AreOnTheWay (record { line = n; actor = a; call = c } ∷ w.calls) w.past
same_way n a c w new k = λ p. subst (λ ws. each (is_on_its_way w.past) ws ≡ true) (sym (ap (λ (h : Half). h.waits) (fresh (record { line = n; actor = a; call = c }) w.calls w.past new))) (k p)

called_keeps : (t : ℕ) (w : World) (n : ℕ) (a : ActorNo) (c : Call) (m : ℕ) → has (is_call n) w.past ≡ false → AreOnTheWay w.calls w.past
    → AreOnTheWay (record { line = n; actor = a; call = c } ∷ w.calls) (onto w.past (Called n a (answer_at t w c m) ∷ facts_if (has_facts (answer_at t w c m)) (facts_at t w c (answer_at t w c m))))
called_keeps t w n a (Durable u e r s) m new k =
    durable_keeps (record { line = n; actor = a; call = Durable u e r s } ∷ w.calls) t n a u e r s (half w) (answer_at t w (Durable u e r s) m) w.past (own_call n a (Durable u e r s) w.calls)
    (seen_promoted w) (same_way n a (Durable u e r s) w new k)
called_keeps t w n a c m new k =
    call_keeps (record { line = n; actor = a; call = c } ∷ w.calls) n a (answer_at t w c m) w.past (facts_if (has_facts (answer_at t w c m)) (facts_at t w c (answer_at t w c m)))
    (λ p. (gives t w c m (or_left (has is_promoted w.past) (has is_sealed w.past) p) refl).proof) (still_facts t w c (answer_at t w c m) refl) (same_way n a c w new k)

-- after each step
step_waits : (G : ℕ → ActorNo → Call → Type 0) (t : ℕ) (w : World) (m : Step) → MayCome G t w m → AreOnTheWay w.calls w.past → AreOnTheWay (after t w m).calls (after t w m).past
unfolding after block_at
step_waits G t w (Calls n a c m) q k = called_keeps t w n a c m q.1 k
step_waits G t w (Replies e x) c k = still_keeps w.calls w.past (reply_entries (half w) e x) (all_still (plain_reply (half w) e x)) k
step_waits G t w Acts c k = still_keeps w.calls w.past (act_entries (half w)) (all_still (plain_act (half w))) k
step_waits G t w (Coordinates x) c k = still_keeps w.calls w.past (coordinates (core w) x) (all_still (plain_coordinates (core w) x)) k
step_waits G t w (Delivers c d) q k = delivered_keeps t w c d (in_transit c d w.past) k
step_waits G t w Stops c k = still_keeps w.calls w.past (Stopped ∷ []) refl k
step_waits G t w (Restarts found) c k = still_keeps w.calls w.past (restarted (core w).stopped found) (all_still (plain_restarted (core w).stopped found)) k

-- so in each world that steps made
pub ran_waits : (G : ℕ → ActorNo → Call → Type 0) (t : ℕ) (ms : List Step) (w : World) → Ran G t ms w → AreOnTheWay w.calls w.past
ran_waits G t [] w r = λ p. absurd (not_both (has is_promoted w.past) p (ap (has is_promoted) r.1))
ran_waits G t (m ∷ ms) w r = subst (λ (x : World). AreOnTheWay x.calls x.past) (sym r.3) (step_waits G t r.0 m r.2 (ran_waits G t ms r.0 r.1))
