-- In each world that steps make, where no two lines' calls make the same enlistment, no enlistment is made again.
use Rattle.std.proofs.Common.{◌≡◌, ℕ, Bool, true, false, ◌&&◌, List, [], ◌∷◌, Option, Some, None, refl, sym, subst}
use Rattle.std.specs.Prelude.{find, is_some, not, if◌then◌else◌}
use Rattle.std.proofs.lemmas.Bool.{false_from_ne_true}
use Rattle.dtx_values.specs.declared.call.Call.{Call}
use Rattle.dtx_values.specs.declared.call.Call.TheVariants.{Volatile, Durable, Promotable}
use Rattle.dtx_values.specs.declared.entry.Answer.{Answer}
use Rattle.dtx_values.specs.declared.entry.Answer.TheVariants.{Fine, True, Wait}
use Rattle.dtx_values.specs.declared.entry.Entry.{Entry}
use Rattle.dtx_values.specs.declared.entry.Entry.TheVariants.{Called, Enlisted, Got, Init, Down as Ended, Stopped}
use Rattle.dtx_values.specs.declared.message.Conn.{Conn}
use Rattle.dtx_values.specs.declared.message.Conn.TheVariants.{Voter, Enl}
use Rattle.dtx_values.specs.declared.message.Dir.{Dir}
use Rattle.dtx_values.specs.declared.message.Dir.TheVariants.{Up, Down}
use Rattle.dtx_values.specs.declared.message.Message.{Message}
use Rattle.dtx_values.specs.declared.message.Message.TheVariants.{EnlistEnlisted, VoterCreated}
use Rattle.dtx_values.specs.declared.number.ActorNo.{ActorNo}
use Rattle.dtx_values.specs.declared.number.EnlNo.{EnlNo}
use Rattle.dtx_values.specs.declared.number.RmNo.{RmNo}
use Rattle.dtx_values.specs.declared.words.Class.{Class}
use Rattle.dtx_values.specs.declared.words.Class.TheVariants.{DurableSingle, Promotable as PromotableClass}
use Rattle.dtx_values.specs.Owners.{cause_of}
use Rattle.dtx_values.specs.Support.{is_single}
use Rattle.dtx_model.specs.declared.waiting.EnteredCall.{EnteredCall}
use Rattle.dtx_model.specs.declared.waiting.Wanted.TheVariants.{Identifier, Place}
use Rattle.dtx_model.specs.Words.{always, each, has, onto}
use Rattle.dtx_model.specs.Entries.{is_call}
use Rattle.dtx_model.specs.Grammar.{OfEnlistment}
use Rattle.dtx_model.specs.Promotes.{identifier_of}
use Rattle.dtx_model.specs.Wires.{in_transit}
use Rattle.dtx_model.specs.Answers.{class_of}
use Rattle.dtx_model.specs.Waiting.{Waiter, is_place_of, waiting}
use Rattle.dtx_model.specs.Half.{Half, enlist_sent, is_handed, is_promoting, over, sees}
use Rattle.dtx_model.specs.Arrivals.{arrived, created, enlisted_at, hand_over, local_got, place_given}
use Rattle.dtx_model.specs.Acts.{act_entries}
use Rattle.dtx_model.specs.Replies.{reply_entries}
use Rattle.dtx_model.specs.Facts.{begin_promotion, durable_facts, facts_if, has_facts}
use Rattle.dtx_model.specs.World.{World, answer_at, core, facts_at, half}
use Rattle.dtx_model.specs.Steps.{Step, Calls, Replies, Acts, Coordinates, Delivers, Stops, Restarts, after, block_at, coordinates, delivered, ended_at, got_by, restarted}
use Rattle.dtx_model.specs.Caused.{AreMadeOnce, MayCome, Ran}
use Rattle.dtx_model.proofs.Bools.{and_both, and_left, and_right, not_both, not_false}
use Rattle.history_table.proofs.Lists.{found_at}
use Rattle.history_table.proofs.Scans.{each-at, each_more}
use Rattle.history_table.proofs.EntryTests.{is_enlisted}
use Rattle.history_table.proofs.Tests.{eq_self}
use Rattle.history_table.proofs.Waiters.{is_unplaced}
use Rattle.settled_histories.proofs.SameRows.{is_made_once}
use Rattle.history_table.proofs.PlainBlocks.{plain_act, plain_arrived, plain_begin_promotion, plain_called, plain_coordinates, plain_core_got, plain_ended_at, plain_reply, plain_restarted}
use Rattle.settled_histories.proofs.Handovers.{all_unmaking, handed_unmaking, is_unmaking, over_unmaking}
use Rattle.history_table.proofs.Makers.{AreMade, all_unplaced, makes_enlistment, makes_name, ran_made}

abbrev IsOnce : List Entry → Type 0
IsOnce h = always is_made_once h ≡ true

-- an entry that makes none keeps it, and a list of such entries
entry_once : (x : Entry) (h : List Entry) → is_unmaking x ≡ true → IsOnce h → IsOnce (x ∷ h)
entry_once (Enlisted e c) h u o = absurd cc
entry_once _ h u o = o

list_once : (h es : List Entry) → each is_unmaking es ≡ true → IsOnce h → IsOnce (onto h es)
list_once h [] u o = o
list_once h (x ∷ es) u o = list_once (x ∷ h) es (and_right (is_unmaking x) (each is_unmaking es) u) (entry_once x h (and_left (is_unmaking x) (each is_unmaking es) u) o)

enlist_once : (h : List Entry) (e : EnlNo) (c : Class) → has (is_enlisted e.value) h ≡ false → IsOnce h → IsOnce (Enlisted e c ∷ h)
enlist_once h e c n o = and_both (not (has (is_enlisted e.value) h)) (always is_made_once h) (not_false (has (is_enlisted e.value) h) n) o

once_if : (h : List Entry) (b : Bool) (xs ys : List Entry) → IsOnce (onto h xs) → IsOnce (onto h ys) → IsOnce (onto h (if b then xs else ys))
once_if h true xs ys p q = p
once_if h false xs ys p q = q

-- The arrivals: the enlistment of a call that waits doesn't stand.
placed_once : (ks : List EnteredCall) (h : List Entry) (e : EnlNo) (o : Option Waiter) → find (is_place_of e.value) (waiting ks h) ≡ o → each (is_unplaced h) (waiting ks h) ≡ true → IsOnce h → IsOnce (onto h (place_given o))
placed_once ks h e (Some (n, Place f r c)) q u o =
    let at = found_at (is_place_of e.value) (waiting ks h) (n, Place f r c) q in
    and_both (not (has (is_enlisted f.value) h)) (always is_made_once h) (each-at (is_unplaced h) (waiting ks h) at.0 (n, Place f r c) u at.1) o
placed_once ks h e (Some (n, Identifier)) q u o = o
placed_once ks h e None q u o = o

created_once : (t : ℕ) (h : List Entry) (v : Half) → IsOnce h → IsOnce (onto h (created t v))
created_once t h v o =
    once_if h (is_some v.seen.decided) [] (if is_promoting v.seen then hand_over t v v.seen.handover else []) o
    (once_if h (is_promoting v.seen) (hand_over t v v.seen.handover) [] (list_once h (hand_over t v v.seen.handover) (handed_unmaking t v v.seen.handover) o) o)

enlisted_once : (ks : List EnteredCall) (t : ℕ) (h : List Entry) (v : Half) (e : EnlNo) → v.waits ≡ waiting ks h → each (is_unplaced h) (waiting ks h) ≡ true → IsOnce h → IsOnce (onto h (enlisted_at t v e))
enlisted_once ks t h v e w u o =
    let own = is_promoting v.seen && is_handed v.seen.handover e.value in
    let placed = place_given (find (is_place_of e.value) v.waits) in
    once_if h (is_some v.seen.decided) [] (if own then over t v else if v.seen.promoted then placed else []) o
    (once_if h own (over t v) (if v.seen.promoted then placed else []) (list_once h (over t v) (over_unmaking t v.seen.cause v.waits) o)
    (once_if h v.seen.promoted placed []
    (subst (λ ws. IsOnce (onto h (place_given (find (is_place_of e.value) ws)))) (sym w) (placed_once ks h e (find (is_place_of e.value) (waiting ks h)) refl u o)) o))

got_once : (t : ℕ) (w : World) (c : Conn) (m : Message) → each (is_unplaced w.past) (waiting w.calls w.past) ≡ true → IsOnce w.past → IsOnce (onto (Got c Down m ∷ w.past) (local_got t (half w) c m))
unfolding local_got
got_once t w Voter VoterCreated u o = created_once t (Got Voter Down VoterCreated ∷ w.past) (sees (half w) (Got Voter Down VoterCreated)) o
got_once t w (Enl e) EnlistEnlisted u o =
    enlisted_once w.calls t (Got (Enl e) Down EnlistEnlisted ∷ w.past) (sees (half w) (Got (Enl e) Down EnlistEnlisted)) e refl
    (each_more (is_unplaced w.past) (is_unplaced (Got (Enl e) Down EnlistEnlisted ∷ w.past)) still (waiting w.calls w.past) u) o
  where
    still : (v : Waiter) → is_unplaced w.past v ≡ true → is_unplaced (Got (Enl e) Down EnlistEnlisted ∷ w.past) v ≡ true
    still (n, Identifier) k = k
    still (n, Place f r c) k = k
got_once t w c m u o =
    list_once (Got c Down m ∷ w.past) (arrived t (sees (half w) (Got c Down m)) c m) (all_unmaking (plain_arrived t (sees (half w) (Got c Down m)) c m refl)) o

delivered_once : (t : ℕ) (w : World) (c : Conn) (d : Dir) (ms : List Message) → each (is_unplaced w.past) (waiting w.calls w.past) ≡ true → IsOnce w.past → IsOnce (onto w.past (delivered t w c d ms))
delivered_once t w c d [] u o = list_once w.past (Ended c d ∷ ended_at w c d) (all_unmaking (plain_ended_at w c d)) o
delivered_once t w c Up (m ∷ ms) u o = list_once w.past (Got c Up m ∷ got_by t w c Up m) (all_unmaking (plain_core_got (identifier_of t) (core w) c m)) o
delivered_once t w c Down (m ∷ ms) u o = got_once t w c m u o

-- The calls: the line didn't come, so what its call makes doesn't stand.
own_new : (G : ℕ → ActorNo → Call → Type 0) (w : World) (n : ℕ) (a : ActorNo) (c : Call) (e : ℕ) → AreMadeOnce G → AreMade G w.calls w.past → G n a c → has (is_call n) w.past ≡ false → makes_enlistment e c ≡ true
    → has (is_enlisted e) w.past ≡ false
own_new G w n a c e once m g new k =
    false_from_ne_true (has (is_enlisted e) w.past)
    (λ q. let o = (m.enlisted e q).0 in
    let same : o.number ≡ n = once o.number n o.actor a o.call c (OfEnlistment e) o.may g (makes_name e o.call o.passes) (makes_name e c k) in
    not_both (has (is_call n) w.past) (subst (λ j. has (is_call j) w.past ≡ true) same o.called) new)

facts_once : (h es : List Entry) (b : Bool) → IsOnce h → IsOnce (onto h es) → IsOnce (onto h (facts_if b es))
facts_once h es true o k = k
facts_once h es false o k = o

durable_once : (t : ℕ) (v : Half) (h : List Entry) (e : EnlNo) (r : RmNo) (single : Bool) (x : Answer) → has (is_enlisted e.value) h ≡ false → IsOnce h → IsOnce (onto h (facts_if (has_facts x) (durable_facts t v e r single x)))
durable_once t v h e r single Wait n o =
    once_if h v.seen.promoted (enlist_sent t e r) (if is_promoting v.seen then [] else begin_promotion v (cause_of v.seen.table single)) o
    (once_if h (is_promoting v.seen) [] (begin_promotion v (cause_of v.seen.table single)) o
    (list_once h (begin_promotion v (cause_of v.seen.table single)) (all_unmaking (plain_begin_promotion v (cause_of v.seen.table single))) o))
durable_once t v h e r single Fine n o = enlist_once h e DurableSingle n o
durable_once t v h e r single True n o = enlist_once h e DurableSingle n o
durable_once t v h e r single _ n o = o

called_once : (G : ℕ → ActorNo → Call → Type 0) (t : ℕ) (w : World) (n : ℕ) (a : ActorNo) (c : Call) (x : Answer) → AreMadeOnce G → AreMade G w.calls w.past → G n a c → has (is_call n) w.past ≡ false → IsOnce w.past
    → IsOnce (onto w.past (Called n a x ∷ facts_if (has_facts x) (facts_at t w c x)))
called_once G t w n a (Durable u e r s) x once m g new o =
    durable_once t (half w) (Called n a x ∷ w.past) e r (is_single s) x (own_new G w n a (Durable u e r s) e.value once m g new (eq_self e.value)) o
called_once G t w n a (Volatile u e y v) x once m g new o =
    facts_once (Called n a x ∷ w.past) (Enlisted e (class_of y) ∷ []) (has_facts x) o
    (enlist_once (Called n a x ∷ w.past) e (class_of y) (own_new G w n a (Volatile u e y v) e.value once m g new (eq_self e.value)) o)
called_once G t w n a (Promotable u e r v y p) x once m g new o =
    facts_once (Called n a x ∷ w.past) (Enlisted e PromotableClass ∷ Init e ∷ []) (has_facts x) o
    (enlist_once (Called n a x ∷ w.past) e PromotableClass (own_new G w n a (Promotable u e r v y p) e.value once m g new (eq_self e.value)) o)
called_once G t w n a c x once m g new o = list_once (Called n a x ∷ w.past) (facts_if (has_facts x) (facts_at t w c x)) (all_unmaking (plain_called t w c x refl)) o

-- after each step
step_once : (G : ℕ → ActorNo → Call → Type 0) (t : ℕ) (w : World) (m : Step) → AreMadeOnce G → AreMade G w.calls w.past → MayCome G t w m → IsOnce w.past → IsOnce (after t w m).past
unfolding after block_at
step_once G t w (Calls n a c m) once made q o = called_once G t w n a c (answer_at t w c m) once made q.0 q.1 o
step_once G t w (Replies e x) once made q o = list_once w.past (reply_entries (half w) e x) (all_unmaking (plain_reply (half w) e x)) o
step_once G t w Acts once made q o = list_once w.past (act_entries (half w)) (all_unmaking (plain_act (half w))) o
step_once G t w (Coordinates x) once made q o = list_once w.past (coordinates (core w) x) (all_unmaking (plain_coordinates (core w) x)) o
step_once G t w (Delivers c d) once made q o = delivered_once t w c d (in_transit c d w.past) (all_unplaced G w.calls w.past once made) o
step_once G t w Stops once made q o = list_once w.past (Stopped ∷ []) refl o
step_once G t w (Restarts found) once made q o = list_once w.past (restarted (core w).stopped found) (all_unmaking (plain_restarted (core w).stopped found)) o

-- so in each world that steps made
pub ran_once : (G : ℕ → ActorNo → Call → Type 0) (t : ℕ) (ms : List Step) (w : World) → AreMadeOnce G → Ran G t ms w → always is_made_once w.past ≡ true
ran_once G t [] w once r = subst IsOnce (sym r.1) refl
ran_once G t (m ∷ ms) w once r = subst (λ (x : World). IsOnce x.past) (sym r.3) (step_once G t r.0 m once (ran_made G t ms r.0 r.1) r.2 (ran_once G t ms r.0 once r.1))
