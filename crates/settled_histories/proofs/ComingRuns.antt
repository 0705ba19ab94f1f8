-- So it is in each world that steps make; and what must stand before ENLISTED did.
use Rattle.std.proofs.Common.{◌≡◌, true, false, List, ℕ, ◌==◌, ◌&&◌, [], ◌∷◌, refl, sym, subst, ◌++◌, Option, Some, None, Bool, ap, ◌∙◌, ◌||◌}
use Rattle.std.specs.Prelude.{filter, not, is_some, if◌then◌else◌, find}
use Rattle.std.specs.List.{flat_map}
use Rattle.std.proofs.lemmas.Bool.{eqb-true, or_left, false_from_ne_true}
use Rattle.dtx_values.specs.declared.call.Call.{Call}
use Rattle.dtx_values.specs.declared.call.Call.TheVariants.{Durable, Volatile, Promotable}
use Rattle.dtx_values.specs.declared.entry.Answer.{Answer}
use Rattle.dtx_values.specs.declared.entry.Answer.TheVariants.{Id, Fine, Wait, True}
use Rattle.dtx_values.specs.declared.entry.Entry.{Entry}
use Rattle.dtx_values.specs.declared.entry.Entry.TheVariants.{Answered, Sent, Promoted, Enlisted, Got, Down as Ended, Called, Init, Stopped}
use Rattle.dtx_values.specs.declared.message.Conn.{Conn}
use Rattle.dtx_values.specs.declared.message.Conn.TheVariants.{Enl, Voter}
use Rattle.dtx_values.specs.declared.message.Dir.{Dir}
use Rattle.dtx_values.specs.declared.message.Dir.TheVariants.{Up, Down}
use Rattle.dtx_values.specs.declared.message.Message.{Message}
use Rattle.dtx_values.specs.declared.message.Message.TheVariants.{EnlistEnlist, EnlistEnlisted, VoterCreated}
use Rattle.dtx_values.specs.declared.number.ActorNo.{ActorNo}
use Rattle.dtx_values.specs.declared.number.EnlNo.{EnlNo}
use Rattle.dtx_values.specs.declared.number.RmNo.{RmNo}
use Rattle.dtx_values.specs.declared.words.Cause.{Cause}
use Rattle.dtx_values.specs.declared.words.Class.{Class}
use Rattle.dtx_values.specs.declared.number.TxNo.{TxNo}
use Rattle.dtx_values.specs.declared.script.Support.{Support}
use Rattle.dtx_values.specs.declared.words.Class.TheVariants.{DurableSingle, Promotable as PromotableClass}
use Rattle.dtx_values.specs.Owners.{cause_of}
use Rattle.dtx_values.specs.Support.{is_single}
use Rattle.dtx_model.specs.Words.{has, each, onto, latest, always}
use Rattle.dtx_model.specs.Entries.{is_decision, is_promoted, is_call}
use Rattle.dtx_model.specs.Observed.{handover, is_promotion_failed, cause_of_promotion, observe, track}
use Rattle.dtx_model.specs.Answers.{class_of}
use Rattle.dtx_model.specs.Wires.{in_transit}
use Rattle.dtx_model.specs.Waiting.{is_place_of, waiting, Waiter, call_at, waiter_line, wanted}
use Rattle.dtx_model.specs.Half.{given, info, is_handed, promoted_by, Half, is_promoting as is_promoting_now, over, sees, enlist_sent}
use Rattle.dtx_model.specs.Arrivals.{hand_over, created, place_given, enlisted_at, arrived, local_got}
use Rattle.dtx_model.specs.Acts.{act_entries}
use Rattle.dtx_model.specs.Replies.{reply_entries}
use Rattle.dtx_model.specs.Facts.{begin_promotion, durable_facts, facts_if, has_facts}
use Rattle.dtx_model.specs.World.{World, half, core, answer_at, facts_at}
use Rattle.dtx_model.specs.Steps.{after, delivered, ended_at, got_by, Step, Calls, Replies, Acts, Coordinates, Delivers, Stops, Restarts, block_at, coordinates, restarted}
use Rattle.dtx_model.specs.Caused.{MayCome, Ran}
use Rattle.dtx_model.proofs.Heeding.{fresh}
use Rattle.dtx_model.specs.declared.waiting.EnteredCall.{EnteredCall}
use Rattle.dtx_model.specs.declared.waiting.Wanted.TheVariants.{Identifier, Place}
use Rattle.dtx_model.specs.Promotes.{identifier_of, is_under_way, is_promoting}
use Rattle.dtx_model.proofs.Bools.{and_left, and_right, or_case, and_both, or_right, not_both}
use Rattle.dtx_model.proofs.Connections.{same_is}
use Rattle.history_table.proofs.Messages.{ENLIST}
use Rattle.history_table.proofs.Crossed.{is_sent_on, is_got_on}
use Rattle.history_table.proofs.Lists.{OfEach, found_at, of-more, has-insert}
use Rattle.history_table.proofs.Makers.{IsWaiter, of-filter, keep_place, place_number, of-found, waiter_more, ran_made}
use Rattle.history_table.proofs.Scans.{each_more, has_after}
use Rattle.history_table.proofs.Upward.{is_placed}
use Rattle.history_table.proofs.Tests.{eq_self}
use Rattle.history_table.proofs.PlainBlocks.{plain_arrived, plain_core_got, plain_ended_at, plain_begin_promotion, plain_called, plain_act, plain_coordinates, plain_reply, plain_restarted}
use Rattle.history_table.proofs.DecidingBlocks.{kept_arrived, kept_core_got, kept_ended_at, kept_begin_promotion, kept_called, kept_act, kept_coordinates, kept_reply, kept_restarted}
use Rattle.history_table.proofs.Waiters.{own_call, seen_promoted}
use Rattle.settled_histories.proofs.MessageKinds.{ENLISTED}
use Rattle.settled_histories.proofs.Coming.{AreComing, managed_coming, after_start_onto, block_coming, inert_coming, sent_coming, is_inert, list_coming}
use Rattle.settled_histories.proofs.PaidBlocks.{unpromoted_way, caused_way, way_seen}
use Rattle.settled_histories.proofs.Rest.{is_after_start}
use Rattle.settled_histories.proofs.PaidRuns.{IsMet}

-- Where the promotion is over: each whose ENLIST was sent and whose ENLISTED wasn't got is one whose call waits.
abbrev ArePlaces : List EnteredCall → List Entry → Type 0
ArePlaces ks h =
    has is_decision h ≡ false → (e : EnlNo) → has (is_sent_on (Enl e) Up ENLIST) h ≡ true → has (is_got_on (Enl e) Down ENLISTED) h ≡ false → has (is_place_of e.value) (waiting ks h) ≡ true

no_place : (e : ℕ) (f : EnlNo) (r : RmNo) (c : Class) → Identifier ≡ Place f r c → (e == f.value) ≡ false
no_place e f r c q = absurd cc

given_places : (G : ℕ → ActorNo → Call → Type 0) (ks : List EnteredCall) (t : ℕ) (h : List Entry) (vs : List Waiter) (g : List Entry) → OfEach (IsWaiter G ks h) vs → OfEach (IsWaiter G ks h) (waiting ks g)
    → each (is_placed (waiting ks g)) vs ≡ true → ArePlaces ks g → ArePlaces ks (onto g (flat_map (given t) vs))
given_places G ks t h [] g o w k a = a
given_places G ks t h ((n, Identifier) ∷ vs) g o w k a =
    let kept = λ (e : ℕ). keep_place G ks h n e Identifier o.0 (no_place e) (waiting ks g) w in
    given_places G ks t h vs (Answered n (Id (identifier_of t)) ∷ g) o.1 (of-filter (IsWaiter G ks h) (λ v. not (n == v.0)) (waiting ks g) w)
    (each_more (is_placed (waiting ks g)) (is_placed (filter (λ v. not (n == v.0)) (waiting ks g))) (λ v q. one v kept q) vs k) (λ d e s q. kept e.value (a d e s q))
  where
    one : (v : Waiter) → ((e : ℕ) → has (is_place_of e) (waiting ks g) ≡ true → has (is_place_of e) (filter (λ v. not (n == v.0)) (waiting ks g)) ≡ true) → is_placed (waiting ks g) v ≡ true
        → is_placed (filter (λ v. not (n == v.0)) (waiting ks g)) v ≡ true
    one (m, Identifier) f q = refl
    one (m, Place e r c) f q = f e.value q
given_places G ks t h ((n, Place f r c) ∷ vs) g o w k a =
    given_places G ks t h vs (Sent (Enl f) Up (EnlistEnlist (info t f r)) ∷ g) o.1 w (and_right (has (is_place_of f.value) (waiting ks g)) (each (is_placed (waiting ks g)) vs) k)
    (λ d e s q. or_case ((e.value == f.value) && true && true) (has (is_sent_on (Enl e) Up ENLIST) g)
    (λ z. subst (λ m. has (is_place_of m) (waiting ks g) ≡ true) (sym (eqb-true e.value f.value (and_left (e.value == f.value) true (and_left ((e.value == f.value) && true) true z))))
    (and_left (has (is_place_of f.value) (waiting ks g)) (each (is_placed (waiting ks g)) vs) k))
    (λ z. a d e z q) s)

-- each that waits is among those that wait
all_placed : (us ws : List Waiter) → ((e : ℕ) → has (is_place_of e) us ≡ true → has (is_place_of e) ws ≡ true) → each (is_placed ws) us ≡ true
all_placed [] ws f = refl
all_placed ((n, Identifier) ∷ us) ws f = all_placed us ws f
all_placed ((n, Place e r c) ∷ us) ws f =
    and_both (has (is_place_of e.value) ws) (each (is_placed ws) us) (f e.value (or_left (e.value == e.value) (has (is_place_of e.value) us) (eq_self e.value)))
    (all_placed us ws (λ m k. f m (or_right (m == e.value) (has (is_place_of m) us) k)))

-- the promotion is over, before which none was coming
over_coming : (G : ℕ → ActorNo → Call → Type 0) (ks : List EnteredCall) (t : ℕ) (o : Option Cause) (h : List Entry) → is_some o ≡ true → OfEach (IsWaiter G ks h) (waiting ks h)
    → (has is_decision h ≡ false → (e : EnlNo) → has (is_sent_on (Enl e) Up ENLIST) h ≡ true → has (is_got_on (Enl e) Down ENLISTED) h ≡ false → ⊥)
    → AreComing ks (onto h (promoted_by t o ++ flat_map (given t) (waiting ks h)))
over_coming G ks t None h q w f = absurd cc
over_coming G ks t (Some c) h q w f = λ d e s g.
    let x = Promoted (identifier_of t) c in
    let after = onto (x ∷ h) (flat_map (given t) (waiting ks h)) in
    let place = given_places G ks t h (waiting ks h) (x ∷ h) w w (all_placed (waiting ks h) (waiting ks h) (λ e k. k)) (λ d e s g. absurd (f d e s g)) d e s g in
    or_right (is_under_way after && is_handed (handover after) e.value) (has is_promoted after && has (is_place_of e.value) (waiting ks after))
    (and_both (has is_promoted after) (has (is_place_of e.value) (waiting ks after)) (has_after is_promoted (x ∷ h) (flat_map (given t) (waiting ks h)) refl) place)

placed_coming : (G : ℕ → ActorNo → Call → Type 0) (ks : List EnteredCall) (h : List Entry) (n : ℕ) (f : EnlNo) (r : RmNo) (c : Class) → IsWaiter G ks h (n, Place f r c) → OfEach (IsWaiter G ks h) (waiting ks h) → has is_promoted h ≡ true
    → has (is_got_on (Enl f) Down ENLISTED) h ≡ true → AreComing ks h → AreComing ks (Answered n Fine ∷ Enlisted f c ∷ h)
placed_coming G ks h n f r c w o p z j = λ d e s g.
    let other : (e.value == f.value) ≡ false =
    false_from_ne_true (e.value == f.value)
    (λ q. not_both (has (is_got_on (Enl e) Down ENLISTED) h) (let P : Conn → Type 0 = λ x. has (is_got_on x Down ENLISTED) h ≡ true in subst P (sym (same_is (Enl e) (Enl f) q)) z) g) in
    let old = j d e s g in
    let place : has (is_place_of e.value) (waiting ks h) ≡ true =
    or_case (is_under_way h && is_handed (handover h) e.value) (has is_promoted h && has (is_place_of e.value) (waiting ks h))
    (λ q. absurd (settled (has is_promoting h) (has is_promoted h) (has is_promotion_failed h) p (and_left (is_under_way h) (is_handed (handover h) e.value) q)))
    (λ q. and_right (has is_promoted h) (has (is_place_of e.value) (waiting ks h)) q) old in
    or_right (is_under_way h && is_handed (handover h) e.value) (has is_promoted h && has (is_place_of e.value) (filter (λ v. not (n == v.0)) (waiting ks h)))
    (and_both (has is_promoted h) (has (is_place_of e.value) (filter (λ v. not (n == v.0)) (waiting ks h))) p
    (keep_place G ks h n e.value (Place f r c) w (λ k q y i. subst (λ m. (e.value == m) ≡ false) (ap place_number i) other) (waiting ks h) o place))
  where
    settled : (a b c : Bool) → b ≡ true → (a && not b && not c) ≡ true → ⊥
    settled true true c p k = cc
    settled true false c p k = cc
    settled false b c p k = cc

-- The arrivals: by cases. What is decided needs nothing.
coming_if : (ks : List EnteredCall) (h : List Entry) (b : Bool) (xs ys : List Entry) → (b ≡ true → AreComing ks (onto h xs)) → (b ≡ false → AreComing ks (onto h ys)) → AreComing ks (onto h (if b then xs else ys))
coming_if ks h true xs ys p q = p refl
coming_if ks h false xs ys p q = q refl

-- v is what is known after the message, and h the history with it
record IsKnown (ks : List EnteredCall) (h : List Entry) (v : Half) : Type 0 where
  waits : v.waits ≡ waiting ks h
  way : is_promoting_now v.seen ≡ is_under_way h
  handed : v.seen.handover ≡ handover h
  promoted : v.seen.promoted ≡ has is_promoted h
  cause : is_promoting_now v.seen ≡ true → is_some v.seen.cause ≡ true

-- none is coming where the promotion is under way without a handover, or whose handover has come
none_coming : (ks : List EnteredCall) (h : List Entry) → AreComing ks h → is_under_way h ≡ true → ((e : EnlNo) → is_handed (handover h) e.value ≡ true → has (is_got_on (Enl e) Down ENLISTED) h ≡ true)
    → has is_decision h ≡ false → (e : EnlNo) → has (is_sent_on (Enl e) Up ENLIST) h ≡ true → has (is_got_on (Enl e) Down ENLISTED) h ≡ false → ⊥
none_coming ks h j w f d e s g =
    or_case (is_under_way h && is_handed (handover h) e.value) (has is_promoted h && has (is_place_of e.value) (waiting ks h))
    (λ q. not_both (has (is_got_on (Enl e) Down ENLISTED) h) (f e (and_right (is_under_way h) (is_handed (handover h) e.value) q)) g)
    (λ q. not_both (has is_promoted h) (and_left (has is_promoted h) (has (is_place_of e.value) (waiting ks h)) q) (unpromoted_way (has is_promoting h) (has is_promoted h) (has is_promotion_failed h) w)) (j d e s g)

ended_coming : (G : ℕ → ActorNo → Call → Type 0) (ks : List EnteredCall) (t : ℕ) (h : List Entry) (v : Half) → IsKnown ks h v → OfEach (IsWaiter G ks h) (waiting ks h) → is_promoting_now v.seen ≡ true
    → ((e : EnlNo) → is_handed (handover h) e.value ≡ true → has (is_got_on (Enl e) Down ENLISTED) h ≡ true) → AreComing ks h → AreComing ks (onto h (over t v))
ended_coming G ks t h v k o w f j =
    subst (λ ws. AreComing ks (onto h (promoted_by t v.seen.cause ++ flat_map (given t) ws))) (sym k.waits) (over_coming G ks t v.seen.cause h (k.cause w) o (none_coming ks h j (sym k.way ∙ w) f))

handed_coming : (G : ℕ → ActorNo → Call → Type 0) (ks : List EnteredCall) (t : ℕ) (h : List Entry) (v : Half) (x : Option EnlNo) → handover h ≡ x → IsKnown ks h v → OfEach (IsWaiter G ks h) (waiting ks h) → is_promoting_now v.seen ≡ true
    → AreComing ks h → AreComing ks (onto h (hand_over t v x))
handed_coming G ks t h v (Some e) q k o w j =
    managed_coming ks t h e v.managers
    (or_left (is_under_way h && is_handed (handover h) e.value) (has is_promoted h && has (is_place_of e.value) (waiting ks h))
    (and_both (is_under_way h) (is_handed (handover h) e.value) (sym k.way ∙ w) (ap (λ o. is_handed o e.value) q ∙ eq_self e.value))) j
handed_coming G ks t h v None q k o w j = ended_coming G ks t h v k o w (λ e z. absurd (not_both (is_handed (handover h) e.value) z (ap (λ o. is_handed o e.value) q))) j

created_coming : (G : ℕ → ActorNo → Call → Type 0) (ks : List EnteredCall) (t : ℕ) (h : List Entry) (v : Half) → IsKnown ks h v → OfEach (IsWaiter G ks h) (waiting ks h) → AreComing ks h → AreComing ks (onto h (created t v))
created_coming G ks t h v k o j =
    coming_if ks h (is_some v.seen.decided) [] (if is_promoting_now v.seen then hand_over t v v.seen.handover else []) (λ q. j)
    (λ q. coming_if ks h (is_promoting_now v.seen) (hand_over t v v.seen.handover) [] (λ w. handed_coming G ks t h v v.seen.handover (sym k.handed) k o w j) (λ w. j))

find_coming : (G : ℕ → ActorNo → Call → Type 0) (ks : List EnteredCall) (h : List Entry) (f : EnlNo) (o : Option Waiter) → find (is_place_of f.value) (waiting ks h) ≡ o → OfEach (IsWaiter G ks h) (waiting ks h) → has is_promoted h ≡ true
    → has (is_got_on (Enl f) Down ENLISTED) h ≡ true → AreComing ks h → AreComing ks (onto h (place_given o))
find_coming G ks h f (Some (n, Place e r c)) q w p z j =
    let own : (f.value == e.value) ≡ true = (found_at (is_place_of f.value) (waiting ks h) (n, Place e r c) q).2 in
    let P : Conn → Type 0 = λ x. has (is_got_on x Down ENLISTED) h ≡ true in
    placed_coming G ks h n e r c (of-found (IsWaiter G ks h) (is_place_of f.value) (waiting ks h) (n, Place e r c) w q) w p (subst P (same_is (Enl f) (Enl e) own) z) j
find_coming G ks h f (Some (n, Identifier)) q w p z j = j
find_coming G ks h f None q w p z j = j

enlisted_coming : (G : ℕ → ActorNo → Call → Type 0) (ks : List EnteredCall) (t : ℕ) (h : List Entry) (v : Half) (f : EnlNo) → IsKnown ks h v → OfEach (IsWaiter G ks h) (waiting ks h) → has (is_got_on (Enl f) Down ENLISTED) h ≡ true
    → AreComing ks h → AreComing ks (onto h (enlisted_at t v f))
enlisted_coming G ks t h v f k o z j =
    let own = is_promoting_now v.seen && is_handed v.seen.handover f.value in
    let placed = place_given (find (is_place_of f.value) v.waits) in
    coming_if ks h (is_some v.seen.decided) [] (if own then over t v else if v.seen.promoted then placed else []) (λ q. j)
    (λ q. coming_if ks h own (over t v) (if v.seen.promoted then placed else [])
    (λ w. ended_coming G ks t h v k o (and_left (is_promoting_now v.seen) (is_handed v.seen.handover f.value) w)
    (same (handover h) (ap (λ o. is_handed o f.value) (sym k.handed) ∙ and_right (is_promoting_now v.seen) (is_handed v.seen.handover f.value) w)) j)
    (λ w. coming_if ks h v.seen.promoted placed []
    (λ p. subst (λ ws. AreComing ks (onto h (place_given (find (is_place_of f.value) ws)))) (sym k.waits)
    (find_coming G ks h f (find (is_place_of f.value) (waiting ks h)) refl o (sym k.promoted ∙ p) z j)) (λ p. j)))
  where
    same : (x : Option EnlNo) → is_handed x f.value ≡ true → (e : EnlNo) → is_handed x e.value ≡ true → has (is_got_on (Enl e) Down ENLISTED) h ≡ true
    same (Some g) a e b =
        let P : Conn → Type 0 = λ x. has (is_got_on x Down ENLISTED) h ≡ true in
        subst P (same_is (Enl f) (Enl g) a ∙ sym (same_is (Enl e) (Enl g) b)) z
    same None a e b = absurd cc

-- what is known after a message
known_after_got : (w : World) (c : Conn) (m : Message) → IsKnown w.calls (Got c Down m ∷ w.past) (sees (half w) (Got c Down m))
unfolding observe track
known_after_got w c m = record {
  waits = refl;
  way = way_seen w.past;
  handed = refl;
  promoted = refl;
  cause = λ k. caused_way (is_some (latest cause_of_promotion w.past)) (has is_promoted w.past) (has is_promotion_failed w.past) k;
}

got_coming : (G : ℕ → ActorNo → Call → Type 0) (t : ℕ) (w : World) (c : Conn) (m : Message) → OfEach (IsWaiter G w.calls w.past) (waiting w.calls w.past)
    → always is_after_start (onto (Got c Down m ∷ w.past) (local_got t (half w) c m)) ≡ true → AreComing w.calls w.past → AreComing w.calls (onto (Got c Down m ∷ w.past) (local_got t (half w) c m))
unfolding local_got
got_coming G t w Voter VoterCreated o b j =
    let x = Got Voter Down VoterCreated in
    created_coming G w.calls t (x ∷ w.past) (sees (half w) x) (known_after_got w Voter VoterCreated) (of-more (IsWaiter G w.calls w.past) (IsWaiter G w.calls (x ∷ w.past)) (waiter_more G w.calls w.past x) (waiting w.calls w.past) o)
    (inert_coming w.calls x w.past refl (after_start_onto (x ∷ w.past) (created t (sees (half w) x)) b) j)
got_coming G t w (Enl e) EnlistEnlisted o b j =
    let x = Got (Enl e) Down EnlistEnlisted in
    enlisted_coming G w.calls t (x ∷ w.past) (sees (half w) x) e (known_after_got w (Enl e) EnlistEnlisted)
    (of-more (IsWaiter G w.calls w.past) (IsWaiter G w.calls (x ∷ w.past)) (waiter_more G w.calls w.past x) (waiting w.calls w.past) o)
    (or_left ((e.value == e.value) && true && true) (has (is_got_on (Enl e) Down ENLISTED) w.past) (rw (eq_self e.value) refl))
    (inert_coming w.calls x w.past refl (after_start_onto (x ∷ w.past) (enlisted_at t (sees (half w) x) e) b) j)
got_coming G t w c m o b j =
    let x = Got c Down m in
    let es = arrived t (sees (half w) x) c m in
    block_coming w.calls (x ∷ w.past) es (plain_arrived t (sees (half w) x) c m refl) (kept_arrived t (sees (half w) x) c m refl) b
    (inert_coming w.calls x w.past refl (after_start_onto (x ∷ w.past) es b) j)

delivered_coming : (G : ℕ → ActorNo → Call → Type 0) (t : ℕ) (w : World) (c : Conn) (d : Dir) (ms : List Message) → OfEach (IsWaiter G w.calls w.past) (waiting w.calls w.past)
    → always is_after_start (onto w.past (delivered t w c d ms)) ≡ true → AreComing w.calls w.past → AreComing w.calls (onto w.past (delivered t w c d ms))
delivered_coming G t w c d [] o b j =
    block_coming w.calls (Ended c d ∷ w.past) (ended_at w c d) (plain_ended_at w c d) (kept_ended_at w c d) b (inert_coming w.calls (Ended c d) w.past refl (after_start_onto (Ended c d ∷ w.past) (ended_at w c d) b) j)
delivered_coming G t w c Up (m ∷ ms) o b j =
    let es = got_by t w c Up m in
    block_coming w.calls (Got c Up m ∷ w.past) es (plain_core_got (identifier_of t) (core w) c m) (kept_core_got {ws = []} (identifier_of t) (core w) c m) b
    (inert_coming w.calls (Got c Up m) w.past refl (after_start_onto (Got c Up m ∷ w.past) es b) j)
delivered_coming G t w c Down (m ∷ ms) o b j = got_coming G t w c m o b j

-- The calls: one that waits is one more that waits.
called_coming : (ks : List EnteredCall) (h : List Entry) (n : ℕ) (a : ActorNo) (x : Answer) → AreComing ks h → AreComing ks (Called n a x ∷ h)
called_coming ks h n a Wait j = λ d e s g. more (is_under_way h && is_handed (handover h) e.value) (has is_promoted h) (has (is_place_of e.value) (waiting ks h)) (has (is_place_of e.value) (waiting ks (Called n a Wait ∷ h)))
    (λ k. has-insert (is_place_of e.value) waiter_line (n, wanted (call_at ks n)) (waiting ks h) ∙ or_right (is_place_of e.value (n, wanted (call_at ks n))) (has (is_place_of e.value) (waiting ks h)) k) (j d e s g)
  where
    more : (a p b c : Bool) → (b ≡ true → c ≡ true) → (a || (p && b)) ≡ true → (a || (p && c)) ≡ true
    more true p b c f k = refl
    more false true b c f k = f k
    more false false b c f k = k
called_coming ks h n a x j = j

call_coming : (ks : List EnteredCall) (h : List Entry) (k : EnteredCall) → has (is_call k.line) h ≡ false → AreComing ks h → AreComing (k ∷ ks) h
call_coming ks h k new j = λ d e s g.
    subst (λ ws. ((is_under_way h && is_handed (handover h) e.value) || (has is_promoted h && has (is_place_of e.value) ws)) ≡ true) (sym (ap (λ (x : Half). x.waits) (fresh k ks h new))) (j d e s g)

durable_coming : (ks : List EnteredCall) (t n : ℕ) (a : ActorNo) (u : TxNo) (e : EnlNo) (r : RmNo) (s : Support) (v : Half) (x : Answer) (h : List Entry) → call_at ks n ≡ Some (Durable u e r s) → v.seen.promoted ≡ has is_promoted h
    → always is_after_start (onto (Called n a x ∷ h) (facts_if (has_facts x) (durable_facts t v e r (is_single s) x))) ≡ true → AreComing ks h
    → AreComing ks (onto (Called n a x ∷ h) (facts_if (has_facts x) (durable_facts t v e r (is_single s) x)))
durable_coming ks t n a u e r s v Wait h call seen b j = by v.seen.promoted refl (is_promoting_now v.seen) b
  where
    now : AreComing ks (Called n a Wait ∷ h)
    now = called_coming ks h n a Wait j

    by : (p : Bool) → v.seen.promoted ≡ p → (q : Bool) → always is_after_start (onto (Called n a Wait ∷ h) (if p then enlist_sent t e r else if q then [] else begin_promotion v (cause_of v.seen.table (is_single s)))) ≡ true
        → AreComing ks (onto (Called n a Wait ∷ h) (if p then enlist_sent t e r else if q then [] else begin_promotion v (cause_of v.seen.table (is_single s))))
    by true z q b =
        sent_coming ks t e r (Called n a Wait ∷ h)
        (or_right (is_under_way h && is_handed (handover h) e.value) (has is_promoted h && has (is_place_of e.value) (waiting ks (Called n a Wait ∷ h)))
        (and_both (has is_promoted h) (has (is_place_of e.value) (waiting ks (Called n a Wait ∷ h))) (sym seen ∙ z)
        (has-insert (is_place_of e.value) waiter_line (n, wanted (call_at ks n)) (waiting ks h)
        ∙ or_left (is_place_of e.value (n, wanted (call_at ks n))) (has (is_place_of e.value) (waiting ks h)) (ap (λ o. is_place_of e.value (n, wanted o)) call ∙ eq_self e.value)))) now
    by false z true b = now
    by false z false b =
        block_coming ks (Called n a Wait ∷ h) (begin_promotion v (cause_of v.seen.table (is_single s))) (plain_begin_promotion v (cause_of v.seen.table (is_single s)))
        (kept_begin_promotion v (cause_of v.seen.table (is_single s))) b now
durable_coming ks t n a u e r s v Fine h call seen b j = inert_coming ks (Enlisted e DurableSingle) (Called n a Fine ∷ h) refl b (called_coming ks h n a Fine j)
durable_coming ks t n a u e r s v True h call seen b j = inert_coming ks (Enlisted e DurableSingle) (Called n a True ∷ h) refl b (called_coming ks h n a True j)
durable_coming ks t n a u e r s v x h call seen b j = called_coming ks h n a x j

facts_inert : (b : Bool) (es : List Entry) → each is_inert es ≡ true → each is_inert (facts_if b es) ≡ true
facts_inert true es k = k
facts_inert false es k = refl

entered_coming : (t : ℕ) (w : World) (n : ℕ) (a : ActorNo) (c : Call) (m : ℕ) → has (is_call n) w.past ≡ false
    → always is_after_start (onto w.past (Called n a (answer_at t w c m) ∷ facts_if (has_facts (answer_at t w c m)) (facts_at t w c (answer_at t w c m)))) ≡ true → AreComing w.calls w.past
    → AreComing (record { line = n; actor = a; call = c } ∷ w.calls) (onto w.past (Called n a (answer_at t w c m) ∷ facts_if (has_facts (answer_at t w c m)) (facts_at t w c (answer_at t w c m))))
entered_coming t w n a (Durable u e r s) m new b j =
    let k : EnteredCall = record { line = n; actor = a; call = Durable u e r s } in
    durable_coming (k ∷ w.calls) t n a u e r s (half w) (answer_at t w (Durable u e r s) m) w.past (own_call n a (Durable u e r s) w.calls) (seen_promoted w) b (call_coming w.calls w.past k new j)
entered_coming t w n a (Volatile u e x v) m new b j =
    let k : EnteredCall = record { line = n; actor = a; call = Volatile u e x v } in
    let y = answer_at t w (Volatile u e x v) m in
    list_coming (k ∷ w.calls) (Called n a y ∷ w.past) (facts_if (has_facts y) (Enlisted e (class_of x) ∷ [])) (facts_inert (has_facts y) (Enlisted e (class_of x) ∷ []) refl) b
    (called_coming (k ∷ w.calls) w.past n a y (call_coming w.calls w.past k new j))
entered_coming t w n a (Promotable u e r v x p) m new b j =
    let k : EnteredCall = record { line = n; actor = a; call = Promotable u e r v x p } in
    let y = answer_at t w (Promotable u e r v x p) m in
    list_coming (k ∷ w.calls) (Called n a y ∷ w.past) (facts_if (has_facts y) (Enlisted e PromotableClass ∷ Init e ∷ [])) (facts_inert (has_facts y) (Enlisted e PromotableClass ∷ Init e ∷ []) refl) b
    (called_coming (k ∷ w.calls) w.past n a y (call_coming w.calls w.past k new j))
entered_coming t w n a c m new b j =
    let k : EnteredCall = record { line = n; actor = a; call = c } in
    let y = answer_at t w c m in
    block_coming (k ∷ w.calls) (Called n a y ∷ w.past) (facts_if (has_facts y) (facts_at t w c y)) (plain_called t w c y refl) (kept_called t w c y) b
    (called_coming (k ∷ w.calls) w.past n a y (call_coming w.calls w.past k new j))

-- after each step
step_coming : (G : ℕ → ActorNo → Call → Type 0) (t : ℕ) (w : World) (m : Step) → MayCome G t w m → OfEach (IsWaiter G w.calls w.past) (waiting w.calls w.past) → always is_after_start (after t w m).past ≡ true
    → AreComing w.calls w.past → AreComing (after t w m).calls (after t w m).past
unfolding after block_at
step_coming G t w (Calls n a c m) q o b j = entered_coming t w n a c m q.1 b j
step_coming G t w (Replies e x) q o b j = block_coming w.calls w.past (reply_entries (half w) e x) (plain_reply (half w) e x) (kept_reply (half w) e x) b j
step_coming G t w Acts q o b j = block_coming w.calls w.past (act_entries (half w)) (plain_act (half w)) (kept_act (half w)) b j
step_coming G t w (Coordinates x) q o b j = block_coming w.calls w.past (coordinates (core w) x) (plain_coordinates (core w) x) (kept_coordinates {ws = []} (core w) x) b j
step_coming G t w (Delivers c d) q o b j = delivered_coming G t w c d (in_transit c d w.past) o b j
step_coming G t w Stops q o b j = list_coming w.calls w.past (Stopped ∷ []) refl b j
step_coming G t w (Restarts found) q o b j = block_coming w.calls w.past (restarted (core w).stopped found) (plain_restarted (core w).stopped found) (kept_restarted {ws = []} (core w).stopped found) b j

-- so in each world that steps made, where what is sent is sent after the promotion began
pub ran_coming : (G : ℕ → ActorNo → Call → Type 0) (t : ℕ) (ms : List Step) (w : World) → Ran G t ms w → always is_after_start w.past ≡ true → AreComing w.calls w.past
unfolding after
ran_coming G t [] w r b = λ d e s g. absurd (not_both (has (is_sent_on (Enl e) Up ENLIST) w.past) s (ap (has (is_sent_on (Enl e) Up ENLIST)) r.1))
ran_coming G t (m ∷ ms) w r b =
    let v = r.0 in
    let past : w.past ≡ onto v.past (block_at t v m) = ap (λ (x : World). x.past) r.3 in
    let now : always is_after_start (onto v.past (block_at t v m)) ≡ true = subst (λ h. always is_after_start h ≡ true) past b in
    subst (λ (x : World). AreComing x.calls x.past) (sym r.3)
    (step_coming G t v m r.2 (ran_made G t ms v r.1).waiters now (ran_coming G t ms v r.1 (after_start_onto v.past (block_at t v m) now)))

-- What must stand before ENLISTED does, where it comes for the first time and nothing is decided.
pub enlisted_met : (ks : List EnteredCall) (h : List Entry) (e : EnlNo) → AreComing ks h → has (is_sent_on (Enl e) Up ENLIST) h ≡ true → has (is_got_on (Enl e) Down ENLISTED) h ≡ false → IsMet ks h (Enl e) EnlistEnlisted
enlisted_met ks h e j s g = λ d o.
    or_case (is_under_way h && is_handed (handover h) e.value) (has is_promoted h && has (is_place_of e.value) (waiting ks h))
    (λ q. absurd (not_both (is_under_way h && is_handed (handover h) e.value) q o))
    (λ q. (and_left (has is_promoted h) (has (is_place_of e.value) (waiting ks h)) q, and_right (has is_promoted h) (has (is_place_of e.value) (waiting ks h)) q)) (j d e s g)
