-- The blocks that open connections where a message arrives: BEGUN, CREATED, and ENLISTED.
use Rattle.std.proofs.Common.{◌≡◌, ℕ, ◌==◌, Bool, true, false, ◌&&◌, ◌||◌, List, [], ◌∷◌, ◌++◌, find, Option, Some, None, is_some, refl, sym, subst, ap, ◌∙◌}
use Rattle.std.specs.Prelude.{not, if◌then◌else◌}
use Rattle.std.specs.List.{flat_map}
use Rattle.std.proofs.lemmas.Bool.{eq-eqb, eqb-true, false_from_ne_true}
use Rattle.dtx_values.specs.declared.call.Call.{Call}
use Rattle.dtx_values.specs.declared.call.Call.TheVariants.{Durable}
use Rattle.dtx_values.specs.declared.entry.Answer.TheVariants.{Fine, Id}
use Rattle.dtx_values.specs.declared.entry.Entry.{Entry}
use Rattle.dtx_values.specs.declared.entry.Entry.TheVariants.{Answered, Enlisted, Promoted, Sent}
use Rattle.dtx_values.specs.declared.message.Conn.TheVariants.{Begin, Voter, Enl}
use Rattle.dtx_values.specs.declared.message.Dir.TheVariants.{Up}
use Rattle.dtx_values.specs.declared.message.Message.TheVariants.{BeginAbort, VoterVoter, EnlistEnlist}
use Rattle.dtx_values.specs.declared.number.ActorNo.{ActorNo}
use Rattle.dtx_values.specs.declared.number.EnlNo.{EnlNo}
use Rattle.dtx_values.specs.declared.number.RmNo.{RmNo}
use Rattle.dtx_values.specs.declared.script.Support.{Support}
use Rattle.dtx_values.specs.declared.script.Support.TheVariants.{SinglePhase, TwoPhase}
use Rattle.dtx_values.specs.declared.words.Cause.{Cause}
use Rattle.dtx_values.specs.declared.words.Class.{Class}
use Rattle.dtx_values.specs.Class.{is_promotable}
use Rattle.dtx_values.specs.RecoveryInfo.{is_id}
use Rattle.dtx_model.specs.declared.waiting.EnteredCall.{EnteredCall}
use Rattle.dtx_model.specs.declared.waiting.Wanted.{Wanted}
use Rattle.dtx_model.specs.declared.waiting.Wanted.TheVariants.{Identifier, Place}
use Rattle.dtx_model.specs.Arrivals.{begun, created, enlisted_at, hand_over, place_given}
use Rattle.dtx_model.specs.Entries.{is_promoted}
use Rattle.dtx_model.specs.Half.{by_manager, enlist_sent, given, half_of, info, is_handed, is_promoting, over, promoted_by, to_up}
use Rattle.dtx_model.specs.Observed.{cause_of_promotion, handover, observe}
use Rattle.dtx_model.specs.Promotes.{identifier_of, is_begun_got, is_created_got, is_promoting as is_start}
use Rattle.dtx_model.specs.Waiting.{Waiter, class_by, is_place_of, waiting, wanted_by}
use Rattle.dtx_model.specs.Wires.{opens}
use Rattle.dtx_model.specs.Words.{each, has, latest, onto}
use Rattle.dtx_model.proofs.Bools.{and_left, and_right, not_both, not_false, not_true}
use Rattle.history_table.proofs.Lists.{OfEach}
use Rattle.history_table.proofs.Waiters.{is_unplaced}
use Rattle.history_table.proofs.EntryTests.{is_enlisted}
use Rattle.history_table.proofs.Scans.{each_more}
use Rattle.history_table.proofs.Tests.{eq_self}
use Rattle.history_table.proofs.Makers.{IsWaiter, of-found}
use Rattle.world_laws.proofs.SendingBlocks.{apt_begun_late}
use Rattle.world_laws.proofs.SendingKnown.{hears}
use Rattle.world_laws.proofs.SendingOpened.{Opened}
use Rattle.world_laws.proofs.SendingEnds.{Ends, apt_ends, ends_if, enlist_ends, one_ends, over_ends, voter_ends}
use Rattle.world_laws.proofs.SendingPlaces.{are_apart, same_place}

-- BEGUN: VOTER is sent, or an abort
pub begun_ends : (ks : List EnteredCall) (t : ℕ) (h : List Entry) → is_id (identifier_of t) ≡ true → has (opens Voter) h ≡ false → has is_begun_got h ≡ true → Ends h → Ends (onto h (begun t (half_of ks h)))
unfolding observe
begun_ends ks t h v n b i =
    let w = half_of ks h in
    ends_if h (is_some w.seen.decided) (to_up w.seen Begin BeginAbort) (if is_promoting w.seen then Sent Voter Up (VoterVoter (identifier_of t)) ∷ [] else [])
    (λ d. apt_ends h (to_up w.seen Begin BeginAbort) (apt_begun_late w (hears h)) i)
    (λ d. ends_if h (is_promoting w.seen) (Sent Voter Up (VoterVoter (identifier_of t)) ∷ []) [] (λ p. voter_ends h (identifier_of t) v n b i) (λ p. i))

-- the ENLIST of the handover
handed_ends : (t : ℕ) (h : List Entry) (e : EnlNo) (ms : List (EnlNo × RmNo)) → is_id (identifier_of t) ≡ true → has (opens (Enl e)) h ≡ false → has is_created_got h ≡ true → has is_start h ≡ true
    → is_handed (handover h) e.value ≡ true → Ends h → Ends (onto h (by_manager (enlist_sent t) ms e))
handed_ends t h e [] v n c s o i = i
handed_ends t h e (m ∷ ms) v n c s o i = step (e.value == m.0.value) (handed_ends t h e ms v n c s o i)
  where
    step : (b : Bool) → Ends (onto h (by_manager (enlist_sent t) ms e)) → Ends (onto h (if b then enlist_sent t e m.1 else by_manager (enlist_sent t) ms e))
    step true r = enlist_ends h e (info t e m.1) v n c s (λ u. o) i
    step false r = r

-- The handover is over: each call that waits gets its identifier, or its ENLIST is sent.
abbrev pub is_unopened : List Entry → Waiter → Bool
is_unopened h (n, Place e r c) = not (has (opens (Enl e)) h)
is_unopened h (n, Identifier) = true

answered_unopened : (h : List Entry) (n u : ℕ) (v : Waiter) → is_unopened h v ≡ true → is_unopened (Answered n (Id u) ∷ h) v ≡ true
answered_unopened h n u (m, Place e r c) k = k
answered_unopened h n u (m, Identifier) k = refl

promoted_unopened : (h : List Entry) (u : ℕ) (c : Cause) (v : Waiter) → is_unopened h v ≡ true → is_unopened (Promoted u c ∷ h) v ≡ true
promoted_unopened h u c (m, Place e r d) k = k
promoted_unopened h u c (m, Identifier) k = refl

-- the others after an ENLIST
sent_unopened : (t : ℕ) (h : List Entry) (n : ℕ) (e : EnlNo) (r : RmNo) (c : Class) (vs : List Waiter) → has (same_place (n, Place e r c)) vs ≡ false → each (is_unopened h) vs ≡ true
    → each (is_unopened (Sent (Enl e) Up (EnlistEnlist (info t e r)) ∷ h)) vs ≡ true
sent_unopened t h n e r c [] a k = refl
sent_unopened t h n e r c ((m, Place f q d) ∷ vs) a k =
    step (e.value == f.value) (f.value == e.value) (has (same_place (n, Place e r c)) vs) (has (opens (Enl f)) h) (each (is_unopened h) vs) (each (is_unopened (Sent (Enl e) Up (EnlistEnlist (info t e r)) ∷ h)) vs)
    (turned e.value f.value) (sent_unopened t h n e r c vs) a k
  where
    turned : (x y : ℕ) → (y == x) ≡ true → (x == y) ≡ true
    turned x y t = eq-eqb x y (sym (eqb-true y x t))

    step : (s z a o b d : Bool) → (z ≡ true → s ≡ true) → (a ≡ false → b ≡ true → d ≡ true) → (s || a) ≡ false → (not o && b) ≡ true → (not ((z && true) || o) && d) ≡ true
    step true z a o b d f g p k = absurd cc
    step false true a o b d f g p k = absurd (not_both false (f refl) refl)
    step false false a true b d f g p k = absurd cc
    step false false a false b d f g p k = g p k
sent_unopened t h n e r c ((m, Identifier) ∷ vs) a k = sent_unopened t h n e r c vs a k

given_ends : (t : ℕ) (vs : List Waiter) (h : List Entry) → is_id (identifier_of t) ≡ true → has is_created_got h ≡ true → has is_start h ≡ true → has is_promoted h ≡ true
    → each (is_unopened h) vs ≡ true → are_apart vs ≡ true → Ends h → Ends (onto h (flat_map (given t) vs))
given_ends t [] h v c s p u a i = i
given_ends t ((n, Identifier) ∷ vs) h v c s p u a i =
    let x = Answered n (Id (identifier_of t)) in
    given_ends t vs (x ∷ h) v c s p (each_more (is_unopened h) (is_unopened (x ∷ h)) (answered_unopened h n (identifier_of t)) vs u)
    (and_right (not (has (same_place (n, Identifier)) vs)) (are_apart vs) a) (one_ends x h refl refl refl i)
given_ends t ((n, Place e r d) ∷ vs) h v c s p u a i =
    let x = Sent (Enl e) Up (EnlistEnlist (info t e r)) in
    given_ends t vs (x ∷ h) v c s p
    (sent_unopened t h n e r d vs (not_true (has (same_place (n, Place e r d)) vs) (and_left (not (has (same_place (n, Place e r d)) vs)) (are_apart vs) a)) (and_right (not (has (opens (Enl e)) h)) (each (is_unopened h) vs) u))
    (and_right (not (has (same_place (n, Place e r d)) vs)) (are_apart vs) a)
    (enlist_ends h e (info t e r) v (not_true (has (opens (Enl e)) h) (and_left (not (has (opens (Enl e)) h)) (each (is_unopened h) vs) u)) c s (λ q. absurd (not_both (has is_promoted h) p q)) i)

-- h has the message after which the handover is over
over_given : (t : ℕ) (o : Option Cause) (ws : List Waiter) (h : List Entry) → is_some o ≡ true → is_id (identifier_of t) ≡ true → has is_created_got h ≡ true → has is_start h ≡ true
    → each (is_unopened h) ws ≡ true → are_apart ws ≡ true → Ends h → Ends (onto h (promoted_by t o ++ flat_map (given t) ws))
over_given t None ws h k v c s u a i = absurd cc
over_given t (Some d) ws h k v c s u a i =
    let x = Promoted (identifier_of t) d in
    given_ends t ws (x ∷ h) v c s refl (each_more (is_unopened h) (is_unopened (x ∷ h)) (promoted_unopened h (identifier_of t) d) ws u) a (over_ends h (identifier_of t) d c s i)

-- where it is promoting, it has a cause
caused : (o p f : Bool) → (o && not p && not f) ≡ true → o ≡ true
caused true p f k = refl
caused false p f k = absurd (not_both false (and_left false (not p) (and_left (false && not p) (not f) k)) refl)

unpromoted_way : (o p f : Bool) → (o && not p && not f) ≡ true → p ≡ false
unpromoted_way true true f k = absurd cc
unpromoted_way true false f k = refl
unpromoted_way false p f k = absurd (not_both false (and_left false (not p) (and_left (false && not p) (not f) k)) refl)

-- CREATED: the ENLIST of the handover is sent, or the promotion is over
pub created_ends : (ks : List EnteredCall) (t : ℕ) (h : List Entry) → is_id (identifier_of t) ≡ true → ((e : EnlNo) → has (opens (Enl e)) h ≡ false) → has is_created_got h ≡ true
    → are_apart (waiting ks h) ≡ true → Ends h → Ends (onto h (created t (half_of ks h)))
unfolding observe
created_ends ks t h v n c a i =
    let w = half_of ks h in
    ends_if h (is_some w.seen.decided) [] (if is_promoting w.seen then hand_over t w w.seen.handover else []) (λ d. i)
    (λ d. ends_if h (is_promoting w.seen) (hand_over t w w.seen.handover) [] (λ p. by w.seen.handover refl (caused (is_some w.seen.cause) w.seen.promoted w.seen.failed p) ((hears h).promoting p)) (λ p. i))
  where
    none : (ws : List Waiter) → each (is_unopened h) ws ≡ true
    none [] = refl
    none ((m, Place e r d) ∷ ws) = two (not (has (opens (Enl e)) h)) (each (is_unopened h) ws) (not_false (has (opens (Enl e)) h) (n e)) (none ws)
      where
        two : (a b : Bool) → a ≡ true → b ≡ true → (a && b) ≡ true
        two true b p q = q
        two false b p q = absurd cc
    none ((m, Identifier) ∷ ws) = none ws

    by : (o : Option EnlNo) → handover h ≡ o → is_some (latest cause_of_promotion h) ≡ true → has is_start h ≡ true → Ends (onto h (hand_over t (half_of ks h) o))
    by (Some e) q k s = handed_ends t h e (half_of ks h).managers v (n e) c s (subst (λ o. is_handed o e.value ≡ true) (sym q) (eq_self e.value)) i
    by None q k s = over_given t (latest cause_of_promotion h) (waiting ks h) h k v c s (none (waiting ks h)) a i

-- a call that waited has its place: it is no promotable
abbrev class_of_place : Wanted → Bool
class_of_place (Place e r c) = is_promotable c
class_of_place Identifier = false

place_class : (e : EnlNo) (r : RmNo) (c : Class) (k : Call) → Place e r c ≡ wanted_by k → is_promotable c ≡ false
place_class e r c (Durable u f q s) w = ap class_of_place w ∙ by s
  where
    by : (s : Support) → is_promotable (class_by s) ≡ false
    by (SinglePhase v o) = refl
    by (TwoPhase v) = refl
place_class e r c _ w = absurd cc

placed_ends : (G : ℕ → ActorNo → Call → Type 0) (ks : List EnteredCall) (p h : List Entry) (e : EnlNo) (o : Option Waiter) → OfEach (IsWaiter G ks p) (waiting ks p) → find (is_place_of e.value) (waiting ks p) ≡ o
    → Ends h → Ends (onto h (place_given o))
placed_ends G ks p h e (Some (n, Place f r c)) w q i =
    let at = of-found (IsWaiter G ks p) (is_place_of e.value) (waiting ks p) (n, Place f r c) w q in
    one_ends (Answered n Fine) (Enlisted f c ∷ h) refl refl refl (one_ends (Enlisted f c) h refl (not_false (is_promotable c) (place_class f r c at.call at.wants)) refl i)
placed_ends G ks p h e (Some (n, Identifier)) w q i = i
placed_ends G ks p h e None w q i = i

-- where it isn't over, no connection of a call that waits is opened: only the handover's is, which stands
unplaced_unopened : (h : List Entry) → has is_promoted h ≡ false → Opened h → (ws : List Waiter) → each (is_unplaced h) ws ≡ true → each (is_unopened h) ws ≡ true
unplaced_unopened h n i ws k = each_more (is_unplaced h) (is_unopened h) one ws k
  where
    one : (v : Waiter) → is_unplaced h v ≡ true → is_unopened h v ≡ true
    one (m, Place e r c) u =
        not_false (has (opens (Enl e)) h) (false_from_ne_true (has (opens (Enl e)) h) (λ o. not_both (has (is_enlisted e.value) h) (i.on_enlistments.owner e (i.on_enlistments.handed e n o)) (not_true (has (is_enlisted e.value) h) u)))
    one (m, Identifier) u = refl

-- ENLISTED: the handover is over, or a call that waited has its place
pub enlisted_ends : (G : ℕ → ActorNo → Call → Type 0) (ks : List EnteredCall) (t : ℕ) (p h : List Entry) (e : EnlNo) → waiting ks h ≡ waiting ks p → is_id (identifier_of t) ≡ true
    → has is_created_got h ≡ true → OfEach (IsWaiter G ks p) (waiting ks p) → each (is_unplaced h) (waiting ks h) ≡ true → are_apart (waiting ks h) ≡ true → Ends h
    → Ends (onto h (enlisted_at t (half_of ks h) e))
unfolding observe
enlisted_ends G ks t p h e same v c w u a i =
    let k = half_of ks h in
    let own = is_promoting k.seen && is_handed k.seen.handover e.value in
    let placed = place_given (find (is_place_of e.value) k.waits) in
    ends_if h (is_some k.seen.decided) [] (if own then over t k else if k.seen.promoted then placed else []) (λ d. i)
    (λ d. ends_if h own (over t k) (if k.seen.promoted then placed else [])
    (λ o. let way = and_left (is_promoting k.seen) (is_handed k.seen.handover e.value) o in
    over_given t k.seen.cause (waiting ks h) h (caused (is_some k.seen.cause) k.seen.promoted k.seen.failed way) v c ((hears h).promoting way)
    (unplaced_unopened h (unpromoted_way (is_some k.seen.cause) k.seen.promoted k.seen.failed way) i.opened (waiting ks h) u) a i)
    (λ o. ends_if h k.seen.promoted placed []
    (λ q. subst (λ ws. Ends (onto h (place_given (find (is_place_of e.value) ws)))) (sym same) (placed_ends G ks p h e (find (is_place_of e.value) (waiting ks p)) w refl i)) (λ q. i)))
