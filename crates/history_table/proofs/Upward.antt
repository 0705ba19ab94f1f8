-- Who comes to the coordinator: while nothing is decided, an ENLIST that is on the way is of a call that waits, or of the handover; and after the seal none is on the way. So none comes
-- once the coordinator got COMMIT.
use Rattle.std.proofs.Common.{◌≡◌, true, false, Bool, List, ◌&&◌, ◌||◌, ◌∷◌, refl, ap, ◌∙◌, [], ℕ, suc, ◌==◌, ◌+◌, arith, None, sym, subst, ◌++◌, Option, Some, ◌⊎◌, inl, inr}
use Rattle.std.specs.Prelude.{not, length, if◌then◌else◌, filter, is_some, find}
use Rattle.std.specs.List.{flat_map}
use Rattle.std.proofs.lemmas.Bool.{false_from_ne_true, or_left, eqb-true}
use Rattle.std.proofs.lemmas.Bool.Decides.{nat_tests}
use Rattle.dtx_values.specs.declared.call.Call.{Call}
use Rattle.dtx_values.specs.declared.call.Call.TheVariants.{Durable, Volatile, Promotable, Marshal}
use Rattle.dtx_values.specs.declared.entry.Answer.{Answer}
use Rattle.dtx_values.specs.declared.entry.Answer.TheVariants.{Wait, Id, Fine, True, TooLate}
use Rattle.dtx_values.specs.declared.entry.Entry.{Entry}
use Rattle.dtx_values.specs.declared.entry.Entry.TheVariants.{Cut, Got, Sent, Stopped, Sealed, Answered, Called, Promoted, Promoting, PromotionFailed, Decided, Enlisted, Init, Down as Ended}
use Rattle.dtx_values.specs.declared.message.Conn.{Conn}
use Rattle.dtx_values.specs.declared.message.Conn.TheVariants.{Enl, Voter, Begin}
use Rattle.dtx_values.specs.declared.message.Dir.{Dir}
use Rattle.dtx_values.specs.declared.message.Dir.TheVariants.{Up, Down}
use Rattle.dtx_values.specs.declared.message.Message.{Message}
use Rattle.dtx_values.specs.declared.message.Message.TheVariants.{EnlistEnlist, EnlistEnlisted, VoterCreated, BeginBegin}
use Rattle.dtx_values.specs.declared.number.ActorNo.{ActorNo}
use Rattle.dtx_values.specs.declared.number.EnlNo.{EnlNo}
use Rattle.dtx_values.specs.declared.number.RmNo.{RmNo}
use Rattle.dtx_values.specs.declared.number.TxNo.{TxNo}
use Rattle.dtx_values.specs.declared.script.Support.{Support}
use Rattle.dtx_values.specs.declared.words.Cause.{Cause}
use Rattle.dtx_values.specs.declared.words.Cause.TheVariants.{Marshal as MarshalCause}
use Rattle.dtx_values.specs.declared.words.Class.TheVariants.{DurableSingle}
use Rattle.dtx_values.specs.declared.words.Outcome.{Outcome}
use Rattle.dtx_values.specs.Class.{is_promotable}
use Rattle.dtx_values.specs.Ends.{same_connection, same_direction}
use Rattle.dtx_values.specs.Lines.{is_opening, has_line}
use Rattle.dtx_values.specs.Owners.{cause_of}
use Rattle.dtx_values.specs.Support.{is_single}
use Rattle.dtx_values.specs.Table.{insert_by}
use Rattle.dtx_model.specs.declared.waiting.Wanted.{Wanted}
use Rattle.dtx_model.specs.declared.waiting.Wanted.TheVariants.{Identifier, Place}
use Rattle.dtx_model.specs.Words.{has, each, onto, latest}
use Rattle.dtx_model.specs.Entries.{is_decision, is_sealed, decision_of, is_call, is_commit_got}
use Rattle.dtx_model.specs.Observed.{handover, observe, track}
use Rattle.dtx_model.specs.Promotes.{is_under_way, identifier_of}
use Rattle.dtx_model.specs.Wires.{in_transit, is_open_wire, is_stopped, kept, opened_with, opens, is_next}
use Rattle.dtx_model.specs.declared.waiting.EnteredCall.{EnteredCall}
use Rattle.dtx_model.specs.Waiting.{Waiter, is_place_of, waiting, call_at, wanted, waiter_line, waiting_after}
use Rattle.dtx_model.specs.Half.{is_handed, half_of, is_promoting as sees_promoting, info, by_manager, enlist_sent, given, promoted_by, over, sees, Half}
use Rattle.dtx_model.specs.Arrivals.{created, hand_over, enlisted_at, place_given, arrived, local_got}
use Rattle.dtx_model.specs.Acts.{act_entries, commit_sent}
use Rattle.dtx_model.specs.Answers.{if_begun, unless_ended, local_answer}
use Rattle.dtx_model.specs.Facts.{facts_if, begin_promotion, durable_facts, has_facts}
use Rattle.dtx_model.specs.Replies.{reply_entries}
use Rattle.dtx_model.specs.World.{World, half, answer_at, facts_at, core}
use Rattle.dtx_model.specs.Steps.{after, delivered, ended_at, got_by, Step, Calls, Replies, Acts, Coordinates, Delivers, Stops, Restarts, block_at, coordinates, restarted}
use Rattle.dtx_model.specs.Caused.{MayCome}
use Rattle.dtx_model.proofs.Bools.{and_never, not_both, or_case, or_second, and_left, and_right, or_right, and_both}
use Rattle.dtx_model.proofs.Heeding.{fresh}
use Rattle.dtx_values.proofs.SameNumbers.{same_enlistment}
use Rattle.dtx_model.proofs.Quiet.{takes_next}
use Rattle.history_table.proofs.Crossed.{cut_came, got_came, is_sent_on, opening_sent, sent_came, stopped_came, is_got_on}
use Rattle.history_table.proofs.Messages.{ENLIST}
use Rattle.history_table.proofs.CalmBlocks.{is_slow, Calm, Seals, calm_commit_sent, calm_arrived, calm_called, calm_cons, calm_one, calm_ended_at, calm_core_got, act_kind, calm_coordinates, calm_reply, calm_restarted}
use Rattle.history_table.proofs.DecidingBlocks.{is_kept}
use Rattle.history_table.proofs.Deciding.{stays}
use Rattle.history_table.proofs.HalfKnows.{way_seen}
use Rattle.history_table.proofs.Lists.{OfEach, of-insert, of-more, of-at, found_at, has-insert}
use Rattle.history_table.proofs.Tests.{eq_self}
use Rattle.history_table.proofs.Scans.{each_more}
use Rattle.history_table.proofs.Keeping.{Keeps}
use Rattle.history_table.proofs.Undecided.{way_unsealed}
use Rattle.history_table.proofs.Leading.{none_again}
use Rattle.history_table.proofs.CoreKnown.{got_there}
use Rattle.history_table.proofs.Waiters.{own_call}
use Rattle.history_table.proofs.HalfRows.{sealed_if_commit}

never : false ≡ true → ⊥
never e = absurd cc

-- an ENLIST of this enlistment is on the way to the coordinator
abbrev pub is_coming : EnlNo → List Entry → Bool
is_coming e h = has (is_opening (Enl e)) (in_transit (Enl e) Up h)

-- a call waits for its place, or a promotion is under way that hands it over
abbrev pub has_place : List Waiter → List Entry → EnlNo → Bool
has_place ws h e = has (is_place_of e.value) ws || (is_under_way h && is_handed (handover h) e.value)

pub record IsComing (ks : List EnteredCall) (h : List Entry) : Type 0 where
  -- while nothing is decided, what is on the way has a place, or is handed over
  pub placed : has is_decision h ≡ false → (e : EnlNo) → is_coming e h ≡ true → has_place (waiting ks h) h e ≡ true
  -- and nothing is after the seal
  pub late : has is_sealed h ≡ true → (e : EnlNo) → is_coming e h ≡ false

-- What is on the way after an entry was on the way before, or is sent by it.
one_came : (c : Conn) (d : Dir) (p : Message → Bool) (x : Entry) (h : List Entry) → has p (in_transit c d (x ∷ h)) ≡ true → (is_sent_on c d p x || has p (in_transit c d h)) ≡ true
one_came c d p (Sent e r m) h k =
    sent_came p m (opens c (Sent e r m)) (same_connection c e) (same_direction d r) (is_open_wire c h) (has p (in_transit c d h)) (opened_with d m (is_stopped h)) (in_transit c d h)
    (opening_sent c e d r m p (is_stopped h)) (λ q. q) k
one_came c d p (Got e r m) h k = got_came p (same_connection c e) (has_line e r m) (same_direction d r) (in_transit c d h) k
one_came c d p (Cut e u w) h k = cut_came p (same_connection c e) (kept d u w) (in_transit c d h) k
one_came c d p Stopped h k = stopped_came p d (in_transit c d h) k
one_came c d p x h k = k

not_opening : (e : EnlNo) (m : Message) → not (ENLIST m) ≡ true → is_opening (Enl e) m ≡ false
not_opening e (EnlistEnlist i) t = absurd cc
not_opening e _ t = refl

slow_unsent : (e : EnlNo) (x : Entry) → is_slow x ≡ true → is_sent_on (Enl e) Up (is_opening (Enl e)) x ≡ false
slow_unsent e (Sent c Up m) t = ap (λ b. same_connection (Enl e) c && true && b) (not_opening e m t) ∙ and_never (same_connection (Enl e) c && true)
slow_unsent e (Sent c Down m) t = down (same_connection (Enl e) c) (is_opening (Enl e) m)
  where
    down : (a b : Bool) → (a && false && b) ≡ false
    down true b = refl
    down false b = refl
slow_unsent e _ t = refl

coming_slow : (e : EnlNo) (x : Entry) (h : List Entry) → is_slow x ≡ true → is_coming e (x ∷ h) ≡ true → is_coming e h ≡ true
coming_slow e x h s t =
    or_case (is_sent_on (Enl e) Up (is_opening (Enl e)) x) (is_coming e h) (λ a. absurd (not_both (is_sent_on (Enl e) Up (is_opening (Enl e)) x) a (slow_unsent e x s))) (λ a. a)
    (one_came (Enl e) Up (is_opening (Enl e)) x h t)

slow_unsealed : (x : Entry) → is_slow x ≡ true → is_sealed x ≡ true → ⊥
slow_unsealed Sealed s t = absurd cc
slow_unsealed _ s t = never t

-- with one more calm entry
late_more : (x : Entry) (h : List Entry) → is_slow x ≡ true → (has is_sealed h ≡ true → (e : EnlNo) → is_coming e h ≡ false) → has is_sealed (x ∷ h) ≡ true → (e : EnlNo) → is_coming e (x ∷ h) ≡ false
late_more x h s l t e =
    let before = or_case (is_sealed x) (has is_sealed h) (λ a. absurd (slow_unsealed x s a)) (λ a. a) t in
    false_from_ne_true (is_coming e (x ∷ h)) (λ a. not_both (is_coming e h) (coming_slow e x h s a) (l before e))

mild_place : (ks : List EnteredCall) (x : Entry) (h : List Entry) (e : EnlNo) → is_slow x ≡ true → is_kept x ≡ true → has_place (waiting ks h) h e ≡ true → has_place (waiting ks (x ∷ h)) (x ∷ h) e ≡ true
mild_place ks (Called n a x) h e s m t = absurd (never s)
mild_place ks (Promoting c) h e s m t = absurd (never s)
mild_place ks (Promoted u c) h e s m t = absurd (never s)
mild_place ks (Answered n x) h e s m t = absurd (never m)
mild_place ks PromotionFailed h e s m t = absurd (never m)
mild_place ks x h e s m t = t

mild_coming : (ks : List EnteredCall) (x : Entry) (h : List Entry) → is_slow x ≡ true → is_kept x ≡ true → IsComing ks h → IsComing ks (x ∷ h)
mild_coming ks x h s m k =
    record {
      placed = λ d e c. mild_place ks x h e s m (k.placed (or_second (is_decision x) (has is_decision h) d) e (coming_slow e x h s c));
      late = late_more x h s k.late;
    }

-- with a calm block
all_mild : (ks : List EnteredCall) (h es : List Entry) → each is_slow es ≡ true → each is_kept es ≡ true → IsComing ks h → IsComing ks (onto h es)
all_mild ks h [] s m k = k
all_mild ks h (x ∷ es) s m k =
    all_mild ks (x ∷ h) es (and_right (is_slow x) (each is_slow es) s) (and_right (is_kept x) (each is_kept es) m)
    (mild_coming ks x h (and_left (is_slow x) (each is_slow es) s) (and_left (is_kept x) (each is_kept es) m) k)

all_late : (h es : List Entry) → each is_slow es ≡ true → (has is_sealed h ≡ true → (e : EnlNo) → is_coming e h ≡ false) → has is_sealed (onto h es) ≡ true → (e : EnlNo) → is_coming e (onto h es) ≡ false
all_late h [] s l = l
all_late h (x ∷ es) s l = all_late (x ∷ h) es (and_right (is_slow x) (each is_slow es) s) (late_more x h (and_left (is_slow x) (each is_slow es) s) l)

stands_onto : (p : Entry → Bool) (h es : List Entry) → has p es ≡ true → has p (onto h es) ≡ true
stands_onto p h [] t = absurd (never t)
stands_onto p h (x ∷ es) t = or_case (p x) (has p es) (λ a. stays p (x ∷ h) es (or_left (p x) (has p h) a)) (λ a. stands_onto p (x ∷ h) es a) t

pub calm_coming : (ks : List EnteredCall) (h es : List Entry) → Calm es → IsComing ks h → IsComing ks (onto h es)
calm_coming ks h es c k =
    or_case (has is_decision es) (each is_kept es)
    (λ d. record { placed = λ n e t. absurd (not_both (has is_decision (onto h es)) (stands_onto is_decision h es d) n); late = all_late h es c.slow k.late })
    (λ m. all_mild ks h es c.slow m k) c.rest

-- The seal: nothing is on the way.
pos : (n k : ℕ) → (suc n + k == 0) ≡ false
pos n k = grind (arith, nat_tests)

pub none_waits : (ws : List Waiter) (b : Bool) → ((length ws + (if b then 1 else 0)) == 0) ≡ true → (ws ≡ []) × (b ≡ false)
none_waits [] true t = absurd (never t)
none_waits [] false t = (refl, refl)
none_waits (w ∷ ws) b t = absurd (not_both ((suc (length ws) + (if b then 1 else 0)) == 0) t (pos (length ws) (if b then 1 else 0)))

no_place : (ws : List Waiter) (h : List Entry) (e : EnlNo) → ws ≡ [] → is_under_way h ≡ false → has_place ws h e ≡ false
no_place [] h e q u = ap (λ b. b && is_handed (handover h) e.value) u
no_place (w ∷ ws) h e q u = absurd cc

decided_seen : (h : List Entry) → latest decision_of h ≡ None → has is_decision h ≡ false
decided_seen [] d = refl
decided_seen (Decided o ∷ h) d = absurd cc
decided_seen (x ∷ h) d = decided_seen h d

seal_coming : (ks : List EnteredCall) (h : List Entry) → Seals (half_of ks h) (act_entries (half_of ks h)) → IsComing ks h → IsComing ks (onto h (act_entries (half_of ks h)))
unfolding observe
seal_coming ks h w k =
    let parts = none_waits (waiting ks h) (sees_promoting (observe h)) w.0 in
    let unplaced : (e : EnlNo) → has_place (waiting ks h) h e ≡ false = λ e. no_place (waiting ks h) h e parts.0 (sym (way_seen h) ∙ parts.1) in
    let none : (e : EnlNo) → is_coming e h ≡ false =
    λ e. false_from_ne_true (is_coming e h) (λ c. not_both (has_place (waiting ks h) h e) (k.placed (decided_seen h w.1) e c) (unplaced e)) in
    let sealed : IsComing ks (Sealed ∷ h) = record { placed = λ d e c. absurd (not_both (is_coming e h) c (none e)); late = λ t e. none e } in
    let P : List Entry → Type 0 = λ es. IsComing ks (onto h es) in
    subst P (sym w.2) (calm_coming ks (Sealed ∷ h) (commit_sent (observe h)) (calm_commit_sent (observe h)) sealed)

-- Another ENLIST.
same_sent : (e f : EnlNo) (t : ℕ) (r : RmNo) → is_sent_on (Enl f) Up (is_opening (Enl f)) (Sent (Enl e) Up (EnlistEnlist (info t e r))) ≡ true → e ≡ f
same_sent e f t r q = sym (same_enlistment f e (eqb-true f.value e.value (and_left (f.value == e.value) true (and_left ((f.value == e.value) && true) true q))))

sent_coming : (ks : List EnteredCall) (h : List Entry) (t : ℕ) (e : EnlNo) (r : RmNo) → IsComing ks h → has is_sealed h ≡ false → has_place (waiting ks h) h e ≡ true → IsComing ks (Sent (Enl e) Up (EnlistEnlist (info t e r)) ∷ h)
sent_coming ks h t e r k s p =
    let x : Entry = Sent (Enl e) Up (EnlistEnlist (info t e r)) in
    record {
      placed = λ d f c. or_case (is_sent_on (Enl f) Up (is_opening (Enl f)) x) (is_coming f h)
          (λ q. let P : EnlNo → Type 0 = λ y. has_place (waiting ks h) h y ≡ true in subst P (same_sent e f t r q) p) (λ q. k.placed d f q)
          (one_came (Enl f) Up (is_opening (Enl f)) x h c);
      late = λ a. absurd (not_both (has is_sealed h) a s);
    }

handed_coming : (ks : List EnteredCall) (h : List Entry) (t : ℕ) (e : EnlNo) (ms : List (EnlNo × RmNo)) → IsComing ks h → has is_sealed h ≡ false → has_place (waiting ks h) h e ≡ true
    → IsComing ks (onto h (by_manager (enlist_sent t) ms e))
handed_coming ks h t e [] k s p = k
handed_coming ks h t e (m ∷ ms) k s p = step (e.value == m.0.value) (handed_coming ks h t e ms k s p)
  where
    step : (b : Bool) → IsComing ks (onto h (by_manager (enlist_sent t) ms e)) → IsComing ks (onto h (if b then enlist_sent t e m.1 else by_manager (enlist_sent t) ms e))
    step true rest = sent_coming ks h t e m.1 k s p
    step false rest = rest

-- What a call waits for is what its line says.
abbrev IsOwn : List EnteredCall → Waiter → Type 0
IsOwn ks v = v.1 ≡ wanted (call_at ks v.0)

of-filter : {A : Type 0} (P : A → Type 0) (q : A → Bool) (xs : List A) → OfEach P xs → OfEach P (filter q xs)
of-filter P q [] k = tt
of-filter P q (x ∷ xs) k = step P (q x) x (filter q xs) k.0 (of-filter P q xs k.1)
  where
    step : {A : Type 0} (P : A → Type 0) (b : Bool) (x : A) (ys : List A) → P x → OfEach P ys → OfEach P (if b then x ∷ ys else ys)
    step P true x ys p k = (p, k)
    step P false x ys p k = k

own_after : (ks : List EnteredCall) (x : Entry) (ws : List Waiter) → OfEach (IsOwn ks) ws → OfEach (IsOwn ks) (waiting_after ks x ws)
own_after ks (Called n a Wait) ws k = of-insert (IsOwn ks) waiter_line (n, wanted (call_at ks n)) refl ws k
own_after ks (Answered n y) ws k = of-filter (IsOwn ks) (λ w. not (n == w.0)) ws k
own_after ks x ws k = k

all_own : (ks : List EnteredCall) (h : List Entry) → OfEach (IsOwn ks) (waiting ks h)
all_own ks [] = tt
all_own ks (x ∷ h) = own_after ks x (waiting ks h) (all_own ks h)

-- one that passes is left where what is taken off doesn't
left_there : (n : ℕ) (q : Waiter → Bool) (ws : List Waiter) → OfEach (λ v. (n == v.0) ≡ true → q v ≡ false) ws → has q ws ≡ true → has q (filter (λ v. not (n == v.0)) ws) ≡ true
left_there n q [] o t = absurd (never t)
left_there n q (v ∷ ws) o t = step (n == v.0) refl (λ a. left_there n q ws o.1 a)
  where
    step : (b : Bool) → (n == v.0) ≡ b → (has q ws ≡ true → has q (filter (λ u. not (n == u.0)) ws) ≡ true) → has q (if not b then v ∷ filter (λ u. not (n == u.0)) ws else filter (λ u. not (n == u.0)) ws) ≡ true
    step true e f = or_case (q v) (has q ws) (λ a. absurd (not_both (q v) a (o.0 e))) f t
    step false e f =
        or_case (q v) (has q ws) (λ a. or_left (q v) (has q (filter (λ u. not (n == u.0)) ws)) a) (λ a. or_right (q v) (has q (filter (λ u. not (n == u.0)) ws)) (f a)) t

-- a call of the same line waits for the same
same_line : (ks : List EnteredCall) (n : ℕ) (w : Wanted) (v : Waiter) → w ≡ wanted (call_at ks n) → IsOwn ks v → (n == v.0) ≡ true → v.1 ≡ w
same_line ks n w v o i q =
    let same : n ≡ v.0 = eqb-true n v.0 q in
    let P : ℕ → Type 0 = λ m. wanted (call_at ks m) ≡ w in
    i ∙ subst P same (sym o)

place_not : (e : ℕ) (v : Waiter) (w : Wanted) → v.1 ≡ w → is_place_of e (0, w) ≡ false → is_place_of e v ≡ false
place_not e (n, u) w q f = let P : Wanted → Type 0 = λ y. is_place_of e (0, y) ≡ false in back n u (subst P (sym q) f)
  where
    back : (n : ℕ) (u : Wanted) → is_place_of e (0, u) ≡ false → is_place_of e (n, u) ≡ false
    back n Identifier f = refl
    back n (Place g r c) f = f

-- places are left where a call is answered that doesn't wait for them
places_left : (ks : List EnteredCall) (n : ℕ) (w : Wanted) (e : ℕ) (ws : List Waiter) → OfEach (IsOwn ks) ws → w ≡ wanted (call_at ks n) → is_place_of e (0, w) ≡ false
    → has (is_place_of e) ws ≡ true → has (is_place_of e) (filter (λ v. not (n == v.0)) ws) ≡ true
places_left ks n w e ws own o f t =
    left_there n (is_place_of e) ws
    (of-more (IsOwn ks) (λ v. (n == v.0) ≡ true → is_place_of e v ≡ false) (λ v i q. place_not e v w (same_line ks n w v o i q) f) ws own) t

-- what waits for a place is among these
abbrev pub is_placed : List Waiter → Waiter → Bool
is_placed ws (n, Identifier) = true
is_placed ws (n, Place e r c) = has (is_place_of e.value) ws

kept_more : (us ws : List Waiter) (v : Waiter) → ((e : ℕ) → has (is_place_of e) us ≡ true → has (is_place_of e) ws ≡ true) → is_placed us v ≡ true → is_placed ws v ≡ true
kept_more us ws (n, Identifier) f t = refl
kept_more us ws (n, Place e r c) f t = f e.value t

all_kept : (us ws : List Waiter) → ((e : ℕ) → has (is_place_of e) us ≡ true → has (is_place_of e) ws ≡ true) → each (is_placed ws) us ≡ true
all_kept [] ws f = refl
all_kept (v ∷ us) ws f = and_both (is_placed ws v) (each (is_placed ws) us) (own v f) (all_kept us ws (λ e t. f e (or_right (is_place_of e v) (has (is_place_of e) us) t)))
  where
    own : (v : Waiter) → ((e : ℕ) → has (is_place_of e) (v ∷ us) ≡ true → has (is_place_of e) ws ≡ true) → is_placed ws v ≡ true
    own (n, Identifier) f = refl
    own (n, Place e r c) f = f e.value (or_left (e.value == e.value) (has (is_place_of e.value) us) (eq_self e.value))

given_coming : (ks : List EnteredCall) (t : ℕ) (vs : List Waiter) (h : List Entry) → has is_sealed h ≡ false → ((e : EnlNo) → is_coming e h ≡ true → has (is_place_of e.value) (waiting ks h) ≡ true)
    → OfEach (IsOwn ks) vs → each (is_placed (waiting ks h)) vs ≡ true → IsComing ks (onto h (flat_map (given t) vs))
given_coming ks t [] h s all own kept =
    record {
      placed = λ d e c. or_left (has (is_place_of e.value) (waiting ks h)) (is_under_way h && is_handed (handover h) e.value) (all e c);
      late = λ a. absurd (not_both (has is_sealed h) a s);
    }
given_coming ks t ((n, Identifier) ∷ vs) h s all own kept =
    let ws = waiting ks h in
    let after = filter (λ v. not (n == v.0)) ws in
    let left : (e : ℕ) → has (is_place_of e) ws ≡ true → has (is_place_of e) after ≡ true = λ e a. places_left ks n Identifier e ws (all_own ks h) own.0 refl a in
    given_coming ks t vs (Answered n (Id (identifier_of t)) ∷ h) s (λ e c. left e.value (all e c)) own.1
    (each_more (is_placed ws) (is_placed after) (λ v a. kept_more ws after v left a) vs kept)
given_coming ks t ((n, Place e r c) ∷ vs) h s all own kept =
    let x : Entry = Sent (Enl e) Up (EnlistEnlist (info t e r)) in
    let ws = waiting ks h in
    given_coming ks t vs (x ∷ h) s
    (λ f q. or_case (is_sent_on (Enl f) Up (is_opening (Enl f)) x) (is_coming f h)
    (λ a. let P : EnlNo → Type 0 = λ y. has (is_place_of y.value) ws ≡ true in subst P (same_sent e f t r a) (and_left (has (is_place_of e.value) ws) (each (is_placed ws) vs) kept)) (λ a. all f a)
    (one_came (Enl f) Up (is_opening (Enl f)) x h q)) own.1
    (and_right (has (is_place_of e.value) ws) (each (is_placed ws) vs) kept)

over_coming : (ks : List EnteredCall) (t : ℕ) (h : List Entry) (o : Option Cause) → has is_sealed h ≡ false → ((e : EnlNo) → is_coming e h ≡ true → has (is_place_of e.value) (waiting ks h) ≡ true)
    → IsComing ks (onto h (promoted_by t o ++ flat_map (given t) (waiting ks h)))
over_coming ks t h (Some c) s all = given_coming ks t (waiting ks h) (Promoted (identifier_of t) c ∷ h) s all (all_own ks h) (all_kept (waiting ks h) (waiting ks h) (λ e a. a))
over_coming ks t h None s all = given_coming ks t (waiting ks h) h s all (all_own ks h) (all_kept (waiting ks h) (waiting ks h) (λ e a. a))

-- CREATED, and ENLISTED.
open_seen : (h : List Entry) → is_some (latest decision_of h) ≡ false → has is_decision h ≡ false
open_seen [] d = refl
open_seen (Decided o ∷ h) d = absurd cc
open_seen (x ∷ h) d = open_seen h d

place_first : (ks : List EnteredCall) (h : List Entry) → IsComing ks h → has is_decision h ≡ false → ((e : EnlNo) → is_coming e h ≡ true → (is_under_way h && is_handed (handover h) e.value) ≡ true → ⊥)
    → (e : EnlNo) → is_coming e h ≡ true → has (is_place_of e.value) (waiting ks h) ≡ true
place_first ks h k d f e c = or_case (has (is_place_of e.value) (waiting ks h)) (is_under_way h && is_handed (handover h) e.value) (λ a. a) (λ a. absurd (f e c a)) (k.placed d e c)

handed_self : (e : EnlNo) → is_handed (Some e) e.value ≡ true
handed_self e = eq_self e.value

created_coming : (ks : List EnteredCall) (t : ℕ) (h : List Entry) → Keeps h → IsComing ks h → IsComing ks (onto h (created t (half_of ks h)))
unfolding observe
created_coming ks t h k i = step (is_some (latest decision_of h)) refl (sees_promoting (observe h)) refl
  where
    handing : (o : Option EnlNo) → handover h ≡ o → has is_decision h ≡ false → is_under_way h ≡ true → IsComing ks (onto h (hand_over t (half_of ks h) o))
    handing (Some e) q d u =
        let P : Option EnlNo → Type 0 = λ y. is_handed y e.value ≡ true in
        let handed : is_handed (handover h) e.value ≡ true = subst P (sym q) (handed_self e) in
        handed_coming ks h t e (half_of ks h).managers i (way_unsealed h k u)
        (or_right (has (is_place_of e.value) (waiting ks h)) (is_under_way h && is_handed (handover h) e.value) (and_both (is_under_way h) (is_handed (handover h) e.value) u handed))
    handing None q d u =
        let P : Option EnlNo → EnlNo → Type 0 = λ y e. is_handed y e.value ≡ true in
        over_coming ks t h (observe h).cause (way_unsealed h k u)
        (place_first ks h i d (λ e c a. never (subst (λ y. is_handed y e.value ≡ true) q (and_right (is_under_way h) (is_handed (handover h) e.value) a))))

    step : (b : Bool) → is_some (latest decision_of h) ≡ b → (p : Bool) → sees_promoting (observe h) ≡ p
        → IsComing ks (onto h (if b then [] else if p then hand_over t (half_of ks h) (handover h) else []))
    step true e p q = i
    step false e true q = handing (handover h) refl (open_seen h e) (sym (way_seen h) ∙ q)
    step false e false q = i

answered_coming : (ks : List EnteredCall) (h : List Entry) (n : ℕ) (y : Answer) (w : Wanted) → w ≡ wanted (call_at ks n) → ((e : EnlNo) → is_coming e h ≡ true → is_place_of e.value (0, w) ≡ false)
    → IsComing ks h → IsComing ks (Answered n y ∷ h)
answered_coming ks h n y w o f k =
    record {
      placed = λ d e c. or_case (has (is_place_of e.value) (waiting ks h)) (is_under_way h && is_handed (handover h) e.value)
          (λ a. or_left (has (is_place_of e.value) (filter (λ v. not (n == v.0)) (waiting ks h))) (is_under_way h && is_handed (handover h) e.value)
          (places_left ks n w e.value (waiting ks h) (all_own ks h) o (f e c) a))
          (λ a. or_right (has (is_place_of e.value) (filter (λ v. not (n == v.0)) (waiting ks h))) (is_under_way h && is_handed (handover h) e.value) a) (k.placed d e c);
      late = k.late;
    }

both_handed : (o : Option EnlNo) (e f : EnlNo) → is_handed o e.value ≡ true → is_handed o f.value ≡ true → e ≡ f
both_handed (Some g) e f p q = same_enlistment e f (eqb-true e.value g.value p ∙ sym (eqb-true f.value g.value q))
both_handed None e f p q = absurd (never p)

other_place : (e f x : EnlNo) (h : List Entry) → (e.value == f.value) ≡ true → is_coming e h ≡ false → is_coming x h ≡ true → (x.value == f.value) ≡ false
other_place e f x h q n c =
    false_from_ne_true (x.value == f.value) (λ t. let same : x ≡ e = same_enlistment x e (eqb-true x.value f.value t ∙ sym (eqb-true e.value f.value q)) in
    not_both (is_coming e h) (let P : EnlNo → Type 0 = λ y. is_coming y h ≡ true in subst P same c) n)

enlisted_coming : (ks : List EnteredCall) (t : ℕ) (h : List Entry) (e : EnlNo) → Keeps h → IsComing ks h → is_coming e h ≡ false → IsComing ks (onto h (enlisted_at t (half_of ks h) e))
unfolding observe
enlisted_coming ks t h e k i n = step (is_some (latest decision_of h)) refl (sees_promoting (observe h)) refl (is_handed (handover h) e.value) refl (observe h).promoted
  where
    given_by : (o : Option Waiter) → find (is_place_of e.value) (waiting ks h) ≡ o → IsComing ks (onto h (place_given o))
    given_by (Some (l, Place f r c)) q =
        let w = found_at (is_place_of e.value) (waiting ks h) (l, Place f r c) q in
        let own : Place f r c ≡ wanted (call_at ks l) = of-at (IsOwn ks) (waiting ks h) w.0 (l, Place f r c) (all_own ks h) w.1 in
        answered_coming ks (Enlisted f c ∷ h) l Fine (Place f r c) own (λ x a. other_place e f x h w.2 n a) (mild_coming ks (Enlisted f c) h refl refl i)
    given_by (Some (l, Identifier)) q = i
    given_by None q = i

    step : (b : Bool) → is_some (latest decision_of h) ≡ b → (p : Bool) → sees_promoting (observe h) ≡ p → (g : Bool) → is_handed (handover h) e.value ≡ g → (o : Bool)
        → IsComing ks (onto h (if b then [] else if p && g then over t (half_of ks h) else if o then place_given (find (is_place_of e.value) (waiting ks h)) else []))
    step true d p q g r o = i
    step false d true q true r o =
        over_coming ks t h (observe h).cause (way_unsealed h k (sym (way_seen h) ∙ q))
        (place_first ks h i (open_seen h d) (λ f c a. let same : e ≡ f = both_handed (handover h) e f r (and_right (is_under_way h) (is_handed (handover h) f.value) a) in
        not_both (is_coming f h) c (let P : EnlNo → Type 0 = λ y. is_coming y h ≡ false in subst P same n)))
    step false d true q false r true = given_by (find (is_place_of e.value) (waiting ks h)) refl
    step false d true q false r false = i
    step false d false q g r true = given_by (find (is_place_of e.value) (waiting ks h)) refl
    step false d false q g r false = i

-- a message that arrives
enlisted_there : (e : EnlNo) (h : List Entry) → Keeps (Got (Enl e) Down EnlistEnlisted ∷ h) → is_coming e (Got (Enl e) Down EnlistEnlisted ∷ h) ≡ false
enlisted_there e h k =
    none_again (Enl e) (Got (Enl e) Down EnlistEnlisted ∷ h) refl k
    (got_there (Enl e) (λ m. true) (Got (Enl e) Down EnlistEnlisted ∷ h) k (or_left ((e.value == e.value) && true && true) (has (is_got_on (Enl e) Down (λ m. true)) h) (rw (eq_self e.value) refl)))

arrived_coming : (t : ℕ) (w : World) (c : Conn) (m : Message) → Keeps (Got c Down m ∷ w.past) → IsComing w.calls (Got c Down m ∷ w.past) → IsComing w.calls (onto (Got c Down m ∷ w.past) (local_got t (half w) c m))
unfolding local_got observe track
arrived_coming t w Voter VoterCreated k i = created_coming w.calls t (Got Voter Down VoterCreated ∷ w.past) k i
arrived_coming t w (Enl e) EnlistEnlisted k i = enlisted_coming w.calls t (Got (Enl e) Down EnlistEnlisted ∷ w.past) e k i (enlisted_there e w.past k)
arrived_coming t w c m k i = calm_coming w.calls (Got c Down m ∷ w.past) (arrived t (sees (half w) (Got c Down m)) c m) (calm_arrived t (sees (half w) (Got c Down m)) c m refl) i

-- The calls.
fresh_coming : (n : ℕ) (a : ActorNo) (c : Call) (ks : List EnteredCall) (h : List Entry) → has (is_call n) h ≡ false → IsComing ks h → IsComing (record { line = n; actor = a; call = c } ∷ ks) h
fresh_coming n a c ks h new k =
    let same : waiting (record { line = n; actor = a; call = c } ∷ ks) h ≡ waiting ks h = ap (λ (x : Half). x.waits) (fresh (record { line = n; actor = a; call = c }) ks h new) in
    record { placed = λ d e q. (let P : List Waiter → Type 0 = λ ws. has_place ws h e ≡ true in subst P (sym same) (k.placed d e q)); late = k.late }

called_place : (ks : List EnteredCall) (n : ℕ) (a : ActorNo) (x : Answer) (h : List Entry) (e : EnlNo) → has_place (waiting ks h) h e ≡ true → has_place (waiting ks (Called n a x ∷ h)) (Called n a x ∷ h) e ≡ true
called_place ks n a Wait h e t =
    let new = insert_by waiter_line (n, wanted (call_at ks n)) (waiting ks h) in
    or_case (has (is_place_of e.value) (waiting ks h)) (is_under_way h && is_handed (handover h) e.value)
    (λ p. or_left (has (is_place_of e.value) new) (is_under_way h && is_handed (handover h) e.value)
    (has-insert (is_place_of e.value) waiter_line (n, wanted (call_at ks n)) (waiting ks h) ∙ or_right (is_place_of e.value (n, wanted (call_at ks n))) (has (is_place_of e.value) (waiting ks h)) p))
    (λ p. or_right (has (is_place_of e.value) new) (is_under_way h && is_handed (handover h) e.value) p) t
called_place ks n a x h e t = t

called_coming : (ks : List EnteredCall) (n : ℕ) (a : ActorNo) (x : Answer) (h : List Entry) → IsComing ks h → IsComing ks (Called n a x ∷ h)
called_coming ks n a x h k = record { placed = λ d e c. called_place ks n a x h e (k.placed d e c); late = k.late }

if_coming : (ks : List EnteredCall) (h : List Entry) (b : Bool) (es : List Entry) → IsComing ks h → IsComing ks (onto h es) → IsComing ks (onto h (facts_if b es))
if_coming ks h true es i k = k
if_coming ks h false es i k = i

promoting_coming : (ks : List EnteredCall) (h : List Entry) (c : Cause) → is_under_way h ≡ false → IsComing ks h → IsComing ks (Promoting c ∷ h)
promoting_coming ks h c u k =
    record {
      placed = λ d e q. or_case (has (is_place_of e.value) (waiting ks h)) (is_under_way h && is_handed (handover h) e.value)
          (λ a. or_left (has (is_place_of e.value) (waiting ks h)) (is_under_way (Promoting c ∷ h) && is_handed (handover (Promoting c ∷ h)) e.value) a)
          (λ a. absurd (not_both (is_under_way h) (and_left (is_under_way h) (is_handed (handover h) e.value) a) u)) (k.placed d e q);
      late = k.late;
    }

begin_coming : (ks : List EnteredCall) (h : List Entry) (v : Half) (o : Option Cause) → is_under_way h ≡ false → IsComing ks h → IsComing ks (onto h (begin_promotion v o))
begin_coming ks h v None u k = k
begin_coming ks h v (Some c) u k = step (has (λ x. is_promotable x.class) v.seen.table)
  where
    step : (b : Bool) → IsComing ks (onto h (Promoting c ∷ (if b then [] else Sent Begin Up BeginBegin ∷ [])))
    step true = promoting_coming ks h c u k
    step false = mild_coming ks (Sent Begin Up BeginBegin) (Promoting c ∷ h) refl refl (promoting_coming ks h c u k)

unless_promoting : (ks : List EnteredCall) (h : List Entry) (v : Half) (o : Option Cause) (b : Bool) → is_under_way h ≡ b → IsComing ks h → IsComing ks (onto h (if b then [] else begin_promotion v o))
unless_promoting ks h v o true u k = k
unless_promoting ks h v o false u k = begin_coming ks h v o u k

durable_coming : (ks : List EnteredCall) (t n : ℕ) (a : ActorNo) (u : TxNo) (e : EnlNo) (r : RmNo) (s : Support) (w : World) (x : Answer) → call_at ks n ≡ Some (Durable u e r s)
    → (x ≡ Wait → has is_sealed w.past ≡ false) → IsComing ks (Called n a x ∷ w.past) → IsComing ks (onto (Called n a x ∷ w.past) (facts_if (has_facts x) (durable_facts t (half w) e r (is_single s) x)))
unfolding observe
durable_coming ks t n a u e r s w Wait call early k =
    by (observe w.past).promoted
  where
    mine : is_place_of e.value (n, wanted (call_at ks n)) ≡ true
    mine = let P : Option Call → Type 0 = λ o. is_place_of e.value (n, wanted o) ≡ true in subst P (sym call) (eq_self e.value)

    placed_there : has_place (waiting ks (Called n a Wait ∷ w.past)) (Called n a Wait ∷ w.past) e ≡ true
    placed_there =
        or_left (has (is_place_of e.value) (insert_by waiter_line (n, wanted (call_at ks n)) (waiting ks w.past))) (is_under_way w.past && is_handed (handover w.past) e.value)
        (has-insert (is_place_of e.value) waiter_line (n, wanted (call_at ks n)) (waiting ks w.past)
        ∙ or_left (is_place_of e.value (n, wanted (call_at ks n))) (has (is_place_of e.value) (waiting ks w.past)) mine)

    by : (b : Bool) → IsComing ks (onto (Called n a Wait ∷ w.past) (if b then enlist_sent t e r else if sees_promoting (observe w.past) then [] else begin_promotion (half w) (cause_of (half w).seen.table (is_single s))))
    by true = sent_coming ks (Called n a Wait ∷ w.past) t e r k (early refl) placed_there
    by false = unless_promoting ks (Called n a Wait ∷ w.past) (half w) (cause_of (half w).seen.table (is_single s)) (sees_promoting (observe w.past)) (sym (way_seen w.past)) k
durable_coming ks t n a u e r s w Fine call early k = mild_coming ks (Enlisted e DurableSingle) (Called n a Fine ∷ w.past) refl refl k
durable_coming ks t n a u e r s w True call early k = mild_coming ks (Enlisted e DurableSingle) (Called n a True ∷ w.past) refl refl k
durable_coming ks t n a u e r s w x call early k = k

late_wait : (l : Option ℕ) (d : Option Outcome) (s : Bool) (y : Answer) → if_begun l (unless_ended d (if s then TooLate else y)) ≡ Wait → s ≡ false
late_wait None d s y e = absurd cc
late_wait (Some l) (Some o) s y e = absurd cc
late_wait (Some l) None true y e = absurd cc
late_wait (Some l) None false y e = refl

waits_unsealed : (t : ℕ) (w : World) (u : TxNo) (e : EnlNo) (r : RmNo) (s : Support) (m : ℕ) → answer_at t w (Durable u e r s) m ≡ Wait → has is_sealed w.past ≡ false
unfolding answer_at local_answer observe
waits_unsealed t w u e r s m q = late_wait (half w).seen.limit (half w).seen.decided (has is_sealed w.past) _ q

call_coming : (t : ℕ) (w : World) (n : ℕ) (a : ActorNo) (c : Call) (m : ℕ) → IsComing (record { line = n; actor = a; call = c } ∷ w.calls) (Called n a (answer_at t w c m) ∷ w.past)
    → IsComing (record { line = n; actor = a; call = c } ∷ w.calls) (onto (Called n a (answer_at t w c m) ∷ w.past) (facts_if (has_facts (answer_at t w c m)) (facts_at t w c (answer_at t w c m))))
unfolding observe
call_coming t w n a (Volatile u e o v) m k =
    let x = answer_at t w (Volatile u e o v) m in
    let ks = record { line = n; actor = a; call = Volatile u e o v } ∷ w.calls in
    if_coming ks (Called n a x ∷ w.past) (has_facts x) (facts_at t w (Volatile u e o v) x) k (mild_coming ks (Enlisted e _) (Called n a x ∷ w.past) refl refl k)
call_coming t w n a (Promotable u e r v o p) m k =
    let x = answer_at t w (Promotable u e r v o p) m in
    let ks = record { line = n; actor = a; call = Promotable u e r v o p } ∷ w.calls in
    if_coming ks (Called n a x ∷ w.past) (has_facts x) (facts_at t w (Promotable u e r v o p) x) k
    (calm_coming ks (Called n a x ∷ w.past) (facts_at t w (Promotable u e r v o p) x) (calm_cons (Enlisted e _) refl (calm_one (Init e) refl)) k)
call_coming t w n a (Marshal u) m k =
    let x = answer_at t w (Marshal u) m in
    let ks = record { line = n; actor = a; call = Marshal u } ∷ w.calls in
    if_coming ks (Called n a x ∷ w.past) (has_facts x) (facts_at t w (Marshal u) x) k
    (unless_promoting ks (Called n a x ∷ w.past) (half w) (Some MarshalCause) (sees_promoting (observe w.past)) (sym (way_seen w.past)) k)
call_coming t w n a (Durable u e r s) m k =
    durable_coming (record { line = n; actor = a; call = Durable u e r s } ∷ w.calls) t n a u e r s w (answer_at t w (Durable u e r s) m) (own_call n a (Durable u e r s) w.calls)
    (waits_unsealed t w u e r s m) k
call_coming t w n a c m k =
    calm_coming (record { line = n; actor = a; call = c } ∷ w.calls) (Called n a (answer_at t w c m) ∷ w.past) (facts_if (has_facts (answer_at t w c m)) (facts_at t w c (answer_at t w c m)))
    (calm_called t w c (answer_at t w c m) refl) k

down_keeps : (c : Conn) (m : Message) (h : List Entry) → Keeps h → is_next m (in_transit c Down h) → Keeps (Got c Down m ∷ h)
down_keeps (Enl e) m h k n = record { rules = k.rules; ties = k.ties; wires = (n, k.wires) }
down_keeps c m h k n = record { rules = k.rules; ties = k.ties; wires = (n, k.wires) }

down_coming : (t : ℕ) (w : World) (c : Conn) (ms : List Message) → in_transit c Down w.past ≡ ms → Keeps w.past → IsComing w.calls w.past → IsComing w.calls (onto w.past (delivered t w c Down ms))
down_coming t w c [] q k i = calm_coming w.calls w.past (Ended c Down ∷ ended_at w c Down) (calm_cons (Ended c Down) refl (calm_ended_at w c Down)) i
down_coming t w c (m ∷ ms) q k i =
    arrived_coming t w c m (down_keeps c m w.past k (takes_next m ms (in_transit c Down w.past) q)) (mild_coming w.calls (Got c Down m) w.past refl refl i)

up_coming : (t : ℕ) (w : World) (c : Conn) (ms : List Message) → IsComing w.calls w.past → IsComing w.calls (onto w.past (delivered t w c Up ms))
up_coming t w c [] i = calm_coming w.calls w.past (Ended c Up ∷ ended_at w c Up) (calm_cons (Ended c Up) refl (calm_ended_at w c Up)) i
up_coming t w c (m ∷ ms) i = calm_coming w.calls w.past (Got c Up m ∷ got_by t w c Up m) (calm_cons (Got c Up m) refl (calm_core_got (identifier_of t) (core w) c m)) i

-- After each step.
pub step_coming : (G : ℕ → ActorNo → Call → Type 0) (t : ℕ) (w : World) (m : Step) → MayCome G t w m → Keeps w.past → IsComing w.calls w.past → IsComing (after t w m).calls (after t w m).past
unfolding after block_at
step_coming G t w (Calls n a c m) q k i =
    call_coming t w n a c m (called_coming (record { line = n; actor = a; call = c } ∷ w.calls) n a (answer_at t w c m) w.past (fresh_coming n a c w.calls w.past q.1 i))
step_coming G t w (Replies e r) q k i = calm_coming w.calls w.past (reply_entries (half w) e r) (calm_reply (half w) e r) i
step_coming G t w Acts q k i = by (act_kind (half w))
  where
    by : Calm (act_entries (half w)) ⊎ Seals (half w) (act_entries (half w)) → IsComing w.calls (onto w.past (act_entries (half w)))
    by (inl c) = calm_coming w.calls w.past (act_entries (half w)) c i
    by (inr s) = seal_coming w.calls w.past s i
step_coming G t w (Coordinates x) q k i = calm_coming w.calls w.past (coordinates (core w) x) (calm_coordinates (core w) x) i
step_coming G t w (Delivers c Up) q k i = up_coming t w c (in_transit c Up w.past) i
step_coming G t w (Delivers c Down) q k i = down_coming t w c (in_transit c Down w.past) refl k i
step_coming G t w Stops q k i = calm_coming w.calls w.past (Stopped ∷ []) (calm_one Stopped refl) i
step_coming G t w (Restarts found) q k i = calm_coming w.calls w.past (restarted (core w).stopped found) (calm_restarted (core w).stopped found) i

-- it is so at the start
pub none_coming : IsComing [] []
none_coming = record { placed = λ d e c. absurd (never c); late = λ s. absurd (never s) }

-- so none is on the way once the coordinator got COMMIT
pub coming_late : (ks : List EnteredCall) (h : List Entry) → Keeps h → IsComing ks h → (e : EnlNo) → is_coming e h ≡ true → has is_commit_got h ≡ false
coming_late ks h k i e c = false_from_ne_true (has is_commit_got h) (λ t. not_both (is_coming e h) c (i.late (sealed_if_commit h k t) e))
