-- In each world that steps make, until the promotion is over: each durable and promotable has the manager of its call, and so has the enlistment of the handover.
use Rattle.std.proofs.Common.{Bool, ◌||◌, List, ◌≡◌, true, false, Some, [], ◌∷◌, refl, subst, ◌∙◌, ℕ, ◌++◌, Option, None, ◌==◌, ◌&&◌, sym, ap}
use Rattle.std.specs.Prelude.{not, if◌then◌else◌, is_some, find}
use Rattle.std.specs.List.{flat_map}
use Rattle.std.proofs.lemmas.Bool.{or_left}
use Rattle.dtx_values.specs.declared.call.Call.{Call}
use Rattle.dtx_values.specs.declared.call.Call.TheVariants.{Durable, Promotable, Volatile}
use Rattle.dtx_values.specs.declared.entry.Answer.{Answer}
use Rattle.dtx_values.specs.declared.entry.Answer.TheVariants.{Fine, True, Wait}
use Rattle.dtx_values.specs.declared.entry.Entry.{Entry}
use Rattle.dtx_values.specs.declared.entry.Entry.TheVariants.{Called, Enlisted, Promoting, Got, Down as Ended, Init, Stopped}
use Rattle.dtx_values.specs.declared.message.Conn.{Conn}
use Rattle.dtx_values.specs.declared.message.Conn.TheVariants.{Voter, Enl}
use Rattle.dtx_values.specs.declared.message.Dir.{Dir}
use Rattle.dtx_values.specs.declared.message.Dir.TheVariants.{Down, Up}
use Rattle.dtx_values.specs.declared.message.Message.{Message}
use Rattle.dtx_values.specs.declared.message.Message.TheVariants.{EnlistEnlisted, VoterCreated}
use Rattle.dtx_values.specs.declared.number.ActorNo.{ActorNo}
use Rattle.dtx_values.specs.declared.number.EnlNo.{EnlNo}
use Rattle.dtx_values.specs.declared.number.RmNo.{RmNo}
use Rattle.dtx_values.specs.declared.row.Row.{Row}
use Rattle.dtx_values.specs.declared.script.EnlistOption.{EnlistOption}
use Rattle.dtx_values.specs.declared.words.Cause.{Cause}
use Rattle.dtx_values.specs.declared.words.Class.{Class}
use Rattle.dtx_values.specs.declared.words.Class.TheVariants.{DurableSingle, Promotable as PromotableClass}
use Rattle.dtx_values.specs.Class.{is_volatile}
use Rattle.dtx_values.specs.Owners.{lasting, only, owner_of, cause_of}
use Rattle.dtx_values.specs.Support.{is_single}
use Rattle.dtx_model.specs.declared.waiting.EnteredCall.{EnteredCall}
use Rattle.dtx_model.specs.declared.waiting.Wanted.TheVariants.{Identifier, Place}
use Rattle.dtx_model.specs.Words.{has, each, onto}
use Rattle.dtx_model.specs.Entries.{is_promoted, is_call}
use Rattle.dtx_model.specs.Observed.{handover, rows, observe, track}
use Rattle.dtx_model.specs.Outcome.{enlisted}
use Rattle.dtx_model.specs.Promotes.{identifier_of}
use Rattle.dtx_model.specs.Wires.{in_transit}
use Rattle.dtx_model.specs.Answers.{class_of}
use Rattle.dtx_model.specs.Waiting.{managed, Waiter, is_place_of, managed_by, call_at}
use Rattle.dtx_model.specs.Half.{given, promoted_by, Half, by_manager, enlist_sent, is_promoting, is_handed, over, sees}
use Rattle.dtx_model.specs.Arrivals.{hand_over, created, enlisted_at, place_given, arrived, local_got}
use Rattle.dtx_model.specs.Acts.{act_entries}
use Rattle.dtx_model.specs.Replies.{reply_entries}
use Rattle.dtx_model.specs.Facts.{begin_promotion, durable_facts, facts_if, has_facts, is_waiting_answer}
use Rattle.dtx_model.specs.World.{World, half, core, answer_at, facts_at}
use Rattle.dtx_model.specs.Steps.{delivered, ended_at, got_by, Step, Calls, Replies, Acts, Coordinates, Delivers, Stops, Restarts, after, block_at, coordinates, restarted}
use Rattle.dtx_model.specs.Caused.{MayCome, Ran}
use Rattle.dtx_model.proofs.Bools.{and_both, and_left, and_right, or_second, not_both, or_right}
use Rattle.dtx_model.proofs.Heeding.{fresh}
use Rattle.history_table.proofs.PlainBlocks.{is_plain, Plain, plain_arrived, plain_core_got, plain_ended_at, plain_begin_promotion, plain_called, plain_act, plain_coordinates, plain_reply, plain_restarted}
use Rattle.history_table.proofs.Scans.{each_more, has_after}
use Rattle.history_table.proofs.TableRows.{each_rows}
use Rattle.history_table.proofs.Makers.{option_volatile}
use Rattle.history_table.proofs.Tests.{eq_self}
use Rattle.history_table.proofs.Waiters.{own_call, promotable_gives}
use Rattle.settled_histories.proofs.PaidBlocks.{is_manager_of}

-- an enlistment is volatile, or has a manager
abbrev is_managed : List (EnlNo × RmNo) → EnlNo × Class → Bool
is_managed ms x = is_volatile x.1 || has (is_manager_of x.0.value) ms

-- until the promotion is over
pub record AreManaged (ks : List EnteredCall) (h : List Entry) : Type 0 where
  pub lasting : has is_promoted h ≡ false → each (is_managed (managed ks h)) (enlisted h) ≡ true
  pub handed : has is_promoted h ≡ false → (e : EnlNo) → handover h ≡ Some e → has (is_manager_of e.value) (managed ks h) ≡ true

-- the one durable or promotable has a manager where each has
only_managed : (ms : List (EnlNo × RmNo)) (e : EnlNo) (xs : List Row) → each (λ x. is_managed ms (x.number, x.class)) xs ≡ true → only (lasting xs) ≡ Some e → has (is_manager_of e.value) ms ≡ true
only_managed ms e xs k q = alone (lasting xs) (picked xs k) q
  where
    alone : (ys : List Row) → each (λ x. has (is_manager_of x.number.value) ms) ys ≡ true → only ys ≡ Some e → has (is_manager_of e.value) ms ≡ true
    alone [] k q = absurd cc
    alone (x ∷ []) k q = let same : x.number ≡ e = cc in subst (λ f. has (is_manager_of f.value) ms ≡ true) same (and_left (has (is_manager_of x.number.value) ms) true k)
    alone (x ∷ y ∷ ys) k q = absurd cc

    picked : (xs : List Row) → each (λ x. is_managed ms (x.number, x.class)) xs ≡ true → each (λ x. has (is_manager_of x.number.value) ms) (lasting xs) ≡ true
    picked [] k = refl
    picked (x ∷ xs) k = step (is_volatile x.class) (and_left (is_managed ms (x.number, x.class)) (each (λ x. is_managed ms (x.number, x.class)) xs) k) (picked xs (and_right (is_managed ms (x.number, x.class)) (each (λ x. is_managed ms (x.number, x.class)) xs) k))
      where
        step : (v : Bool) → (v || has (is_manager_of x.number.value) ms) ≡ true → each (λ x. has (is_manager_of x.number.value) ms) (lasting xs) ≡ true
            → each (λ x. has (is_manager_of x.number.value) ms) (if not v then x ∷ lasting xs else lasting xs) ≡ true
        step true k ih = ih
        step false k ih = and_both (has (is_manager_of x.number.value) ms) (each (λ x. has (is_manager_of x.number.value) ms) (lasting xs)) k ih

-- an entry that is no call and makes no enlistment
abbrev pub is_unmaking : Entry → Bool
is_unmaking (Called n a x) = false
is_unmaking (Enlisted e c) = false
is_unmaking _ = true

plain_unmaking : (x : Entry) → is_plain x ≡ true → is_unmaking x ≡ true
plain_unmaking (Called n a x) p = absurd cc
plain_unmaking (Enlisted e c) p = absurd cc
plain_unmaking _ p = refl

pub all_unmaking : {es : List Entry} → Plain es → each is_unmaking es ≡ true
all_unmaking {es} p = each_more is_plain is_unmaking plain_unmaking es p.proof

entry_managed : (ks : List EnteredCall) (x : Entry) (h : List Entry) → is_unmaking x ≡ true → AreManaged ks h → AreManaged ks (x ∷ h)
unfolding owner_of
entry_managed ks (Called n a x) h u m = absurd cc
entry_managed ks (Enlisted e c) h u m = absurd cc
entry_managed ks (Promoting c) h u m = record {
  lasting = m.lasting;
  handed = λ n e q. only_managed (managed ks h) e (rows h) (each_rows (λ f c. is_managed (managed ks h) (f, c)) h ∙ m.lasting n) q;
}
entry_managed ks x h u m = record { lasting = λ n. m.lasting (or_second (is_promoted x) (has is_promoted h) n); handed = λ n. m.handed (or_second (is_promoted x) (has is_promoted h) n) }

list_managed : (ks : List EnteredCall) (h es : List Entry) → each is_unmaking es ≡ true → AreManaged ks h → AreManaged ks (onto h es)
list_managed ks h [] u m = m
list_managed ks h (x ∷ es) u m = list_managed ks (x ∷ h) es (and_right (is_unmaking x) (each is_unmaking es) u) (entry_managed ks x h (and_left (is_unmaking x) (each is_unmaking es) u) m)

-- where the promotion is over nothing is asked
over_managed : (ks : List EnteredCall) (h es : List Entry) → has is_promoted h ≡ true → AreManaged ks (onto h es)
over_managed ks h es p = record {
  lasting = λ n. absurd (not_both (has is_promoted (onto h es)) (has_after is_promoted h es p) n);
  handed = λ n e q. absurd (not_both (has is_promoted (onto h es)) (has_after is_promoted h es p) n);
}

-- The arrivals.
managed_if : (ks : List EnteredCall) (h : List Entry) (b : Bool) (xs ys : List Entry) → (b ≡ true → AreManaged ks (onto h xs)) → (b ≡ false → AreManaged ks (onto h ys)) → AreManaged ks (onto h (if b then xs else ys))
managed_if ks h true xs ys p q = p refl
managed_if ks h false xs ys p q = q refl

given_unmaking : (t : ℕ) (ws : List Waiter) → each is_unmaking (flat_map (given t) ws) ≡ true
given_unmaking t [] = refl
given_unmaking t ((n, Identifier) ∷ ws) = given_unmaking t ws
given_unmaking t ((n, Place e r c) ∷ ws) = given_unmaking t ws

pub over_unmaking : (t : ℕ) (o : Option Cause) (ws : List Waiter) → each is_unmaking (promoted_by t o ++ flat_map (given t) ws) ≡ true
over_unmaking t (Some c) ws = given_unmaking t ws
over_unmaking t None ws = given_unmaking t ws

pub handed_unmaking : (t : ℕ) (v : Half) (o : Option EnlNo) → each is_unmaking (hand_over t v o) ≡ true
handed_unmaking t v (Some e) = sent v.managers
  where
    sent : (ms : List (EnlNo × RmNo)) → each is_unmaking (by_manager (enlist_sent t) ms e) ≡ true
    sent [] = refl
    sent (m ∷ ms) = step (e.value == m.0.value) (sent ms)
      where
        step : (b : Bool) → each is_unmaking (by_manager (enlist_sent t) ms e) ≡ true → each is_unmaking (if b then enlist_sent t e m.1 else by_manager (enlist_sent t) ms e) ≡ true
        step true k = refl
        step false k = k
handed_unmaking t v None = over_unmaking t v.seen.cause v.waits

created_managed : (ks : List EnteredCall) (t : ℕ) (h : List Entry) (v : Half) → AreManaged ks h → AreManaged ks (onto h (created t v))
created_managed ks t h v m =
    managed_if ks h (is_some v.seen.decided) [] (if is_promoting v.seen then hand_over t v v.seen.handover else []) (λ q. m)
    (λ q. managed_if ks h (is_promoting v.seen) (hand_over t v v.seen.handover) [] (λ q. list_managed ks h (hand_over t v v.seen.handover) (handed_unmaking t v v.seen.handover) m) (λ q. m))

enlisted_managed : (ks : List EnteredCall) (t : ℕ) (h : List Entry) (v : Half) (e : EnlNo) → v.seen.promoted ≡ has is_promoted h → AreManaged ks h → AreManaged ks (onto h (enlisted_at t v e))
enlisted_managed ks t h v e s m =
    let own = is_promoting v.seen && is_handed v.seen.handover e.value in
    let placed = place_given (find (is_place_of e.value) v.waits) in
    managed_if ks h (is_some v.seen.decided) [] (if own then over t v else if v.seen.promoted then placed else []) (λ q. m)
    (λ q. managed_if ks h own (over t v) (if v.seen.promoted then placed else []) (λ q. list_managed ks h (over t v) (over_unmaking t v.seen.cause v.waits) m)
    (λ q. managed_if ks h v.seen.promoted placed [] (λ q. over_managed ks h placed (sym s ∙ q)) (λ q. m)))

got_managed : (t : ℕ) (w : World) (c : Conn) (m : Message) → AreManaged w.calls w.past → AreManaged w.calls (onto (Got c Down m ∷ w.past) (local_got t (half w) c m))
unfolding local_got observe track
got_managed t w Voter VoterCreated a =
    created_managed w.calls t (Got Voter Down VoterCreated ∷ w.past) (sees (half w) (Got Voter Down VoterCreated)) (entry_managed w.calls (Got Voter Down VoterCreated) w.past refl a)
got_managed t w (Enl e) EnlistEnlisted a =
    enlisted_managed w.calls t (Got (Enl e) Down EnlistEnlisted ∷ w.past) (sees (half w) (Got (Enl e) Down EnlistEnlisted)) e refl (entry_managed w.calls (Got (Enl e) Down EnlistEnlisted) w.past refl a)
got_managed t w c m a =
    list_managed w.calls (Got c Down m ∷ w.past) (arrived t (sees (half w) (Got c Down m)) c m) (all_unmaking (plain_arrived t (sees (half w) (Got c Down m)) c m refl))
    (entry_managed w.calls (Got c Down m) w.past refl a)

delivered_managed : (t : ℕ) (w : World) (c : Conn) (d : Dir) (ms : List Message) → AreManaged w.calls w.past → AreManaged w.calls (onto w.past (delivered t w c d ms))
delivered_managed t w c d [] a = list_managed w.calls w.past (Ended c d ∷ ended_at w c d) (all_unmaking (plain_ended_at w c d)) a
delivered_managed t w c Up (m ∷ ms) a = list_managed w.calls w.past (Got c Up m ∷ got_by t w c Up m) (all_unmaking (plain_core_got (identifier_of t) (core w) c m)) a
delivered_managed t w c Down (m ∷ ms) a = got_managed t w c m a

-- The calls. More managers keep it.
more_managed : (ks : List EnteredCall) (h g : List Entry) (ms : List (EnlNo × RmNo)) → ((e : ℕ) → has (is_manager_of e) (managed ks h) ≡ true → has (is_manager_of e) ms ≡ true) → managed ks g ≡ ms → enlisted g ≡ enlisted h → handover g ≡ handover h
    → has is_promoted g ≡ has is_promoted h → AreManaged ks h → AreManaged ks g
more_managed ks h g ms f a b c p m = record {
  lasting =
      λ n. subst (λ xs. each (is_managed (managed ks g)) xs ≡ true) (sym b)
      (subst (λ ms. each (is_managed ms) (enlisted h) ≡ true) (sym a)
      (each_more (is_managed (managed ks h)) (is_managed ms) (λ x k. either (is_volatile x.1) (has (is_manager_of x.0.value) (managed ks h)) (has (is_manager_of x.0.value) ms) (f x.0.value) k) (enlisted h) (m.lasting (sym p ∙ n))));
  handed = λ n e q. subst (λ ms. has (is_manager_of e.value) ms ≡ true) (sym a) (f e.value (m.handed (sym p ∙ n) e (sym c ∙ q)));
}
  where
    either : (v a b : Bool) → (a ≡ true → b ≡ true) → (v || a) ≡ true → (v || b) ≡ true
    either true a b f k = refl
    either false a b f k = f k

managers_grow : (c : Option Call) (ms : List (EnlNo × RmNo)) (e : ℕ) → has (is_manager_of e) ms ≡ true → has (is_manager_of e) (managed_by c ms) ≡ true
managers_grow (Some (Durable t f r s)) ms e k = or_right (e == f.value) (has (is_manager_of e) ms) k
managers_grow (Some (Promotable t f r v x p)) ms e k = or_right (e == f.value) (has (is_manager_of e) ms) k
managers_grow _ ms e k = k

called_managed : (ks : List EnteredCall) (h : List Entry) (n : ℕ) (a : ActorNo) (x : Answer) → AreManaged ks h → AreManaged ks (Called n a x ∷ h)
called_managed ks h n a Fine m = more_managed ks h (Called n a Fine ∷ h) (managed_by (call_at ks n) (managed ks h)) (managers_grow (call_at ks n) (managed ks h)) refl refl refl refl m
called_managed ks h n a True m = more_managed ks h (Called n a True ∷ h) (managed_by (call_at ks n) (managed ks h)) (managers_grow (call_at ks n) (managed ks h)) refl refl refl refl m
called_managed ks h n a x m = more_managed ks h (Called n a x ∷ h) (managed ks h) (λ e k. k) refl refl refl refl m

-- an enlistment that is volatile or has a manager
enlist_managed : (ks : List EnteredCall) (h : List Entry) (e : EnlNo) (c : Class) → is_managed (managed ks h) (e, c) ≡ true → AreManaged ks h → AreManaged ks (Enlisted e c ∷ h)
enlist_managed ks h e c k m = record { lasting = λ n. and_both (is_managed (managed ks h) (e, c)) (each (is_managed (managed ks h)) (enlisted h)) k (m.lasting n); handed = m.handed }

call_managed : (ks : List EnteredCall) (h : List Entry) (k : EnteredCall) → has (is_call k.line) h ≡ false → AreManaged ks h → AreManaged (k ∷ ks) h
call_managed ks h k new m =
    let same : managed (k ∷ ks) h ≡ managed ks h = ap (λ (x : Half). x.managers) (fresh k ks h new) in
    record {
      lasting = λ n. subst (λ ms. each (is_managed ms) (enlisted h) ≡ true) (sym same) (m.lasting n);
      handed = λ n e q. subst (λ ms. has (is_manager_of e.value) ms ≡ true) (sym same) (m.handed n e q);
    }

durable_managed : (ks : List EnteredCall) (t n : ℕ) (a : ActorNo) (c : Call) (e : EnlNo) (r : RmNo) (single : Bool) (v : Half) (x : Answer) (h : List Entry) → call_at ks n ≡ Some c
    → ((ms : List (EnlNo × RmNo)) → has (is_manager_of e.value) (managed_by (Some c) ms) ≡ true) → AreManaged ks h → AreManaged ks (onto (Called n a x ∷ h) (facts_if (has_facts x) (durable_facts t v e r single x)))
durable_managed ks t n a c e r single v Wait h q f m =
    let o = called_managed ks h n a Wait m in
    managed_if ks (Called n a Wait ∷ h) v.seen.promoted (enlist_sent t e r) (if is_promoting v.seen then [] else begin_promotion v (cause_of v.seen.table single))
    (λ z. list_managed ks (Called n a Wait ∷ h) (enlist_sent t e r) refl o)
    (λ z. managed_if ks (Called n a Wait ∷ h) (is_promoting v.seen) [] (begin_promotion v (cause_of v.seen.table single)) (λ z. o)
    (λ z. list_managed ks (Called n a Wait ∷ h) (begin_promotion v (cause_of v.seen.table single)) (all_unmaking (plain_begin_promotion v (cause_of v.seen.table single))) o))
durable_managed ks t n a c e r single v Fine h q f m =
    enlist_managed ks (Called n a Fine ∷ h) e DurableSingle (subst (λ o. has (is_manager_of e.value) (managed_by o (managed ks h)) ≡ true) (sym q) (f (managed ks h))) (called_managed ks h n a Fine m)
durable_managed ks t n a c e r single v True h q f m =
    enlist_managed ks (Called n a True ∷ h) e DurableSingle (subst (λ o. has (is_manager_of e.value) (managed_by o (managed ks h)) ≡ true) (sym q) (f (managed ks h))) (called_managed ks h n a True m)
durable_managed ks t n a c e r single v x h q f m = called_managed ks h n a x m

promotable_managed : (ks : List EnteredCall) (n : ℕ) (a : ActorNo) (c : Call) (e : EnlNo) (x : Answer) (h : List Entry) → call_at ks n ≡ Some c → is_waiting_answer x ≡ false
    → ((ms : List (EnlNo × RmNo)) → has (is_manager_of e.value) (managed_by (Some c) ms) ≡ true) → AreManaged ks h → AreManaged ks (onto (Called n a x ∷ h) (facts_if (has_facts x) (Enlisted e PromotableClass ∷ Init e ∷ [])))
promotable_managed ks n a c e Wait h q w f m = absurd cc
promotable_managed ks n a c e Fine h q w f m =
    entry_managed ks (Init e) (Enlisted e PromotableClass ∷ Called n a Fine ∷ h) refl
    (enlist_managed ks (Called n a Fine ∷ h) e PromotableClass (subst (λ o. has (is_manager_of e.value) (managed_by o (managed ks h)) ≡ true) (sym q) (f (managed ks h))) (called_managed ks h n a Fine m))
promotable_managed ks n a c e True h q w f m =
    entry_managed ks (Init e) (Enlisted e PromotableClass ∷ Called n a True ∷ h) refl
    (enlist_managed ks (Called n a True ∷ h) e PromotableClass (subst (λ o. has (is_manager_of e.value) (managed_by o (managed ks h)) ≡ true) (sym q) (f (managed ks h))) (called_managed ks h n a True m))
promotable_managed ks n a c e x h q w f m = called_managed ks h n a x m

volatile_managed : (ks : List EnteredCall) (h : List Entry) (e : EnlNo) (o : EnlistOption) (b : Bool) → AreManaged ks h → AreManaged ks (onto h (facts_if b (Enlisted e (class_of o) ∷ [])))
volatile_managed ks h e o true m = enlist_managed ks h e (class_of o) (or_left (is_volatile (class_of o)) (has (is_manager_of e.value) (managed ks h)) (option_volatile o)) m
volatile_managed ks h e o false m = m

entered_managed : (t : ℕ) (w : World) (n : ℕ) (a : ActorNo) (c : Call) (m : ℕ) → has (is_call n) w.past ≡ false → AreManaged w.calls w.past
    → AreManaged (record { line = n; actor = a; call = c } ∷ w.calls) (onto w.past (Called n a (answer_at t w c m) ∷ facts_if (has_facts (answer_at t w c m)) (facts_at t w c (answer_at t w c m))))
entered_managed t w n a (Durable u e r s) m new o =
    let k : EnteredCall = record { line = n; actor = a; call = Durable u e r s } in
    durable_managed (k ∷ w.calls) t n a (Durable u e r s) e r (is_single s) (half w) (answer_at t w (Durable u e r s) m) w.past (own_call n a (Durable u e r s) w.calls)
    (λ ms. or_left (e.value == e.value) (has (is_manager_of e.value) ms) (eq_self e.value)) (call_managed w.calls w.past k new o)
entered_managed t w n a (Volatile u e x v) m new o =
    let k : EnteredCall = record { line = n; actor = a; call = Volatile u e x v } in
    let y = answer_at t w (Volatile u e x v) m in
    volatile_managed (k ∷ w.calls) (Called n a y ∷ w.past) e x (has_facts y) (called_managed (k ∷ w.calls) w.past n a y (call_managed w.calls w.past k new o))
entered_managed t w n a (Promotable u e r v x p) m new o =
    let c = Promotable u e r v x p in
    let k : EnteredCall = record { line = n; actor = a; call = c } in
    promotable_managed (k ∷ w.calls) n a c e (answer_at t w c m) w.past (own_call n a c w.calls) (promotable_gives t w u e r v x p m)
    (λ ms. or_left (e.value == e.value) (has (is_manager_of e.value) ms) (eq_self e.value)) (call_managed w.calls w.past k new o)
entered_managed t w n a c m new o =
    let k : EnteredCall = record { line = n; actor = a; call = c } in
    let y = answer_at t w c m in
    list_managed (k ∷ w.calls) (Called n a y ∷ w.past) (facts_if (has_facts y) (facts_at t w c y)) (all_unmaking (plain_called t w c y refl))
    (called_managed (k ∷ w.calls) w.past n a y (call_managed w.calls w.past k new o))

-- after each step
step_managed : (G : ℕ → ActorNo → Call → Type 0) (t : ℕ) (w : World) (m : Step) → MayCome G t w m → AreManaged w.calls w.past → AreManaged (after t w m).calls (after t w m).past
unfolding after block_at
step_managed G t w (Calls n a c m) q o = entered_managed t w n a c m q.1 o
step_managed G t w (Replies e x) q o = list_managed w.calls w.past (reply_entries (half w) e x) (all_unmaking (plain_reply (half w) e x)) o
step_managed G t w Acts q o = list_managed w.calls w.past (act_entries (half w)) (all_unmaking (plain_act (half w))) o
step_managed G t w (Coordinates x) q o = list_managed w.calls w.past (coordinates (core w) x) (all_unmaking (plain_coordinates (core w) x)) o
step_managed G t w (Delivers c d) q o = delivered_managed t w c d (in_transit c d w.past) o
step_managed G t w Stops q o = list_managed w.calls w.past (Stopped ∷ []) refl o
step_managed G t w (Restarts found) q o = list_managed w.calls w.past (restarted (core w).stopped found) (all_unmaking (plain_restarted (core w).stopped found)) o

-- so in each world that steps made
pub ran_managed : (G : ℕ → ActorNo → Call → Type 0) (t : ℕ) (ms : List Step) (w : World) → Ran G t ms w → AreManaged w.calls w.past
ran_managed G t [] w r = subst (AreManaged w.calls) (sym r.1) (record { lasting = λ n. refl; handed = λ n e q. absurd cc })
ran_managed G t (m ∷ ms) w r = subst (λ (x : World). AreManaged x.calls x.past) (sym r.3) (step_managed G t r.0 m r.2 (ran_managed G t ms r.0 r.1))
