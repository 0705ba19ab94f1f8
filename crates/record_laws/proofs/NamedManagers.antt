-- Each ENLIST names the manager of the call that makes its enlistment. No two calls that were entered are of one line, so where no two make the same enlistment this is the manager that the calls
-- say; and who is of a manager is no volatile.
use Rattle.std.proofs.Common.{ℕ, zero, suc, ◌==◌, Bool, false, ◌≡◌, true, List, Some, ◌∷◌, ◌∙◌, ap, sym, subst, [], ◌&&◌, refl, ◌||◌, ◌++◌, Option, None, ◌⊎◌, inl, inr}
use Rattle.std.specs.Prelude.{if◌then◌else◌, find, is_some, slice_get}
use Rattle.std.specs.List.{flat_map}
use Rattle.std.specs.Option.{option_map}
use Rattle.std.proofs.lemmas.Bool.{eqb-true, eq-eqb, or_left}
use Rattle.dtx_values.specs.declared.call.Call.{Call}
use Rattle.dtx_values.specs.declared.call.Call.TheVariants.{Volatile, Durable, Promotable}
use Rattle.dtx_values.specs.declared.entry.Answer.{Answer}
use Rattle.dtx_values.specs.declared.entry.Answer.TheVariants.{Id, Fine, Wait, True}
use Rattle.dtx_values.specs.declared.entry.Entry.{Entry}
use Rattle.dtx_values.specs.declared.entry.Entry.TheVariants.{Called, Sent, Answered, Promoted, Got, Down as Ended, Stopped}
use Rattle.dtx_values.specs.declared.message.Conn.{Conn}
use Rattle.dtx_values.specs.declared.message.Conn.TheVariants.{Enl, Voter}
use Rattle.dtx_values.specs.declared.message.Dir.{Dir}
use Rattle.dtx_values.specs.declared.message.Dir.TheVariants.{Up, Down}
use Rattle.dtx_values.specs.declared.message.Message.{Message}
use Rattle.dtx_values.specs.declared.message.Message.TheVariants.{EnlistEnlist, EnlistEnlisted, VoterCreated}
use Rattle.dtx_values.specs.declared.number.ActorNo.{ActorNo}
use Rattle.dtx_values.specs.declared.number.EnlNo.{EnlNo}
use Rattle.dtx_values.specs.declared.number.RmNo.{RmNo}
use Rattle.dtx_values.specs.declared.number.TxNo.{TxNo}
use Rattle.dtx_values.specs.declared.script.Support.{Support}
use Rattle.dtx_values.specs.declared.words.Cause.{Cause}
use Rattle.dtx_values.specs.Owners.{cause_of}
use Rattle.dtx_values.specs.Support.{is_single}
use Rattle.dtx_model.specs.declared.waiting.EnteredCall.{EnteredCall}
use Rattle.dtx_model.specs.declared.waiting.Wanted.{Wanted}
use Rattle.dtx_model.specs.declared.waiting.Wanted.TheVariants.{Identifier, Place}
use Rattle.dtx_model.specs.Words.{has, each, onto, latest, or_else, kth}
use Rattle.dtx_model.specs.Entries.{is_call}
use Rattle.dtx_model.specs.Grammar.{OfEnlistment}
use Rattle.dtx_model.specs.Plans.{manager_by, manager_if, manager_of}
use Rattle.dtx_model.specs.Promotes.{identifier_of}
use Rattle.dtx_model.specs.Wires.{in_transit}
use Rattle.dtx_model.specs.Waiting.{call_at, Waiter, wanted_by, managed, waiting, is_place_of, managed_by}
use Rattle.dtx_model.specs.Half.{Half, given, promoted_by, by_manager, enlist_sent, is_promoting, is_handed, over, sees}
use Rattle.dtx_model.specs.Arrivals.{place_given, hand_over, created, enlisted_at, arrived, local_got}
use Rattle.dtx_model.specs.Acts.{act_entries}
use Rattle.dtx_model.specs.Replies.{reply_entries}
use Rattle.dtx_model.specs.Facts.{facts_if, begin_promotion, durable_facts, has_facts}
use Rattle.dtx_model.specs.World.{World, half, core, answer_at, facts_at}
use Rattle.dtx_model.specs.Steps.{delivered, ended_at, got_by, Step, Calls, Replies, Acts, Coordinates, Delivers, Stops, Restarts, after, block_at, coordinates, restarted}
use Rattle.dtx_model.specs.Caused.{MayCome, Ran, AreMadeOnce, IsIn}
use Rattle.dtx_model.proofs.Bools.{or_right, and_left, and_right, not_both, or_case, and_both}
use Rattle.dtx_model.proofs.Heeding.{fresh}
use Rattle.history_table.proofs.EntryTests.{is_volatile_made}
use Rattle.history_table.proofs.Lists.{OfEach, of-more, of-at, has-at}
use Rattle.history_table.proofs.Makers.{AreMade, IsMaker, IsWaiter, lasting_makes, makes_enlistment, makes_lasting, makes_name, makes_volatile, place_number, ran_made}
use Rattle.history_table.proofs.Managed.{is_enlist_by}
use Rattle.history_table.proofs.PlainBlocks.{is_plain, Plain, plain_arrived, plain_core_got, plain_ended_at, plain_begin_promotion, plain_called, plain_act, plain_coordinates, plain_reply, plain_restarted}
use Rattle.history_table.proofs.Scans.{each-append, each_more, has_after, none_more}
use Rattle.history_table.proofs.Tests.{apart, eq_self}
use Rattle.history_table.proofs.Waiters.{own_call}

-- the call makes this enlistment, durable or promotable, of this manager
abbrev pub is_maker_of : ℕ → ℕ → Call → Bool
is_maker_of e r (Durable t f q s) = (e == f.value) && (r == q.value)
is_maker_of e r (Promotable t f q v x p) = (e == f.value) && (r == q.value)
is_maker_of e r _ = false

-- a maker is one of a longer history, and of more calls
maker_onto : (G : ℕ → ActorNo → Call → Type 0) (ks : List EnteredCall) (h es : List Entry) (q : Call → Bool) → IsMaker G ks h q → IsMaker G ks (onto h es) q
maker_onto G ks h es q m =
    record { number = m.number; actor = m.actor; call = m.call; may = m.may; entered = m.entered; passes = m.passes; called = has_after (is_call m.number) h es m.called }

entered_more : (ks : List EnteredCall) (h : List Entry) (k : EnteredCall) (n : ℕ) (c : Call) → has (is_call k.line) h ≡ false → has (is_call n) h ≡ true → call_at ks n ≡ Some c → call_at (k ∷ ks) n ≡ Some c
entered_more ks h k n c new called e = rw (apart (λ m. has (is_call m) h) k.line n new called) e

maker_entered : (G : ℕ → ActorNo → Call → Type 0) (ks : List EnteredCall) (h : List Entry) (q : Call → Bool) (k : EnteredCall) → has (is_call k.line) h ≡ false → IsMaker G ks h q → IsMaker G (k ∷ ks) h q
maker_entered G ks h q k new m =
    record { number = m.number; actor = m.actor; call = m.call; may = m.may; entered = entered_more ks h k m.number m.call new m.called m.entered; passes = m.passes; called = m.called }

-- Of a block: each ENLIST in it is by a call that makes its enlistment, of the manager that it names; and it has no call.
abbrev is_uncalled : Entry → Bool
is_uncalled (Called n a x) = false
is_uncalled _ = true

record IsNaming (G : ℕ → ActorNo → Call → Type 0) (ks : List EnteredCall) (h es : List Entry) : Type 0 where
  names : (e r : ℕ) → has (is_enlist_by e r) es ≡ true → IsMaker G ks h (is_maker_of e r)
  uncalled : each is_uncalled es ≡ true

plain_off : (e r : ℕ) (x : Entry) → is_plain x ≡ true → is_enlist_by e r x ≡ false
plain_off e r (Sent (Enl f) Up (EnlistEnlist i)) p = absurd cc
plain_off e r _ p = refl

plain_uncalled : (x : Entry) → is_plain x ≡ true → is_uncalled x ≡ true
plain_uncalled (Called n a x) p = absurd cc
plain_uncalled _ p = refl

plain_naming : (G : ℕ → ActorNo → Call → Type 0) (ks : List EnteredCall) (h : List Entry) {es : List Entry} → Plain es → IsNaming G ks h es
plain_naming G ks h {es} p = record {
  names = λ e r k. absurd (not_both (has (is_enlist_by e r) es) k (none_more is_plain (is_enlist_by e r) (plain_off e r) es p.proof));
  uncalled = each_more is_plain is_uncalled plain_uncalled es p.proof;
}

naming_none : (G : ℕ → ActorNo → Call → Type 0) (ks : List EnteredCall) (h : List Entry) → IsNaming G ks h []
naming_none G ks h = record { names = λ e r k. absurd cc; uncalled = refl }

has_split : {A : Type 0} (p : A → Bool) (xs ys : List A) → has p (xs ++ ys) ≡ true → (has p xs ≡ true) ⊎ (has p ys ≡ true)
has_split p [] ys k = inr k
has_split p (x ∷ xs) ys k = or_case (p x) (has p (xs ++ ys)) (λ a. inl (or_left (p x) (has p xs) a)) (λ a. by (has_split p xs ys a)) k
  where
    by : (has p xs ≡ true) ⊎ (has p ys ≡ true) → (has p (x ∷ xs) ≡ true) ⊎ (has p ys ≡ true)
    by (inl a) = inl (or_right (p x) (has p xs) a)
    by (inr b) = inr b

naming_both : (G : ℕ → ActorNo → Call → Type 0) (ks : List EnteredCall) (h xs ys : List Entry) → IsNaming G ks h xs → IsNaming G ks h ys → IsNaming G ks h (xs ++ ys)
naming_both G ks h xs ys a b = record { names = λ e r k. by e r (has_split (is_enlist_by e r) xs ys k); uncalled = each-append is_uncalled xs ys a.uncalled b.uncalled }
  where
    by : (e r : ℕ) → (has (is_enlist_by e r) xs ≡ true) ⊎ (has (is_enlist_by e r) ys ≡ true) → IsMaker G ks h (is_maker_of e r)
    by e r (inl k) = a.names e r k
    by e r (inr k) = b.names e r k

naming_if : (G : ℕ → ActorNo → Call → Type 0) (ks : List EnteredCall) (h : List Entry) (b : Bool) (xs ys : List Entry) → IsNaming G ks h xs → IsNaming G ks h ys → IsNaming G ks h (if b then xs else ys)
naming_if G ks h true xs ys p q = p
naming_if G ks h false xs ys p q = q

-- an entry that neither calls nor sends an ENLIST
naming_more : (G : ℕ → ActorNo → Call → Type 0) (ks : List EnteredCall) (h : List Entry) (x : Entry) (es : List Entry) → ((e r : ℕ) → is_enlist_by e r x ≡ false) → is_uncalled x ≡ true → IsNaming G ks h es → IsNaming G ks h (x ∷ es)
naming_more G ks h x es n u a = record {
  names = λ e r k. or_case (is_enlist_by e r x) (has (is_enlist_by e r) es) (λ b. absurd (not_both (is_enlist_by e r x) b (n e r))) (λ b. a.names e r b) k;
  uncalled = and_both (is_uncalled x) (each is_uncalled es) u a.uncalled;
}

naming_sent : (G : ℕ → ActorNo → Call → Type 0) (ks : List EnteredCall) (h : List Entry) (t : ℕ) (e : EnlNo) (r : RmNo) → IsMaker G ks h (is_maker_of e.value r.value) → IsNaming G ks h (enlist_sent t e r)
naming_sent G ks h t e r m = record {
  names = λ f q k. or_case ((f == e.value) && (q == r.value)) false
      (λ a. subst (λ n. IsMaker G ks h (is_maker_of n q)) (sym (eqb-true f e.value (and_left (f == e.value) (q == r.value) a)))
      (subst (λ n. IsMaker G ks h (is_maker_of e.value n)) (sym (eqb-true q r.value (and_right (f == e.value) (q == r.value) a))) m)) (λ a. absurd cc) k;
  uncalled = refl;
}

-- what waits for a place is the call that makes the enlistment
abbrev place_manager : Wanted → ℕ
place_manager (Place e r c) = r.value
place_manager Identifier = 0

given_named : (G : ℕ → ActorNo → Call → Type 0) (ks : List EnteredCall) (h : List Entry) (t : ℕ) (vs : List Waiter) → OfEach (IsWaiter G ks h) vs → IsNaming G ks h (flat_map (given t) vs)
given_named G ks h t [] w = naming_none G ks h
given_named G ks h t ((n, Identifier) ∷ vs) w = naming_more G ks h (Answered n (Id (identifier_of t))) (flat_map (given t) vs) (λ e r. refl) refl (given_named G ks h t vs w.1)
given_named G ks h t ((n, Place e r c) ∷ vs) w = naming_both G ks h (enlist_sent t e r) (flat_map (given t) vs) (naming_sent G ks h t e r own) (given_named G ks h t vs w.1)
  where
    wants : (k : Call) → Place e r c ≡ wanted_by k → is_maker_of e.value r.value k ≡ true
    wants (Durable u f q s) z = and_both (e.value == f.value) (r.value == q.value) (eq-eqb e.value f.value (ap place_number z)) (eq-eqb r.value q.value (ap place_manager z))
    wants _ z = absurd cc

    own : IsMaker G ks h (is_maker_of e.value r.value)
    own = record { number = n; actor = w.0.actor; call = w.0.call; may = w.0.may; entered = w.0.entered; passes = wants w.0.call w.0.wants; called = w.0.called }

over_named : (G : ℕ → ActorNo → Call → Type 0) (ks : List EnteredCall) (h : List Entry) (t : ℕ) (o : Option Cause) (vs : List Waiter) → OfEach (IsWaiter G ks h) vs → IsNaming G ks h (promoted_by t o ++ flat_map (given t) vs)
over_named G ks h t (Some c) vs w = naming_more G ks h (Promoted (identifier_of t) c) (flat_map (given t) vs) (λ e r. refl) refl (given_named G ks h t vs w)
over_named G ks h t None vs w = given_named G ks h t vs w

abbrev IsManagerBy : (ℕ → ActorNo → Call → Type 0) → List EnteredCall → List Entry → EnlNo × RmNo → Type 0
IsManagerBy G ks h m = IsMaker G ks h (is_maker_of m.0.value m.1.value)

managed_named : (G : ℕ → ActorNo → Call → Type 0) (ks : List EnteredCall) (h : List Entry) (t : ℕ) (e : EnlNo) (ms : List (EnlNo × RmNo)) → OfEach (IsManagerBy G ks h) ms → IsNaming G ks h (by_manager (enlist_sent t) ms e)
managed_named G ks h t e [] w = naming_none G ks h
managed_named G ks h t e (m ∷ ms) w = step (e.value == m.0.value) refl (managed_named G ks h t e ms w.1)
  where
    step : (b : Bool) → (e.value == m.0.value) ≡ b → IsNaming G ks h (by_manager (enlist_sent t) ms e) → IsNaming G ks h (if b then enlist_sent t e m.1 else by_manager (enlist_sent t) ms e)
    step true q ih = naming_sent G ks h t e m.1 (subst (λ n. IsMaker G ks h (is_maker_of n m.1.value)) (sym (eqb-true e.value m.0.value q)) w.0)
    step false q ih = ih

placed_named : (G : ℕ → ActorNo → Call → Type 0) (ks : List EnteredCall) (h : List Entry) (o : Option Waiter) → IsNaming G ks h (place_given o)
placed_named G ks h (Some (n, Place e r c)) = record { names = λ f q k. absurd cc; uncalled = refl }
placed_named G ks h (Some (n, Identifier)) = naming_none G ks h
placed_named G ks h None = naming_none G ks h

-- The arrivals, where v is what is known.
handed_named : (G : ℕ → ActorNo → Call → Type 0) (ks : List EnteredCall) (h : List Entry) (t : ℕ) (v : Half) (o : Option EnlNo) → OfEach (IsWaiter G ks h) v.waits → OfEach (IsManagerBy G ks h) v.managers
    → IsNaming G ks h (hand_over t v o)
handed_named G ks h t v (Some e) w m = managed_named G ks h t e v.managers m
handed_named G ks h t v None w m = over_named G ks h t v.seen.cause v.waits w

created_named : (G : ℕ → ActorNo → Call → Type 0) (ks : List EnteredCall) (h : List Entry) (t : ℕ) (v : Half) → OfEach (IsWaiter G ks h) v.waits → OfEach (IsManagerBy G ks h) v.managers
    → IsNaming G ks h (created t v)
created_named G ks h t v w m =
    naming_if G ks h (is_some v.seen.decided) [] (if is_promoting v.seen then hand_over t v v.seen.handover else []) (naming_none G ks h)
    (naming_if G ks h (is_promoting v.seen) (hand_over t v v.seen.handover) [] (handed_named G ks h t v v.seen.handover w m) (naming_none G ks h))

enlisted_named : (G : ℕ → ActorNo → Call → Type 0) (ks : List EnteredCall) (h : List Entry) (t : ℕ) (v : Half) (e : EnlNo) → OfEach (IsWaiter G ks h) v.waits → OfEach (IsManagerBy G ks h) v.managers
    → IsNaming G ks h (enlisted_at t v e)
enlisted_named G ks h t v e w m =
    let own = is_promoting v.seen && is_handed v.seen.handover e.value in
    let placed = place_given (find (is_place_of e.value) v.waits) in
    naming_if G ks h (is_some v.seen.decided) [] (if own then over t v else if v.seen.promoted then placed else []) (naming_none G ks h)
    (naming_if G ks h own (over t v) (if v.seen.promoted then placed else []) (handed_named G ks h t v None w m)
    (naming_if G ks h v.seen.promoted placed [] (placed_named G ks h (find (is_place_of e.value) v.waits)) (naming_none G ks h)))

-- each ENLIST is by the call that makes its enlistment, and so is each manager that the calls gave
record AreNamed (G : ℕ → ActorNo → Call → Type 0) (ks : List EnteredCall) (h : List Entry) : Type 0 where
  sent : (e r : ℕ) → has (is_enlist_by e r) h ≡ true → IsMaker G ks h (is_maker_of e r)
  managers : OfEach (IsManagerBy G ks h) (managed ks h)

has_back : {A : Type 0} (p : A → Bool) (h es : List A) → has p (onto h es) ≡ true → (has p es ≡ true) ⊎ (has p h ≡ true)
has_back p h [] k = inr k
has_back p h (x ∷ es) k = by (has_back p (x ∷ h) es k)
  where
    by : (has p es ≡ true) ⊎ (has p (x ∷ h) ≡ true) → (has p (x ∷ es) ≡ true) ⊎ (has p h ≡ true)
    by (inl a) = inl (or_right (p x) (has p es) a)
    by (inr b) = or_case (p x) (has p h) (λ q. inl (or_left (p x) (has p es) q)) (λ q. inr q) b

same_managed : (ks : List EnteredCall) (h es : List Entry) → each is_uncalled es ≡ true → managed ks (onto h es) ≡ managed ks h
same_managed ks h [] u = refl
same_managed ks h (x ∷ es) u = same_managed ks (x ∷ h) es (and_right (is_uncalled x) (each is_uncalled es) u) ∙ one x (and_left (is_uncalled x) (each is_uncalled es) u)
  where
    one : (x : Entry) → is_uncalled x ≡ true → managed ks (x ∷ h) ≡ managed ks h
    one (Called n a y) q = absurd cc
    one _ q = refl

block_named : (G : ℕ → ActorNo → Call → Type 0) (ks : List EnteredCall) (h es : List Entry) → IsNaming G ks h es → AreNamed G ks h → AreNamed G ks (onto h es)
block_named G ks h es b a = record {
  sent = λ e r k. maker_onto G ks h es (is_maker_of e r) (by e r (has_back (is_enlist_by e r) h es k));
  managers = subst (OfEach (IsManagerBy G ks (onto h es))) (sym (same_managed ks h es b.uncalled))
      (of-more (IsManagerBy G ks h) (IsManagerBy G ks (onto h es)) (λ m w. maker_onto G ks h es (is_maker_of m.0.value m.1.value) w) (managed ks h) a.managers);
}
  where
    by : (e r : ℕ) → (has (is_enlist_by e r) es ≡ true) ⊎ (has (is_enlist_by e r) h ≡ true) → IsMaker G ks h (is_maker_of e r)
    by e r (inl k) = b.names e r k
    by e r (inr k) = a.sent e r k

-- The deliveries.
got_named : (G : ℕ → ActorNo → Call → Type 0) (t : ℕ) (w : World) (c : Conn) (m : Message) → OfEach (IsWaiter G w.calls w.past) (waiting w.calls w.past) → OfEach (IsManagerBy G w.calls w.past) (managed w.calls w.past)
    → IsNaming G w.calls w.past (Got c Down m ∷ local_got t (half w) c m)
unfolding local_got
got_named G t w Voter VoterCreated v a =
    let x = Got Voter Down VoterCreated in
    naming_more G w.calls w.past x (created t (sees (half w) x)) (λ e r. refl) refl (created_named G w.calls w.past t (sees (half w) x) v a)
got_named G t w (Enl f) EnlistEnlisted v a =
    let x = Got (Enl f) Down EnlistEnlisted in
    naming_more G w.calls w.past x (enlisted_at t (sees (half w) x) f) (λ e r. refl) refl (enlisted_named G w.calls w.past t (sees (half w) x) f v a)
got_named G t w c m v a =
    let x = Got c Down m in
    naming_more G w.calls w.past x (arrived t (sees (half w) x) c m) (λ e r. refl) refl (plain_naming G w.calls w.past (plain_arrived t (sees (half w) x) c m refl))

delivered_named : (G : ℕ → ActorNo → Call → Type 0) (t : ℕ) (w : World) (c : Conn) (d : Dir) (ms : List Message) → OfEach (IsWaiter G w.calls w.past) (waiting w.calls w.past)
    → OfEach (IsManagerBy G w.calls w.past) (managed w.calls w.past) → IsNaming G w.calls w.past (delivered t w c d ms)
delivered_named G t w c d [] v a = naming_more G w.calls w.past (Ended c d) (ended_at w c d) (λ e r. refl) refl (plain_naming G w.calls w.past (plain_ended_at w c d))
delivered_named G t w c Up (m ∷ ms) v a =
    naming_more G w.calls w.past (Got c Up m) (got_by t w c Up m) (λ e r. refl) refl (plain_naming G w.calls w.past (plain_core_got (identifier_of t) (core w) c m))
delivered_named G t w c Down (m ∷ ms) v a = got_named G t w c m v a

-- The calls.
call_named : (G : ℕ → ActorNo → Call → Type 0) (ks : List EnteredCall) (h : List Entry) (k : EnteredCall) → has (is_call k.line) h ≡ false → AreNamed G ks h → AreNamed G (k ∷ ks) h
call_named G ks h k new a = record {
  sent = λ e r q. maker_entered G ks h (is_maker_of e r) k new (a.sent e r q);
  managers = subst (OfEach (IsManagerBy G (k ∷ ks) h)) (sym (ap (λ (x : Half). x.managers) (fresh k ks h new)))
      (of-more (IsManagerBy G ks h) (IsManagerBy G (k ∷ ks) h) (λ m w. maker_entered G ks h (is_maker_of m.0.value m.1.value) k new w) (managed ks h) a.managers);
}

abbrev own_maker : (G : ℕ → ActorNo → Call → Type 0) (ks : List EnteredCall) (h : List Entry) (n : ℕ) (a : ActorNo) (c : Call) (q : Call → Bool) (x : Answer) → G n a c → call_at ks n ≡ Some c → q c ≡ true
    → IsMaker G ks (Called n a x ∷ h) q
own_maker G ks h n a c q x g e k = record { number = n; actor = a; call = c; may = g; entered = e; passes = k; called = or_left (n == n) (has (is_call n) h) (eq_self n) }

managers_by : (G : ℕ → ActorNo → Call → Type 0) (ks : List EnteredCall) (h : List Entry) (n : ℕ) (a : ActorNo) (c : Call) (x : Answer) (ms : List (EnlNo × RmNo)) → G n a c → call_at ks n ≡ Some c
    → OfEach (IsManagerBy G ks (Called n a x ∷ h)) ms → OfEach (IsManagerBy G ks (Called n a x ∷ h)) (managed_by (Some c) ms)
managers_by G ks h n a (Durable t e r s) x ms g k w =
    (own_maker G ks h n a (Durable t e r s) (is_maker_of e.value r.value) x g k (and_both (e.value == e.value) (r.value == r.value) (eq_self e.value) (eq_self r.value)), w)
managers_by G ks h n a (Promotable t e r v y p) x ms g k w =
    (own_maker G ks h n a (Promotable t e r v y p) (is_maker_of e.value r.value) x g k (and_both (e.value == e.value) (r.value == r.value) (eq_self e.value) (eq_self r.value)), w)
managers_by G ks h n a _ x ms g k w = w

called_managers : (G : ℕ → ActorNo → Call → Type 0) (ks : List EnteredCall) (h : List Entry) (n : ℕ) (a : ActorNo) (c : Call) (x : Answer) → G n a c → call_at ks n ≡ Some c
    → OfEach (IsManagerBy G ks (Called n a x ∷ h)) (managed ks h) → OfEach (IsManagerBy G ks (Called n a x ∷ h)) (managed ks (Called n a x ∷ h))
called_managers G ks h n a c Fine g e w =
    subst (λ o. OfEach (IsManagerBy G ks (Called n a Fine ∷ h)) (managed_by o (managed ks h))) (sym e) (managers_by G ks h n a c Fine (managed ks h) g e w)
called_managers G ks h n a c True g e w =
    subst (λ o. OfEach (IsManagerBy G ks (Called n a True ∷ h)) (managed_by o (managed ks h))) (sym e) (managers_by G ks h n a c True (managed ks h) g e w)
called_managers G ks h n a c _ g e w = w

called_named : (G : ℕ → ActorNo → Call → Type 0) (ks : List EnteredCall) (h : List Entry) (n : ℕ) (a : ActorNo) (c : Call) (x : Answer) → G n a c → call_at ks n ≡ Some c → AreNamed G ks h → AreNamed G ks (Called n a x ∷ h)
called_named G ks h n a c x g e o =
    let y = Called n a x in
    record {
      sent = λ f r k. maker_onto G ks h (y ∷ []) (is_maker_of f r) (o.sent f r k);
      managers =
          called_managers G ks h n a c x g e
          (of-more (IsManagerBy G ks h) (IsManagerBy G ks (y ∷ h)) (λ m w. maker_onto G ks h (y ∷ []) (is_maker_of m.0.value m.1.value) w) (managed ks h) o.managers);
    }

off_entries : (G : ℕ → ActorNo → Call → Type 0) (ks : List EnteredCall) (h es : List Entry) (b : Bool) → IsNaming G ks h es → IsNaming G ks h (facts_if b es)
off_entries G ks h es true a = a
off_entries G ks h es false a = naming_none G ks h

durable_named : (G : ℕ → ActorNo → Call → Type 0) (ks : List EnteredCall) (t n : ℕ) (a : ActorNo) (u : TxNo) (e : EnlNo) (r : RmNo) (s : Support) (v : Half) (x : Answer) (h : List Entry) → G n a (Durable u e r s)
    → call_at ks n ≡ Some (Durable u e r s) → IsNaming G ks (Called n a x ∷ h) (facts_if (has_facts x) (durable_facts t v e r (is_single s) x))
durable_named G ks t n a u e r s v Wait h g k =
    let past = Called n a Wait ∷ h in
    naming_if G ks past v.seen.promoted (enlist_sent t e r) (if is_promoting v.seen then [] else begin_promotion v (cause_of v.seen.table (is_single s)))
    (naming_sent G ks past t e r
    (own_maker G ks h n a (Durable u e r s) (is_maker_of e.value r.value) Wait g k (and_both (e.value == e.value) (r.value == r.value) (eq_self e.value) (eq_self r.value))))
    (naming_if G ks past (is_promoting v.seen) [] (begin_promotion v (cause_of v.seen.table (is_single s))) (naming_none G ks past)
    (plain_naming G ks past (plain_begin_promotion v (cause_of v.seen.table (is_single s)))))
durable_named G ks t n a u e r s v Fine h g k = record { names = λ f q z. absurd cc; uncalled = refl }
durable_named G ks t n a u e r s v True h g k = record { names = λ f q z. absurd cc; uncalled = refl }
durable_named G ks t n a u e r s v x h g k = naming_none G ks (Called n a x ∷ h)

facts_named : (G : ℕ → ActorNo → Call → Type 0) (ks : List EnteredCall) (t : ℕ) (w : World) (n : ℕ) (a : ActorNo) (c : Call) (x : Answer) → G n a c → call_at ks n ≡ Some c
    → IsNaming G ks (Called n a x ∷ w.past) (facts_if (has_facts x) (facts_at t w c x))
facts_named G ks t w n a (Durable u e r s) x g k = durable_named G ks t n a u e r s (half w) x w.past g k
facts_named G ks t w n a (Volatile u e o v) x g k = off_entries G ks (Called n a x ∷ w.past) (facts_at t w (Volatile u e o v) x) (has_facts x) (record { names = λ f q z. absurd cc; uncalled = refl })
facts_named G ks t w n a (Promotable u e r v o p) x g k = off_entries G ks (Called n a x ∷ w.past) (facts_at t w (Promotable u e r v o p) x) (has_facts x) (record { names = λ f q z. absurd cc; uncalled = refl })
facts_named G ks t w n a c x g k = plain_naming G ks (Called n a x ∷ w.past) (plain_called t w c x refl)

entered_named : (G : ℕ → ActorNo → Call → Type 0) (t : ℕ) (w : World) (n : ℕ) (a : ActorNo) (c : Call) (x : Answer) → G n a c → has (is_call n) w.past ≡ false → AreNamed G w.calls w.past
    → AreNamed G (record { line = n; actor = a; call = c } ∷ w.calls) (onto w.past (Called n a x ∷ facts_if (has_facts x) (facts_at t w c x)))
entered_named G t w n a c x g new o =
    let k : EnteredCall = record { line = n; actor = a; call = c } in
    let own = own_call n a c w.calls in
    block_named G (k ∷ w.calls) (Called n a x ∷ w.past) (facts_if (has_facts x) (facts_at t w c x)) (facts_named G (k ∷ w.calls) t w n a c x g own)
    (called_named G (k ∷ w.calls) w.past n a c x g own (call_named G w.calls w.past k new o))

-- after each step
step_named : (G : ℕ → ActorNo → Call → Type 0) (t : ℕ) (w : World) (m : Step) → MayCome G t w m → AreMade G w.calls w.past → AreNamed G w.calls w.past → AreNamed G (after t w m).calls (after t w m).past
unfolding after block_at
step_named G t w (Calls n a c m) q v o = entered_named G t w n a c (answer_at t w c m) q.0 q.1 o
step_named G t w (Replies e x) q v o = block_named G w.calls w.past (reply_entries (half w) e x) (plain_naming G w.calls w.past (plain_reply (half w) e x)) o
step_named G t w Acts q v o = block_named G w.calls w.past (act_entries (half w)) (plain_naming G w.calls w.past (plain_act (half w))) o
step_named G t w (Coordinates x) q v o = block_named G w.calls w.past (coordinates (core w) x) (plain_naming G w.calls w.past (plain_coordinates (core w) x)) o
step_named G t w (Delivers c d) q v o = block_named G w.calls w.past (delivered t w c d (in_transit c d w.past)) (delivered_named G t w c d (in_transit c d w.past) v.waiters o.managers) o
step_named G t w Stops q v o = block_named G w.calls w.past (Stopped ∷ []) (naming_more G w.calls w.past Stopped [] (λ e r. refl) refl (naming_none G w.calls w.past)) o
step_named G t w (Restarts found) q v o = block_named G w.calls w.past (restarted (core w).stopped found) (plain_naming G w.calls w.past (plain_restarted (core w).stopped found)) o

ran_named : (G : ℕ → ActorNo → Call → Type 0) (t : ℕ) (ms : List Step) (w : World) → Ran G t ms w → AreNamed G w.calls w.past
ran_named G t [] w r = subst (AreNamed G w.calls) (sym r.1) (record { sent = λ e q k. absurd cc; managers = tt })
ran_named G t (m ∷ ms) w r = subst (λ (x : World). AreNamed G x.calls x.past) (sym r.3) (step_named G t r.0 m r.2 (ran_made G t ms r.0 r.1) (ran_named G t ms r.0 r.1))

-- No two calls that were entered are of one line.
abbrev IsEntered : List EnteredCall → List Entry → EnteredCall → Type 0
IsEntered ks h k = (call_at ks k.line ≡ Some k.call) × (has (is_call k.line) h ≡ true)

entered_onto : (ks : List EnteredCall) (h es : List Entry) → OfEach (IsEntered ks h) ks → OfEach (IsEntered ks (onto h es)) ks
entered_onto ks h es w = of-more (IsEntered ks h) (IsEntered ks (onto h es)) (λ k a. (a.0, has_after (is_call k.line) h es a.1)) ks w

step_entered : (G : ℕ → ActorNo → Call → Type 0) (t : ℕ) (w : World) (m : Step) → MayCome G t w m → OfEach (IsEntered w.calls w.past) w.calls → OfEach (IsEntered (after t w m).calls (after t w m).past) (after t w m).calls
unfolding after block_at
step_entered G t w (Calls n a c m) q o =
    let k : EnteredCall = record { line = n; actor = a; call = c } in
    let x = answer_at t w c m in
    let es = facts_if (has_facts x) (facts_at t w c x) in
    let g = onto w.past (Called n a x ∷ es) in (
      (own_call n a c w.calls, has_after (is_call n) (Called n a x ∷ w.past) es (or_left (n == n) (has (is_call n) w.past) (eq_self n))),
      of-more (IsEntered w.calls w.past) (IsEntered (k ∷ w.calls) g) (λ j z. (entered_more w.calls w.past k j.line j.call q.1 z.1 z.0, has_after (is_call j.line) w.past (Called n a x ∷ es) z.1)) w.calls o,
    )
step_entered G t w (Replies e x) q o = entered_onto w.calls w.past (block_at t w (Replies e x)) o
step_entered G t w Acts q o = entered_onto w.calls w.past (block_at t w Acts) o
step_entered G t w (Coordinates x) q o = entered_onto w.calls w.past (block_at t w (Coordinates x)) o
step_entered G t w (Delivers c d) q o = entered_onto w.calls w.past (block_at t w (Delivers c d)) o
step_entered G t w Stops q o = entered_onto w.calls w.past (block_at t w Stops) o
step_entered G t w (Restarts found) q o = entered_onto w.calls w.past (block_at t w (Restarts found)) o

ran_entered : (G : ℕ → ActorNo → Call → Type 0) (t : ℕ) (ms : List Step) (w : World) → Ran G t ms w → OfEach (IsEntered w.calls w.past) w.calls
ran_entered G t [] w r = subst (λ ks. OfEach (IsEntered ks w.past) ks) (sym r.0) tt
ran_entered G t (m ∷ ms) w r = subst (λ (x : World). OfEach (IsEntered x.calls x.past) x.calls) (sym r.3) (step_entered G t r.0 m r.2 (ran_entered G t ms r.0 r.1))

-- What the calls say of an enlistment, by the one that makes it.
latest_at : {E A : Type 0} (f : E → Option A) (xs : List E) (y : A) → latest f xs ≡ Some y → (i : ℕ) × (x : E) × (slice_get xs i ≡ Some x) × (f x ≡ Some y)
latest_at f [] y e = absurd cc
latest_at {E} {A} f (x ∷ xs) y e = by (f x) refl (latest_at f xs y) e
  where
    by : (o : Option A) → f x ≡ o → (latest f xs ≡ Some y → (i : ℕ) × (z : E) × (slice_get xs i ≡ Some z) × (f z ≡ Some y)) → or_else o (latest f xs) ≡ Some y
        → (i : ℕ) × (z : E) × (slice_get (x ∷ xs) i ≡ Some z) × (f z ≡ Some y)
    by (Some z) q ih e = (zero, x, refl, q ∙ e)
    by None q ih e = let r = ih e in (suc r.0, r.1, r.2, r.3)

latest_some : {E A : Type 0} (f : E → Option A) (xs : List E) → has (λ x. is_some (f x)) xs ≡ true → (y : A) × (latest f xs ≡ Some y)
latest_some f [] k = absurd cc
latest_some {E} {A} f (x ∷ xs) k = by (f x) (latest_some f xs) k
  where
    by : (o : Option A) → (has (λ x. is_some (f x)) xs ≡ true → (y : A) × (latest f xs ≡ Some y)) → (is_some o || has (λ x. is_some (f x)) xs) ≡ true → (y : A) × (or_else o (latest f xs) ≡ Some y)
    by (Some z) ih k = (z, refl)
    by None ih k = ih k

-- a call with a manager makes the enlistment of it
managed_call : (e : ℕ) (q : RmNo) (c : Call) → manager_by e c ≡ Some q → is_maker_of e q.value c ≡ true
managed_call e q (Durable t f r s) k = by (e == f.value) k
  where
    by : (b : Bool) → manager_if b r ≡ Some q → (b && (q.value == r.value)) ≡ true
    by true k = let same : r ≡ q = cc in eq-eqb q.value r.value (ap (λ (z : RmNo). z.value) (sym same))
    by false k = absurd cc
managed_call e q (Promotable t f r v x p) k = by (e == f.value) k
  where
    by : (b : Bool) → manager_if b r ≡ Some q → (b && (q.value == r.value)) ≡ true
    by true k = let same : r ≡ q = cc in eq-eqb q.value r.value (ap (λ (z : RmNo). z.value) (sym same))
    by false k = absurd cc
managed_call e q _ k = absurd cc

call_managed : (e r : ℕ) (c : Call) → is_maker_of e r c ≡ true → is_some (manager_by e c) ≡ true
call_managed e r (Durable t f q s) k = by (e == f.value) k
  where
    by : (b : Bool) → (b && (r == q.value)) ≡ true → is_some (manager_if b q) ≡ true
    by true k = refl
    by false k = absurd cc
call_managed e r (Promotable t f q v x p) k = by (e == f.value) k
  where
    by : (b : Bool) → (b && (r == q.value)) ≡ true → is_some (manager_if b q) ≡ true
    by true k = refl
    by false k = absurd cc
call_managed e r _ k = absurd cc

of_lasting : (e r : ℕ) (c : Call) → is_maker_of e r c ≡ true → makes_lasting e c ≡ true
of_lasting e r (Durable t f q s) k = and_left (e == f.value) (r == q.value) k
of_lasting e r (Promotable t f q v x p) k = and_left (e == f.value) (r == q.value) k
of_lasting e r _ k = absurd cc

one_maker : (e r q : ℕ) (c : Call) → is_maker_of e r c ≡ true → is_maker_of e q c ≡ true → r ≡ q
one_maker e r q (Durable t f m s) a b = eqb-true r m.value (and_right (e == f.value) (r == m.value) a) ∙ sym (eqb-true q m.value (and_right (e == f.value) (q == m.value) b))
one_maker e r q (Promotable t f m v x p) a b = eqb-true r m.value (and_right (e == f.value) (r == m.value) a) ∙ sym (eqb-true q m.value (and_right (e == f.value) (q == m.value) b))
one_maker e r q _ a b = absurd cc

-- the call at this place of those entered
pub record IsCallAt (ks : List EnteredCall) (q : Call → Bool) : Type 0 where
  pub place : ℕ
  pub entry : EnteredCall
  pub stands : slice_get ks place ≡ Some entry
  pub passes : q entry.call ≡ true

-- two that make one enlistment are one call
same_call : (ks : List EnteredCall) (h : List Entry) (e : ℕ) (p q : Call → Bool) → AreMadeOnce (IsIn ks) → OfEach (IsEntered ks h) ks → ((c : Call) → p c ≡ true → makes_enlistment e c ≡ true)
    → ((c : Call) → q c ≡ true → makes_enlistment e c ≡ true) → (a : IsCallAt ks p) (b : IsCallAt ks q) → a.entry.call ≡ b.entry.call
same_call ks h e p q once w f g a b =
    let i = a.entry in
    let j = b.entry in
    let line : i.line ≡ j.line =
    once i.line j.line i.actor j.actor i.call j.call (OfEnlistment e) (record { place = suc a.place; stands = a.stands }) (record { place = suc b.place; stands = b.stands }) (makes_name e i.call (f i.call a.passes))
    (makes_name e j.call (g j.call b.passes)) in
    let first : call_at ks i.line ≡ Some i.call = (of-at (IsEntered ks h) ks a.place i w a.stands).0 in
    let second : call_at ks j.line ≡ Some j.call = (of-at (IsEntered ks h) ks b.place j w b.stands).0 in
    let both : Some i.call ≡ Some j.call = sym first ∙ ap (call_at ks) line ∙ second in
    cc

-- a call that passes is at some place
pub at_has : (ks : List EnteredCall) (q : Call → Bool) → has (λ k. q k.call) ks ≡ true → IsCallAt ks q
at_has [] q k = absurd cc
at_has (x ∷ ks) q k = or_case (q x.call) (has (λ y. q y.call) ks) (λ p. record { place = 0; entry = x; stands = refl; passes = p })
    (λ p. let a = at_has ks q p in record { place = suc a.place; entry = a.entry; stands = a.stands; passes = a.passes }) k

-- a maker is a call that was entered
maker_at : (ks : List EnteredCall) (h : List Entry) (q : Call → Bool) → IsMaker (IsIn ks) ks h q → IsCallAt ks q
maker_at ks h q m = by m.may.place m.may.stands
  where
    by : (n : ℕ) → kth ks n ≡ Some (record { line = m.number; actor = m.actor; call = m.call }) → IsCallAt ks q
    by zero s = absurd cc
    by (suc n) s = record { place = n; entry = record { line = m.number; actor = m.actor; call = m.call }; stands = s; passes = m.passes }

-- who is of a manager by the calls was made so by one
pub of_call : (ks : List EnteredCall) (m e : ℕ) → option_map (λ (r : RmNo). r.value) (manager_of ks e) ≡ Some m → IsCallAt ks (is_maker_of e m)
of_call ks m e o = by (manager_of ks e) refl o
  where
    by : (x : Option RmNo) → manager_of ks e ≡ x → option_map (λ (r : RmNo). r.value) x ≡ Some m → IsCallAt ks (is_maker_of e m)
    by (Some q) k o =
        let a = latest_at (λ (k : EnteredCall). manager_by e k.call) ks q k in
        let same : q.value ≡ m = cc in
        record { place = a.0; entry = a.1; stands = a.2; passes = subst (λ n. is_maker_of e n a.1.call ≡ true) same (managed_call e q a.1.call a.3) }
    by None k o = absurd cc

maker_enlists : (e r : ℕ) (c : Call) → is_maker_of e r c ≡ true → makes_enlistment e c ≡ true
maker_enlists e r c k = lasting_makes e c (of_lasting e r c k)

-- Of a world that ran: whom an entered call makes an enlistment of a manager is that manager's.
pub made_of : (t : ℕ) (ms : List Step) (w : World) → AreMadeOnce (IsIn w.calls) → Ran (IsIn w.calls) t ms w → (e r : ℕ) → IsCallAt w.calls (is_maker_of e r)
    → option_map (λ (r : RmNo). r.value) (manager_of w.calls e) ≡ Some r
made_of t ms w once ran e r own =
    let ks = w.calls in
    let some = latest_some (λ (k : EnteredCall). manager_by e k.call) ks (has-at (λ (k : EnteredCall). is_some (manager_by e k.call)) ks own.place own.entry own.stands (call_managed e r own.entry.call own.passes)) in
    let said : option_map (λ (r : RmNo). r.value) (manager_of ks e) ≡ Some some.0.value = ap (option_map (λ (r : RmNo). r.value)) some.1 in
    let other = of_call ks some.0.value e said in
    let same : own.entry.call ≡ other.entry.call =
    same_call ks w.past e (is_maker_of e r) (is_maker_of e some.0.value) once (ran_entered (IsIn ks) t ms w ran) (maker_enlists e r) (maker_enlists e some.0.value) own other in
    let value : some.0.value ≡ r = one_maker e some.0.value r own.entry.call (subst (λ c. is_maker_of e some.0.value c ≡ true) (sym same) other.passes) own.passes in
    said ∙ ap Some value

-- so whose ENLIST was sent is of the manager that it names
pub sent_named : (t : ℕ) (ms : List Step) (w : World) → AreMadeOnce (IsIn w.calls) → Ran (IsIn w.calls) t ms w → (e r : ℕ) → has (is_enlist_by e r) w.past ≡ true
    → option_map (λ (r : RmNo). r.value) (manager_of w.calls e) ≡ Some r
sent_named t ms w once ran e r k = made_of t ms w once ran e r (maker_at w.calls w.past (is_maker_of e r) ((ran_named (IsIn w.calls) t ms w ran).sent e r k))

-- who is of a manager is no volatile, by any call
pub of_no_volatile : (t : ℕ) (ms : List Step) (w : World) → AreMadeOnce (IsIn w.calls) → Ran (IsIn w.calls) t ms w → (m e : ℕ) → option_map (λ (r : RmNo). r.value) (manager_of w.calls e) ≡ Some m
    → IsCallAt w.calls (makes_volatile e) → ⊥
of_no_volatile t ms w once ran m e o other =
    let ks = w.calls in
    let own = of_call ks m e o in
    let same : own.entry.call ≡ other.entry.call =
    same_call ks w.past e (is_maker_of e m) (makes_volatile e) once (ran_entered (IsIn ks) t ms w ran) (maker_enlists e m) volatile_enlists own other in
    both own.entry.call own.passes (subst (λ c. makes_volatile e c ≡ true) (sym same) other.passes)
  where
    volatile_enlists : (c : Call) → makes_volatile e c ≡ true → makes_enlistment e c ≡ true
    volatile_enlists (Volatile u f x y) k = k
    volatile_enlists _ k = absurd cc

    both : (c : Call) → is_maker_of e m c ≡ true → makes_volatile e c ≡ true → ⊥
    both (Volatile u f x y) a b = absurd cc
    both (Durable u f x y) a b = absurd cc
    both (Promotable u f x y z p) a b = absurd cc
    both _ a b = absurd cc

-- nor was it made one in the history
pub of_unvolatile : (t : ℕ) (ms : List Step) (w : World) → AreMadeOnce (IsIn w.calls) → Ran (IsIn w.calls) t ms w → (m e : ℕ) → option_map (λ (r : RmNo). r.value) (manager_of w.calls e) ≡ Some m
    → has (is_volatile_made e) w.past ≡ true → ⊥
of_unvolatile t ms w once ran m e o v =
    of_no_volatile t ms w once ran m e o (maker_at w.calls w.past (makes_volatile e) ((ran_made (IsIn w.calls) t ms w ran).volatile e v))

-- who is of a manager is an enlistment with a number
pub of_number : (ks : List EnteredCall) (m e : ℕ) → option_map (λ (r : RmNo). r.value) (manager_of ks e) ≡ Some m → (f : EnlNo) × (f.value ≡ e)
of_number ks m e o = let a = of_call ks m e o in by a.entry.call a.passes
  where
    by : (c : Call) → is_maker_of e m c ≡ true → (f : EnlNo) × (f.value ≡ e)
    by (Durable t f q s) k = (f, sym (eqb-true e f.value (and_left (e == f.value) (m == q.value) k)))
    by (Promotable t f q v x p) k = (f, sym (eqb-true e f.value (and_left (e == f.value) (m == q.value) k)))
    by _ k = absurd cc
