-- In each world that steps make, where no two lines' calls make the same enlistment: who made each enlistment, and who each ENLIST is of. So the enlistment of a
-- call that waits doesn't stand, and no enlistment at the coordinator is volatile.
use Rattle.std.proofs.Common.{ℕ, ◌==◌, Bool, false, ◌≡◌, true, List, Some, ◌∷◌, ◌∙◌, ap, sym, subst, [], ◌&&◌, refl, ◌||◌, ◌++◌, Option, None}
use Rattle.std.specs.Prelude.{filter, if◌then◌else◌, not, find, is_some}
use Rattle.std.specs.List.{flat_map}
use Rattle.std.proofs.lemmas.Bool.{eqb-true, eq-eqb, false_from_ne_true, or_left}
use Rattle.dtx_values.specs.declared.call.Call.{Call}
use Rattle.dtx_values.specs.declared.call.Call.TheVariants.{Volatile, Durable, Promotable}
use Rattle.dtx_values.specs.declared.entry.Answer.{Answer}
use Rattle.dtx_values.specs.declared.entry.Answer.TheVariants.{Id, Fine, Wait, True}
use Rattle.dtx_values.specs.declared.entry.Entry.{Entry}
use Rattle.dtx_values.specs.declared.entry.Entry.TheVariants.{Called, Enlisted, Sent, Answered, Promoted, Got, Down as Ended, Init, Stopped}
use Rattle.dtx_values.specs.declared.message.Conn.{Conn}
use Rattle.dtx_values.specs.declared.message.Conn.TheVariants.{Enl, Voter}
use Rattle.dtx_values.specs.declared.message.Dir.{Dir}
use Rattle.dtx_values.specs.declared.message.Dir.TheVariants.{Up, Down}
use Rattle.dtx_values.specs.declared.message.Message.{Message}
use Rattle.dtx_values.specs.declared.message.Message.TheVariants.{EnlistEnlist, EnlistEnlisted, VoterCreated}
use Rattle.dtx_values.specs.declared.number.ActorNo.{ActorNo}
use Rattle.dtx_values.specs.declared.number.EnlNo.{EnlNo}
use Rattle.dtx_values.specs.declared.number.RmNo.{RmNo}
use Rattle.dtx_values.specs.declared.number.TxNo.{TxNo}
use Rattle.dtx_values.specs.declared.script.Support.{Support}
use Rattle.dtx_values.specs.declared.script.Support.TheVariants.{SinglePhase, TwoPhase}
use Rattle.dtx_values.specs.declared.words.Cause.{Cause}
use Rattle.dtx_values.specs.declared.words.Class.{Class}
use Rattle.dtx_values.specs.declared.words.Class.TheVariants.{DurableSingle, Promotable as PromotableClass}
use Rattle.dtx_values.specs.Class.{is_volatile}
use Rattle.dtx_values.specs.Ends.{same_connection}
use Rattle.dtx_values.specs.Owners.{cause_of}
use Rattle.dtx_values.specs.Support.{is_single}
use Rattle.dtx_values.specs.declared.script.EnlistOption.{EnlistOption}
use Rattle.dtx_values.specs.declared.script.EnlistOption.TheVariants.{Plain as PlainOption, DuringPrepare}
use Rattle.dtx_model.specs.declared.waiting.EnteredCall.{EnteredCall}
use Rattle.dtx_model.specs.declared.waiting.Wanted.{Wanted}
use Rattle.dtx_model.specs.declared.waiting.Wanted.TheVariants.{Identifier, Place}
use Rattle.dtx_model.specs.Words.{has, each, onto}
use Rattle.dtx_model.specs.Entries.{is_call}
use Rattle.dtx_model.specs.Grammar.{OfEnlistment}
use Rattle.dtx_model.specs.Promotes.{identifier_of}
use Rattle.dtx_model.specs.Wires.{in_transit}
use Rattle.dtx_model.specs.Waiting.{call_at, Waiter, wanted_by, managed, waiting, class_by, is_place_of, waiter_line, wanted, managed_by}
use Rattle.dtx_model.specs.Half.{Half, half_of, info, given, promoted_by, by_manager, enlist_sent, is_promoting, is_handed, over, sees}
use Rattle.dtx_model.specs.Arrivals.{place_given, hand_over, created, enlisted_at, arrived, local_got}
use Rattle.dtx_model.specs.Answers.{class_of}
use Rattle.dtx_model.specs.Acts.{act_entries}
use Rattle.dtx_model.specs.Replies.{reply_entries}
use Rattle.dtx_model.specs.Facts.{is_waiting_answer, facts_if, begin_promotion, durable_facts, has_facts}
use Rattle.dtx_model.specs.World.{World, half, core, answer_at, facts_at}
use Rattle.dtx_model.specs.Steps.{delivered, ended_at, got_by, Step, Calls, Replies, Acts, Coordinates, Delivers, Stops, Restarts, after, block_at, coordinates, restarted}
use Rattle.dtx_model.specs.Caused.{MayCome, Ran, made_by, AreMadeOnce}
use Rattle.dtx_model.proofs.Bools.{or_right, and_left, and_right, not_both, not_true, or_case, or_false, not_false}
use Rattle.dtx_model.proofs.Heeding.{fresh}
use Rattle.history_table.proofs.Lists.{OfEach, of-more, of-insert, has-insert, of-at, each_from_at, has-at}
use Rattle.history_table.proofs.EntryTests.{is_enlisted, is_volatile_made}
use Rattle.history_table.proofs.Names.{call_makes}
use Rattle.history_table.proofs.Messages.{ENLIST}
use Rattle.history_table.proofs.Crossed.{is_sent_on}
use Rattle.history_table.proofs.Tests.{apart, eq_self, eq_swap}
use Rattle.history_table.proofs.Scans.{has_less, each_more}
use Rattle.history_table.proofs.Owned.{has_filter}
use Rattle.history_table.proofs.PlainBlocks.{is_plain, Plain, plain_arrived, plain_core_got, plain_ended_at, plain_begin_promotion, plain_called, plain_act, plain_coordinates, plain_reply, plain_restarted}
use Rattle.history_table.proofs.Waiters.{own_call, promotable_gives, volatile_gives, is_unplaced}

-- the call makes this enlistment: any, a volatile one, or a durable or promotable one
abbrev pub makes_enlistment : ℕ → Call → Bool
makes_enlistment e (Volatile t f x v) = e == f.value
makes_enlistment e (Durable t f r s) = e == f.value
makes_enlistment e (Promotable t f r v x p) = e == f.value
makes_enlistment e _ = false

-- who made an enlistment called
pub maker_called : (e : ℕ) (c : Call) → makes_enlistment e c ≡ true → call_makes (OfEnlistment e) c ≡ true
maker_called e (Volatile t f x v) k = k
maker_called e (Durable t f r s) k = k
maker_called e (Promotable t f r v x p) k = k
maker_called e _ k = absurd cc

abbrev pub makes_volatile : ℕ → Call → Bool
makes_volatile e (Volatile t f x v) = e == f.value
makes_volatile e _ = false

abbrev pub makes_lasting : ℕ → Call → Bool
makes_lasting e (Durable t f r s) = e == f.value
makes_lasting e (Promotable t f r v x p) = e == f.value
makes_lasting e _ = false

-- a call that passes was entered, and its line came
pub record IsMaker (G : ℕ → ActorNo → Call → Type 0) (ks : List EnteredCall) (h : List Entry) (q : Call → Bool) : Type 0 where
  pub number : ℕ
  pub actor : ActorNo
  pub call : Call
  pub may : G number actor call
  pub entered : call_at ks number ≡ Some call
  pub passes : q call ≡ true
  pub called : has (is_call number) h ≡ true

-- a call that waits was entered, it waits for what its words say, and its line came
pub record IsWaiter (G : ℕ → ActorNo → Call → Type 0) (ks : List EnteredCall) (h : List Entry) (v : Waiter) : Type 0 where
  pub actor : ActorNo
  pub call : Call
  pub may : G v.0 actor call
  pub entered : call_at ks v.0 ≡ Some call
  pub wants : v.1 ≡ wanted_by call
  pub called : has (is_call v.0) h ≡ true

-- the call of this line waits
abbrev pub waits_at : ℕ → Waiter → Bool
waits_at n v = n == v.0

-- whoever was enlisted was made by a call that doesn't wait; a volatile one by a volatile's call; each ENLIST is of one that a durable's or promotable's call makes
pub record AreMade (G : ℕ → ActorNo → Call → Type 0) (ks : List EnteredCall) (h : List Entry) : Type 0 where
  pub enlisted : (e : ℕ) → has (is_enlisted e) h ≡ true → (m : IsMaker G ks h (makes_enlistment e)) × (has (waits_at m.number) (waiting ks h) ≡ false)
  pub volatile : (e : ℕ) → has (is_volatile_made e) h ≡ true → IsMaker G ks h (makes_volatile e)
  pub sent : (e : EnlNo) → has (is_sent_on (Enl e) Up ENLIST) h ≡ true → IsMaker G ks h (makes_lasting e.value)
  pub waiters : OfEach (IsWaiter G ks h) (waiting ks h)
  pub managers : OfEach (λ (m : EnlNo × RmNo). IsMaker G ks h (makes_lasting m.0.value)) (managed ks h)

-- it is one of another test, world or history too
abbrev maker_of : (G : ℕ → ActorNo → Call → Type 0) (ks ls : List EnteredCall) (h g : List Entry) (q p : Call → Bool) (m : IsMaker G ks h q) → call_at ls m.number ≡ Some m.call → p m.call ≡ true → has (is_call m.number) g ≡ true
    → IsMaker G ls g p
maker_of G ks ls h g q p m entered passes called = record { number = m.number; actor = m.actor; call = m.call; may = m.may; entered = entered; passes = passes; called = called }

-- with one more entry
abbrev maker_more : (G : ℕ → ActorNo → Call → Type 0) (ks : List EnteredCall) (h : List Entry) (q : Call → Bool) (x : Entry) → IsMaker G ks h q → IsMaker G ks (x ∷ h) q
maker_more G ks h q x m = maker_of G ks ks h (x ∷ h) q q m m.entered m.passes (or_right (is_call m.number x) (has (is_call m.number) h) m.called)

pub waiter_more : (G : ℕ → ActorNo → Call → Type 0) (ks : List EnteredCall) (h : List Entry) (x : Entry) (v : Waiter) → IsWaiter G ks h v → IsWaiter G ks (x ∷ h) v
waiter_more G ks h x v w = record { actor = w.actor; call = w.call; may = w.may; entered = w.entered; wants = w.wants; called = or_right (is_call v.0 x) (has (is_call v.0) h) w.called }

-- with one more call whose line hasn't come
entered_more : (ks : List EnteredCall) (h : List Entry) (k : EnteredCall) (n : ℕ) (c : Call) → has (is_call k.line) h ≡ false → has (is_call n) h ≡ true → call_at ks n ≡ Some c → call_at (k ∷ ks) n ≡ Some c
entered_more ks h k n c new called e = rw (apart (λ m. has (is_call m) h) k.line n new called) e

abbrev maker_entered : (G : ℕ → ActorNo → Call → Type 0) (ks : List EnteredCall) (h : List Entry) (q : Call → Bool) (k : EnteredCall) → has (is_call k.line) h ≡ false → IsMaker G ks h q → IsMaker G (k ∷ ks) h q
maker_entered G ks h q k new m = maker_of G ks (k ∷ ks) h h q q m (entered_more ks h k m.number m.call new m.called m.entered) m.passes m.called

waiter_entered : (G : ℕ → ActorNo → Call → Type 0) (ks : List EnteredCall) (h : List Entry) (k : EnteredCall) (v : Waiter) → has (is_call k.line) h ≡ false → IsWaiter G ks h v → IsWaiter G (k ∷ ks) h v
waiter_entered G ks h k v new w = record {
  actor = w.actor;
  call = w.call;
  may = w.may;
  entered = entered_more ks h k v.0 w.call new w.called w.entered;
  wants = w.wants;
  called = w.called;
}

call_made : (G : ℕ → ActorNo → Call → Type 0) (ks : List EnteredCall) (h : List Entry) (k : EnteredCall) → has (is_call k.line) h ≡ false → AreMade G ks h → AreMade G (k ∷ ks) h
call_made G ks h k new a =
    let same : half_of (k ∷ ks) h ≡ half_of ks h = fresh k ks h new in
    let waits : waiting (k ∷ ks) h ≡ waiting ks h = ap (λ (x : Half). x.waits) same in
    let manages : managed (k ∷ ks) h ≡ managed ks h = ap (λ (x : Half). x.managers) same in
    record {
      enlisted = λ e q. let m = a.enlisted e q in (maker_entered G ks h (makes_enlistment e) k new m.0, ap (has (waits_at m.0.number)) waits ∙ m.1);
      volatile = λ e q. maker_entered G ks h (makes_volatile e) k new (a.volatile e q);
      sent = λ e q. maker_entered G ks h (makes_lasting e.value) k new (a.sent e q);
      waiters = subst (OfEach (IsWaiter G (k ∷ ks) h)) (sym waits) (of-more (IsWaiter G ks h) (IsWaiter G (k ∷ ks) h) (λ v w. waiter_entered G ks h k v new w) (waiting ks h) a.waiters);
      managers =
          subst (OfEach (λ (m : EnlNo × RmNo). IsMaker G (k ∷ ks) h (makes_lasting m.0.value))) (sym manages)
          (of-more (λ (m : EnlNo × RmNo). IsMaker G ks h (makes_lasting m.0.value)) (λ (m : EnlNo × RmNo). IsMaker G (k ∷ ks) h (makes_lasting m.0.value))
          (λ m x. maker_entered G ks h (makes_lasting m.0.value) k new x) (managed ks h) a.managers);
    }

-- what holds of each holds of each that is left
pub of-filter : {A : Type 0} (P : A → Type 0) (q : A → Bool) (xs : List A) → OfEach P xs → OfEach P (filter q xs)
of-filter P q [] w = tt
of-filter P q (x ∷ xs) w = step P (q x) x (filter q xs) w.0 (of-filter P q xs w.1)
  where
    step : {A : Type 0} (P : A → Type 0) (b : Bool) (x : A) (ys : List A) → P x → OfEach P ys → OfEach P (if b then x ∷ ys else ys)
    step P true x ys p w = (p, w)
    step P false x ys p w = w

less_filter : (p q : Waiter → Bool) (ws : List Waiter) → has p ws ≡ false → has p (filter q ws) ≡ false
less_filter p q ws n = has_filter p q ws ∙ has_less (λ v. p v && q v) p (λ v a. and_left (p v) (q v) a) ws n

-- an entry that is no call, makes no enlistment and sends no ENLIST
abbrev pub is_neutral : Entry → Bool
is_neutral (Called n a x) = false
is_neutral (Enlisted e c) = false
is_neutral (Sent c Up m) = not (ENLIST m)
is_neutral _ = true

plain_neutral : (x : Entry) → is_plain x ≡ true → is_neutral x ≡ true
plain_neutral (Called n a x) p = absurd cc
plain_neutral (Enlisted e c) p = absurd cc
plain_neutral (Sent c Up m) p = p
plain_neutral _ p = refl

all_neutral : {es : List Entry} → Plain es → each is_neutral es ≡ true
all_neutral {es} p = each_more is_plain is_neutral plain_neutral es p.proof

none_enlisted : (e : ℕ) (x : Entry) (h : List Entry) → is_neutral x ≡ true → has (is_enlisted e) (x ∷ h) ≡ true → has (is_enlisted e) h ≡ true
none_enlisted e (Enlisted f c) h n k = absurd cc
none_enlisted e _ h n k = k

none_volatile : (e : ℕ) (x : Entry) (h : List Entry) → is_neutral x ≡ true → has (is_volatile_made e) (x ∷ h) ≡ true → has (is_volatile_made e) h ≡ true
none_volatile e (Enlisted f c) h n k = absurd cc
none_volatile e _ h n k = k

none_sent : (e : EnlNo) (x : Entry) (h : List Entry) → is_neutral x ≡ true → has (is_sent_on (Enl e) Up ENLIST) (x ∷ h) ≡ true → has (is_sent_on (Enl e) Up ENLIST) h ≡ true
none_sent e (Sent c Up m) h n k =
    or_case (same_connection (Enl e) c && true && ENLIST m) (has (is_sent_on (Enl e) Up ENLIST) h) (λ a. absurd (not_both (ENLIST m) (and_right (same_connection (Enl e) c && true) (ENLIST m) a) (not_true (ENLIST m) n)))
    (λ a. a) k
none_sent e (Sent c Down m) h n k = off_way (same_connection (Enl e) c) (ENLIST m) (has (is_sent_on (Enl e) Up ENLIST) h) k
  where
    off_way : (a b r : Bool) → ((a && false && b) || r) ≡ true → r ≡ true
    off_way true b r k = k
    off_way false b r k = k
none_sent e _ h n k = k

waits_less : (ks : List EnteredCall) (p : Waiter → Bool) (x : Entry) (h : List Entry) → is_neutral x ≡ true → has p (waiting ks h) ≡ false → has p (waiting ks (x ∷ h)) ≡ false
waits_less ks p (Called n a y) h k w = absurd cc
waits_less ks p (Answered n y) h k w = less_filter p (λ v. not (n == v.0)) (waiting ks h) w
waits_less ks p _ h k w = w

of_waiters : (ks : List EnteredCall) (P : Waiter → Type 0) (x : Entry) (h : List Entry) → is_neutral x ≡ true → OfEach P (waiting ks h) → OfEach P (waiting ks (x ∷ h))
of_waiters ks P (Called n a y) h k w = absurd cc
of_waiters ks P (Answered n y) h k w = of-filter P (λ v. not (n == v.0)) (waiting ks h) w
of_waiters ks P _ h k w = w

of_managers : (ks : List EnteredCall) (P : EnlNo × RmNo → Type 0) (x : Entry) (h : List Entry) → is_neutral x ≡ true → OfEach P (managed ks h) → OfEach P (managed ks (x ∷ h))
of_managers ks P (Called n a y) h k w = absurd cc
of_managers ks P _ h k w = w

neutral_made : (G : ℕ → ActorNo → Call → Type 0) (ks : List EnteredCall) (x : Entry) (h : List Entry) → is_neutral x ≡ true → AreMade G ks h → AreMade G ks (x ∷ h)
neutral_made G ks x h n a = record {
  enlisted = λ e k. let m = a.enlisted e (none_enlisted e x h n k) in (maker_more G ks h (makes_enlistment e) x m.0, waits_less ks (waits_at m.0.number) x h n m.1);
  volatile = λ e k. maker_more G ks h (makes_volatile e) x (a.volatile e (none_volatile e x h n k));
  sent = λ e k. maker_more G ks h (makes_lasting e.value) x (a.sent e (none_sent e x h n k));
  waiters = of_waiters ks (IsWaiter G ks (x ∷ h)) x h n (of-more (IsWaiter G ks h) (IsWaiter G ks (x ∷ h)) (waiter_more G ks h x) (waiting ks h) a.waiters);
  managers =
      of_managers ks (λ (m : EnlNo × RmNo). IsMaker G ks (x ∷ h) (makes_lasting m.0.value)) x h n
      (of-more (λ (m : EnlNo × RmNo). IsMaker G ks h (makes_lasting m.0.value)) (λ (m : EnlNo × RmNo). IsMaker G ks (x ∷ h) (makes_lasting m.0.value))
      (λ m. maker_more G ks h (makes_lasting m.0.value) x) (managed ks h) a.managers);
}

block_made : (G : ℕ → ActorNo → Call → Type 0) (ks : List EnteredCall) (past es : List Entry) → each is_neutral es ≡ true → AreMade G ks past → AreMade G ks (onto past es)
block_made G ks past [] n a = a
block_made G ks past (x ∷ es) n a =
    block_made G ks (x ∷ past) es (and_right (is_neutral x) (each is_neutral es) n) (neutral_made G ks x past (and_left (is_neutral x) (each is_neutral es) n) a)

-- An ENLIST of one that a durable's or promotable's call makes.
sent_made : (G : ℕ → ActorNo → Call → Type 0) (ks : List EnteredCall) (t : ℕ) (e : EnlNo) (r : RmNo) (h : List Entry) → IsMaker G ks h (makes_lasting e.value) → AreMade G ks h
    → AreMade G ks (Sent (Enl e) Up (EnlistEnlist (info t e r)) ∷ h)
sent_made G ks t e r h m a =
    let x = Sent (Enl e) Up (EnlistEnlist (info t e r)) in
    record {
      enlisted = λ f k. let o = a.enlisted f k in (maker_more G ks h (makes_enlistment f) x o.0, o.1);
      volatile = λ f k. maker_more G ks h (makes_volatile f) x (a.volatile f k);
      sent =
          λ f k. or_case (is_sent_on (Enl f) Up ENLIST x) (has (is_sent_on (Enl f) Up ENLIST) h)
          (λ q. maker_more G ks h (makes_lasting f.value) x
          (subst (λ n. IsMaker G ks h (makes_lasting n)) (sym (eqb-true f.value e.value (and_left (f.value == e.value) true (and_left ((f.value == e.value) && true) true q)))) m))
          (λ q. maker_more G ks h (makes_lasting f.value) x (a.sent f q)) k;
      waiters = of-more (IsWaiter G ks h) (IsWaiter G ks (x ∷ h)) (waiter_more G ks h x) (waiting ks h) a.waiters;
      managers =
          of-more (λ (m : EnlNo × RmNo). IsMaker G ks h (makes_lasting m.0.value)) (λ (m : EnlNo × RmNo). IsMaker G ks (x ∷ h) (makes_lasting m.0.value))
          (λ m. maker_more G ks h (makes_lasting m.0.value) x) (managed ks h) a.managers;
    }

-- what waits for a place is a durable's call that makes the enlistment
abbrev pub place_number : Wanted → ℕ
place_number (Place e r c) = e.value
place_number Identifier = 0

abbrev place_volatile : Wanted → Bool
place_volatile (Place e r c) = is_volatile c
place_volatile Identifier = false

pub place_made : (e : EnlNo) (r : RmNo) (c : Class) (k : Call) → Place e r c ≡ wanted_by k → (makes_lasting e.value k ≡ true) × (is_volatile c ≡ false)
place_made e r c (Durable t f q s) w = (eq-eqb e.value f.value (ap place_number w), ap place_volatile w ∙ firm s)
  where
    firm : (s : Support) → is_volatile (class_by s) ≡ false
    firm (SinglePhase v o) = refl
    firm (TwoPhase v) = refl
place_made e r c _ w = absurd cc

abbrev waiter_maker : (G : ℕ → ActorNo → Call → Type 0) (ks : List EnteredCall) (h : List Entry) (n : ℕ) (e : EnlNo) (r : RmNo) (c : Class) → IsWaiter G ks h (n, Place e r c) → IsMaker G ks h (makes_lasting e.value)
waiter_maker G ks h n e r c w =
    record { number = n; actor = w.actor; call = w.call; may = w.may; entered = w.entered; passes = (place_made e r c w.call w.wants).0; called = w.called }

-- a call that makes a durable or promotable makes the enlistment
pub lasting_makes : (e : ℕ) (k : Call) → makes_lasting e k ≡ true → makes_enlistment e k ≡ true
lasting_makes e (Durable t f r s) q = q
lasting_makes e (Promotable t f r v x p) q = q
lasting_makes e _ q = absurd cc

-- The handover is over: each call that waits gets its identifier, or its ENLIST is sent.
given_made : (G : ℕ → ActorNo → Call → Type 0) (ks : List EnteredCall) (t : ℕ) (vs : List Waiter) (h : List Entry) → OfEach (IsWaiter G ks h) vs → AreMade G ks h
    → AreMade G ks (onto h (flat_map (given t) vs))
given_made G ks t [] h w a = a
given_made G ks t ((n, Identifier) ∷ vs) h w a =
    let x = Answered n (Id (identifier_of t)) in
    given_made G ks t vs (x ∷ h) (of-more (IsWaiter G ks h) (IsWaiter G ks (x ∷ h)) (waiter_more G ks h x) vs w.1) (neutral_made G ks x h refl a)
given_made G ks t ((n, Place e r c) ∷ vs) h w a =
    let x = Sent (Enl e) Up (EnlistEnlist (info t e r)) in
    given_made G ks t vs (x ∷ h) (of-more (IsWaiter G ks h) (IsWaiter G ks (x ∷ h)) (waiter_more G ks h x) vs w.1) (sent_made G ks t e r h (waiter_maker G ks h n e r c w.0) a)

over_made : (G : ℕ → ActorNo → Call → Type 0) (ks : List EnteredCall) (t : ℕ) (o : Option Cause) (h : List Entry) → AreMade G ks h → AreMade G ks (onto h (promoted_by t o ++ flat_map (given t) (waiting ks h)))
over_made G ks t (Some c) h a =
    let x = Promoted (identifier_of t) c in given_made G ks t (waiting ks h) (x ∷ h) (neutral_made G ks x h refl a).waiters (neutral_made G ks x h refl a)
over_made G ks t None h a = given_made G ks t (waiting ks h) h a.waiters a

-- the ENLIST of the handover, by its manager
managed_made : (G : ℕ → ActorNo → Call → Type 0) (ks : List EnteredCall) (t : ℕ) (h : List Entry) (e : EnlNo) (ms : List (EnlNo × RmNo))
    → OfEach (λ (m : EnlNo × RmNo). IsMaker G ks h (makes_lasting m.0.value)) ms → AreMade G ks h → AreMade G ks (onto h (by_manager (enlist_sent t) ms e))
managed_made G ks t h e [] w a = a
managed_made G ks t h e (m ∷ ms) w a = step (e.value == m.0.value) refl (managed_made G ks t h e ms w.1 a)
  where
    step : (b : Bool) → (e.value == m.0.value) ≡ b → AreMade G ks (onto h (by_manager (enlist_sent t) ms e)) → AreMade G ks (onto h (if b then enlist_sent t e m.1 else by_manager (enlist_sent t) ms e))
    step true q ih = sent_made G ks t e m.1 h (subst (λ n. IsMaker G ks h (makes_lasting n)) (sym (eqb-true e.value m.0.value q)) w.0) a
    step false q ih = ih

-- a call that waited has its place
none_but : (n : ℕ) (ws : List Waiter) → has (waits_at n) (filter (λ v. not (n == v.0)) ws) ≡ false
none_but n ws = has_filter (waits_at n) (λ v. not (n == v.0)) ws ∙ never ws
  where
    both : (b : Bool) → (b && not b) ≡ false
    both true = refl
    both false = refl

    never : (ws : List Waiter) → has (λ v. waits_at n v && not (n == v.0)) ws ≡ false
    never [] = refl
    never (v ∷ ws) = or_false (waits_at n v && not (n == v.0)) (has (λ v. waits_at n v && not (n == v.0)) ws) (both (n == v.0)) (never ws)

placed_made : (G : ℕ → ActorNo → Call → Type 0) (ks : List EnteredCall) (h : List Entry) (n : ℕ) (e : EnlNo) (r : RmNo) (c : Class) → IsWaiter G ks h (n, Place e r c) → AreMade G ks h
    → AreMade G ks (Answered n Fine ∷ Enlisted e c ∷ h)
placed_made G ks h n e r c w a =
    let x = Enlisted e c in
    let y = Answered n Fine in
    let m = waiter_maker G ks h n e r c w in
    let own : (f : ℕ) → (f == e.value) ≡ true → IsMaker G ks (y ∷ x ∷ h) (makes_enlistment f) = λ f q. record {
      number = n;
      actor = w.actor;
      call = w.call;
      may = w.may;
      entered = w.entered;
      passes = lasting_makes f w.call (subst (λ k. makes_lasting k w.call ≡ true) (sym (eqb-true f e.value q)) m.passes);
      called = w.called;
    } in
    record {
      enlisted = λ f k. or_case (f == e.value) (has (is_enlisted f) h) (λ q. (own f q, none_but n (waiting ks h)))
          (λ q. let o = a.enlisted f q in (
            maker_more G ks (x ∷ h) (makes_enlistment f) y (maker_more G ks h (makes_enlistment f) x o.0),
            less_filter (waits_at o.0.number) (λ v. not (n == v.0)) (waiting ks h) o.1,
          )) k;
      volatile = λ f k. or_case ((f == e.value) && is_volatile c) (has (is_volatile_made f) h)
          (λ q. absurd (not_both (is_volatile c) (and_right (f == e.value) (is_volatile c) q) (place_made e r c w.call w.wants).1))
          (λ q. maker_more G ks (x ∷ h) (makes_volatile f) y (maker_more G ks h (makes_volatile f) x (a.volatile f q))) k;
      sent = λ f k. maker_more G ks (x ∷ h) (makes_lasting f.value) y (maker_more G ks h (makes_lasting f.value) x (a.sent f k));
      waiters =
          of-filter (IsWaiter G ks (y ∷ x ∷ h)) (λ v. not (n == v.0)) (waiting ks h)
          (of-more (IsWaiter G ks h) (IsWaiter G ks (y ∷ x ∷ h)) (λ v o. waiter_more G ks (x ∷ h) y v (waiter_more G ks h x v o)) (waiting ks h) a.waiters);
      managers =
          of-more (λ (m : EnlNo × RmNo). IsMaker G ks h (makes_lasting m.0.value)) (λ (m : EnlNo × RmNo). IsMaker G ks (y ∷ x ∷ h) (makes_lasting m.0.value))
          (λ m o. maker_more G ks (x ∷ h) (makes_lasting m.0.value) y (maker_more G ks h (makes_lasting m.0.value) x o)) (managed ks h) a.managers;
    }

-- what was found holds what each does
pub of-found : {A : Type 0} (P : A → Type 0) (p : A → Bool) (xs : List A) (x : A) → OfEach P xs → find p xs ≡ Some x → P x
of-found P p [] x w e = absurd cc
of-found P p (y ∷ ys) x w e = step P (p y) y (find p ys) x w.0 (of-found P p ys x w.1) e
  where
    step : {A : Type 0} (P : A → Type 0) (b : Bool) (y : A) (o : Option A) (x : A) → P y → (o ≡ Some x → P x) → (if b then Some y else o) ≡ Some x → P x
    step P true y o x p f e = let same : y ≡ x = cc in subst P same p
    step P false y o x p f e = f e

find_made : (G : ℕ → ActorNo → Call → Type 0) (ks : List EnteredCall) (h : List Entry) (f : EnlNo) (o : Option Waiter) → find (is_place_of f.value) (waiting ks h) ≡ o → AreMade G ks h → AreMade G ks (onto h (place_given o))
find_made G ks h f (Some (n, Place e r c)) q a = placed_made G ks h n e r c (of-found (IsWaiter G ks h) (is_place_of f.value) (waiting ks h) (n, Place e r c) a.waiters q) a
find_made G ks h f (Some (n, Identifier)) q a = a
find_made G ks h f None q a = a

-- The arrivals: by cases.
made_if : (G : ℕ → ActorNo → Call → Type 0) (ks : List EnteredCall) (h : List Entry) (b : Bool) (xs ys : List Entry) → AreMade G ks (onto h xs) → AreMade G ks (onto h ys) → AreMade G ks (onto h (if b then xs else ys))
made_if G ks h true xs ys p q = p
made_if G ks h false xs ys p q = q

-- h is the history with the message, and v what is known of it
handed_made : (G : ℕ → ActorNo → Call → Type 0) (ks : List EnteredCall) (t : ℕ) (h : List Entry) (v : Half) (o : Option EnlNo) → v.waits ≡ waiting ks h → v.managers ≡ managed ks h → AreMade G ks h
    → AreMade G ks (onto h (hand_over t v o))
handed_made G ks t h v (Some e) w m a =
    managed_made G ks t h e v.managers (subst (OfEach (λ (m : EnlNo × RmNo). IsMaker G ks h (makes_lasting m.0.value))) (sym m) a.managers) a
handed_made G ks t h v None w m a = subst (λ ws. AreMade G ks (onto h (promoted_by t v.seen.cause ++ flat_map (given t) ws))) (sym w) (over_made G ks t v.seen.cause h a)

created_made : (G : ℕ → ActorNo → Call → Type 0) (ks : List EnteredCall) (t : ℕ) (h : List Entry) (v : Half) → v.waits ≡ waiting ks h → v.managers ≡ managed ks h → AreMade G ks h → AreMade G ks (onto h (created t v))
created_made G ks t h v w m a =
    made_if G ks h (is_some v.seen.decided) [] (if is_promoting v.seen then hand_over t v v.seen.handover else []) a
    (made_if G ks h (is_promoting v.seen) (hand_over t v v.seen.handover) [] (handed_made G ks t h v v.seen.handover w m a) a)

enlisted_made : (G : ℕ → ActorNo → Call → Type 0) (ks : List EnteredCall) (t : ℕ) (h : List Entry) (v : Half) (e : EnlNo) → v.waits ≡ waiting ks h → v.managers ≡ managed ks h → AreMade G ks h
    → AreMade G ks (onto h (enlisted_at t v e))
enlisted_made G ks t h v e w m a =
    let own = is_promoting v.seen && is_handed v.seen.handover e.value in
    let placed = place_given (find (is_place_of e.value) v.waits) in
    made_if G ks h (is_some v.seen.decided) [] (if own then over t v else if v.seen.promoted then placed else []) a
    (made_if G ks h own (over t v) (if v.seen.promoted then placed else []) (handed_made G ks t h v None w m a)
    (made_if G ks h v.seen.promoted placed []
    (subst (λ ws. AreMade G ks (onto h (place_given (find (is_place_of e.value) ws)))) (sym w) (find_made G ks h e (find (is_place_of e.value) (waiting ks h)) refl a)) a))

got_made : (G : ℕ → ActorNo → Call → Type 0) (t : ℕ) (w : World) (c : Conn) (m : Message) → AreMade G w.calls w.past → AreMade G w.calls (onto (Got c Down m ∷ w.past) (local_got t (half w) c m))
unfolding local_got
got_made G t w Voter VoterCreated a =
    created_made G w.calls t (Got Voter Down VoterCreated ∷ w.past) (sees (half w) (Got Voter Down VoterCreated)) refl refl (neutral_made G w.calls (Got Voter Down VoterCreated) w.past refl a)
got_made G t w (Enl e) EnlistEnlisted a =
    enlisted_made G w.calls t (Got (Enl e) Down EnlistEnlisted ∷ w.past) (sees (half w) (Got (Enl e) Down EnlistEnlisted)) e refl refl
    (neutral_made G w.calls (Got (Enl e) Down EnlistEnlisted) w.past refl a)
got_made G t w c m a =
    block_made G w.calls (Got c Down m ∷ w.past) (arrived t (sees (half w) (Got c Down m)) c m) (all_neutral (plain_arrived t (sees (half w) (Got c Down m)) c m refl))
    (neutral_made G w.calls (Got c Down m) w.past refl a)

delivered_made : (G : ℕ → ActorNo → Call → Type 0) (t : ℕ) (w : World) (c : Conn) (d : Dir) (ms : List Message) → AreMade G w.calls w.past → AreMade G w.calls (onto w.past (delivered t w c d ms))
delivered_made G t w c d [] a = block_made G w.calls w.past (Ended c d ∷ ended_at w c d) (all_neutral (plain_ended_at w c d)) a
delivered_made G t w c Up (m ∷ ms) a = block_made G w.calls w.past (Got c Up m ∷ got_by t w c Up m) (all_neutral (plain_core_got (identifier_of t) (core w) c m)) a
delivered_made G t w c Down (m ∷ ms) a = got_made G t w c m a

-- The calls. One that is answered: who waits, and the managers.
idle_new : (G : ℕ → ActorNo → Call → Type 0) (ks : List EnteredCall) (h : List Entry) (n : ℕ) (ws : List Waiter) → has (is_call n) h ≡ false → OfEach (IsWaiter G ks h) ws → has (waits_at n) ws ≡ false
idle_new G ks h n [] new w = refl
idle_new G ks h n (v ∷ ws) new w = or_false (n == v.0) (has (waits_at n) ws) (apart (λ m. has (is_call m) h) n v.0 new w.0.called) (idle_new G ks h n ws new w.1)

-- the maker of the line's own call
abbrev own_maker : (G : ℕ → ActorNo → Call → Type 0) (ks : List EnteredCall) (h : List Entry) (n : ℕ) (a : ActorNo) (c : Call) (q : Call → Bool) (x : Answer) → G n a c → call_at ks n ≡ Some c → q c ≡ true
    → IsMaker G ks (Called n a x ∷ h) q
own_maker G ks h n a c q x g e k = record { number = n; actor = a; call = c; may = g; entered = e; passes = k; called = rw (eq_self n) refl }

waits_by : (ks : List EnteredCall) (h : List Entry) (n : ℕ) (a : ActorNo) (x : Answer) → is_waiting_answer x ≡ false → waiting ks (Called n a x ∷ h) ≡ waiting ks h
waits_by ks h n a Wait k = absurd cc
waits_by ks h n a _ k = refl

called_waiters : (G : ℕ → ActorNo → Call → Type 0) (ks : List EnteredCall) (h : List Entry) (n : ℕ) (a : ActorNo) (c : Call) (x : Answer) → G n a c → call_at ks n ≡ Some c
    → OfEach (IsWaiter G ks (Called n a x ∷ h)) (waiting ks h) → OfEach (IsWaiter G ks (Called n a x ∷ h)) (waiting ks (Called n a x ∷ h))
called_waiters G ks h n a c Wait g e w =
    of-insert (IsWaiter G ks (Called n a Wait ∷ h)) waiter_line (n, wanted (call_at ks n)) (record { actor = a; call = c; may = g; entered = e; wants = ap wanted e; called = rw (eq_self n) refl }) (waiting ks h) w
called_waiters G ks h n a c _ g e w = w

managers_by : (G : ℕ → ActorNo → Call → Type 0) (ks : List EnteredCall) (h : List Entry) (n : ℕ) (a : ActorNo) (c : Call) (x : Answer) (ms : List (EnlNo × RmNo)) → G n a c → call_at ks n ≡ Some c
    → OfEach (λ (m : EnlNo × RmNo). IsMaker G ks (Called n a x ∷ h) (makes_lasting m.0.value)) ms
    → OfEach (λ (m : EnlNo × RmNo). IsMaker G ks (Called n a x ∷ h) (makes_lasting m.0.value)) (managed_by (Some c) ms)
managers_by G ks h n a (Durable t e r s) x ms g k w = (own_maker G ks h n a (Durable t e r s) (makes_lasting e.value) x g k (eq_self e.value), w)
managers_by G ks h n a (Promotable t e r v y p) x ms g k w = (own_maker G ks h n a (Promotable t e r v y p) (makes_lasting e.value) x g k (eq_self e.value), w)
managers_by G ks h n a _ x ms g k w = w

called_managers : (G : ℕ → ActorNo → Call → Type 0) (ks : List EnteredCall) (h : List Entry) (n : ℕ) (a : ActorNo) (c : Call) (x : Answer) → G n a c → call_at ks n ≡ Some c
    → OfEach (λ (m : EnlNo × RmNo). IsMaker G ks (Called n a x ∷ h) (makes_lasting m.0.value)) (managed ks h)
    → OfEach (λ (m : EnlNo × RmNo). IsMaker G ks (Called n a x ∷ h) (makes_lasting m.0.value)) (managed ks (Called n a x ∷ h))
called_managers G ks h n a c Fine g e w =
    subst (λ o. OfEach (λ (m : EnlNo × RmNo). IsMaker G ks (Called n a Fine ∷ h) (makes_lasting m.0.value)) (managed_by o (managed ks h))) (sym e) (managers_by G ks h n a c Fine (managed ks h) g e w)
called_managers G ks h n a c True g e w =
    subst (λ o. OfEach (λ (m : EnlNo × RmNo). IsMaker G ks (Called n a True ∷ h) (makes_lasting m.0.value)) (managed_by o (managed ks h))) (sym e) (managers_by G ks h n a c True (managed ks h) g e w)
called_managers G ks h n a c _ g e w = w

called_idle : (ks : List EnteredCall) (h : List Entry) (n m : ℕ) (a : ActorNo) (x : Answer) → (m == n) ≡ false → has (waits_at m) (waiting ks h) ≡ false → has (waits_at m) (waiting ks (Called n a x ∷ h)) ≡ false
called_idle ks h n m a Wait other k = has-insert (waits_at m) waiter_line (n, wanted (call_at ks n)) (waiting ks h) ∙ or_false (m == n) (has (waits_at m) (waiting ks h)) other k
called_idle ks h n m a _ other k = k

called_made : (G : ℕ → ActorNo → Call → Type 0) (ks : List EnteredCall) (h : List Entry) (n : ℕ) (a : ActorNo) (c : Call) (x : Answer) → G n a c → call_at ks n ≡ Some c → has (is_call n) h ≡ false → AreMade G ks h
    → AreMade G ks (Called n a x ∷ h)
called_made G ks h n a c x g e new o =
    let y = Called n a x in
    record {
      enlisted =
          λ f k. let m = o.enlisted f k in (
            maker_more G ks h (makes_enlistment f) y m.0,
            called_idle ks h n m.0.number a x (eq_swap m.0.number n ∙ apart (λ k. has (is_call k) h) n m.0.number new m.0.called) m.1,
          );
      volatile = λ f k. maker_more G ks h (makes_volatile f) y (o.volatile f k);
      sent = λ f k. maker_more G ks h (makes_lasting f.value) y (o.sent f k);
      waiters = called_waiters G ks h n a c x g e (of-more (IsWaiter G ks h) (IsWaiter G ks (y ∷ h)) (waiter_more G ks h y) (waiting ks h) o.waiters);
      managers =
          called_managers G ks h n a c x g e
          (of-more (λ (m : EnlNo × RmNo). IsMaker G ks h (makes_lasting m.0.value)) (λ (m : EnlNo × RmNo). IsMaker G ks (y ∷ h) (makes_lasting m.0.value))
          (λ m. maker_more G ks h (makes_lasting m.0.value) y) (managed ks h) o.managers);
    }

-- its enlistment is made: by a call that doesn't wait
enlist_made : (G : ℕ → ActorNo → Call → Type 0) (ks : List EnteredCall) (h : List Entry) (e : EnlNo) (c : Class) (m : IsMaker G ks h (makes_enlistment e.value)) → has (waits_at m.number) (waiting ks h) ≡ false
    → (is_volatile c ≡ true → makes_volatile e.value m.call ≡ true) → AreMade G ks h → AreMade G ks (Enlisted e c ∷ h)
enlist_made G ks h e c m idle f a =
    let x = Enlisted e c in
    let own : (k : ℕ) → (k == e.value) ≡ true → (o : IsMaker G ks (x ∷ h) (makes_enlistment k)) × (has (waits_at o.number) (waiting ks h) ≡ false) = λ k q. (
      maker_of G ks ks h (x ∷ h) (makes_enlistment e.value) (makes_enlistment k) m m.entered (subst (λ j. makes_enlistment j m.call ≡ true) (sym (eqb-true k e.value q)) m.passes) m.called,
      idle,
    ) in
    record {
      enlisted = λ k q. or_case (k == e.value) (has (is_enlisted k) h) (own k) (λ q. let o = a.enlisted k q in (maker_more G ks h (makes_enlistment k) x o.0, o.1)) q;
      volatile =
          λ k q. or_case ((k == e.value) && is_volatile c) (has (is_volatile_made k) h)
          (λ q. maker_of G ks ks h (x ∷ h) (makes_enlistment e.value) (makes_volatile k) m m.entered
          (subst (λ j. makes_volatile j m.call ≡ true) (sym (eqb-true k e.value (and_left (k == e.value) (is_volatile c) q))) (f (and_right (k == e.value) (is_volatile c) q))) m.called) (λ q. maker_more G ks h (makes_volatile k) x (a.volatile k q)) q;
      sent = λ k q. maker_more G ks h (makes_lasting k.value) x (a.sent k q);
      waiters = of-more (IsWaiter G ks h) (IsWaiter G ks (x ∷ h)) (waiter_more G ks h x) (waiting ks h) a.waiters;
      managers =
          of-more (λ (m : EnlNo × RmNo). IsMaker G ks h (makes_lasting m.0.value)) (λ (m : EnlNo × RmNo). IsMaker G ks (x ∷ h) (makes_lasting m.0.value))
          (λ m. maker_more G ks h (makes_lasting m.0.value) x) (managed ks h) a.managers;
    }

-- the block of a call that makes one, or a list of neutral entries
own_made : (G : ℕ → ActorNo → Call → Type 0) (ks : List EnteredCall) (h : List Entry) (n : ℕ) (a : ActorNo) (c : Call) (x : Answer) (e : EnlNo) (k : Class) → G n a c → call_at ks n ≡ Some c → has (is_call n) h ≡ false
    → is_waiting_answer x ≡ false → makes_enlistment e.value c ≡ true → (is_volatile k ≡ true → makes_volatile e.value c ≡ true) → AreMade G ks h → AreMade G ks (Enlisted e k ∷ Called n a x ∷ h)
own_made G ks h n a c x e k g q new w p f o =
    let y = called_made G ks h n a c x g q new o in
    enlist_made G ks (Called n a x ∷ h) e k (own_maker G ks h n a c (makes_enlistment e.value) x g q p)
    (ap (has (waits_at n)) (waits_by ks h n a x w) ∙ idle_new G ks h n (waiting ks h) new o.waiters) f y

fine_facts : (G : ℕ → ActorNo → Call → Type 0) (ks : List EnteredCall) (h es : List Entry) (b : Bool) → AreMade G ks h → AreMade G ks (onto h es) → AreMade G ks (onto h (facts_if b es))
fine_facts G ks h es true a k = k
fine_facts G ks h es false a k = a

-- a durable call: it waits, and then its ENLIST may be sent; or it makes its enlistment
durable_made : (G : ℕ → ActorNo → Call → Type 0) (ks : List EnteredCall) (t n : ℕ) (a : ActorNo) (u : TxNo) (e : EnlNo) (r : RmNo) (s : Support) (v : Half) (x : Answer) (h : List Entry) → G n a (Durable u e r s)
    → call_at ks n ≡ Some (Durable u e r s) → has (is_call n) h ≡ false → AreMade G ks h → AreMade G ks (onto (Called n a x ∷ h) (facts_if (has_facts x) (durable_facts t v e r (is_single s) x)))
durable_made G ks t n a u e r s v Wait h g k new o =
    let c = called_made G ks h n a (Durable u e r s) Wait g k new o in
    made_if G ks (Called n a Wait ∷ h) v.seen.promoted (enlist_sent t e r) (if is_promoting v.seen then [] else begin_promotion v (cause_of v.seen.table (is_single s)))
    (sent_made G ks t e r (Called n a Wait ∷ h) (own_maker G ks h n a (Durable u e r s) (makes_lasting e.value) Wait g k (eq_self e.value)) c)
    (made_if G ks (Called n a Wait ∷ h) (is_promoting v.seen) [] (begin_promotion v (cause_of v.seen.table (is_single s))) c
    (block_made G ks (Called n a Wait ∷ h) (begin_promotion v (cause_of v.seen.table (is_single s))) (all_neutral (plain_begin_promotion v (cause_of v.seen.table (is_single s)))) c))
durable_made G ks t n a u e r s v Fine h g k new o = own_made G ks h n a (Durable u e r s) Fine e DurableSingle g k new refl (eq_self e.value) (λ q. absurd cc) o
durable_made G ks t n a u e r s v True h g k new o = own_made G ks h n a (Durable u e r s) True e DurableSingle g k new refl (eq_self e.value) (λ q. absurd cc) o
durable_made G ks t n a u e r s v x h g k new o = called_made G ks h n a (Durable u e r s) x g k new o

entered_made : (G : ℕ → ActorNo → Call → Type 0) (t : ℕ) (w : World) (n : ℕ) (a : ActorNo) (c : Call) (m : ℕ) → G n a c → has (is_call n) w.past ≡ false → AreMade G w.calls w.past
    → AreMade G (record { line = n; actor = a; call = c } ∷ w.calls) (onto w.past (Called n a (answer_at t w c m) ∷ facts_if (has_facts (answer_at t w c m)) (facts_at t w c (answer_at t w c m))))
entered_made G t w n a (Durable u e r s) m g new o =
    let k : EnteredCall = record { line = n; actor = a; call = Durable u e r s } in
    durable_made G (k ∷ w.calls) t n a u e r s (half w) (answer_at t w (Durable u e r s) m) w.past g (own_call n a (Durable u e r s) w.calls) new (call_made G w.calls w.past k new o)
entered_made G t w n a (Volatile u e x v) m g new o =
    let c = Volatile u e x v in
    let k : EnteredCall = record { line = n; actor = a; call = c } in
    let q = own_call n a c w.calls in
    let more = call_made G w.calls w.past k new o in
    let y = answer_at t w c m in
    fine_facts G (k ∷ w.calls) (Called n a y ∷ w.past) (Enlisted e (class_of x) ∷ []) (has_facts y) (called_made G (k ∷ w.calls) w.past n a c y g q new more)
    (own_made G (k ∷ w.calls) w.past n a c y e (class_of x) g q new (volatile_gives t w u e x v m) (eq_self e.value) (λ z. eq_self e.value) more)
entered_made G t w n a (Promotable u e r v x p) m g new o =
    let c = Promotable u e r v x p in
    let k : EnteredCall = record { line = n; actor = a; call = c } in
    let q = own_call n a c w.calls in
    let more = call_made G w.calls w.past k new o in
    let y = answer_at t w c m in
    fine_facts G (k ∷ w.calls) (Called n a y ∷ w.past) (Enlisted e PromotableClass ∷ Init e ∷ []) (has_facts y) (called_made G (k ∷ w.calls) w.past n a c y g q new more)
    (neutral_made G (k ∷ w.calls) (Init e) (Enlisted e PromotableClass ∷ Called n a y ∷ w.past) refl
    (own_made G (k ∷ w.calls) w.past n a c y e PromotableClass g q new (promotable_gives t w u e r v x p m) (eq_self e.value) (λ z. absurd cc) more))
entered_made G t w n a c m g new o =
    let k : EnteredCall = record { line = n; actor = a; call = c } in
    let y = answer_at t w c m in
    block_made G (k ∷ w.calls) (Called n a y ∷ w.past) (facts_if (has_facts y) (facts_at t w c y)) (all_neutral (plain_called t w c y refl))
    (called_made G (k ∷ w.calls) w.past n a c y g (own_call n a c w.calls) new (call_made G w.calls w.past k new o))

-- after each step
step_made : (G : ℕ → ActorNo → Call → Type 0) (t : ℕ) (w : World) (m : Step) → MayCome G t w m → AreMade G w.calls w.past → AreMade G (after t w m).calls (after t w m).past
unfolding after block_at
step_made G t w (Calls n a c m) q o = entered_made G t w n a c m q.0 q.1 o
step_made G t w (Replies e x) q o = block_made G w.calls w.past (reply_entries (half w) e x) (all_neutral (plain_reply (half w) e x)) o
step_made G t w Acts q o = block_made G w.calls w.past (act_entries (half w)) (all_neutral (plain_act (half w))) o
step_made G t w (Coordinates x) q o = block_made G w.calls w.past (coordinates (core w) x) (all_neutral (plain_coordinates (core w) x)) o
step_made G t w (Delivers c d) q o = delivered_made G t w c d (in_transit c d w.past) o
step_made G t w Stops q o = block_made G w.calls w.past (Stopped ∷ []) refl o
step_made G t w (Restarts found) q o = block_made G w.calls w.past (restarted (core w).stopped found) (all_neutral (plain_restarted (core w).stopped found)) o

-- so in each world that steps made
none_made : (G : ℕ → ActorNo → Call → Type 0) (ks : List EnteredCall) → AreMade G ks []
none_made G ks = record { enlisted = λ e k. absurd cc; volatile = λ e k. absurd cc; sent = λ e k. absurd cc; waiters = tt; managers = tt }

pub ran_made : (G : ℕ → ActorNo → Call → Type 0) (t : ℕ) (ms : List Step) (w : World) → Ran G t ms w → AreMade G w.calls w.past
ran_made G t [] w r = subst (AreMade G w.calls) (sym r.1) (none_made G w.calls)
ran_made G t (m ∷ ms) w r = subst (λ (x : World). AreMade G x.calls x.past) (sym r.3) (step_made G t r.0 m r.2 (ran_made G t ms r.0 r.1))

-- calls that make one enlistment are those of one line
pub makes_name : (e : ℕ) (c : Call) → makes_enlistment e c ≡ true → made_by c ≡ Some (OfEnlistment e)
makes_name e (Volatile t f x v) k = ap (λ n. Some (OfEnlistment n)) (sym (eqb-true e f.value k))
makes_name e (Durable t f r s) k = ap (λ n. Some (OfEnlistment n)) (sym (eqb-true e f.value k))
makes_name e (Promotable t f r v x p) k = ap (λ n. Some (OfEnlistment n)) (sym (eqb-true e f.value k))
makes_name e _ k = absurd cc

-- the enlistment of a call that waits doesn't stand
pub all_unplaced : (G : ℕ → ActorNo → Call → Type 0) (ks : List EnteredCall) (h : List Entry) → AreMadeOnce G → AreMade G ks h → each (is_unplaced h) (waiting ks h) ≡ true
all_unplaced G ks h once a = each_from_at (is_unplaced h) (waiting ks h) (λ i v e. one v (of-at (IsWaiter G ks h) (waiting ks h) i v a.waiters e) (has-at (waits_at v.0) (waiting ks h) i v e (eq_self v.0)))
  where
    one : (v : Waiter) → IsWaiter G ks h v → has (waits_at v.0) (waiting ks h) ≡ true → is_unplaced h v ≡ true
    one (n, Identifier) w k = refl
    one (n, Place e r c) w k =
        not_false (has (is_enlisted e.value) h)
        (false_from_ne_true (has (is_enlisted e.value) h)
        (λ q. let m = a.enlisted e.value q in
        let own = waiter_maker G ks h n e r c w in
        let same : m.0.number ≡ n =
        once m.0.number n m.0.actor w.actor m.0.call w.call (OfEnlistment e.value) m.0.may w.may (makes_name e.value m.0.call m.0.passes) (makes_name e.value w.call (lasting_makes e.value w.call own.passes)) in
        not_both (has (waits_at n) (waiting ks h)) k (subst (λ j. has (waits_at j) (waiting ks h) ≡ false) same m.1)))

-- two calls that wait at one line wait for the same
pub same_wants : (G : ℕ → ActorNo → Call → Type 0) (ks : List EnteredCall) (h : List Entry) (n m : ℕ) (v w : Wanted) → IsWaiter G ks h (n, v) → IsWaiter G ks h (m, w) → n ≡ m → v ≡ w
same_wants G ks h n m v w a b e =
    let both : Some a.call ≡ Some b.call = sym a.entered ∙ ap (call_at ks) e ∙ b.entered in
    let same : a.call ≡ b.call = cc in
    a.wants ∙ ap wanted_by same ∙ sym b.wants

-- who waits for another's place stays where a line is answered that waits for something else
pub keep_place : (G : ℕ → ActorNo → Call → Type 0) (ks : List EnteredCall) (h : List Entry) (n e : ℕ) (v : Wanted) → IsWaiter G ks h (n, v) → ((f : EnlNo) (r : RmNo) (c : Class) → v ≡ Place f r c → (e == f.value) ≡ false) → (ws : List Waiter)
    → OfEach (IsWaiter G ks h) ws → has (is_place_of e) ws ≡ true → has (is_place_of e) (filter (λ w. not (n == w.0)) ws) ≡ true
keep_place G ks h n e v a f [] o k = absurd cc
keep_place G ks h n e v a f ((m, Identifier) ∷ ws) o k = step (n == m) (keep_place G ks h n e v a f ws o.1 k)
  where
    step : (b : Bool) → has (is_place_of e) (filter (λ w. not (n == w.0)) ws) ≡ true → has (is_place_of e) (if not b then (m, Identifier) ∷ filter (λ w. not (n == w.0)) ws else filter (λ w. not (n == w.0)) ws) ≡ true
    step true q = q
    step false q = q
keep_place G ks h n e v a f ((m, Place g r c) ∷ ws) o k = step (n == m) refl (e == g.value) refl k (keep_place G ks h n e v a f ws o.1)
  where
    rest : List Waiter
    rest = filter (λ w. not (n == w.0)) ws

    step : (b : Bool) → (n == m) ≡ b → (p : Bool) → (e == g.value) ≡ p → (p || has (is_place_of e) ws) ≡ true → (has (is_place_of e) ws ≡ true → has (is_place_of e) rest ≡ true)
        → has (is_place_of e) (if not b then (m, Place g r c) ∷ rest else rest) ≡ true
    step true x true q k ih = absurd (not_both (e == g.value) q (f g r c (same_wants G ks h n m v (Place g r c) a o.0 (eqb-true n m x))))
    step true x false q k ih = ih k
    step false x true q k ih = or_left (e == g.value) (has (is_place_of e) rest) q
    step false x false q k ih = or_right (e == g.value) (has (is_place_of e) rest) (ih k)

pub option_volatile : (o : EnlistOption) → is_volatile (class_of o) ≡ true
option_volatile PlainOption = refl
option_volatile DuringPrepare = refl
