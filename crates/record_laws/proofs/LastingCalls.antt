-- Whoever has a manager by the calls was made by a durable's or promotable's call, whose line came: so it stands as no volatile.
use Rattle.std.proofs.Common.{◌≡◌, ◌∙◌, ℕ, ◌==◌, Bool, true, false, ◌&&◌, List, [], ◌∷◌, Option, Some, None, refl, ap, subst, sym}
use Rattle.std.specs.Option.{option_map}
use Rattle.std.proofs.lemmas.Bool.{false_from_ne_true, or_left}
use Rattle.dtx_values.specs.declared.call.Call.{Call}
use Rattle.dtx_values.specs.declared.call.Call.TheVariants.{Durable, Promotable, Volatile}
use Rattle.dtx_values.specs.declared.entry.Entry.{Entry}
use Rattle.dtx_values.specs.declared.entry.Entry.TheVariants.{Called, Enlisted}
use Rattle.dtx_values.specs.declared.number.ActorNo.{ActorNo}
use Rattle.dtx_values.specs.declared.number.RmNo.{RmNo}
use Rattle.dtx_values.specs.Class.{is_volatile}
use Rattle.dtx_model.specs.Words.{has, onto, or_else}
use Rattle.dtx_model.specs.Entries.{is_call}
use Rattle.dtx_model.specs.Grammar.{OfEnlistment}
use Rattle.dtx_model.specs.Plans.{manager_by, manager_if, manager_of}
use Rattle.dtx_model.specs.Steps.{Step, Calls, Replies, Acts, Coordinates, Delivers, Stops, Restarts, after, block_at}
use Rattle.dtx_model.specs.declared.waiting.EnteredCall.{EnteredCall}
use Rattle.dtx_model.specs.Waiting.{call_at}
use Rattle.dtx_model.specs.Facts.{facts_if, has_facts}
use Rattle.dtx_model.specs.World.{World, answer_at, facts_at}
use Rattle.dtx_model.specs.Caused.{AreMadeOnce, MayCome, Ran}
use Rattle.dtx_model.proofs.Bools.{or_case, or_right}
use Rattle.history_table.proofs.EntryTests.{is_volatile_made}
use Rattle.history_table.proofs.Scans.{has_after}
use Rattle.history_table.proofs.Table.{stands_volatile}
use Rattle.history_table.proofs.Tests.{apart, eq_self}
use Rattle.history_table.proofs.Waiters.{own_call}
use Rattle.history_table.proofs.Makers.{IsMaker, lasting_makes, makes_enlistment, makes_lasting, makes_name, makes_volatile, ran_made}
use Rattle.record_laws.specs.Recorded.{IsOf}

-- who has a manager was made by such a call
abbrev HasMaker : (ℕ → ActorNo → Call → Type 0) → ℕ → List EnteredCall → List Entry → Type 0
HasMaker G e ks h = (r : RmNo) → manager_of ks e ≡ Some r → IsMaker G ks h (makes_lasting e)

-- with more entries
maker_onto : (G : ℕ → ActorNo → Call → Type 0) (e : ℕ) (ks : List EnteredCall) (h es : List Entry) → HasMaker G e ks h → HasMaker G e ks (onto h es)
maker_onto G e ks h es f = λ r q.
    let m = f r q in
    record { number = m.number; actor = m.actor; call = m.call; may = m.may; entered = m.entered; passes = m.passes; called = has_after (is_call m.number) h es m.called }

-- with one more call
lasting_by : (e : ℕ) (c : Call) (r : RmNo) → manager_by e c ≡ Some r → makes_lasting e c ≡ true
lasting_by e (Durable t f q s) r k = by (e == f.value) k
  where
    by : (b : Bool) → manager_if b q ≡ Some r → b ≡ true
    by true k = refl
    by false k = absurd cc
lasting_by e (Promotable t f q v x p) r k = by (e == f.value) k
  where
    by : (b : Bool) → manager_if b q ≡ Some r → b ≡ true
    by true k = refl
    by false k = absurd cc
lasting_by e _ r k = absurd cc

entered_more : (ks : List EnteredCall) (h : List Entry) (k : EnteredCall) (n : ℕ) (c : Call) → has (is_call k.line) h ≡ false → has (is_call n) h ≡ true → call_at ks n ≡ Some c → call_at (k ∷ ks) n ≡ Some c
entered_more ks h k n c new called e = rw (apart (λ m. has (is_call m) h) k.line n new called) e

maker_called : (G : ℕ → ActorNo → Call → Type 0) (e n : ℕ) (a : ActorNo) (c : Call) (ks : List EnteredCall) (h es : List Entry) → G n a c → has (is_call n) h ≡ false → has (is_call n) (onto h es) ≡ true
    → HasMaker G e ks h → HasMaker G e (record { line = n; actor = a; call = c } ∷ ks) (onto h es)
maker_called G e n a c ks h es g new came f = λ r q. by r (manager_by e c) refl q
  where
    by : (r : RmNo) (o : Option RmNo) → manager_by e c ≡ o → or_else o (manager_of ks e) ≡ Some r → IsMaker G (record { line = n; actor = a; call = c } ∷ ks) (onto h es) (makes_lasting e)
    by r (Some s) own q = record { number = n; actor = a; call = c; may = g; entered = own_call n a c ks; passes = lasting_by e c s own; called = came }
    by r None own q =
        let m = f r q in
        record {
          number = m.number;
          actor = m.actor;
          call = m.call;
          may = m.may;
          entered = entered_more ks h (record { line = n; actor = a; call = c }) m.number m.call new m.called m.entered;
          passes = m.passes;
          called = has_after (is_call m.number) h es m.called;
        }

-- after each step
step_maker : (G : ℕ → ActorNo → Call → Type 0) (t e : ℕ) (w : World) (m : Step) → MayCome G t w m → HasMaker G e w.calls w.past → HasMaker G e (after t w m).calls (after t w m).past
unfolding after block_at
step_maker G t e w (Calls n a c i) q f =
    let x = answer_at t w c i in
    let es = facts_if (has_facts x) (facts_at t w c x) in
    maker_called G e n a c w.calls w.past (Called n a x ∷ es) q.0 q.1 (has_after (is_call n) (Called n a x ∷ w.past) es (rw (eq_self n) refl)) f
step_maker G t e w (Replies x r) q f = maker_onto G e w.calls w.past (block_at t w (Replies x r)) f
step_maker G t e w Acts q f = maker_onto G e w.calls w.past (block_at t w Acts) f
step_maker G t e w (Coordinates x) q f = maker_onto G e w.calls w.past (block_at t w (Coordinates x)) f
step_maker G t e w (Delivers c d) q f = maker_onto G e w.calls w.past (block_at t w (Delivers c d)) f
step_maker G t e w Stops q f = maker_onto G e w.calls w.past (block_at t w Stops) f
step_maker G t e w (Restarts found) q f = maker_onto G e w.calls w.past (block_at t w (Restarts found)) f

ran_maker : (G : ℕ → ActorNo → Call → Type 0) (t e : ℕ) (ms : List Step) (w : World) → Ran G t ms w → HasMaker G e w.calls w.past
ran_maker G t e [] w r = subst (λ ks. HasMaker G e ks w.past) (sym r.0) (λ x q. absurd cc)
ran_maker G t e (m ∷ ms) w r = subst (λ (x : World). HasMaker G e x.calls x.past) (sym r.3) (step_maker G t e r.0 m r.2 (ran_maker G t e ms r.0 r.1))

-- So it stands as no volatile.
volatile_makes : (e : ℕ) (c : Call) → makes_volatile e c ≡ true → makes_enlistment e c ≡ true
volatile_makes e (Volatile t f x v) k = k
volatile_makes e _ k = absurd cc

apart_calls : (e : ℕ) (c : Call) → makes_lasting e c ≡ true → makes_volatile e c ≡ true → ⊥
apart_calls e (Volatile t f x v) p q = cc
apart_calls e (Durable t f r s) p q = cc
apart_calls e (Promotable t f r v x y) p q = cc
apart_calls e _ p q = cc

made_apart : (G : ℕ → ActorNo → Call → Type 0) (e : ℕ) (ks : List EnteredCall) (h : List Entry) → AreMadeOnce G → IsMaker G ks h (makes_lasting e) → IsMaker G ks h (makes_volatile e) → ⊥
made_apart G e ks h once m v =
    let lines : m.number ≡ v.number =
    once m.number v.number m.actor v.actor m.call v.call (OfEnlistment e) m.may v.may (makes_name e m.call (lasting_makes e m.call m.passes)) (makes_name e v.call (volatile_makes e v.call v.passes)) in
    let both : Some m.call ≡ Some v.call = sym m.entered ∙ ap (call_at ks) lines ∙ v.entered in
    let same : m.call ≡ v.call = cc in
    apart_calls e v.call (subst (λ c. makes_lasting e c ≡ true) same m.passes) v.passes

volatile_made : (e : ℕ) (h : List Entry) → stands_volatile e h ≡ true → has (is_volatile_made e) h ≡ true
volatile_made e [] t = absurd cc
volatile_made e (Enlisted f c ∷ h) t =
    or_case ((e == f.value) && is_volatile c) (stands_volatile e h) (λ a. or_left ((e == f.value) && is_volatile c) (has (is_volatile_made e) h) a) (λ a. or_right (is_volatile_made e (Enlisted f c)) (has (is_volatile_made e) h) (volatile_made e h a)) t
volatile_made e (x ∷ h) t = or_right (is_volatile_made e x) (has (is_volatile_made e) h) (volatile_made e h t)

some_manager : (o : Option RmNo) (m : ℕ) → option_map (λ r. r.value) o ≡ Some m → (r : RmNo) × (o ≡ Some r)
some_manager (Some r) m k = (r, refl)
some_manager None m k = absurd cc

pub lasting_alone : (G : ℕ → ActorNo → Call → Type 0) (t m e : ℕ) (ms : List Step) (w : World) → AreMadeOnce G → Ran G t ms w → IsOf w m e → stands_volatile e w.past ≡ false
lasting_alone G t m e ms w once r of =
    false_from_ne_true (stands_volatile e w.past)
    (λ v. let o = some_manager (manager_of w.calls e) m of in
    made_apart G e w.calls w.past once (ran_maker G t e ms w r o.0 o.1) ((ran_made G t ms w r).volatile e (volatile_made e w.past v)))
