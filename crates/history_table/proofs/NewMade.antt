-- What a call makes that may still be entered stands nowhere, and no connection was opened for it: each enlistment, each ENLIST and each clone is of a call that came.
use Rattle.std.proofs.Common.{◌≡◌, ℕ, true, false, List, Some, subst, sym, ◌==◌, Bool, ◌&&◌, refl, [], ◌∷◌}
use Rattle.std.specs.Prelude.{not, find}
use Rattle.std.proofs.lemmas.Bool.{false_from_ne_true}
use Rattle.dtx_values.specs.declared.call.Call.{Call}
use Rattle.dtx_values.specs.declared.call.Call.TheVariants.{Volatile, Durable, Promotable, Clone}
use Rattle.dtx_values.specs.declared.entry.Entry.{Entry}
use Rattle.dtx_values.specs.declared.entry.Entry.TheVariants.{Sent}
use Rattle.dtx_values.specs.declared.message.Conn.TheVariants.{Enl}
use Rattle.dtx_values.specs.declared.message.Dir.TheVariants.{Up, Down}
use Rattle.dtx_values.specs.declared.message.Message.TheVariants.{EnlistEnlist}
use Rattle.dtx_values.specs.declared.number.ActorNo.{ActorNo}
use Rattle.dtx_values.specs.declared.number.EnlNo.{EnlNo}
use Rattle.dtx_values.specs.declared.number.RmNo.{RmNo}
use Rattle.dtx_values.specs.declared.words.Class.{Class}
use Rattle.dtx_model.specs.declared.waiting.EnteredCall.{EnteredCall}
use Rattle.dtx_model.specs.Words.{has, each}
use Rattle.dtx_model.specs.Entries.{is_call, is_promoted}
use Rattle.dtx_model.specs.Caused.{AreMadeOnce, made_by, Ran}
use Rattle.dtx_model.specs.Grammar.{Name, OfEnlistment, OfClone}
use Rattle.dtx_model.specs.Wires.{opens}
use Rattle.dtx_model.proofs.Bools.{not_both, and_both, and_left, not_false, not_true, and_right}
use Rattle.dtx_model.specs.declared.waiting.Wanted.TheVariants.{Identifier, Place}
use Rattle.dtx_model.specs.Promotes.{is_created_got, is_promoting, is_under_way}
use Rattle.dtx_model.specs.Waiting.{Waiter, is_place_of, waiting}
use Rattle.dtx_model.specs.World.{World}
use Rattle.dtx_model.specs.Steps.{Step}
use Rattle.dtx_model.specs.Observed.{is_promotion_failed}
use Rattle.history_table.proofs.Messages.{ENLIST}
use Rattle.history_table.proofs.Crossed.{is_sent_on}
use Rattle.history_table.proofs.Scans.{has_more, each_more}
use Rattle.history_table.proofs.EntryTests.{is_enlisted, is_cloned}
use Rattle.history_table.proofs.Makers.{AreMade, lasting_makes, makes_name, of-found, IsWaiter, all_unplaced, place_made, ran_made}
use Rattle.history_table.proofs.WorldCalls.{makes_new}
use Rattle.history_table.proofs.Marks.{IsMarked}
use Rattle.history_table.proofs.Table.{stands_volatile}
use Rattle.history_table.proofs.Waiters.{is_unplaced}
use Rattle.history_table.proofs.Handover.{is_unsent, IsWaitedFor}
use Rattle.history_table.proofs.HalfRows.{volatile_stands}
use Rattle.history_table.proofs.Owned.{handover_stands}
use Rattle.history_table.proofs.Handing.{IsHanding, ran_after, ran_handing}
use Rattle.history_table.proofs.Lists.{OfEach}
use Rattle.history_table.proofs.Tests.{first_of_three, second_of_three}
use Rattle.history_table.proofs.Keeping.{Keeps}
use Rattle.history_table.proofs.OnlyHanded.{handed_lasting, lasting_firm, only_handed}
use Rattle.history_table.proofs.WaitingApart.{ran_apart}

-- a call whose line came, and that makes this name, isn't that of a line that didn't come
came_already : (G : ℕ → ActorNo → Call → Type 0) (h : List Entry) (x : Name) (n m : ℕ) (a b : ActorNo) (c d : Call) → AreMadeOnce G → G n a c → G m b d → made_by c ≡ Some x → made_by d ≡ Some x
    → has (is_call n) h ≡ false → has (is_call m) h ≡ true → ⊥
came_already G h x n m a b c d once g k p q new old =
    let same : n ≡ m = once n m a b c d x g k p q in
    let P : ℕ → Type 0 = λ j. has (is_call j) h ≡ true in
    not_both (has (is_call n) h) (subst P (sym same) old) new

opens_sent : (e : EnlNo) (x : Entry) → opens (Enl e) x ≡ true → is_sent_on (Enl e) Up ENLIST x ≡ true
opens_sent e (Sent (Enl f) Up (EnlistEnlist i)) t = and_both ((e.value == f.value) && true) true (and_both (e.value == f.value) true (and_left (e.value == f.value) true t) refl) refl
opens_sent e (Sent (Enl f) Up m) t = never (e.value == f.value) t
  where
    never : {A : Type 0} (b : Bool) → (b && false) ≡ true → A
    never true q = absurd cc
    never false q = absurd cc
opens_sent e (Sent c Down m) t = absurd cc
opens_sent e _ t = absurd cc

new_enlistment : (G : ℕ → ActorNo → Call → Type 0) (ks : List EnteredCall) (h : List Entry) (n : ℕ) (a : ActorNo) (c : Call) (e : EnlNo) → AreMadeOnce G → AreMade G ks h → G n a c → made_by c ≡ Some (OfEnlistment e.value)
    → has (is_call n) h ≡ false → (not (has (is_enlisted e.value) h) && not (has (opens (Enl e)) h)) ≡ true
new_enlistment G ks h n a c e once made g p new =
    and_both (not (has (is_enlisted e.value) h)) (not (has (opens (Enl e)) h))
    (not_false (has (is_enlisted e.value) h)
    (false_from_ne_true (has (is_enlisted e.value) h)
    (λ t. let m = (made.enlisted e.value t).0 in
    came_already G h (OfEnlistment e.value) n m.number a m.actor c m.call once g m.may p (makes_name e.value m.call m.passes) new m.called)))
    (not_false (has (opens (Enl e)) h)
    (false_from_ne_true (has (opens (Enl e)) h)
    (λ t. let m = made.sent e (has_more (opens (Enl e)) (is_sent_on (Enl e) Up ENLIST) (opens_sent e) h t) in
    came_already G h (OfEnlistment e.value) n m.number a m.actor c m.call once g m.may p (makes_name e.value m.call (lasting_makes e.value m.call m.passes)) new m.called)))

-- what a call makes whose line didn't come
pub all_new : (G : ℕ → ActorNo → Call → Type 0) (ks : List EnteredCall) (h : List Entry) → AreMadeOnce G → AreMade G ks h → IsMarked G h → (n : ℕ) (a : ActorNo) (c : Call) → G n a c → has (is_call n) h ≡ false
    → makes_new h c ≡ true
all_new G ks h once made m n a (Volatile u e o v) g new = new_enlistment G ks h n a (Volatile u e o v) e once made g refl new
all_new G ks h once made m n a (Durable u e r s) g new = new_enlistment G ks h n a (Durable u e r s) e once made g refl new
all_new G ks h once made m n a (Promotable u e r v o p) g new = new_enlistment G ks h n a (Promotable u e r v o p) e once made g refl new
all_new G ks h once made m n a (Clone u c k) g new =
    not_false (has (is_cloned c.value) h)
    (false_from_ne_true (has (is_cloned c.value) h)
    (λ t. let q = m.cloned c.value t in came_already G h (OfClone c.value) n q.number a q.actor (Clone u c k) q.call once g q.may refl q.makes new q.called))
all_new G ks h once made m n a c g new = refl

-- until the promotion succeeds the place of each that waits is free: no ENLIST was sent but that of the handover, which stands
place_free : (h : List Entry) → IsHanding h → has is_promoted h ≡ false → (v : Waiter) → is_unplaced h v ≡ true → is_unsent h v ≡ true
place_free h a p (n, Identifier) u = refl
place_free h a p (n, Place e r c) u =
    let none : has (is_enlisted e.value) h ≡ false = not_true (has (is_enlisted e.value) h) u in
    and_both (not (has (opens (Enl e)) h)) (not (stands_volatile e.value h))
    (not_false (has (opens (Enl e)) h) (false_from_ne_true (has (opens (Enl e)) h) (λ o. not_both (has (is_enlisted e.value) h) (handover_stands e.value h (a p e o)) none)))
    (not_false (stands_volatile e.value h) (false_from_ne_true (stands_volatile e.value h) (λ o. not_both (has (is_enlisted e.value) h) (volatile_stands e.value h o) none)))

-- a call that waits for this place
found_unplaced : (h : List Entry) (ws : List Waiter) (e : EnlNo) (n : ℕ) (r : RmNo) (c : Class) → each (is_unplaced h) ws ≡ true → find (is_place_of e.value) ws ≡ Some (n, Place e r c) → has (is_enlisted e.value) h ≡ false
found_unplaced h ws e n r c u q = not_true (has (is_enlisted e.value) h) (of-found (λ v. is_unplaced h v ≡ true) (is_place_of e.value) ws (n, Place e r c) (each_one ws u) q)
  where
    each_one : (ws : List Waiter) → each (is_unplaced h) ws ≡ true → OfEach (λ v. is_unplaced h v ≡ true) ws
    each_one [] u = tt
    each_one (v ∷ ws) u = (and_left (is_unplaced h v) (each (is_unplaced h) ws) u, each_one ws (and_right (is_unplaced h v) (each (is_unplaced h) ws) u))

-- The enlistment of the handover and the calls that wait.
pub ran_waited : (G : ℕ → ActorNo → Call → Type 0) (t : ℕ) (ms : List Step) (w : World) → AreMadeOnce G → Ran G t ms w → Keeps w.past → IsWaitedFor w.past (waiting w.calls w.past)
ran_waited G t ms w once r k =
    let h = w.past in
    let made = ran_made G t ms w r in
    let handing = ran_handing G t ms w r k in
    let apart = ran_apart G t ms w once r in
    let unplaced = all_unplaced G w.calls h once made in
    let started : is_under_way h ≡ true → has is_promoting h ≡ true = λ y. first_of_three (has is_promoting h) (not (has is_promoted h)) (not (has is_promotion_failed h)) y in
    let going : is_under_way h ≡ true → has is_promoted h ≡ false =
    λ y. not_true (has is_promoted h) (second_of_three (has is_promoting h) (not (has is_promoted h)) (not (has is_promotion_failed h)) y) in
    record {
      handed = λ y. only_handed h k handing (started y) (going y);
      lasting = λ e q. lasting_firm e.value h k (handed_lasting e h k q);
      unsent = λ n e. false_from_ne_true (has (opens (Enl e)) h) (λ o. not_both (has is_created_got h) (ran_after G t ms w r k e o) n);
      places = λ y. each_more (is_unplaced h) (is_unsent h) (λ v u. place_free h handing (going y) v u) (waiting w.calls h) unplaced;
      apart = apart.apart;
      free = λ e n x c s q. (
        found_unplaced h (waiting w.calls h) e n x c unplaced q,
        let v : IsWaiter G w.calls h (n, Place e x c) = of-found (IsWaiter G w.calls h) (is_place_of e.value) (waiting w.calls h) (n, Place e x c) made.waiters q in (place_made e x c v.call v.wants).1,
      );
      quiet = apart.quiet;
    }
