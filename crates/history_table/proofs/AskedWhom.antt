-- Who votes no more after a loss, and who was asked to promote or to commit: what a reply goes by, from what the table and the marks say.
use Rattle.std.proofs.Common.{◌≡◌, ℕ, ◌==◌, Bool, true, false, ◌&&◌, ◌||◌, List, [], ◌∷◌, refl, sym, subst, ◌∙◌}
use Rattle.std.specs.Prelude.{not, map}
use Rattle.std.proofs.lemmas.Bool.{eqb-true, or_left}
use Rattle.dtx_values.specs.declared.call.Call.{Call}
use Rattle.dtx_values.specs.declared.entry.Entry.{Entry}
use Rattle.dtx_values.specs.declared.entry.Entry.TheVariants.{Enlisted, Lost, Reenlisted, Told}
use Rattle.dtx_values.specs.declared.entry.Party.TheVariants.{Enl as Member}
use Rattle.dtx_values.specs.declared.message.Conn.TheVariants.{Enl}
use Rattle.dtx_values.specs.declared.number.ActorNo.{ActorNo}
use Rattle.dtx_values.specs.declared.number.EnlNo.{EnlNo}
use Rattle.dtx_model.specs.declared.listener.Listener.{Listener}
use Rattle.dtx_values.specs.Ends.{knows}
use Rattle.dtx_model.specs.Words.{has}
use Rattle.dtx_model.specs.Entries.{is_lost}
use Rattle.dtx_model.specs.Observed.{come_back, ends_of, hear, listener_number, listeners, lose, observe}
use Rattle.dtx_model.specs.Half.{is_gone}
use Rattle.dtx_model.proofs.Bools.{and_both, and_left, and_right, not_both, not_false, or_case, or_first, or_right, or_second}
use Rattle.history_table.proofs.Tests.{eq_swap}
use Rattle.history_table.proofs.Lists.{has_kept, has-insert}
use Rattle.history_table.proofs.Owned.{is_lost_listener, listens}
use Rattle.history_table.proofs.Table.{stands_volatile}
use Rattle.history_table.proofs.Keeping.{Keeps, keeps_before, newest}
use Rattle.history_table.proofs.Standing.{unvolatile_if_opened}
use Rattle.history_table.proofs.EntryTests.{is_return}
use Rattle.history_table.proofs.HalfReplies.{IsLeft}
use Rattle.history_table.proofs.WorldReplies.{IsAsked}
use Rattle.history_table.proofs.Marks.{IsMarked, opened_if_returned}

through : {A : Type 0} (p q : A → Bool) (f : A → A) → ((x : A) → p x ≡ true → q (f x) ≡ true) → (xs : List A) → has p xs ≡ true → has q (map f xs) ≡ true
through p q f g [] k = absurd cc
through p q f g (x ∷ xs) k = or_case (p x) (has p xs) (λ a. or_left (q (f x)) (has q (map f xs)) (g x a)) (λ a. or_right (q (f x)) (has q (map f xs)) (through p q f g xs a)) k

-- who was lost and didn't come back, the listeners say is lost
lost_listed : (n : ℕ) (h : List Entry) → Keeps h → has (is_return n) h ≡ false → has (is_lost n) h ≡ true → has (is_lost_listener n) (listeners h) ≡ true
lost_listed n [] k r t = absurd cc
lost_listed n (Enlisted e c ∷ h) k r t =
    let new : Listener = record { enlistment = e; told = false; lost = false } in
    has-insert (is_lost_listener n) listener_number new (listeners h) ∙ or_right (is_lost_listener n new) (has (is_lost_listener n) (listeners h)) (lost_listed n h (keeps_before (Enlisted e c) h k) r t)
lost_listed n (Told (Member e) o ∷ h) k r t = has_kept (is_lost_listener n) (hear e.value) (λ l. refl) (listeners h) ∙ lost_listed n h (keeps_before (Told (Member e) o) h k) r t
lost_listed n (Lost e ∷ h) k r t =
    or_case (n == e.value) (has (is_lost n) h)
    (λ q. let same : n ≡ e.value = eqb-true n e.value q in
    let P : ℕ → Type 0 = λ m. has (is_lost_listener m) (map (lose e.value) (listeners h)) ≡ true in
    subst P (sym same)
    (through (λ l. e.value == l.enlistment.value) (is_lost_listener e.value) (lose e.value)
    (λ l a. and_both (e.value == l.enlistment.value) ((e.value == l.enlistment.value) || l.lost) a (or_left (e.value == l.enlistment.value) l.lost a)) (listeners h)
    (listens e.value h ∙ newest (Lost e) h k)))
    (λ q. through (is_lost_listener n) (is_lost_listener n) (lose e.value)
    (λ l a. and_both (n == l.enlistment.value) ((e.value == l.enlistment.value) || l.lost) (and_left (n == l.enlistment.value) l.lost a)
    (or_right (e.value == l.enlistment.value) l.lost (and_right (n == l.enlistment.value) l.lost a))) (listeners h) (lost_listed n h (keeps_before (Lost e) h k) r q)) t
lost_listed n (Reenlisted e ∷ h) k r t =
    through (is_lost_listener n) (is_lost_listener n) (come_back e.value)
    (λ l a. let own = and_left (n == l.enlistment.value) l.lost a in
    and_both (n == l.enlistment.value) (not (e.value == l.enlistment.value) && l.lost) own
    (and_both (not (e.value == l.enlistment.value)) l.lost (not_false (e.value == l.enlistment.value) (other l.enlistment.value own)) (and_right (n == l.enlistment.value) l.lost a))) (listeners h)
    (lost_listed n h (keeps_before (Reenlisted e) h k) (or_second (n == e.value) (has (is_return n) h) r) t)
  where
    other : (m : ℕ) → (n == m) ≡ true → (e.value == m) ≡ false
    other m q = let P : ℕ → Type 0 = λ j. (e.value == j) ≡ false in subst P (eqb-true n m q) (eq_swap e.value n ∙ or_first (n == e.value) (has (is_return n) h) r)
lost_listed n (x ∷ h) k r t = lost_listed n h (keeps_before x h k) r t

-- Who was lost and isn't gone came back: the local side doesn't know its own connection, which was opened, so it is no volatile.
pub is_left : (G : ℕ → ActorNo → Call → Type 0) (h : List Entry) → Keeps h → IsMarked G h → (e : EnlNo) → IsLeft h e
unfolding observe
is_left G h k m e = λ t g. by (has (is_return e.value) h) refl t g
  where
    by : (b : Bool) → has (is_return e.value) h ≡ b → has (is_lost e.value) h ≡ true → is_gone (observe h) e.value ≡ false → (knows (Enl e) (ends_of h) ≡ false) × (stands_volatile e.value h ≡ false)
    by true r t g = (m.back e r, unvolatile_if_opened e h k (opened_if_returned e h k r))
    by false r t g = absurd (not_both (is_gone (observe h) e.value) (lost_listed e.value h k r t) g)

-- so what a reply goes by stands
pub asked_whom : (G : ℕ → ActorNo → Call → Type 0) (h : List Entry) → Keeps h → IsMarked G h → IsAsked h
asked_whom G h k m = record { left = is_left G h k m; promote = m.promote; replied = m.replied; single = m.single }
