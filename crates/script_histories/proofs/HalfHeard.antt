-- Where each that is told an abort before the decision was enlisted, each listener says whether its enlistment was told, and whether it is lost, promoted or not.
use Rattle.std.proofs.Common.{◌||◌, Bool, true, List, ℕ, ◌≡◌, ◌∙◌, Option, Some, None, is_some, refl, sym, ◌∷◌, ◌==◌, false, [], ◌&&◌, ap, slice_get}
use Rattle.std.specs.Prelude.{not}
use Rattle.std.proofs.lemmas.Bool.{or_left}
use Rattle.dtx_values.specs.declared.entry.Entry.{Entry}
use Rattle.dtx_values.specs.declared.entry.Entry.TheVariants.{Told, Enlisted, Lost, Reenlisted}
use Rattle.dtx_values.specs.declared.entry.Party.TheVariants.{Enl}
use Rattle.dtx_values.specs.declared.message.Conn.TheVariants.{Enl as OnEnl}
use Rattle.dtx_values.specs.declared.entry.Party.{Party}
use Rattle.dtx_values.specs.declared.words.Outcome.{Outcome}
use Rattle.dtx_values.specs.declared.words.Outcome.TheVariants.{Aborted, Committed, InDoubt}
use Rattle.dtx_values.specs.declared.number.EnlNo.{EnlNo}
use Rattle.dtx_values.specs.declared.words.Class.{Class}
use Rattle.dtx_values.specs.Class.{is_volatile}
use Rattle.dtx_model.specs.Outcome.{hears_doubt}
use Rattle.dtx_model.specs.declared.listener.Listener.{Listener}
use Rattle.dtx_model.specs.Words.{has, latest, always}
use Rattle.dtx_model.specs.Entries.{is_decision, is_sealed, decision_of, is_record, is_told}
use Rattle.dtx_model.specs.Observed.{come_back, hear, listener_number, listeners, lose}
use Rattle.dtx_model.specs.Seen.{is_away, IsHeard}
use Rattle.dtx_model.specs.Wires.{opens}
use Rattle.dtx_model.proofs.Bools.{or_case, or_right, and_left, and_right, or_false, or_second, and_never, not_true}
use Rattle.history_table.proofs.EntryTests.{is_enlisted, is_certain, is_decided}
use Rattle.history_table.proofs.Owned.{decision_seen}
use Rattle.history_table.proofs.Tests.{first_of_three, apart, first_of_five, eq_swap}
use Rattle.history_table.proofs.Table.{ends_again, hears_decision, hears_here, class_row, rule}
use Rattle.history_table.proofs.Recording.{sealed_if_yes, yes_if_record, enlisted_unsealed}
use Rattle.history_table.proofs.Keeping.{Keeps, keeps_before, newest}
use Rattle.history_table.proofs.Lists.{OfEach, of-insert, of-map, of-more, of-at}
use Rattle.history_table.proofs.HalfRows.{enlisted_once}
use Rattle.script_histories.proofs.OneOutcome.{heard_doubt, heard_record}
use Rattle.script_histories.proofs.Heard.{swapped}

-- the entry tells an abort to one that was enlisted, or after the decision
abbrev pub is_told_here : List Entry → Entry → Bool
is_told_here h (Told (Enl e) Aborted) = has is_decision h || has (is_enlisted e.value) h
is_told_here h _ = true

-- What is told is told after the decision or the seal, or to one that was enlisted.
abbrev is_told_there : ℕ → List Entry → Bool
is_told_there n h = has is_decision h || (has is_sealed h || has (is_enlisted n) h)

decision_there : (p : Party) (o : Outcome) (h : List Entry) → hears_decision h p o ≡ true → has is_decision h ≡ true
decision_there p o h t =
    sym (decision_seen h) ∙ there o (latest decision_of h) (first_of_three (is_decided o (latest decision_of h)) (is_certain o || hears_doubt h p) (not (ends_again h p)) t)
  where
    there : (x : Outcome) (o : Option Outcome) → is_decided x o ≡ true → is_some o ≡ true
    there x (Some y) k = refl
    there x None k = absurd cc

heard_seal : (h : List Entry) → Keeps h → has is_record h ≡ true → has is_sealed h ≡ true
heard_seal h k r = sealed_if_yes h k (yes_if_record h k r)

told_there : (e : EnlNo) (o : Outcome) (h : List Entry) → Keeps (Told (Enl e) o ∷ h) → is_told_here h (Told (Enl e) o) ≡ true → is_told_there e.value h ≡ true
told_there e Committed h k t =
    or_case (hears_here h (Enl e) Committed) (hears_decision h (Enl e) Committed)
    (λ s. or_right (has is_decision h) (has is_sealed h || has (is_enlisted e.value) h) (or_left (has is_sealed h) (has (is_enlisted e.value) h) (heard_seal h (keeps_before (Told (Enl e) Committed) h k) (heard_record (Enl e) h (keeps_before (Told (Enl e) Committed) h k) s))))
    (λ d. or_left (has is_decision h) (has is_sealed h || has (is_enlisted e.value) h) (decision_there (Enl e) Committed h d)) (newest (Told (Enl e) Committed) h k)
told_there e Aborted h k t =
    or_case (has is_decision h) (has (is_enlisted e.value) h) (λ d. or_left (has is_decision h) (has is_sealed h || has (is_enlisted e.value) h) d)
    (λ s. or_right (has is_decision h) (has is_sealed h || has (is_enlisted e.value) h) (or_right (has is_sealed h) (has (is_enlisted e.value) h) s)) t
told_there e InDoubt h k t =
    or_case (hears_here h (Enl e) InDoubt) (hears_decision h (Enl e) InDoubt) (λ s. absurd (heard_doubt (Enl e) h s))
    (λ d. or_left (has is_decision h) (has is_sealed h || has (is_enlisted e.value) h) (decision_there (Enl e) InDoubt h d)) (newest (Told (Enl e) InDoubt) h k)

-- who isn't enlisted wasn't told while nothing is decided or sealed
unenlisted_untold : (n : ℕ) (h : List Entry) → Keeps h → always is_told_here h ≡ true → has is_decision h ≡ false → has is_sealed h ≡ false → has (is_enlisted n) h ≡ false
    → has (is_told n) h ≡ false
unenlisted_untold n [] k t d s u = refl
unenlisted_untold n (Enlisted f c ∷ h) k t d s u = unenlisted_untold n h (keeps_before (Enlisted f c) h k) t d s (or_second (n == f.value) (has (is_enlisted n) h) u)
unenlisted_untold n (Told (Enl f) o ∷ h) k t d s u =
    or_false (n == f.value) (has (is_told n) h)
    (apart (λ m. is_told_there m h) n f.value (or_false (has is_decision h) (has is_sealed h || has (is_enlisted n) h) d (or_false (has is_sealed h) (has (is_enlisted n) h) s u))
    (told_there f o h k (and_left (is_told_here h (Told (Enl f) o)) (always is_told_here h) t)))
    (unenlisted_untold n h (keeps_before (Told (Enl f) o) h k) (and_right (is_told_here h (Told (Enl f) o)) (always is_told_here h) t) d s u)
unenlisted_untold n (x ∷ h) k t d s u =
    unenlisted_untold n h (keeps_before x h k) (and_right (is_told_here h x) (always is_told_here h) t) (or_second (is_decision x) (has is_decision h) d)
    (or_second (is_sealed x) (has is_sealed h) s) (or_second (is_enlisted n x) (has (is_enlisted n) h) u)

-- who isn't enlisted isn't lost
unenlisted_there : (n : ℕ) (h : List Entry) → Keeps h → has (is_enlisted n) h ≡ false → is_away n h ≡ false
unenlisted_there n [] k u = refl
unenlisted_there n (Enlisted f c ∷ h) k u = unenlisted_there n h (keeps_before (Enlisted f c) h k) (or_second (n == f.value) (has (is_enlisted n) h) u)
unenlisted_there n (Lost f ∷ h) k u =
    or_false (n == f.value) (is_away n h) (apart (λ m. has (is_enlisted m) h) n f.value u (newest (Lost f) h k)) (unenlisted_there n h (keeps_before (Lost f) h k) u)
unenlisted_there n (Reenlisted f ∷ h) k u = ap (λ b. not (n == f.value) && b) (unenlisted_there n h (keeps_before (Reenlisted f) h k) u) ∙ and_never (not (n == f.value))
unenlisted_there n (x ∷ h) k u = unenlisted_there n h (keeps_before x h k) (or_second (is_enlisted n x) (has (is_enlisted n) h) u)

-- who is enlisted is so while nothing is decided
enlisted_undecided : (e : EnlNo) (c : Class) (h : List Entry) → rule h (Enlisted e c) ≡ true → has is_decision h ≡ false
enlisted_undecided e c h r =
    not_true (has is_decision h)
    (first_of_five (not (has is_decision h)) (not (has is_sealed h)) (not (has (is_enlisted e.value) h)) (class_row h e.value c) (not (is_volatile c && has (opens (OnEnl e)) h)) r)

-- one that comes back is no longer lost, and the others stay as they are
back_heard : (e : EnlNo) (h : List Entry) (l : Listener) → IsHeard h l → IsHeard (Reenlisted e ∷ h) (come_back e.value l)
back_heard e h l w =
    let n = l.enlistment.value in record { told = w.told; lost = ap (λ b. not b && l.lost) (eq_swap e.value n) ∙ ap (λ b. not (n == e.value) && b) w.lost }

-- each listener says so
listeners_heard : (h : List Entry) → Keeps h → always is_told_here h ≡ true → OfEach (IsHeard h) (listeners h)
listeners_heard [] k t = tt
listeners_heard (Enlisted e c ∷ h) k t =
    let own = keeps_before (Enlisted e c) h k in
    let rule = newest (Enlisted e c) h k in
    let new = enlisted_once e c h rule in
    of-insert (IsHeard (Enlisted e c ∷ h)) listener_number (record { enlistment = e; told = false; lost = false })
    (record { told = sym (unenlisted_untold e.value h own t (enlisted_undecided e c h rule) (enlisted_unsealed e c h rule) new); lost = sym (unenlisted_there e.value h own new) }) (listeners h)
    (of-more (IsHeard h) (IsHeard (Enlisted e c ∷ h)) (λ l w. record { told = w.told; lost = w.lost }) (listeners h) (listeners_heard h own t))
listeners_heard (Told (Enl e) o ∷ h) k t =
    of-map (IsHeard h) (IsHeard (Told (Enl e) o ∷ h)) (hear e.value) (λ l w. record { told = swapped e.value l.enlistment.value l.told _ w.told; lost = w.lost }) (listeners h)
    (listeners_heard h (keeps_before (Told (Enl e) o) h k) (and_right (is_told_here h (Told (Enl e) o)) (always is_told_here h) t))
listeners_heard (Lost e ∷ h) k t =
    of-map (IsHeard h) (IsHeard (Lost e ∷ h)) (lose e.value) (λ l w. record { told = w.told; lost = swapped e.value l.enlistment.value l.lost _ w.lost }) (listeners h)
    (listeners_heard h (keeps_before (Lost e) h k) t)
listeners_heard (Reenlisted e ∷ h) k t =
    of-map (IsHeard h) (IsHeard (Reenlisted e ∷ h)) (come_back e.value) (back_heard e h) (listeners h) (listeners_heard h (keeps_before (Reenlisted e) h k) t)
listeners_heard (x ∷ h) k t =
    of-more (IsHeard h) (IsHeard (x ∷ h)) (λ l w. record { told = w.told; lost = w.lost }) (listeners h)
    (listeners_heard h (keeps_before x h k) (and_right (is_told_here h x) (always is_told_here h) t))

-- the listener at a place says so
pub listener_heard : (h : List Entry) (n : ℕ) (l : Listener) → Keeps h → always is_told_here h ≡ true → slice_get (listeners h) n ≡ Some l → IsHeard h l
listener_heard h n l k t e = of-at (IsHeard h) (listeners h) n l (listeners_heard h k t) e
