-- Where a record was appended, or may have been: what holds where an append may come, and stays, holds; nobody was handed the commit, and no enlistment was told that it aborted; and each that was
-- asked to prepare, and is no volatile, came to the coordinator and voted well.
use Rattle.std.proofs.Common.{ℕ, Bool, true, false, ◌≡◌, ◌==◌, ◌&&◌, ◌||◌, List, ◌∷◌, refl, subst, ◌⊎◌, inl, inr}
use Rattle.std.specs.Prelude.{not}
use Rattle.std.proofs.lemmas.Bool.{false_from_ne_true}
use Rattle.dtx_values.specs.declared.entry.Entry.{Entry}
use Rattle.dtx_values.specs.declared.entry.Entry.TheVariants.{Got, Told}
use Rattle.dtx_values.specs.declared.entry.Party.TheVariants.{Enl as Member}
use Rattle.dtx_values.specs.declared.message.Conn.TheVariants.{Enl}
use Rattle.dtx_values.specs.declared.message.Dir.TheVariants.{Down}
use Rattle.dtx_values.specs.declared.message.Message.TheVariants.{EnlistPrepare}
use Rattle.dtx_values.specs.declared.number.EnlNo.{EnlNo}
use Rattle.dtx_values.specs.declared.words.Outcome.TheVariants.{Aborted}
use Rattle.dtx_model.specs.Words.{has, latest}
use Rattle.dtx_model.specs.Entries.{decision_of, is_any_hand, is_any_single_sent, is_asked, is_commit_got, is_final, is_good_vote, is_record, is_two_phase_got, same_outcome}
use Rattle.dtx_model.specs.Learned.{coordinator_aborted}
use Rattle.dtx_model.specs.Promotes.{is_promoting}
use Rattle.dtx_model.specs.Tied.{before_first_stop, can_log, has_mark, is_logged, is_stop}
use Rattle.dtx_model.specs.AtLog.{is_restart}
use Rattle.dtx_model.proofs.Bools.{and_both, and_left, and_right, not_both, not_false, not_true, or_case, or_right}
use Rattle.history_table.proofs.Aborting.{IsBarred, barred_apart, barred_unable, decided_off}
use Rattle.history_table.proofs.CoreKnown.{enlist_of, got_there}
use Rattle.history_table.proofs.Crossed.{is_got_on}
use Rattle.history_table.proofs.EntryTests.{is_decided}
use Rattle.history_table.proofs.Handed.{is_answered}
use Rattle.history_table.proofs.Keeping.{Keeps}
use Rattle.history_table.proofs.LetDecide.{answered_handed, one_apart, one_if_single, unsingle_unhanded}
use Rattle.history_table.proofs.Recording.{came_voted_at, came_voted_stays, can_live, can_two_phase, first_none, from_first, if_record, keeps_first, live_if_record, promoted_if_yes, promoting_if_promoted, yes_at}
use Rattle.history_table.proofs.Scans.{has_more}
use Rattle.history_table.proofs.Sendings.{aborted_more, logged_record, record_of_mark}
use Rattle.history_table.proofs.Standing.{prepared_if_asked}
use Rattle.history_table.proofs.Table.{is_enlist_got, is_opening_got, is_prepare_got, stands_volatile}
use Rattle.history_table.proofs.Tests.{eq_self}
use Rattle.settled_histories.specs.Stopped.{is_record_unknown}
use Rattle.settled_histories.proofs.Unheard.{unknown_open, unknown_unbarred}
use Rattle.script_histories.proofs.OneOutcome.{final_cause, heard_aborted}
use Rattle.script_histories.proofs.Rules.{decided_same}
use Rattle.record_laws.specs.Recorded.{is_record_tried, is_told_so}

-- what holds where an append may come, and stays, holds where a record was tried
pub if_tried : (Q : List Entry → Bool) → ((x : Entry) (h : List Entry) → Keeps (x ∷ h) → Q h ≡ true → Q (x ∷ h) ≡ true) → ((h : List Entry) → Keeps h → can_log h ≡ true → Q h ≡ true) → (h : List Entry) → Keeps h
    → is_record_tried h ≡ true → Q h ≡ true
if_tried Q stays at h k t =
    or_case (has is_logged h || has_mark h) (can_log (before_first_stop h))
    (λ r. if_record Q stays at h k (or_case (has is_logged h) (has_mark h) (λ l. has_more is_logged is_record logged_record h l) (λ m. record_of_mark h m) r))
    (λ c. from_first Q stays h k (at (before_first_stop h) (keeps_first h k) c)) t

-- Nobody was handed the commit.
abbrev is_joint : List Entry → Bool
is_joint h = has is_promoting h && has is_two_phase_got h

joint_stays : (x : Entry) (h : List Entry) → Keeps (x ∷ h) → is_joint h ≡ true → is_joint (x ∷ h) ≡ true
joint_stays x h k t =
    and_both (has is_promoting (x ∷ h)) (has is_two_phase_got (x ∷ h)) (or_right (is_promoting x) (has is_promoting h) (and_left (has is_promoting h) (has is_two_phase_got h) t))
    (or_right (is_two_phase_got x) (has is_two_phase_got h) (and_right (has is_promoting h) (has is_two_phase_got h) t))

joint_at : (h : List Entry) → Keeps h → can_log h ≡ true → is_joint h ≡ true
joint_at h k c = and_both (has is_promoting h) (has is_two_phase_got h) (promoting_if_promoted h k (promoted_if_yes h k (yes_at h k c))) (can_two_phase h c)

pub tried_unhanded : (h : List Entry) → Keeps h → is_record_tried h ≡ true → has is_any_hand h ≡ false
tried_unhanded h k t =
    let joint = if_tried is_joint joint_stays joint_at h k t in
    let two = and_right (has is_promoting h) (has is_two_phase_got h) joint in
    unsingle_unhanded h k (and_left (has is_promoting h) (has is_two_phase_got h) joint) (unsingle h k two)
  where
    unsingle : (h : List Entry) → Keeps h → has is_two_phase_got h ≡ true → has is_any_single_sent h ≡ false
    unsingle h k two = false_from_ne_true (has is_any_single_sent h) (λ s. not_both (has is_two_phase_got h) two (one_apart h k (one_if_single h k s)))

-- No abort stands.
abbrev IsTried : List Entry → Type 0
IsTried h = (has is_record h ≡ true) ⊎ ((can_log h ≡ true) ⊎ (is_record_unknown h ≡ true))

tried_case : (h : List Entry) → has is_restart h ≡ false → is_record_tried h ≡ true → IsTried h
tried_case h n t =
    or_case (has is_logged h || has_mark h) (can_log (before_first_stop h))
    (λ r. inl (or_case (has is_logged h) (has_mark h) (λ l. has_more is_logged is_record logged_record h l) (λ m. record_of_mark h m) r)) (λ c. inr (by (has is_stop h) refl c)) t
  where
    by : (b : Bool) → has is_stop h ≡ b → can_log (before_first_stop h) ≡ true → (can_log h ≡ true) ⊎ (is_record_unknown h ≡ true)
    by true s c = inr (and_both (has is_stop h && can_log (before_first_stop h)) (not (has is_restart h)) (and_both (has is_stop h) (can_log (before_first_stop h)) s c) (not_false (has is_restart h) n))
    by false s c = inl (subst (λ g. can_log g ≡ true) (first_none h h s) c)

tried_unbarred : (h : List Entry) → Keeps h → IsTried h → IsBarred h → ⊥
tried_unbarred h k (inl r) b = barred_apart h k b r
tried_unbarred h k (inr (inl c)) b = barred_unable h k b c
tried_unbarred h k (inr (inr u)) b = unknown_unbarred h k u b

tried_live : (h : List Entry) → Keeps h → IsTried h → coordinator_aborted h ≡ false
tried_live h k (inl r) = live_if_record h k r
tried_live h k (inr (inl c)) = can_live h c
tried_live h k (inr (inr u)) = (unknown_open h k u).live

tried_off : (h : List Entry) → Keeps h → has is_restart h ≡ false → is_record_tried h ≡ true → has (is_final Aborted) h ≡ true → ⊥
tried_off h k n t f =
    let tried = tried_case h n t in
    or_case (is_decided Aborted (latest decision_of h) || has (is_answered Aborted) h) (coordinator_aborted h)
    (λ a. or_case (is_decided Aborted (latest decision_of h)) (has (is_answered Aborted) h)
    (λ d. tried_unbarred h k tried (decided_off h k (decided_same Aborted (latest decision_of h) d)).barred)
    (λ b. not_both (has is_any_hand h) (answered_handed Aborted h k b) (tried_unhanded h k t)) a)
    (λ c. not_both (coordinator_aborted h) c (tried_live h k tried)) (final_cause Aborted coordinator_aborted aborted_more heard_aborted h k f)

told_final : (e : ℕ) (x : Entry) → is_told_so Aborted e x ≡ true → is_final Aborted x ≡ true
told_final e (Told (Member f) p) t = and_right (e == f.value) (same_outcome Aborted p) t
told_final e _ t = absurd cc

pub tried_unaborted : (h : List Entry) → Keeps h → has is_restart h ≡ false → is_record_tried h ≡ true → (e : ℕ) → has (is_told_so Aborted e) h ≡ false
tried_unaborted h k n t e = false_from_ne_true (has (is_told_so Aborted e) h) (λ a. tried_off h k n t (has_more (is_told_so Aborted e) (is_final Aborted) (told_final e) h a))

-- Who was asked to prepare, and is no volatile, came to the coordinator.
prepare_got_on : (f : EnlNo) (x : Entry) → is_prepare_got f.value x ≡ true → is_got_on (Enl f) Down (λ m. true) x ≡ true
prepare_got_on f (Got (Enl g) Down EnlistPrepare) t = and_both ((f.value == g.value) && true) true (and_both (f.value == g.value) true t refl) refl
prepare_got_on f _ t = absurd cc

pub come_if_asked : (f : EnlNo) (h : List Entry) → Keeps h → stands_volatile f.value h ≡ false → has (is_asked f.value) h ≡ true → has (is_enlist_got f.value) h ≡ true
come_if_asked f h k n a =
    or_case (stands_volatile f.value h) (has (is_prepare_got f.value) h) (λ v. absurd (not_both (stands_volatile f.value h) v n))
    (λ p. has_more (is_opening_got (Enl f)) (is_enlist_got f.value) (enlist_of f.value f (eq_self f.value)) h
    (got_there (Enl f) (λ m. true) h k (has_more (is_prepare_got f.value) (is_got_on (Enl f) Down (λ m. true)) (prepare_got_on f) h p))) (prepared_if_asked f.value h k a)

-- So it voted well.
pub tried_good : (f : EnlNo) (h : List Entry) → Keeps h → is_record_tried h ≡ true → has (is_enlist_got f.value) h ≡ true → has (is_good_vote f.value) h ≡ true
tried_good f h k t came =
    or_case (not (has (is_enlist_got f.value) h)) (has (is_good_vote f.value) h) (λ n. absurd (not_both (has (is_enlist_got f.value) h) came (not_true (has (is_enlist_got f.value) h) n))) (λ g. g)
    (and_right (has is_commit_got h) (not (has (is_enlist_got f.value) h) || has (is_good_vote f.value) h)
    (if_tried (λ g. has is_commit_got g && (not (has (is_enlist_got f.value) g) || has (is_good_vote f.value) g)) (came_voted_stays f.value) (came_voted_at f) h k t))
