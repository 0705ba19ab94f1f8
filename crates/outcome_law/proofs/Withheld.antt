-- So nobody is told committed or aborted there, and where a restart found no record, and there was no evidence before it, there is never evidence.
use Rattle.std.proofs.Common.{◌≡◌, true, List, ◌||◌, ◌&&◌, ◌∷◌, [], refl, false}
use Rattle.std.proofs.lemmas.Bool.{false_from_ne_true, or_left}
use Rattle.dtx_values.specs.declared.entry.Entry.{Entry}
use Rattle.dtx_values.specs.declared.words.Outcome.TheVariants.{Committed, Aborted}
use Rattle.dtx_model.specs.Words.{has, latest, always, ever}
use Rattle.dtx_model.specs.Entries.{decision_of, is_any_hand, is_final}
use Rattle.dtx_model.specs.Outcome.{evidence}
use Rattle.dtx_model.specs.Learned.{coordinator_aborted}
use Rattle.dtx_model.proofs.Bools.{not_both, or_case, and_left, and_right, not_false, and_both}
use Rattle.history_table.proofs.Keeping.{Keeps, keeps_before}
use Rattle.history_table.proofs.Evident.{unrecorded_open}
use Rattle.history_table.proofs.EntryTests.{is_decided}
use Rattle.history_table.proofs.Handed.{is_answered}
use Rattle.history_table.proofs.Sendings.{aborted_more}
use Rattle.history_table.proofs.Aborting.{decided_off, for_good_off, off_open}
use Rattle.settled_histories.specs.Stopped.{is_record_unknown, is_outcome_said, is_outcome_withheld, restarts_without_evidence}
use Rattle.settled_histories.proofs.Unheard.{unknown_promoting, unknown_open, unknown_unbarred, unknown_unhanded, unknown_more, restarted_aborted}
use Rattle.script_histories.proofs.OneOutcome.{final_evident, answered_handed, final_cause, heard_aborted}
use Rattle.script_histories.proofs.Rules.{decided_same}

commit_unsaid : (h : List Entry) → Keeps h → is_record_unknown h ≡ true → has (is_final Committed) h ≡ true → ⊥
commit_unsaid h k u t = not_both (evidence h) (final_evident h k t) (unrecorded_open h k (unknown_promoting h k u) (unknown_unhanded h k u) (unknown_open h k u).unrecorded)

abort_unsaid : (h : List Entry) → Keeps h → is_record_unknown h ≡ true → has (is_final Aborted) h ≡ true → ⊥
abort_unsaid h k u t =
    or_case (is_decided Aborted (latest decision_of h) || has (is_answered Aborted) h) (coordinator_aborted h)
    (λ a. or_case (is_decided Aborted (latest decision_of h)) (has (is_answered Aborted) h)
    (λ d. unknown_unbarred h k u (decided_off h k (decided_same Aborted (latest decision_of h) d)).barred)
    (λ b. not_both (has is_any_hand h) (answered_handed Aborted h k b) (unknown_unhanded h k u)) a)
    (λ c. not_both (coordinator_aborted h) c (unknown_open h k u).live) (final_cause Aborted coordinator_aborted aborted_more heard_aborted h k t)

silent_now : (x : Entry) (h : List Entry) → Keeps (x ∷ h) → is_outcome_withheld h x ≡ true
silent_now x h k =
    not_false (is_record_unknown h && is_outcome_said x) (false_from_ne_true (is_record_unknown h && is_outcome_said x) (λ t.
    let said = and_right (is_record_unknown h) (is_outcome_said x) t in
    let now = unknown_more x h said (and_left (is_record_unknown h) (is_outcome_said x) t) in
    or_case (is_final Committed x) (is_final Aborted x) (λ c. commit_unsaid (x ∷ h) k now (or_left (is_final Committed x) (has (is_final Committed) h) c))
    (λ a. abort_unsaid (x ∷ h) k now (or_left (is_final Aborted x) (has (is_final Aborted) h) a)) said))

-- While it isn't known whether the record is there, no entry says committed or aborted.
pub all_silent : (h : List Entry) → Keeps h → always is_outcome_withheld h ≡ true
all_silent [] k = refl
all_silent (x ∷ h) k = and_both (is_outcome_withheld h x) (always is_outcome_withheld h) (silent_now x h k) (all_silent h (keeps_before x h k))

-- So where a restart found no record, and there was no evidence, there is never evidence.
pub never_evident : (h : List Entry) → Keeps h → ever restarts_without_evidence h ≡ true → evidence h ≡ false
never_evident h k t = off_open h k (for_good_off h k (restarted_aborted h k t))
