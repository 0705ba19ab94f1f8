-- Where the log stopped first at a possible append and no restart came since, nobody was told committed or aborted: the local side said yes and each that came voted well, so no abort was decided;
-- the coordinator didn't abort; and there is no record, so no evidence. And where a restart found no record, and there was no evidence, the coordinator aborted: no evidence ever stands.
use Rattle.std.proofs.Common.{◌≡◌, true, false, ◌&&◌, List, Bool, Option, Some, None, [], ◌∷◌, refl, subst, ◌||◌, inl, inr, sym}
use Rattle.std.specs.Prelude.{not}
use Rattle.std.proofs.lemmas.Bool.{false_from_ne_true, or_left}
use Rattle.dtx_values.specs.declared.entry.Entry.{Entry}
use Rattle.dtx_values.specs.declared.entry.Entry.TheVariants.{Freed, Logged, Restarted, Stopped, Decided, OwnerAnswered, Told}
use Rattle.dtx_values.specs.declared.number.EnlNo.{EnlNo}
use Rattle.dtx_values.specs.declared.words.Outcome.{Outcome}
use Rattle.dtx_values.specs.declared.words.Outcome.TheVariants.{Aborted}
use Rattle.dtx_model.specs.Words.{all_of, each, has, holds, latest, ever}
use Rattle.dtx_model.specs.Entries.{is_any_hand, is_any_single_sent, is_commit_got, is_two_phase_got, is_yes_got, is_record, is_yes, is_good_vote, is_vote}
use Rattle.dtx_model.specs.Outcome.{evidence}
use Rattle.dtx_model.specs.Learned.{coordinator_aborted, is_first_abort}
use Rattle.dtx_model.specs.Promotes.{is_promoting}
use Rattle.dtx_model.specs.Tied.{can_log, enlist_got, is_logged, is_ready_got, is_stop, is_unmarked, mark_of, before_first_stop, before_first}
use Rattle.dtx_model.specs.AtLog.{is_restart}
use Rattle.dtx_model.proofs.Bools.{and_left, and_right, not_true, not_both, or_second, or_right, or_case, and_both, not_false}
use Rattle.history_table.proofs.Keeping.{Keeps, keeps_before, newest}
use Rattle.history_table.proofs.Recording.{can_two_phase, stopped_stop, first_none, can_unstopped, first_some, can_live, from_first, keeps_first, live_first, yes_at, came_voted_at, came_voted_stays, promoted_if_yes, promoting_if_promoted, evidence_if_record}
use Rattle.history_table.specs.Appended.{stopped_at_append}
use Rattle.history_table.proofs.Handed.{is_answered}
use Rattle.history_table.proofs.LetDecide.{answered_handed, one_apart, one_if_single, unsingle_unhanded}
use Rattle.history_table.proofs.Table.{is_aborted_for_good, is_enlist_got, is_one_aborted}
use Rattle.history_table.proofs.Scans.{has_more}
use Rattle.history_table.proofs.Evident.{good_voted}
use Rattle.history_table.proofs.Aborting.{IsBarred}
use Rattle.history_table.proofs.Sendings.{for_good_more}
use Rattle.settled_histories.specs.Stopped.{is_record_unknown, is_outcome_said, restarts_without_evidence}

-- Where an append may come, nothing was logged.
pub can_unlogged : (h : List Entry) → can_log h ≡ true → has is_logged h ≡ false
can_unlogged h t =
    let before_stop = has is_two_phase_got h && has is_yes_got h && each (λ i. has (is_ready_got i.enl.value) h) (all_of enlist_got h) && not (coordinator_aborted h) in
    not_true (has is_logged h) (and_right before_stop (not (has is_logged h)) (and_left (before_stop && not (has is_logged h)) (not (has is_stop h)) t))

-- While nothing stopped and nothing was logged, nothing says whether there is a record.
marked_apart : (o : Option Bool) → holds o ≡ true → is_unmarked o ≡ true → ⊥
marked_apart (Some b) m u = absurd cc
marked_apart None m u = absurd cc

pub calm_unmarked : (h : List Entry) → Keeps h → has is_stop h ≡ false → has is_logged h ≡ false → is_unmarked (latest mark_of h) ≡ true
calm_unmarked [] k s l = refl
calm_unmarked (Logged ∷ h) k s l = absurd cc
calm_unmarked (Freed ∷ h) k s l = absurd (marked_apart (latest mark_of h) (newest Freed h k) (calm_unmarked h (keeps_before Freed h k) s l))
calm_unmarked (Restarted b ∷ h) k s l = absurd (not_both (has is_stop h) (stopped_stop h (newest (Restarted b) h k)) s)
calm_unmarked (x ∷ h) k s l = calm_unmarked h (keeps_before x h k) (or_second (is_stop x) (has is_stop h) s) (or_second (is_logged x) (has is_logged h) l)

-- it stays so after the first stop, until a restart comes
stop_unmarked : (h : List Entry) (b : Bool) → has is_stop h ≡ b → is_unmarked (latest mark_of (before_first_stop h)) ≡ true → (has is_stop h ≡ true → is_unmarked (latest mark_of h) ≡ true)
    → is_unmarked (latest mark_of h) ≡ true
stop_unmarked h true s u f = f s
stop_unmarked h false s u f = subst (λ g. is_unmarked (latest mark_of g) ≡ true) (first_none h h s) u

still_unmarked : (h : List Entry) → Keeps h → has is_stop h ≡ true → has is_restart h ≡ false → is_unmarked (latest mark_of (before_first_stop h)) ≡ true → is_unmarked (latest mark_of h) ≡ true
still_unmarked [] k s n u = absurd cc
still_unmarked (Stopped ∷ h) k s n u = stop_unmarked h (has is_stop h) refl u (λ t. still_unmarked h (keeps_before Stopped h k) t n u)
still_unmarked (Restarted b ∷ h) k s n u = absurd cc
still_unmarked (Logged ∷ h) k s n u = absurd (not_both (has is_stop h) s (can_unstopped h (newest Logged h k)))
still_unmarked (Freed ∷ h) k s n u =
    absurd (marked_apart (latest mark_of h) (newest Freed h k)
    (still_unmarked h (keeps_before Freed h k) s n (subst (λ g. is_unmarked (latest mark_of g) ≡ true) (first_some (Freed ∷ h) h h s) u)))
still_unmarked (x ∷ h) k s n u =
    still_unmarked h (keeps_before x h k) s (or_second (is_restart x) (has is_restart h) n) (subst (λ g. is_unmarked (latest mark_of g) ≡ true) (first_some (x ∷ h) h h s) u)

-- so there is no record
pub unmarked_unrecorded : (h : List Entry) → is_unmarked (latest mark_of h) ≡ true → has is_record h ≡ false
unmarked_unrecorded [] u = refl
unmarked_unrecorded (Logged ∷ h) u = absurd cc
unmarked_unrecorded (Freed ∷ h) u = absurd cc
unmarked_unrecorded (Restarted b ∷ h) u = absurd cc
unmarked_unrecorded (x ∷ h) u = unmarked_unrecorded h u

-- What stands while it isn't known whether the record is there: none is known of, the coordinator didn't abort, and the local side said yes of what is promoted.
pub record IsOpen (h : List Entry) : Type 0 where
  pub unrecorded : has is_record h ≡ false
  pub live : coordinator_aborted h ≡ false
  pub yes : has is_yes h ≡ true

-- the log stopped, and an append could be tried before
unknown_stop : (h : List Entry) → is_record_unknown h ≡ true → has is_stop h ≡ true
unknown_stop h u = and_left (has is_stop h) (can_log (before_first_stop h)) (and_left (stopped_at_append h) (not (has is_restart h)) u)

unknown_able : (h : List Entry) → is_record_unknown h ≡ true → can_log (before_first_stop h) ≡ true
unknown_able h u = and_right (has is_stop h) (can_log (before_first_stop h)) (and_left (stopped_at_append h) (not (has is_restart h)) u)

pub unknown_open : (h : List Entry) → Keeps h → is_record_unknown h ≡ true → IsOpen h
unknown_open h k u =
    let able = unknown_able h u in
    let stop = unknown_stop h u in
    let first = keeps_first h k in
    let unmarked = still_unmarked h k stop (not_true (has is_restart h) (and_right (stopped_at_append h) (not (has is_restart h)) u))
    (calm_unmarked (before_first_stop h) first (can_unstopped (before_first_stop h) able) (can_unlogged (before_first_stop h) able)) in
    record {
      unrecorded = unmarked_unrecorded h unmarked;
      live = live_first h k stop unmarked (can_live (before_first_stop h) able);
      yes = from_first (λ g. has is_yes g) (λ x g w t. or_right (is_yes x) (has is_yes g) t) h k (yes_at (before_first_stop h) first able);
    }

-- each whose ENLIST was got voted well
unknown_voted : (e : EnlNo) (h : List Entry) → Keeps h → is_record_unknown h ≡ true → has (is_enlist_got e.value) h ≡ true → has (is_good_vote e.value) h ≡ true
unknown_voted e h k u came =
    or_case (not (has (is_enlist_got e.value) h)) (has (is_good_vote e.value) h) (λ n. absurd (not_both (has (is_enlist_got e.value) h) came (not_true (has (is_enlist_got e.value) h) n))) (λ t. t)
    (and_right (has is_commit_got h) (not (has (is_enlist_got e.value) h) || has (is_good_vote e.value) h)
    (from_first (λ g. has is_commit_got g && (not (has (is_enlist_got e.value) g) || has (is_good_vote e.value) g)) (came_voted_stays e.value) h k
    (came_voted_at e (before_first_stop h) (keeps_first h k) (unknown_able h u))))

-- It is promoted, and COMMIT was got for two phases: so nobody was let decide, no owner was handed the commit, and none answered.
pub unknown_promoting : (h : List Entry) → Keeps h → is_record_unknown h ≡ true → has is_promoting h ≡ true
unknown_promoting h k u = promoting_if_promoted h k (promoted_if_yes h k (unknown_open h k u).yes)

pub unknown_unsingle : (h : List Entry) → Keeps h → is_record_unknown h ≡ true → has is_any_single_sent h ≡ false
unknown_unsingle h k u =
    let two = from_first (λ g. has is_two_phase_got g) (λ x g w t. or_right (is_two_phase_got x) (has is_two_phase_got g) t) h k (can_two_phase (before_first_stop h) (unknown_able h u)) in
    false_from_ne_true (has is_any_single_sent h) (λ t. not_both (has is_two_phase_got h) two (one_apart h k (one_if_single h k t)))

pub unknown_unhanded : (h : List Entry) → Keeps h → is_record_unknown h ≡ true → has is_any_hand h ≡ false
unknown_unhanded h k u = unsingle_unhanded h k (unknown_promoting h k u) (unknown_unsingle h k u)

pub unknown_unanswered : (h : List Entry) → Keeps h → is_record_unknown h ≡ true → (o : Outcome) → has (is_answered o) h ≡ true → ⊥
unknown_unanswered h k u o t = not_both (has is_any_hand h) (answered_handed o h k t) (unknown_unhanded h k u)

-- so a record isn't barred
pub unknown_unbarred : (h : List Entry) → Keeps h → is_record_unknown h ≡ true → IsBarred h → ⊥
unknown_unbarred h k u (inl (inl a)) = not_both (coordinator_aborted h) (and_left (coordinator_aborted h) (not (has is_any_single_sent h) || has is_one_aborted h) a) (unknown_open h k u).live
unknown_unbarred h k u (inl (inr (inl a))) = unknown_unanswered h k u Aborted a
unknown_unbarred h k u (inl (inr (inr w))) = not_both (coordinator_aborted h) w.aborted (unknown_open h k u).live
unknown_unbarred h k u (inr (inl n)) = not_both (has is_yes h) (unknown_open h k u).yes n
unknown_unbarred h k u (inr (inr g)) =
    not_both (has (is_vote g.name.value) h) (has_more (is_good_vote g.name.value) (is_vote g.name.value) (good_voted g.name.value) h (unknown_voted g.name h k u g.came)) g.silent

-- what says an outcome leaves it unknown whether the record is there
unknown_under : (f h : List Entry) → is_record_unknown h ≡ true → (has is_stop h && can_log (before_first f h) && not (has is_restart h)) ≡ true
unknown_under f h u =
    let stop = unknown_stop h u in
    and_both (has is_stop h && can_log (before_first f h)) (not (has is_restart h))
    (and_both (has is_stop h) (can_log (before_first f h)) stop (subst (λ g. can_log g ≡ true) (sym (first_some f h h stop)) (unknown_able h u)))
    (and_right (stopped_at_append h) (not (has is_restart h)) u)

pub unknown_more : (x : Entry) (h : List Entry) → is_outcome_said x ≡ true → is_record_unknown h ≡ true → is_record_unknown (x ∷ h) ≡ true
unknown_more (Told p o) h s u = unknown_under (Told p o ∷ h) h u
unknown_more (Decided o) h s u = unknown_under (Decided o ∷ h) h u
unknown_more (OwnerAnswered e o) h s u = unknown_under (OwnerAnswered e o ∷ h) h u
unknown_more _ h s u = absurd cc

-- A restart that finds no record where there was no evidence, and nobody was let decide, aborts for good, since a record would have been evidence.
restart_aborts : (x : Entry) (h : List Entry) → Keeps h → restarts_without_evidence h x ≡ true → is_aborted_for_good (x ∷ h) ≡ true
unfolding coordinator_aborted
restart_aborts (Restarted false) h k t =
    let open_there = and_left (not (evidence h)) (not (has is_any_single_sent h)) t in
    let unlet = and_right (not (evidence h)) (not (has is_any_single_sent h)) t in
    and_both (coordinator_aborted (Restarted false ∷ h)) (not (has is_any_single_sent h) || has is_one_aborted h)
    (or_left (not (has is_record h)) (ever is_first_abort h)
    (not_false (has is_record h) (false_from_ne_true (has is_record h) (λ r. not_both (evidence h) (evidence_if_record h k r) (not_true (evidence h) open_there)))))
    (or_left (not (has is_any_single_sent h)) (has is_one_aborted h) unlet)
restart_aborts (Restarted true) h k t = absurd cc
restart_aborts _ h k t = absurd cc

pub restarted_aborted : (h : List Entry) → Keeps h → ever restarts_without_evidence h ≡ true → is_aborted_for_good h ≡ true
restarted_aborted [] k t = absurd cc
restarted_aborted (x ∷ h) k t =
    let past = keeps_before x h k in
    or_case (restarts_without_evidence h x) (ever restarts_without_evidence h) (λ a. restart_aborts x h past a) (λ b. for_good_more x h (newest x h k) (restarted_aborted h past b)) t
