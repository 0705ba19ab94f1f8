-- Where a record stands, there is evidence: the local side said yes, so it was sealed and promoted; each voted well; and the coordinator doesn't abort.
use Rattle.std.proofs.Common.{◌≡◌, true, ◌&&◌, List, [], ◌∷◌, ◌==◌, false, ◌||◌, Bool, refl, subst, sym, ℕ, ◌∙◌, ◌++◌, Option, Some, None}
use Rattle.std.specs.Prelude.{not, filter, if◌then◌else◌}
use Rattle.std.proofs.lemmas.Bool.{eqb-true}
use Rattle.dtx_values.specs.declared.entry.Entry.{Entry}
use Rattle.dtx_values.specs.declared.entry.Entry.TheVariants.{Sealed, LocalYes, Promoted, Promoting, Completed, Cloned, Enlisted, Voted, Got, Stopped, Logged, Restarted, Freed, Down as End, LogFull, Sent}
use Rattle.dtx_values.specs.declared.message.Conn.{Conn}
use Rattle.dtx_values.specs.declared.message.Conn.TheVariants.{Enl, Begin, Voter}
use Rattle.dtx_values.specs.declared.message.Dir.TheVariants.{Up, Down}
use Rattle.dtx_values.specs.declared.message.Message.{Message}
use Rattle.dtx_values.specs.declared.message.Message.TheVariants.{EnlistEnlist, BeginCommit, BeginCommitOne, BeginAborted, EnlistAbort, EnlistRefused, VoterAbort, VoterRefused}
use Rattle.dtx_values.specs.declared.number.CloneNo.{CloneNo}
use Rattle.dtx_values.specs.declared.number.EnlNo.{EnlNo}
use Rattle.dtx_values.specs.declared.words.Class.{Class}
use Rattle.dtx_values.specs.Class.{is_volatile}
use Rattle.dtx_values.specs.Lines.{has_line}
use Rattle.dtx_model.specs.Words.{has, all_of, each, latest, ever, or_else}
use Rattle.dtx_model.specs.Entries.{is_commit, is_decision, is_sealed, is_promoted, is_yes, clone_of, is_good_vote, is_commit_got, is_two_phase_got, is_yes_got, is_record}
use Rattle.dtx_model.specs.Outcome.{is_complete, enlisted, can_own, durables, is_empty, volatiles, all_vote, voters, ready, by_log, by_owner, by_seal, evidence}
use Rattle.dtx_model.specs.Learned.{coordinator_aborted, is_abort, is_first_abort}
use Rattle.dtx_model.specs.Tied.{can_log, enlist_got, is_logged, is_ready_got, is_stop, before_first, before_first_stop, has_mark, is_unmarked, mark_of}
use Rattle.dtx_model.specs.Wires.{is_stopped}
use Rattle.dtx_model.specs.Promotes.{is_created_got, is_begun_got, is_promoting, is_under_way, is_refusal, ends_told}
use Rattle.dtx_model.proofs.Bools.{and_left, and_right, not_both, not_true, or_case, or_right, and_both, or_second, three_hold, or_false, and_never}
use Rattle.dtx_model.specs.Observed.{is_promotion_failed}
use Rattle.dtx_model.specs.Caused.{is_begin_sent}
use Rattle.history_table.proofs.Tests.{second_of_five, third_of_five, second_of_three, or_between, fourth_of_five, second_of_four}
use Rattle.history_table.proofs.EntryTests.{all_complete, zeros_cast, is_cloned, is_enlisted}
use Rattle.history_table.proofs.Table.{is_settled_there, rule, is_ask_got, volatiles_well, have_come, class_row, is_enlist_got, is_there, message_row}
use Rattle.history_table.proofs.Keeping.{Keeps, before, fifth_of_five, keeps_before, newest, newest_tied}
use Rattle.history_table.proofs.Scans.{each_more, each_both, each-append, has_more}
use Rattle.history_table.proofs.Sendings.{record_of_mark, yes_if_got, own_info, good_if_ready, end_promoting, got_promoting, promoted_if_commit, aborted_by_got, aborted_more}
use Rattle.history_table.proofs.Crossed.{no_end_up, nothing_up}

-- The rows of the seal and of the local yes.
seal_commit : (x : Entry) (h : List Entry) → Keeps h → rule h x ≡ true → is_sealed x ≡ true → has is_commit h ≡ true
seal_commit Sealed h k r t = second_of_five (not (has is_decision h)) (has is_commit h) (all_complete h) (zeros_cast h) (not (has is_sealed h) && is_settled_there h) r
seal_commit _ h k r t = absurd cc

pub commit_if_sealed : (h : List Entry) → Keeps h → has is_sealed h ≡ true → has is_commit h ≡ true
commit_if_sealed h k s = before is_sealed is_commit seal_commit h k s

yes_sealed : (x : Entry) (h : List Entry) → Keeps h → rule h x ≡ true → is_yes x ≡ true → has is_sealed h ≡ true
yes_sealed LocalYes h k r t = second_of_five (not (has is_decision h)) (has is_sealed h) (has is_promoted h) (volatiles_well h) (has is_ask_got h && not (has is_yes h)) r
yes_sealed _ h k r t = absurd cc

pub sealed_if_yes : (h : List Entry) → Keeps h → has is_yes h ≡ true → has is_sealed h ≡ true
sealed_if_yes h k s = before is_yes is_sealed yes_sealed h k s

yes_promoted : (x : Entry) (h : List Entry) → Keeps h → rule h x ≡ true → is_yes x ≡ true → has is_promoted h ≡ true
yes_promoted LocalYes h k r t = third_of_five (not (has is_decision h)) (has is_sealed h) (has is_promoted h) (volatiles_well h) (has is_ask_got h && not (has is_yes h)) r
yes_promoted _ h k r t = absurd cc

pub promoted_if_yes : (h : List Entry) → Keeps h → has is_yes h ≡ true → has is_promoted h ≡ true
promoted_if_yes h k s = before is_yes is_promoted yes_promoted h k s

promoted_promoting : (x : Entry) (h : List Entry) → Keeps h → rule h x ≡ true → is_promoted x ≡ true → has is_promoting h ≡ true
promoted_promoting (Promoted u c) h k r t =
    let way = third_of_five (not (has is_decision h)) (not (has is_sealed h)) (is_under_way h) (have_come h) (has is_begun_got h && has is_created_got h) r in
    and_left (has is_promoting h) (not (has is_promoted h)) (and_left (has is_promoting h && not (has is_promoted h)) (not (has is_promotion_failed h)) way)
promoted_promoting _ h k r t = absurd cc

pub promoting_if_promoted : (h : List Entry) → Keeps h → has is_promoted h ≡ true → has is_promoting h ≡ true
promoting_if_promoted h k s = before is_promoted is_promoting promoted_promoting h k s

-- What is sealed and promoting is promoted.
pub promoted_if_sealed : (h : List Entry) → Keeps h → has is_sealed h ≡ true → has is_promoting h ≡ true → has is_promoted h ≡ true
promoted_if_sealed [] k s p = absurd cc
promoted_if_sealed (Sealed ∷ h) k s p =
    let row = fifth_of_five (not (has is_decision h)) (has is_commit h) (all_complete h) (zeros_cast h) (not (has is_sealed h) && is_settled_there h) (newest Sealed h k) in
    or_case (has is_promoted h) (not (has is_promoting h)) (λ t. t) (λ t. absurd (not_both (has is_promoting h) p (not_true (has is_promoting h) t)))
    (and_right (not (has is_sealed h)) (is_settled_there h) row)
promoted_if_sealed (Promoting c ∷ h) k s p =
    let unsealed = not_true (has is_sealed h) (second_of_three (not (has is_decision h)) (not (has is_sealed h)) (not (has is_promoting h)) (newest (Promoting c) h k)) in
    absurd (not_both (has is_sealed h) s unsealed)
promoted_if_sealed (x ∷ h) k s p = or_right (is_promoted x) (has is_promoted h) (promoted_if_sealed h (keeps_before x h k) s p)

-- What stays once it is sealed: each clone is complete.
pub complete_more : (c : CloneNo) (h : List Entry) → all_complete h ≡ true → all_complete (Completed c ∷ h) ≡ true
complete_more c h a =
    each_more (λ d. is_complete h d) (λ d. is_complete (Completed c ∷ h) d) (λ d t. or_right (d.0.value == c.value) (is_complete h d) t) (all_of clone_of h) a

complete_stays : (x : Entry) (h : List Entry) → rule h x ≡ true → has is_commit h ≡ true → all_complete h ≡ true → all_complete (x ∷ h) ≡ true
complete_stays (Cloned c d) h r m a =
    absurd (not_both (has is_commit h) m (not_true (has is_commit h) (second_of_three (not (has is_decision h)) (not (has is_commit h)) (not (has (is_cloned c.value) h)) r)))
complete_stays (Completed c) h r m a = complete_more c h a
complete_stays _ h r m a = a

pub complete_if_sealed : (h : List Entry) → Keeps h → has is_sealed h ≡ true → all_complete h ≡ true
complete_if_sealed [] k s = absurd cc
complete_if_sealed (x ∷ h) k s =
    or_case (is_sealed x) (has is_sealed h)
    (λ t. complete_stays x h (newest x h k) (seal_commit x h (keeps_before x h k) (newest x h k) t) (seal_complete x h (newest x h k) t))
    (λ t. complete_stays x h (newest x h k) (commit_if_sealed h (keeps_before x h k) t) (complete_if_sealed h (keeps_before x h k) t)) s
  where
    seal_complete : (x : Entry) (h : List Entry) → rule h x ≡ true → is_sealed x ≡ true → all_complete h ≡ true
    seal_complete Sealed h r t = third_of_five (not (has is_decision h)) (has is_commit h) (all_complete h) (zeros_cast h) (not (has is_sealed h) && is_settled_there h) r
    seal_complete _ h r t = absurd cc

-- Nobody is enlisted after the seal.
pub enlisted_unsealed : (e : EnlNo) (c : Class) (h : List Entry) → rule h (Enlisted e c) ≡ true → has is_sealed h ≡ false
enlisted_unsealed e c h r = not_true (has is_sealed h) (second_of_five (not (has is_decision h)) (not (has is_sealed h)) _ _ _ r)

-- After the local yes each volatile voted well.
well_stays : (x : Entry) (h : List Entry) → rule h x ≡ true → has is_sealed h ≡ true → volatiles_well h ≡ true → volatiles_well (x ∷ h) ≡ true
well_stays (Enlisted e c) h r s a = absurd (not_both (has is_sealed h) s (enlisted_unsealed e c h r))
well_stays (Voted e v) h r s a =
    each_more (λ y. not (is_volatile y.1) || has (is_good_vote y.0.value) h) (λ y. not (is_volatile y.1) || has (is_good_vote y.0.value) (Voted e v ∷ h))
    (λ y t. or_between (not (is_volatile y.1)) (is_good_vote y.0.value (Voted e v)) (has (is_good_vote y.0.value) h) t) (enlisted h) a
well_stays _ h r s a = a

pub well_if_yes : (h : List Entry) → Keeps h → has is_yes h ≡ true → volatiles_well h ≡ true
well_if_yes [] k s = absurd cc
well_if_yes (x ∷ h) k s =
    or_case (is_yes x) (has is_yes h) (λ t. well_stays x h (newest x h k) (yes_sealed x h (keeps_before x h k) (newest x h k) t) (yes_well x h (newest x h k) t))
    (λ t. well_stays x h (newest x h k) (sealed_if_yes h (keeps_before x h k) t) (well_if_yes h (keeps_before x h k) t)) s
  where
    yes_well : (x : Entry) (h : List Entry) → rule h x ≡ true → is_yes x ≡ true → volatiles_well h ≡ true
    yes_well LocalYes h r t = fourth_of_five (not (has is_decision h)) (has is_sealed h) (has is_promoted h) (volatiles_well h) (has is_ask_got h && not (has is_yes h)) r
    yes_well _ h r t = absurd cc

-- Where it is promoted, each durable or promotable came to the coordinator.
came_class : (v g p o w : Bool) → (v || g || (not p && o && w)) ≡ true → p ≡ true → (v || g) ≡ true
came_class true g p o w t q = refl
came_class false true p o w t q = refl
came_class false false true o w t q = absurd cc
came_class false false false o w t q = absurd cc

came_stays : (x : Entry) (h : List Entry) → Keeps (x ∷ h) → has is_promoted h ≡ true → have_come h ≡ true → have_come (x ∷ h) ≡ true
came_stays (Enlisted e c) h k p a =
    let row = fourth_of_five (not (has is_decision h)) (not (has is_sealed h)) (not (has (is_enlisted e.value) h)) (class_row h e.value c) _ (newest (Enlisted e c) h k) in
    and_both (is_volatile c || has (is_enlist_got e.value) h) (have_come h)
    (came_class (is_volatile c) (has (is_enlist_got e.value) h) (has is_promoting h) (can_own c) (is_empty (durables h)) row (promoting_if_promoted h (keeps_before (Enlisted e c) h k) p)) a
came_stays (Got (Enl e) Up (EnlistEnlist i)) h k p a =
    each_more (λ y. is_volatile y.1 || has (is_enlist_got y.0.value) h) (λ y. is_volatile y.1 || has (is_enlist_got y.0.value) (Got (Enl e) Up (EnlistEnlist i) ∷ h))
    (λ y t. or_between (is_volatile y.1) (y.0.value == e.value) (has (is_enlist_got y.0.value) h) t) (enlisted h) a
came_stays _ h k p a = a

pub come_if_promoted : (h : List Entry) → Keeps h → has is_promoted h ≡ true → have_come h ≡ true
come_if_promoted [] k p = absurd cc
come_if_promoted (Promoted u c ∷ h) k p = fourth_of_five (not (has is_decision h)) (not (has is_sealed h)) (is_under_way h) (have_come h) (has is_begun_got h && has is_created_got h) (newest (Promoted u c) h k)
come_if_promoted (x ∷ h) k p = came_stays x h k p (come_if_promoted h (keeps_before x h k) p)

-- The conditions of an append.
can_parts : (a b c d e f : Bool) → (a && b && c && d && e && f) ≡ true → (a && b && c && d) ≡ true
can_parts a b c d e f t = and_left (a && b && c && d) e (and_left (a && b && c && d && e) f t)

can_first : (h : List Entry) → can_log h ≡ true → (has is_two_phase_got h && has is_yes_got h && each (λ i. has (is_ready_got i.enl.value) h) (all_of enlist_got h) && not (coordinator_aborted h)) ≡ true
can_first h t =
    can_parts (has is_two_phase_got h) (has is_yes_got h) (each (λ i. has (is_ready_got i.enl.value) h) (all_of enlist_got h)) (not (coordinator_aborted h)) (not (has is_logged h)) (not (has is_stop h)) t

pub can_two_phase : (h : List Entry) → can_log h ≡ true → has is_two_phase_got h ≡ true
can_two_phase h t =
    and_left (has is_two_phase_got h) (has is_yes_got h) (and_left (has is_two_phase_got h && has is_yes_got h) (each (λ i. has (is_ready_got i.enl.value) h) (all_of enlist_got h))
    (and_left (has is_two_phase_got h && has is_yes_got h && each (λ i. has (is_ready_got i.enl.value) h) (all_of enlist_got h)) (not (coordinator_aborted h)) (can_first h t)))

-- COMMIT for two phases is a COMMIT
pub two_phase_commit : (x : Entry) → is_two_phase_got x ≡ true → is_commit_got x ≡ true
two_phase_commit (Got Begin Up BeginCommit) t = refl
two_phase_commit _ t = absurd cc

pub can_commit : (h : List Entry) → can_log h ≡ true → has is_commit_got h ≡ true
can_commit h t = has_more is_two_phase_got is_commit_got two_phase_commit h (can_two_phase h t)

pub can_yes : (h : List Entry) → can_log h ≡ true → has is_yes_got h ≡ true
can_yes h t =
    and_right (has is_two_phase_got h) (has is_yes_got h) (and_left (has is_two_phase_got h && has is_yes_got h) (each (λ i. has (is_ready_got i.enl.value) h) (all_of enlist_got h))
    (and_left (has is_two_phase_got h && has is_yes_got h && each (λ i. has (is_ready_got i.enl.value) h) (all_of enlist_got h)) (not (coordinator_aborted h)) (can_first h t)))

pub can_ready : (h : List Entry) → can_log h ≡ true → each (λ i. has (is_ready_got i.enl.value) h) (all_of enlist_got h) ≡ true
can_ready h t =
    and_right (has is_two_phase_got h && has is_yes_got h) (each (λ i. has (is_ready_got i.enl.value) h) (all_of enlist_got h))
    (and_left (has is_two_phase_got h && has is_yes_got h && each (λ i. has (is_ready_got i.enl.value) h) (all_of enlist_got h)) (not (coordinator_aborted h)) (can_first h t))

pub can_live : (h : List Entry) → can_log h ≡ true → coordinator_aborted h ≡ false
can_live h t =
    not_true (coordinator_aborted h) (and_right (has is_two_phase_got h && has is_yes_got h && each (λ i. has (is_ready_got i.enl.value) h) (all_of enlist_got h)) (not (coordinator_aborted h)) (can_first h t))

-- it never stopped
pub can_unstopped : (h : List Entry) → can_log h ≡ true → has is_stop h ≡ false
can_unstopped h t =
    not_true (has is_stop h)
    (and_right (has is_two_phase_got h && has is_yes_got h && each (λ i. has (is_ready_got i.enl.value) h) (all_of enlist_got h) && not (coordinator_aborted h) && not (has is_logged h)) (not (has is_stop h)) t)

-- Up to the first stop and on from there.
pub first_none : (g h : List Entry) → has is_stop h ≡ false → before_first g h ≡ g
first_none g [] s = refl
first_none g (Stopped ∷ h) s = absurd cc
first_none g (x ∷ h) s = first_none g h (or_second (is_stop x) (has is_stop h) s)

pub first_some : (f g h : List Entry) → has is_stop h ≡ true → before_first f h ≡ before_first g h
first_some f g [] s = absurd cc
first_some f g (Stopped ∷ h) s = refl
first_some f g (x ∷ h) s = first_some f g h s

-- what holds before the first stop, and stays, holds
first_step : (Q : List Entry → Bool) (x : Entry) (h : List Entry) (b : Bool) → has is_stop h ≡ b → (Q (before_first_stop h) ≡ true → Q (x ∷ h) ≡ true)
    → Q (before_first (x ∷ h) h) ≡ true → Q (x ∷ h) ≡ true
first_step Q x h true s on q = on (subst (λ g. Q g ≡ true) (first_some (x ∷ h) h h s) q)
first_step Q x h false s on q = subst (λ g. Q g ≡ true) (first_none (x ∷ h) h s) q

pub from_first : (Q : List Entry → Bool) → ((x : Entry) (h : List Entry) → Keeps (x ∷ h) → Q h ≡ true → Q (x ∷ h) ≡ true) → (h : List Entry) → Keeps h → Q (before_first_stop h) ≡ true → Q h ≡ true
from_first Q stays [] k q = q
from_first Q stays (Stopped ∷ h) k q = stays Stopped h k (from_first Q stays h (keeps_before Stopped h k) q)
from_first Q stays (x ∷ h) k q = first_step Q x h (has is_stop h) refl (λ t. stays x h k (from_first Q stays h (keeps_before x h k) t)) q

-- the history before the first stop keeps the table too
keeps_step : (x : Entry) (h : List Entry) (b : Bool) → has is_stop h ≡ b → Keeps (x ∷ h) → Keeps (before_first_stop h) → Keeps (before_first (x ∷ h) h)
keeps_step x h true s k w = subst (λ g. Keeps g) (sym (first_some (x ∷ h) h h s)) w
keeps_step x h false s k w = subst (λ g. Keeps g) (sym (first_none (x ∷ h) h s)) k

pub keeps_first : (h : List Entry) → Keeps h → Keeps (before_first_stop h)
keeps_first [] k = k
keeps_first (Stopped ∷ h) k = keeps_first h (keeps_before Stopped h k)
keeps_first (x ∷ h) k = keeps_step x h (has is_stop h) refl k (keeps_first h (keeps_before x h k))

-- What holds where an append may come, and stays, holds where there is a record.
pub if_record : (Q : List Entry → Bool) → ((x : Entry) (h : List Entry) → Keeps (x ∷ h) → Q h ≡ true → Q (x ∷ h) ≡ true) → ((h : List Entry) → Keeps h → can_log h ≡ true → Q h ≡ true)
    → (h : List Entry) → Keeps h → has is_record h ≡ true → Q h ≡ true
if_record Q stays at [] k s = absurd cc
if_record Q stays at (x ∷ h) k s =
    stays x h k
    (or_case (is_record x) (has is_record h) (λ t. new x h k t (if_record Q stays at h (keeps_before x h k))) (λ t. if_record Q stays at h (keeps_before x h k) t) s)
  where
    new : (x : Entry) (h : List Entry) → Keeps (x ∷ h) → is_record x ≡ true → (has is_record h ≡ true → Q h ≡ true) → Q h ≡ true
    new Logged h k t ih = at h (keeps_before Logged h k) (newest Logged h k)
    new (Restarted true) h k t ih =
        let past = keeps_before (Restarted true) h k in
        or_case (has_mark h) (is_unmarked (latest mark_of h) && can_log (before_first_stop h)) (λ u. ih (record_of_mark h u))
        (λ u. from_first Q stays h past (at (before_first_stop h) (keeps_first h past) (and_right (is_unmarked (latest mark_of h)) (can_log (before_first_stop h)) u)))
        (newest_tied (Restarted true) h k)
    new _ h k t ih = absurd cc

-- the local side said yes
pub yes_at : (h : List Entry) → Keeps h → can_log h ≡ true → has is_yes h ≡ true
yes_at h k c = yes_if_got h k (can_yes h c)

pub yes_if_record : (h : List Entry) → Keeps h → has is_record h ≡ true → has is_yes h ≡ true
yes_if_record h k s = if_record (λ g. has is_yes g) (λ x g w t. or_right (is_yes x) (has is_yes g) t) yes_at h k s

-- Who came to the coordinator is among those whose ENLIST it got.
named_step : (e f i : ℕ) (P : ℕ → Bool) (rest : Bool) → f ≡ i → P i ≡ true → (rest ≡ true → P e ≡ true) → (b : Bool) → (e == f) ≡ b → (b || rest) ≡ true → P e ≡ true
named_step e f i P rest own here there true q t = let same : e ≡ i = eqb-true e f q ∙ own in subst (λ n. P n ≡ true) (sym same) here
named_step e f i P rest own here there false q t = there t

pub named : (e : ℕ) (P : ℕ → Bool) (h : List Entry) → Keeps h → has (is_enlist_got e) h ≡ true → each (λ i. P i.enl.value) (all_of enlist_got h) ≡ true → P e ≡ true
named e P [] k s a = absurd cc
named e P (Got (Enl f) Up (EnlistEnlist i) ∷ h) k s a =
    named_step e f.value i.enl.value P (has (is_enlist_got e) h) (eqb-true f.value i.enl.value (own_info f i h k))
    (and_left (P i.enl.value) (each (λ j. P j.enl.value) (all_of enlist_got h)) a)
    (λ t. named e P h (keeps_before (Got (Enl f) Up (EnlistEnlist i)) h k) t (and_right (P i.enl.value) (each (λ j. P j.enl.value) (all_of enlist_got h)) a)) (e == f.value) refl s
named e P (x ∷ h) k s a = named e P h (keeps_before x h k) s a

-- where an append may come, each that came voted well
pub came_good : (e : EnlNo) (h : List Entry) → Keeps h → can_log h ≡ true → has (is_enlist_got e.value) h ≡ true → has (is_good_vote e.value) h ≡ true
came_good e h k c s = good_if_ready e h k (named e.value (λ n. has (is_ready_got n) h) h k s (can_ready h c))

-- each enlistment voted well
abbrev pub all_good : List Entry → Bool
all_good h = each (λ x. has (is_good_vote x.0.value) h) (enlisted h)

good_class : (v came good : Bool) → (v || came) ≡ true → (not v || good) ≡ true → (came ≡ true → good ≡ true) → good ≡ true
good_class true came good p q f = q
good_class false came good p q f = f p

pub good_at : (h : List Entry) → Keeps h → can_log h ≡ true → (has is_sealed h && all_good h) ≡ true
good_at h k c =
    let yes = yes_at h k c in
    and_both (has is_sealed h) (all_good h) (sealed_if_yes h k yes)
    (each_both (λ x. is_volatile x.1 || has (is_enlist_got x.0.value) h) (λ x. not (is_volatile x.1) || has (is_good_vote x.0.value) h) (λ x. has (is_good_vote x.0.value) h)
    (λ x p q. good_class (is_volatile x.1) (has (is_enlist_got x.0.value) h) (has (is_good_vote x.0.value) h) p q (λ s. came_good x.0 h k c s))
    (enlisted h) (come_if_promoted h k (promoted_if_yes h k yes)) (well_if_yes h k yes))

good_more : (x : Entry) (h : List Entry) → rule h x ≡ true → has is_sealed h ≡ true → all_good h ≡ true → all_good (x ∷ h) ≡ true
good_more (Enlisted e c) h r s a = absurd (not_both (has is_sealed h) s (enlisted_unsealed e c h r))
good_more (Voted e v) h r s a =
    each_more (λ y. has (is_good_vote y.0.value) h) (λ y. has (is_good_vote y.0.value) (Voted e v ∷ h))
    (λ y t. or_right (is_good_vote y.0.value (Voted e v)) (has (is_good_vote y.0.value) h) t) (enlisted h) a
good_more _ h r s a = a

pub good_stays : (x : Entry) (h : List Entry) → Keeps (x ∷ h) → (has is_sealed h && all_good h) ≡ true → (has is_sealed (x ∷ h) && all_good (x ∷ h)) ≡ true
good_stays x h k t =
    let sealed = and_left (has is_sealed h) (all_good h) t in
    and_both (has is_sealed (x ∷ h)) (all_good (x ∷ h)) (or_right (is_sealed x) (has is_sealed h) sealed) (good_more x h (newest x h k) sealed (and_right (has is_sealed h) (all_good h) t))

pub good_if_record : (h : List Entry) → Keeps h → has is_record h ≡ true → (has is_sealed h && all_good h) ≡ true
good_if_record h k s = if_record (λ g. has is_sealed g && all_good g) good_stays good_at h k s

-- who came, voted well, where there is a record
pub came_voted_at : (e : EnlNo) (h : List Entry) → Keeps h → can_log h ≡ true → (has is_commit_got h && (not (has (is_enlist_got e.value) h) || has (is_good_vote e.value) h)) ≡ true
came_voted_at e h k c =
    and_both (has is_commit_got h) _ (can_commit h c) (implied (has (is_enlist_got e.value) h) (has (is_good_vote e.value) h) (λ s. came_good e h k c s))
  where
    implied : (a b : Bool) → (a ≡ true → b ≡ true) → (not a || b) ≡ true
    implied true b f = f refl
    implied false b f = refl

pub came_voted_stays : (e : ℕ) (x : Entry) (h : List Entry) → Keeps (x ∷ h) → (has is_commit_got h && (not (has (is_enlist_got e) h) || has (is_good_vote e) h)) ≡ true
    → (has is_commit_got (x ∷ h) && (not (has (is_enlist_got e) (x ∷ h)) || has (is_good_vote e) (x ∷ h))) ≡ true
came_voted_stays e (Got (Enl f) Up (EnlistEnlist i)) h k t =
    absurd (not_both (has is_commit_got h) (and_left (has is_commit_got h) (not (has (is_enlist_got e) h) || has (is_good_vote e) h) t) (not_true (has is_commit_got h) (newest (Got (Enl f) Up (EnlistEnlist i)) h k)))
came_voted_stays e (Got Begin Up BeginCommit) h k t = and_right (has is_commit_got h) (not (has (is_enlist_got e) h) || has (is_good_vote e) h) t
came_voted_stays e (Got Begin Up BeginCommitOne) h k t = and_right (has is_commit_got h) (not (has (is_enlist_got e) h) || has (is_good_vote e) h) t
came_voted_stays e (Voted f v) h k t =
    and_both (has is_commit_got h) (not (has (is_enlist_got e) h) || has (is_good_vote e) (Voted f v ∷ h)) (and_left (has is_commit_got h) (not (has (is_enlist_got e) h) || has (is_good_vote e) h) t)
    (or_between (not (has (is_enlist_got e) h)) (is_good_vote e (Voted f v)) (has (is_good_vote e) h) (and_right (has is_commit_got h) (not (has (is_enlist_got e) h) || has (is_good_vote e) h) t))
came_voted_stays e _ h k t = t

pub came_voted : (e : EnlNo) (h : List Entry) → Keeps h → has is_record h ≡ true → has (is_enlist_got e.value) h ≡ true → has (is_good_vote e.value) h ≡ true
came_voted e h k s came =
    so (has (is_enlist_got e.value) h) (has (is_good_vote e.value) h) came
    (and_right (has is_commit_got h) (not (has (is_enlist_got e.value) h) || has (is_good_vote e.value) h)
    (if_record (λ g. has is_commit_got g && (not (has (is_enlist_got e.value) g) || has (is_good_vote e.value) g)) (came_voted_stays e.value) (came_voted_at e) h k s))
  where
    so : (a b : Bool) → a ≡ true → (not a || b) ≡ true → b ≡ true
    so true b p t = t
    so false b p t = absurd cc

-- A record is evidence.
each_filter : {A : Type 0} (p q : A → Bool) (xs : List A) → each p xs ≡ true → each p (filter q xs) ≡ true
each_filter p q [] a = refl
each_filter p q (x ∷ xs) a = step p (q x) x (filter q xs) (and_left (p x) (each p xs) a) (each_filter p q xs (and_right (p x) (each p xs) a))
  where
    step : {A : Type 0} (p : A → Bool) (b : Bool) (x : A) (ys : List A) → p x ≡ true → each p ys ≡ true → each p (if b then x ∷ ys else ys) ≡ true
    step p true x ys h k = and_both (p x) (each p ys) h k
    step p false x ys h k = k

voters_pass : (p : EnlNo × Class → Bool) (h : List Entry) → each p (enlisted h) ≡ true → each p (voters h) ≡ true
voters_pass p h a = step (all_vote h) (volatiles h) (durables h) (each_filter p (λ x. is_volatile x.1) (enlisted h) a) (each_filter p (λ x. not (is_volatile x.1)) (enlisted h) a)
  where
    step : (b : Bool) (vs ds : List (EnlNo × Class)) → each p vs ≡ true → each p ds ≡ true → each p (if b then vs ++ ds else vs) ≡ true
    step true vs ds v d = each-append p vs ds v d
    step false vs ds v d = v

pub ready_if_good : (h : List Entry) → Keeps h → (has is_sealed h && all_good h) ≡ true → ready h ≡ true
unfolding ready
ready_if_good h k t =
    let sealed = and_left (has is_sealed h) (all_good h) t in
    three_hold (has is_commit h) (all_complete h) _ (commit_if_sealed h k sealed) (complete_if_sealed h k sealed)
    (voters_pass (λ x. has (is_good_vote x.0.value) h) h (and_right (has is_sealed h) (all_good h) t))

pub evidence_if_record : (h : List Entry) → Keeps h → has is_record h ≡ true → evidence h ≡ true
unfolding evidence by_log
evidence_if_record h k s =
    and_both (ready h) (by_seal h || by_owner h || (has is_promoted h && has is_record h)) (ready_if_good h k (good_if_record h k s))
    (or_right (by_seal h || by_owner h) (has is_promoted h && has is_record h) (and_both (has is_promoted h) (has is_record h) (promoted_if_yes h k (yes_if_record h k s)) s))

-- A coordinator with a record doesn't abort: while it stands stopped it gets nothing.
pub live_more : (x : Entry) (h : List Entry) → (is_abort h x && not (has is_record h)) ≡ false → coordinator_aborted h ≡ false → coordinator_aborted (x ∷ h) ≡ false
unfolding coordinator_aborted
live_more x h a l = or_false (is_abort h x && not (has is_record h)) (ever is_first_abort h) a l

pub calm_more : (x : Entry) (h : List Entry) → is_abort h x ≡ false → coordinator_aborted h ≡ false → coordinator_aborted (x ∷ h) ≡ false
calm_more x h a l = live_more x h (rw a refl) l

stands_stopped : (h : List Entry) → has is_stop h ≡ true → is_unmarked (latest mark_of h) ≡ true → is_stopped h ≡ true
stands_stopped [] s m = absurd cc
stands_stopped (Stopped ∷ h) s m = refl
stands_stopped (Restarted b ∷ h) s m = absurd cc
stands_stopped (Logged ∷ h) s m = absurd cc
stands_stopped (Freed ∷ h) s m = absurd cc
stands_stopped (x ∷ h) s m = stands_stopped h s m

pub got_calm : (c : Conn) (m : Message) (h : List Entry) → is_abort h (Got c Down m) ≡ false
got_calm Begin m h = refl
got_calm Voter m h = refl
got_calm (Enl e) m h = refl
got_calm _ m h = refl

calm_down : (x : Entry) (h : List Entry) → Keeps (x ∷ h) → is_unmarked (mark_of x) ≡ true → has is_stop h ≡ true → is_stopped h ≡ true → is_abort h x ≡ false
calm_down (Got c Up m) h k n s d = absurd (nothing_up c m h d k.wires.0)
calm_down (Got c Down m) h k n s d = got_calm c m h
calm_down (End c Up) h k n s d = absurd (no_end_up c h d k.wires.0)
calm_down LogFull h k n s d = absurd (not_both (has is_stop h) s (can_unstopped h (newest LogFull h k)))
calm_down (Restarted b) h k n s d = absurd cc
calm_down _ h k n s d = refl

unmarked_now : (a b : Option Bool) → is_unmarked (or_else a b) ≡ true → is_unmarked a ≡ true
unmarked_now (Some c) b m = absurd cc
unmarked_now None b m = refl

unmarked_before : (a b : Option Bool) → is_unmarked (or_else a b) ≡ true → is_unmarked b ≡ true
unmarked_before (Some c) b m = absurd cc
unmarked_before None b m = m

live_stop : (h : List Entry) (b : Bool) → has is_stop h ≡ b → coordinator_aborted (before_first_stop h) ≡ false → (has is_stop h ≡ true → coordinator_aborted h ≡ false)
    → coordinator_aborted h ≡ false
live_stop h true t l f = f t
live_stop h false t l f = subst (λ g. coordinator_aborted g ≡ false) (first_none h h t) l

pub live_first : (h : List Entry) → Keeps h → has is_stop h ≡ true → is_unmarked (latest mark_of h) ≡ true → coordinator_aborted (before_first_stop h) ≡ false → coordinator_aborted h ≡ false
live_first [] k s m l = l
live_first (Stopped ∷ h) k s m l = calm_more Stopped h refl (live_stop h (has is_stop h) refl l (λ t. live_first h (keeps_before Stopped h k) t m l))
live_first (x ∷ h) k s m l =
    calm_more x h (calm_down x h k (unmarked_now (mark_of x) (latest mark_of h) m) s (stands_stopped h s (unmarked_before (mark_of x) (latest mark_of h) m)))
    (live_first h (keeps_before x h k) s (unmarked_before (mark_of x) (latest mark_of h) m) (subst (λ g. coordinator_aborted g ≡ false) (first_some (x ∷ h) h h s) l))

pub stopped_stop : (h : List Entry) → is_stopped h ≡ true → has is_stop h ≡ true
stopped_stop [] s = absurd cc
stopped_stop (Stopped ∷ h) s = refl
stopped_stop (Restarted b ∷ h) s = absurd cc
stopped_stop (x ∷ h) s = or_right (is_stop x) (has is_stop h) (stopped_stop h s)

new_live : (x : Entry) (h : List Entry) → Keeps (x ∷ h) → is_record x ≡ true → (has is_record h ≡ true → coordinator_aborted h ≡ false) → coordinator_aborted (x ∷ h) ≡ false
new_live Logged h k t ih = calm_more Logged h refl (can_live h (newest Logged h k))
new_live (Restarted true) h k t ih =
    calm_more (Restarted true) h refl
    (or_case (has_mark h) (is_unmarked (latest mark_of h) && can_log (before_first_stop h)) (λ u. ih (record_of_mark h u))
    (λ u. live_first h (keeps_before (Restarted true) h k) (stopped_stop h (newest (Restarted true) h k)) (and_left (is_unmarked (latest mark_of h)) (can_log (before_first_stop h)) u)
    (can_live (before_first_stop h) (and_right (is_unmarked (latest mark_of h)) (can_log (before_first_stop h)) u))) (newest_tied (Restarted true) h k))
new_live _ h k t ih = absurd cc

pub live_if_record : (h : List Entry) → Keeps h → has is_record h ≡ true → coordinator_aborted h ≡ false
live_if_record [] k s = absurd cc
live_if_record (x ∷ h) k s =
    or_case (is_record x) (has is_record h) (λ t. new_live x h k t (live_if_record h (keeps_before x h k)))
    (λ t. live_more x h (recorded (is_abort h x) (has is_record h) t) (live_if_record h (keeps_before x h k) t)) s
  where
    recorded : (a b : Bool) → b ≡ true → (a && not b) ≡ false
    recorded a true e = and_never a
    recorded a false e = absurd cc

-- the coordinator aborts only of a promotion
begin_promoting : (x : Entry) (h : List Entry) → Keeps h → rule h x ≡ true → is_begin_sent x ≡ true → has is_promoting h ≡ true
begin_promoting (Sent c d m) h k r t = second_of_four (has_line c d m) (has is_promoting h) (is_there h c d m) (message_row h c m) r
begin_promoting _ h k r t = absurd cc

stop_begun : (x : Entry) (h : List Entry) → Keeps h → rule h x ≡ true → is_stop x ≡ true → has is_begin_sent h ≡ true
stop_begun Stopped h k r t = and_left (has is_begin_sent h) (not (is_stopped h)) r
stop_begun _ h k r t = absurd cc

pub abort_promoting : (x : Entry) (h : List Entry) → Keeps (x ∷ h) → is_abort h x ≡ true → has is_promoting h ≡ true
abort_promoting (Got c d m) h k t = got_promoting c d m h k
abort_promoting (End c d) h k t = end_promoting c d h k
abort_promoting LogFull h k t =
    let past = keeps_before LogFull h k in promoting_if_promoted h past (promoted_if_commit h past (can_commit h (newest LogFull h k)))
abort_promoting (Restarted b) h k t =
    let past = keeps_before (Restarted b) h k in
    before is_begin_sent is_promoting begin_promoting h past (before is_stop is_begin_sent stop_begun h past (stopped_stop h (newest (Restarted b) h k)))
abort_promoting _ h k t = absurd cc

pub aborted_promoting : (h : List Entry) → Keeps h → coordinator_aborted h ≡ true → has is_promoting h ≡ true
unfolding coordinator_aborted
aborted_promoting [] k t = absurd cc
aborted_promoting (x ∷ h) k t =
    or_right (is_promoting x) (has is_promoting h)
    (or_case (is_first_abort h x) (ever is_first_abort h) (λ a. abort_promoting x h k (and_left (is_abort h x) (not (has is_record h)) a)) (λ a. aborted_promoting h (keeps_before x h k) a) t)

-- the coordinator's abort or refusal is got where it aborted
pub refusal_aborted : (x : Entry) (h : List Entry) → Keeps (x ∷ h) → is_refusal x ≡ true → coordinator_aborted h ≡ true
refusal_aborted (Got Begin Down BeginAborted) h k t = aborted_by_got Begin BeginAborted h k refl
refusal_aborted (Got Voter Down (VoterRefused cause)) h k t = aborted_by_got Voter (VoterRefused cause) h k refl
refusal_aborted (Got Voter Down VoterAbort) h k t = aborted_by_got Voter VoterAbort h k refl
refusal_aborted (Got (Enl e) Down (EnlistRefused cause)) h k t = aborted_by_got (Enl e) (EnlistRefused cause) h k refl
refusal_aborted (Got (Enl e) Down EnlistAbort) h k t = aborted_by_got (Enl e) EnlistAbort h k refl
refusal_aborted _ h k t = absurd cc

pub told_aborted : (x : Entry) (h : List Entry) → Keeps h → ends_told h x ≡ true → coordinator_aborted h ≡ true
told_aborted x (Got (Enl e) Down EnlistAbort ∷ h) k t = aborted_more (Got (Enl e) Down EnlistAbort) h (aborted_by_got (Enl e) EnlistAbort h k refl)
told_aborted x _ k t = absurd cc
