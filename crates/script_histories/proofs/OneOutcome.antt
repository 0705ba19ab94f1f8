-- The law of one outcome over lists: where each entry keeps its rule, each restart finds what may be found, and what is got was sent, what is told is just, no two are told
-- opposite outcomes, and who came back learns the logged outcome, or abort.
use Rattle.std.proofs.Common.{◌≡◌, ℕ, true, List, ◌∷◌, refl, [], ◌||◌, Some, ◌&&◌, Bool, sym, subst, false, ◌∙◌, ◌==◌, ◌⊎◌, inl, inr}
use Rattle.std.specs.Prelude.{not}
use Rattle.std.proofs.lemmas.Bool.{or_left}
use Rattle.dtx_values.specs.declared.entry.Entry.{Entry}
use Rattle.dtx_values.specs.declared.entry.Entry.TheVariants.{Got, Decided, Told, OwnerAnswered}
use Rattle.dtx_values.specs.declared.entry.Party.{Party}
use Rattle.dtx_values.specs.declared.entry.Party.TheVariants.{Client, Enl}
use Rattle.dtx_values.specs.declared.message.Conn.TheVariants.{Again, Enl as OnEnl}
use Rattle.dtx_values.specs.declared.message.Dir.TheVariants.{Down}
use Rattle.dtx_values.specs.declared.message.Message.TheVariants.{EnlistCommit, ReenlistCommitted, EnlistAbort, ReenlistAborted}
use Rattle.dtx_values.specs.declared.number.EnlNo.{EnlNo}
use Rattle.dtx_values.specs.declared.words.Outcome.{Outcome}
use Rattle.dtx_values.specs.declared.words.Outcome.TheVariants.{Committed, Aborted, InDoubt}
use Rattle.dtx_model.specs.Words.{has, latest, always, ever}
use Rattle.dtx_model.specs.Entries.{is_record, decision_of, is_decision, same_outcome, is_final, is_promoted}
use Rattle.dtx_model.specs.Outcome.{hears_doubt, evidence, vetoed, doubt, may_tell, is_just, justified, is_decided_again, agree, by_log}
use Rattle.dtx_model.specs.Learned.{coordinator_aborted, may_learn, is_learned, Learned}
use Rattle.dtx_model.specs.Promotes.{is_promoting}
use Rattle.dtx_model.specs.Tied.{tied}
use Rattle.dtx_model.specs.Wires.{WireRun}
use Rattle.dtx_model.proofs.Bools.{and_both, not_false, or_case, and_right, or_right, not_true, not_both, and_left, or_false}
use Rattle.history_table.proofs.Table.{brings_commit, ends_with, brings_abort, brings, hears_here, ends_again, hears_decision, decision_row, rule, ruled}
use Rattle.history_table.proofs.Keeping.{Keeps, keeps_before, newest, third_of_three}
use Rattle.history_table.proofs.Sendings.{record_by_got, aborted_by_got, aborted_more, for_good_by_got, for_good_more, got_promoting}
use Rattle.history_table.proofs.CameBack.{alone_by_got, alone_more}
use Rattle.history_table.proofs.Tests.{first_of_three, second_of_three}
use Rattle.history_table.proofs.EntryTests.{is_certain, is_decided}
use Rattle.history_table.proofs.Aborting.{IsCalledOff, IsOff, called_off, called_off_more, off_open, decided_off, decided_evident, row_off, commit_evident, decision_stands}
use Rattle.history_table.proofs.Recording.{evidence_if_record, promoted_if_yes, yes_if_record}
use Rattle.history_table.proofs.Doubting.{decided_doubt}
use Rattle.history_table.proofs.Handed.{is_answered}
pub use Rattle.history_table.proofs.LetDecide.{answered_handed}
use Rattle.history_table.proofs.LetDecide.{answered_once}
use Rattle.history_table.proofs.Evident.{not_after, evidence-handed}
use Rattle.script_histories.proofs.Rules.{decided_same, not_opposite}
use Rattle.script_histories.proofs.Vetoing.{called_off_vetoed, vetoes}

-- What a durable or promotable hears over a connection: a commit where there is a record, an abort where the coordinator aborted.
brought_record : (e : ℕ) (h : List Entry) → Keeps h → ends_with (brings_commit e) h ≡ true → has is_record h ≡ true
brought_record e (Got (OnEnl f) Down EnlistCommit ∷ h) k t = record_by_got (OnEnl f) EnlistCommit h k refl
brought_record e (Got (Again f) Down ReenlistCommitted ∷ h) k t = record_by_got (Again f) ReenlistCommitted h k refl
brought_record e _ k t = absurd cc

brought_aborted : (e : ℕ) (h : List Entry) → Keeps h → ends_with (brings_abort e) h ≡ true → coordinator_aborted h ≡ true
brought_aborted e (Got (OnEnl f) Down EnlistAbort ∷ h) k t = aborted_more (Got (OnEnl f) Down EnlistAbort) h (aborted_by_got (OnEnl f) EnlistAbort h k refl)
brought_aborted e (Got (Again f) Down ReenlistAborted ∷ h) k t = aborted_more (Got (Again f) Down ReenlistAborted) h (aborted_by_got (Again f) ReenlistAborted h k refl)
brought_aborted e _ k t = absurd cc

-- and its abort stands
abbrev HeardOff : List Entry → Type 0
HeardOff h = IsCalledOff h × (has is_promoting h ≡ true)

brought_off : (e : ℕ) (h : List Entry) → Keeps h → ends_with (brings_abort e) h ≡ true → HeardOff h
brought_off e (Got (OnEnl f) Down EnlistAbort ∷ h) k t =
    (inl (for_good_more (Got (OnEnl f) Down EnlistAbort) h (newest (Got (OnEnl f) Down EnlistAbort) h k) (for_good_by_got (OnEnl f) EnlistAbort h k refl)), got_promoting (OnEnl f) Down EnlistAbort h k)
brought_off e (Got (Again f) Down ReenlistAborted ∷ h) k t = (
  inr (inr (record {
    name = f;
    alone = alone_more f (Got (Again f) Down ReenlistAborted) h k (alone_by_got f ReenlistAborted h k);
    aborted = aborted_more (Got (Again f) Down ReenlistAborted) h (aborted_by_got (Again f) ReenlistAborted h k refl);
  })),
  got_promoting (Again f) Down ReenlistAborted h k,
)
brought_off e _ k t = absurd cc

pub heard_record : (p : Party) (h : List Entry) → Keeps h → hears_here h p Committed ≡ true → has is_record h ≡ true
heard_record Client h k t = absurd cc
heard_record (Enl e) h k t = brought_record e.value h k (brings_is h t)
  where
    brings_is : (h : List Entry) → ends_with (brings e.value Committed) h ≡ true → ends_with (brings_commit e.value) h ≡ true
    brings_is [] t = t
    brings_is (x ∷ h) t = t

pub heard_aborted : (p : Party) (h : List Entry) → Keeps h → hears_here h p Aborted ≡ true → coordinator_aborted h ≡ true
heard_aborted Client h k t = absurd cc
heard_aborted (Enl e) h k t = brought_aborted e.value h k (brings_is h t)
  where
    brings_is : (h : List Entry) → ends_with (brings e.value Aborted) h ≡ true → ends_with (brings_abort e.value) h ≡ true
    brings_is [] t = t
    brings_is (x ∷ h) t = t

heard_off : (p : Party) (h : List Entry) → Keeps h → hears_here h p Aborted ≡ true → HeardOff h
heard_off Client h k t = absurd cc
heard_off (Enl e) h k t = brought_off e.value h k (brings_is h t)
  where
    brings_is : (h : List Entry) → ends_with (brings e.value Aborted) h ≡ true → ends_with (brings_abort e.value) h ≡ true
    brings_is [] t = t
    brings_is (x ∷ h) t = t

-- nobody hears of doubt over a connection
pub heard_doubt : (p : Party) (h : List Entry) → hears_here h p InDoubt ≡ true → ⊥
heard_doubt Client h t = absurd cc
heard_doubt (Enl e) [] t = absurd cc
heard_doubt (Enl e) (x ∷ h) t = absurd cc

-- what was decided, and who may hear it
heard_decided : (p : Party) (o : Outcome) (h : List Entry) → hears_decision h p o ≡ true → latest decision_of h ≡ Some o
heard_decided p o h t = decided_same o (latest decision_of h) (first_of_three (is_decided o (latest decision_of h)) (is_certain o || hears_doubt h p) (not (ends_again h p)) t)

-- What is told is just.
aborted_just : (h : List Entry) → Keeps h → vetoed h ≡ true → IsOff h → (vetoed h && not (evidence h)) ≡ true
aborted_just h k v w = and_both (vetoed h) (not (evidence h)) v (not_false (evidence h) (off_open h k w))

told_just : (p : Party) (o : Outcome) (h : List Entry) → Keeps h → (hears_here h p o || hears_decision h p o) ≡ true → may_tell h p o ≡ true
unfolding may_tell
told_just p Committed h k r =
    or_case (hears_here h p Committed) (hears_decision h p Committed) (λ t. evidence_if_record h k (heard_record p h k t)) (λ t. decided_evident h k (heard_decided p Committed h t)) r
told_just p Aborted h k r =
    or_case (hears_here h p Aborted) (hears_decision h p Aborted)
    (λ t. let w = heard_off p h k t in aborted_just h k (called_off_vetoed h k w.0) (called_off h k w.1 w.0))
    (λ t. let d = heard_decided p Aborted h t in aborted_just h k ((vetoes h k).decided d) (decided_off h k d)) r
told_just p InDoubt h k r =
    or_case (hears_here h p InDoubt) (hears_decision h p InDoubt) (λ t. absurd (heard_doubt p h t))
    (λ t. and_both (hears_doubt h p) (doubt h) (second_of_three (is_decided InDoubt (latest decision_of h)) (hears_doubt h p) (not (ends_again h p)) t) (decided_doubt h k (heard_decided p InDoubt h t))) r

-- a decision is just, as the history after it shows
decided_just : (o : Outcome) (h : List Entry) → Keeps (Decided o ∷ h) → may_tell h Client o ≡ true
unfolding may_tell vetoed
decided_just Committed h k = commit_evident h (keeps_before (Decided Committed) h k) (and_right (not (has is_decision h)) (decision_row h Committed) (newest (Decided Committed) h k))
decided_just Aborted h k = aborted_just h (keeps_before (Decided Aborted) h k) ((vetoes (Decided Aborted ∷ h) k).decided refl) (abort_off h k)
  where
    abort_off : (h : List Entry) → Keeps (Decided Aborted ∷ h) → IsOff h
    abort_off h k = row_off h (keeps_before (Decided Aborted) h k) (and_right (not (has is_decision h)) (decision_row h Aborted) (newest (Decided Aborted) h k))
decided_just InDoubt h k = and_right (not (has is_decision h)) (doubt h) (newest (Decided InDoubt) h k)

just_now : (x : Entry) (h : List Entry) → Keeps (x ∷ h) → is_just h x ≡ true
just_now (Told p o) h k = told_just p o h (keeps_before (Told p o) h k) (newest (Told p o) h k)
just_now (Decided o) h k = decided_just o h k
just_now _ h k = refl

pub all_just : (h : List Entry) → Keeps h → justified h ≡ true
unfolding justified
all_just [] k = refl
all_just (x ∷ h) k = and_both (is_just h x) (always is_just h) (just_now x h k) (all_just h (keeps_before x h k))

-- No two are told opposite outcomes. What is final was decided, or an owner's answer, or shows at the coordinator.
abbrev is_said : Outcome → List Entry → Bool
is_said o h = is_decided o (latest decision_of h) || has (is_answered o) h

abbrev pub has_cause : Outcome → (List Entry → Bool) → List Entry → Bool
has_cause o q h = is_decided o (latest decision_of h) || has (is_answered o) h || q h

said_more : (o : Outcome) (x : Entry) (h : List Entry) → Keeps (x ∷ h) → is_said o h ≡ true → is_said o (x ∷ h) ≡ true
said_more o x h k t =
    or_case (is_decided o (latest decision_of h)) (has (is_answered o) h)
    (λ d. or_left (is_decided o (latest decision_of (x ∷ h))) (has (is_answered o) (x ∷ h)) (decided_more o x h (newest x h k) d))
    (λ b. or_right (is_decided o (latest decision_of (x ∷ h))) (has (is_answered o) (x ∷ h)) (or_right (is_answered o x) (has (is_answered o) h) b)) t
  where
    decided_more : (o : Outcome) (x : Entry) (h : List Entry) → rule h x ≡ true → is_decided o (latest decision_of h) ≡ true → is_decided o (latest decision_of (x ∷ h)) ≡ true
    decided_more o (Decided y) h r d = not_after (Decided y) h refl r (decision_stands h o (decided_same o (latest decision_of h) d))
    decided_more o x h r d = d

same_outcome_is : (x y : Outcome) → same_outcome x y ≡ true → x ≡ y
same_outcome_is Committed Committed t = refl
same_outcome_is Aborted Aborted t = refl
same_outcome_is InDoubt InDoubt t = refl
same_outcome_is _ _ t = absurd cc

said_now : (o : Outcome) (x : Entry) (h : List Entry) → Keeps (x ∷ h) → is_final o x ≡ true → (is_said o (x ∷ h) ≡ true) ⊎ ((p : Party) × (hears_here h p o ≡ true))
said_now o (Told p y) h k t =
    let same : y ≡ o = sym (same_outcome_is o y t) in
    let P : Outcome → Type 0 = λ z. (hears_here h p z || hears_decision h p z) ≡ true in
    or_case (hears_here h p o) (hears_decision h p o) (λ b. inr (p, b))
    (λ d. inl (or_left (is_decided o (latest decision_of h)) (has (is_answered o) h) (first_of_three (is_decided o (latest decision_of h)) (is_certain o || hears_doubt h p) (not (ends_again h p)) d)))
    (subst P same (newest (Told p y) h k))
said_now o (Decided y) h k t = inl (or_left (same_outcome o y) (has (is_answered o) h) t)
said_now o (OwnerAnswered f y) h k t = inl (or_right (is_decided o (latest decision_of h)) (same_outcome o y || has (is_answered o) h) (or_left (same_outcome o y) (has (is_answered o) h) t))
said_now o _ h k t = absurd cc

-- what is final was said so, or was heard, of which Q goes on standing
final_by : (o : Outcome) (Q : List Entry → Type 0) → ((x : Entry) (h : List Entry) → Keeps (x ∷ h) → Q h → Q (x ∷ h)) → ((p : Party) (h : List Entry) → Keeps h → hears_here h p o ≡ true → Q h)
    → (h : List Entry) → Keeps h → has (is_final o) h ≡ true → (is_said o h ≡ true) ⊎ Q h
final_by o Q stays heard [] k t = absurd cc
final_by o Q stays heard (x ∷ h) k t =
    or_case (is_final o x) (has (is_final o) h) (λ a. now (said_now o x h k a)) (λ b. later (final_by o Q stays heard h (keeps_before x h k) b)) t
  where
    now : (is_said o (x ∷ h) ≡ true) ⊎ ((p : Party) × (hears_here h p o ≡ true)) → (is_said o (x ∷ h) ≡ true) ⊎ Q (x ∷ h)
    now (inl a) = inl a
    now (inr b) = inr (stays x h k (heard b.0 h (keeps_before x h k) b.1))

    later : (is_said o h ≡ true) ⊎ Q h → (is_said o (x ∷ h) ≡ true) ⊎ Q (x ∷ h)
    later (inl a) = inl (said_more o x h k a)
    later (inr b) = inr (stays x h k b)

pub final_cause : (o : Outcome) (q : List Entry → Bool) → ((x : Entry) (h : List Entry) → q h ≡ true → q (x ∷ h) ≡ true)
    → ((p : Party) (h : List Entry) → Keeps h → hears_here h p o ≡ true → q h ≡ true) → (h : List Entry) → Keeps h → has (is_final o) h ≡ true → has_cause o q h ≡ true
final_cause o q stays heard h k t = elim (final_by o (λ g. q g ≡ true) (λ x g j w. stays x g w) heard h k t) [
  | inl a ↦ or_left (is_said o h) (q h) a
  | inr b ↦ or_right (is_said o h) (q h) b
]

pub final_evident : (h : List Entry) → Keeps h → has (is_final Committed) h ≡ true → evidence h ≡ true
final_evident h k t =
    or_case (is_decided Committed (latest decision_of h) || has (is_answered Committed) h) (has is_record h)
    (λ a. or_case (is_decided Committed (latest decision_of h)) (has (is_answered Committed) h) (λ d. decided_evident h k (decided_same Committed (latest decision_of h) d))
    (λ b. evidence-handed h k (answered_handed Committed h k b) ∙ b) a)
    (λ r. evidence_if_record h k r) (final_cause Committed (λ g. has is_record g) (λ x g s. or_right (is_record x) (has is_record g) s) heard_record h k t)

-- where abort is final, the coordinator's abort stands, or the local side decided it
off_more : (x : Entry) (h : List Entry) → Keeps (x ∷ h) → HeardOff h → HeardOff (x ∷ h)
off_more x h k w = (called_off_more x h k w.0, or_right (is_promoting x) (has is_promoting h) w.1)

final_open : (h : List Entry) → Keeps h → has (is_final Aborted) h ≡ true → evidence h ≡ false
final_open h k t = elim (final_by Aborted HeardOff off_more heard_off h k t) [
  | inl a ↦ or_case (is_decided Aborted (latest decision_of h)) (has (is_answered Aborted) h)
      (λ d. off_open h k (decided_off h k (decided_same Aborted (latest decision_of h) d)))
      (λ b. evidence-handed h k (answered_handed Aborted h k b) ∙ answered_once h k b) a
  | inr w ↦ off_open h k (called_off h k w.1 w.0)
]

-- it is decided once
one_decision : (x : Entry) (h : List Entry) → Keeps (x ∷ h) → is_decided_again h x ≡ false
one_decision (Decided o) h k = not_true (has is_decision h) (and_left (not (has is_decision h)) (decision_row h o) (newest (Decided o) h k))
one_decision _ h k = refl

decided_once : (h : List Entry) → Keeps h → ever is_decided_again h ≡ false
decided_once [] k = refl
decided_once (x ∷ h) k = or_false (is_decided_again h x) (ever is_decided_again h) (one_decision x h k) (decided_once h (keeps_before x h k))

pub all_agree : (h : List Entry) → Keeps h → agree h ≡ true
unfolding agree
all_agree h k =
    let once = decided_once h k in
    let opposite : (has (is_final Committed) h && has (is_final Aborted) h) ≡ false =
    not_opposite (has (is_final Committed) h) (has (is_final Aborted) h) (evidence h) (final_evident h k) (final_open h k) in
    rw (opposite, once) refl

-- Who came back learns the logged outcome, or abort.
log_shows : (h : List Entry) → Keeps h → has is_record h ≡ true → (evidence h && by_log h) ≡ true
unfolding by_log
log_shows h k r =
    and_both (evidence h) (has is_promoted h && has is_record h) (evidence_if_record h k r) (and_both (has is_promoted h) (has is_record h) (promoted_if_yes h k (yes_if_record h k r)) r)

learns : (p : Party) (o : Outcome) (h : List Entry) → Keeps h → hears_here h p o ≡ true → may_learn h o ≡ true
learns p Committed h k t = log_shows h k (heard_record p h k t)
learns p Aborted h k t = heard_aborted p h k t
learns p InDoubt h k t = absurd (heard_doubt p h t)

-- directly after a message on the connection of its reenlistment, an enlistment hears what that brings
again_here : (e : EnlNo) (o : Outcome) (h : List Entry) → ends_again h (Enl e) ≡ true → (hears_here h (Enl e) o || hears_decision h (Enl e) o) ≡ true → hears_here h (Enl e) o ≡ true
again_here e o h a r =
    or_case (hears_here h (Enl e) o) (hears_decision h (Enl e) o) (λ t. t)
    (λ t. absurd (not_both (ends_again h (Enl e)) a
    (not_true (ends_again h (Enl e)) (third_of_three (is_decided o (latest decision_of h)) (is_certain o || hears_doubt h (Enl e)) (not (ends_again h (Enl e))) t)))) r

learned_step : (b m : Bool) → (b ≡ true → m ≡ true) → (not b || m) ≡ true
learned_step true m f = f refl
learned_step false m f = refl

learned_now : (h : List Entry) (x : Entry) → Keeps (x ∷ h) → is_learned h x ≡ true
learned_now (Got (Again f) Down m ∷ h) (Told (Enl e) o) k =
    learned_step (e.value == f.value) (may_learn (Got (Again f) Down m ∷ h) o)
    (λ a. learns (Enl e) o (Got (Again f) Down m ∷ h) (keeps_before (Told (Enl e) o) (Got (Again f) Down m ∷ h) k)
    (again_here e o (Got (Again f) Down m ∷ h) a (newest (Told (Enl e) o) (Got (Again f) Down m ∷ h) k)))
learned_now _ _ k = refl

pub all_learned : (h : List Entry) → Keeps h → Learned h
all_learned [] k = refl
all_learned (x ∷ h) k = and_both (is_learned h x) (always is_learned h) (learned_now h x k) (all_learned h (keeps_before x h k))

-- The law of one outcome: of a history alone.
pub one_outcome_of : (h : List Entry) → ruled h ≡ true → tied h ≡ true → WireRun h → (justified h ≡ true) × (agree h ≡ true) × Learned h
one_outcome_of h r t w = let k : Keeps h = record { rules = r; ties = t; wires = w } in (all_just h k, all_agree h k, all_learned h k)
