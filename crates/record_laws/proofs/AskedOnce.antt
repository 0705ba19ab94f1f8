-- Nobody is asked to prepare twice, nor asked or handed anything once it was told of the commit.
use Rattle.std.proofs.Common.{◌≡◌, ℕ, ◌==◌, Bool, true, false, ◌&&◌, ◌||◌, List, [], ◌∷◌, refl, subst, sym}
use Rattle.std.specs.Prelude.{not, if◌then◌else◌}
use Rattle.std.proofs.lemmas.Bool.{eqb-true, false_from_ne_true, or_left}
use Rattle.dtx_values.proofs.SameNumbers.{same_enlistment}
use Rattle.dtx_values.specs.declared.entry.Ask.TheVariants.{Prepare}
use Rattle.dtx_values.specs.declared.entry.Entry.{Entry}
use Rattle.dtx_values.specs.declared.entry.Entry.TheVariants.{Asked, Got, Handed, Told, Voted}
use Rattle.dtx_values.specs.declared.entry.Party.TheVariants.{Enl}
use Rattle.dtx_values.specs.declared.message.Conn.TheVariants.{Again, Enl as OnEnl}
use Rattle.dtx_values.specs.declared.message.Dir.TheVariants.{Down}
use Rattle.dtx_values.specs.declared.message.Message.TheVariants.{EnlistCommit, EnlistPrepare, ReenlistCommitted}
use Rattle.dtx_values.specs.declared.number.EnlNo.{EnlNo}
use Rattle.dtx_values.specs.declared.words.Outcome.{Outcome}
use Rattle.dtx_values.specs.declared.words.Outcome.TheVariants.{Aborted, Committed, InDoubt}
use Rattle.dtx_model.specs.Words.{always, has}
use Rattle.dtx_model.specs.Entries.{is_any_hand, is_any_single_sent, is_asked, is_commit, is_decision, is_good_vote, is_hand, is_lost, is_record, is_sealed, is_single_sent, is_two_phase_got, is_vote}
use Rattle.dtx_model.specs.Outcome.{durables, ready}
use Rattle.dtx_model.specs.Promotes.{is_enlisted_got, is_promoting}
use Rattle.dtx_model.specs.Wires.{is_ended, opens}
use Rattle.dtx_model.proofs.Bools.{and_both, and_left, and_right, not_both, not_false, not_true, or_case, or_right}
use Rattle.history_table.proofs.Tests.{first_of_five, first_of_three, second_of_five}
use Rattle.history_table.proofs.EntryTests.{is_enlisted, is_only}
use Rattle.history_table.proofs.Table.{ask_row, brings, ends_with, hears_decision, hears_here, is_abort_decided, is_enlist_got, is_opening_got, is_prepare_got, is_single_got, may_hand, rule, stands_volatile}
use Rattle.history_table.proofs.Keeping.{Keeps, before, earlier, fifth_of_five, keeps_before, newest, third_of_three}
use Rattle.history_table.proofs.Scans.{has_more}
use Rattle.history_table.proofs.Sendings.{ends_has, got_promoting, opened_promoting}
use Rattle.history_table.proofs.Recording.{came_voted}
use Rattle.history_table.proofs.Evident.{good_voted}
use Rattle.history_table.proofs.Handed.{hand_name}
use Rattle.history_table.proofs.Handover.{opening_before}
use Rattle.history_table.proofs.Standing.{opened_if_got, unvolatile_if_opened}
use Rattle.history_table.proofs.CoreKnown.{enlist_of}
use Rattle.history_table.proofs.CameBack.{alone_by_got}
use Rattle.history_table.proofs.Marks.{opened_if_enlisted}
use Rattle.history_table.proofs.JointVotes.{two_if_prepared}
use Rattle.history_table.proofs.LetDecide.{any_single_if_handed, got_single, one_apart, one_if_single, single_any, single_unrecorded}
use Rattle.history_table.proofs.Aborting.{decision_stands}
use Rattle.history_table.proofs.EntryTests.{is_certain, is_decided}
use Rattle.history_table.proofs.Table.{ends_again}
use Rattle.dtx_model.specs.Words.{latest}
use Rattle.dtx_model.specs.Entries.{decision_of}
use Rattle.dtx_model.specs.Outcome.{hears_doubt}
use Rattle.script_histories.proofs.Rules.{decided_same}
use Rattle.dtx_values.specs.declared.entry.Party.{Party}
use Rattle.record_laws.specs.Recorded.{is_note_new, is_told_so}
use Rattle.record_laws.proofs.ToldByRecord.{told_by}

-- Who was told of the commit was told it after the decision, or over its own connection or that of its reenlistment: its own was opened.
abbrev is_said : EnlNo → List Entry → Bool
is_said e h = has is_decision h || has (opens (OnEnl e)) h

brought_opened : (e : EnlNo) (h : List Entry) → Keeps h → ends_with (brings e.value Committed) h ≡ true → has (opens (OnEnl e)) h ≡ true
brought_opened e [] k t = absurd cc
brought_opened e (Got (OnEnl f) Down EnlistCommit ∷ h) k t =
    let P : EnlNo → Type 0 = λ g. has (opens (OnEnl g)) h ≡ true in
    subst P (sym (same_enlistment e f (eqb-true e.value f.value t))) (opened_if_got (OnEnl f) h (keeps_before (Got (OnEnl f) Down EnlistCommit) h k) (opening_before (OnEnl f) EnlistCommit h k))
brought_opened e (Got (Again f) Down ReenlistCommitted ∷ h) k t =
    let P : EnlNo → Type 0 = λ g. has (opens (OnEnl g)) h ≡ true in
    subst P (sym (same_enlistment e f (eqb-true e.value f.value t)))
    (opened_if_enlisted f h (keeps_before (Got (Again f) Down ReenlistCommitted) h k)
    (first_of_three (has (is_enlisted_got f.value) h) (not (has (is_hand f.value) h)) (is_ended (OnEnl f) Down h) (alone_by_got f ReenlistCommitted h k)))
brought_opened e (x ∷ h) k t = absurd cc

decision_there : (p : Party) (o : Outcome) (h : List Entry) → hears_decision h p o ≡ true → has is_decision h ≡ true
decision_there p o h t =
    decision_stands h o (decided_same o (latest decision_of h) (first_of_three (is_decided o (latest decision_of h)) (is_certain o || hears_doubt h p) (not (ends_again h p)) t))

said_now : (e : EnlNo) (x : Entry) (h : List Entry) → Keeps h → rule h x ≡ true → is_told_so Committed e.value x ≡ true → is_said e h ≡ true
said_now e (Told (Enl f) Committed) h k r t =
    let P : EnlNo → Type 0 = λ g. ends_with (brings g.value Committed) h ≡ true in
    or_case (hears_here h (Enl f) Committed) (hears_decision h (Enl f) Committed)
    (λ a. or_right (has is_decision h) (has (opens (OnEnl e)) h)
    (brought_opened e h k (subst P (sym (same_enlistment e f (eqb-true e.value f.value (and_left (e.value == f.value) true t)))) a)))
    (λ a. or_left (has is_decision h) (has (opens (OnEnl e)) h) (decision_there (Enl f) Committed h a)) r
said_now e (Told (Enl f) Aborted) h k r t = absurd (not_both false (and_right (e.value == f.value) false t) refl)
said_now e (Told (Enl f) InDoubt) h k r t = absurd (not_both false (and_right (e.value == f.value) false t) refl)
said_now e _ h k r t = absurd cc

told_said : (e : EnlNo) (h : List Entry) → Keeps h → has (is_told_so Committed e.value) h ≡ true → is_said e h ≡ true
told_said e h k t =
    earlier (is_told_so Committed e.value) (is_said e)
    (λ x g a. or_case (has is_decision g) (has (opens (OnEnl e)) g) (λ d. or_left (has is_decision (x ∷ g)) (has (opens (OnEnl e)) (x ∷ g)) (or_right (is_decision x) (has is_decision g) d))
    (λ o. or_right (has is_decision (x ∷ g)) (has (opens (OnEnl e)) (x ∷ g)) (or_right (opens (OnEnl e) x) (has (opens (OnEnl e)) g) o)) a) (said_now e) h k t

-- Who voted was asked.
vote_asked : (e : ℕ) (x : Entry) (h : List Entry) → Keeps h → rule h x ≡ true → is_vote e x ≡ true → has (is_asked e) h ≡ true
vote_asked e (Voted f v) h k r t =
    let P : ℕ → Type 0 = λ n. has (is_asked n) h ≡ true in
    subst P (sym (eqb-true e f.value t))
    (second_of_five (has (is_enlisted f.value) h) (has (is_asked f.value) h) (not (has (is_vote f.value) h)) (not (has (is_lost f.value) h)) (not (stands_volatile f.value h && has is_decision h)) r)
vote_asked e _ h k r t = absurd cc

pub asked_if_voted : (e : ℕ) (h : List Entry) → Keeps h → has (is_vote e) h ≡ true → has (is_asked e) h ≡ true
asked_if_voted e h k t = before (is_vote e) (is_asked e) (vote_asked e) h k t

-- What a PREPARE shows: a promotion began, its ENLIST was got, and nobody is handed the commit.
prepare_shows : (e : EnlNo) (h : List Entry) → Keeps h → ends_with (is_prepare_got e.value) h ≡ true → (has is_promoting h ≡ true) × (has (is_enlist_got e.value) h ≡ true)
prepare_shows e [] k t = absurd cc
prepare_shows e (Got (OnEnl f) Down EnlistPrepare ∷ h) k t = (
  got_promoting (OnEnl f) Down EnlistPrepare h k,
  has_more (is_opening_got (OnEnl f)) (is_enlist_got e.value) (enlist_of e.value f t) h (opening_before (OnEnl f) EnlistPrepare h k),
)
prepare_shows e (x ∷ h) k t = absurd cc

pub prepared_unhanded : (n : ℕ) (h : List Entry) → Keeps h → has is_promoting h ≡ true → has (is_prepare_got n) h ≡ true → has is_any_hand h ≡ false
prepared_unhanded n h k p t =
    false_from_ne_true (has is_any_hand h)
    (λ a. let w = hand_name h a in
    not_both (has is_two_phase_got h) (two_if_prepared n h k t) (one_apart h k (one_if_single h k (any_single_if_handed w.0 h k p w.1))))

-- Who was told of the commit is asked no more.
asked_untold : (e : EnlNo) (h : List Entry) → Keeps h → has (is_asked e.value) h ≡ false → ask_row h e.value ≡ true → has (is_told_so Committed e.value) h ≡ true → ⊥
asked_untold e h k n r t = or_case (stands_volatile e.value h && has is_commit h && not (has is_decision h)) (ends_with (is_prepare_got e.value) h) local here r
  where
    local : (stands_volatile e.value h && has is_commit h && not (has is_decision h)) ≡ true → ⊥
    local a =
        or_case (has is_decision h) (has (opens (OnEnl e)) h) (λ d. not_both (has is_decision h) d (not_true (has is_decision h) (third_of_three (stands_volatile e.value h) (has is_commit h) (not (has is_decision h)) a)))
        (λ o. not_both (stands_volatile e.value h) (first_of_three (stands_volatile e.value h) (has is_commit h) (not (has is_decision h)) a) (unvolatile_if_opened e h k o)) (told_said e h k t)

    here : ends_with (is_prepare_got e.value) h ≡ true → ⊥
    here a =
        let w = prepare_shows e h k a in
        or_case (has is_any_hand h) (has is_record h) (λ b. not_both (has is_any_hand h) b (prepared_unhanded e.value h k w.0 (ends_has (is_prepare_got e.value) h a)))
        (λ b. not_both (has (is_asked e.value) h) (asked_if_voted e.value h k (has_more (is_good_vote e.value) (is_vote e.value) (good_voted e.value) h (came_voted e h k b w.1))) n) (told_by e.value h k w.0 t)

-- nor handed the commit
handed_untold : (e : EnlNo) (h : List Entry) → Keeps h → may_hand h e.value ≡ true → has is_any_hand h ≡ false → has (is_told_so Committed e.value) h ≡ true → ⊥
handed_untold e h k m n t = by (has is_promoting h) refl m
  where
    by : (b : Bool) → has is_promoting h ≡ b → (if b then ends_with (is_single_got e.value) h && not (is_abort_decided h) else not (has is_decision h)) ≡ true → ⊥
    by true p r =
        let s = got_single e.value h k (and_left (ends_with (is_single_got e.value) h) (not (is_abort_decided h)) r) in
        or_case (has is_any_hand h) (has is_record h) (λ b. not_both (has is_any_hand h) b n)
        (λ b. not_both (has is_record h) b (single_unrecorded h k (has_more (is_single_sent e.value) is_any_single_sent (single_any e.value) h s))) (told_by e.value h k p t)
    by false p r =
        or_case (has is_decision h) (has (opens (OnEnl e)) h) (λ d. not_both (has is_decision h) d (not_true (has is_decision h) r)) (λ o. not_both (has is_promoting h) (opened_promoting (OnEnl e) h k o) p) (told_said e h k t)

note_new : (x : Entry) (h : List Entry) → Keeps (x ∷ h) → is_note_new h x ≡ true
note_new (Asked e Prepare) h k =
    let r = newest (Asked e Prepare) h k in
    let n = and_left (not (has (is_asked e.value) h)) (ask_row h e.value) r in
    and_both (not (has (is_asked e.value) h)) (not (has (is_told_so Committed e.value) h)) n
    (not_false (has (is_told_so Committed e.value) h)
    (false_from_ne_true (has (is_told_so Committed e.value) h)
    (λ t. asked_untold e h (keeps_before (Asked e Prepare) h k) (not_true (has (is_asked e.value) h) n) (and_right (not (has (is_asked e.value) h)) (ask_row h e.value) r) t)))
note_new (Handed e) h k =
    let r = newest (Handed e) h k in
    not_false (has (is_told_so Committed e.value) h)
    (false_from_ne_true (has (is_told_so Committed e.value) h)
    (λ t. handed_untold e h (keeps_before (Handed e) h k) (first_of_five (may_hand h e.value) (has is_sealed h) (ready h) (is_only e.value (durables h)) (not (has is_any_hand h)) r)
    (not_true (has is_any_hand h) (fifth_of_five (may_hand h e.value) (has is_sealed h) (ready h) (is_only e.value (durables h)) (not (has is_any_hand h)) r)) t))
note_new _ h k = refl

pub all_new : (h : List Entry) → Keeps h → always is_note_new h ≡ true
all_new [] k = refl
all_new (x ∷ h) k = and_both (is_note_new h x) (always is_note_new h) (note_new x h k) (all_new h (keeps_before x h k))
