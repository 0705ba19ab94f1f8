-- Rows of who is asked and told: a volatile is asked to prepare, or who got PREPARE; a promotable is asked to promote or for its single phase; and an enlistment is told
-- committed or in doubt where it was decided, or where there is a record.
use Rattle.std.proofs.Common.{◌≡◌, true, false, ◌&&◌, ◌||◌, List, [], ◌∷◌, Option, Some, None, refl, ◌∙◌, sym}
use Rattle.std.specs.Prelude.{is_some, not}
use Rattle.std.proofs.lemmas.Bool.{or_left}
use Rattle.dtx_values.specs.declared.entry.Ask.TheVariants.{Prepare, Promote, Single}
use Rattle.dtx_values.specs.declared.entry.Entry.{Entry}
use Rattle.dtx_values.specs.declared.entry.Entry.TheVariants.{Asked, Told}
use Rattle.dtx_values.specs.declared.entry.Party.TheVariants.{Enl as Member}
use Rattle.dtx_values.specs.declared.message.Conn.TheVariants.{Enl}
use Rattle.dtx_values.specs.declared.message.Dir.TheVariants.{Down}
use Rattle.dtx_values.specs.declared.number.EnlNo.{EnlNo}
use Rattle.dtx_values.specs.declared.words.Outcome.{Outcome}
use Rattle.dtx_values.specs.declared.words.Outcome.TheVariants.{Committed, Aborted, InDoubt}
use Rattle.dtx_model.specs.Words.{always, has, latest}
use Rattle.dtx_model.specs.Entries.{decision_of, is_asked, is_commit, is_decision, is_record, same_outcome}
use Rattle.dtx_model.specs.Outcome.{hears_doubt}
use Rattle.dtx_model.proofs.Bools.{and_both, and_left, and_right, not_both, or_case, or_right}
use Rattle.history_table.proofs.Tests.{first_of_three}
use Rattle.history_table.proofs.Scans.{has_more}
use Rattle.history_table.proofs.EntryTests.{is_certain, is_decided, is_volatile_made}
use Rattle.history_table.proofs.Messages.{PREPARE}
use Rattle.settled_histories.proofs.Owed.{is_asked_well}
use Rattle.history_table.proofs.Owned.{decision_seen}
use Rattle.history_table.proofs.Table.{ask_row, brings, ends_again, ends_with, hears_decision, hears_here, is_prepare_got, rule, stands_volatile}
use Rattle.history_table.proofs.Keeping.{Keeps, keeps_before, newest}
use Rattle.history_table.proofs.Crossed.{is_got_on}
use Rattle.history_table.proofs.Standing.{ends_has}
use Rattle.script_histories.proofs.OneOutcome.{heard_record}
use Rattle.settled_histories.proofs.BeforeRows.{made_volatile, prepare_on}
use Rattle.settled_histories.proofs.CausedRows.{doubt_ends}
use Rattle.settled_histories.proofs.AskedRows.{is_asked_promotable}

-- who is asked to prepare is volatile, or got PREPARE
prepare_well : (h : List Entry) (e : EnlNo) → rule h (Asked e Prepare) ≡ true → (has (is_volatile_made e.value) h || has (is_got_on (Enl e) Down PREPARE) h) ≡ true
prepare_well h e r =
    or_case (stands_volatile e.value h && has is_commit h && not (has is_decision h)) (ends_with (is_prepare_got e.value) h)
    (λ t. or_left (has (is_volatile_made e.value) h) (has (is_got_on (Enl e) Down PREPARE) h)
    (made_volatile e.value h (first_of_three (stands_volatile e.value h) (has is_commit h) (not (has is_decision h)) t)))
    (λ t. or_right (has (is_volatile_made e.value) h) (has (is_got_on (Enl e) Down PREPARE) h)
    (has_more (is_prepare_got e.value) (is_got_on (Enl e) Down PREPARE) (prepare_on e) h (ends_has (is_prepare_got e.value) h t)))
    (and_right (not (has (is_asked e.value) h)) (ask_row h e.value) r)

-- who is told hears the decision, or such a message, or an abort
some_decided : (x : Outcome) (o : Option Outcome) → is_decided x o ≡ true → is_some o ≡ true
some_decided x (Some y) k = refl
some_decided Committed None k = absurd cc
some_decided Aborted None k = absurd cc
some_decided InDoubt None k = absurd cc

heard_well : (h : List Entry) (e : EnlNo) (x : Outcome) → Keeps h → hears_here h (Member e) x ≡ true → (has is_decision h || has is_record h || same_outcome x Aborted) ≡ true
heard_well h e Committed k t = or_left (has is_decision h || has is_record h) false (or_right (has is_decision h) (has is_record h) (heard_record (Member e) h k t))
heard_well h e Aborted k t = or_right (has is_decision h || has is_record h) true refl
heard_well h e InDoubt k t = absurd (not_both (ends_with (brings e.value InDoubt) h) t (doubt_ends e.value h))

told_well : (h : List Entry) (e : EnlNo) (x : Outcome) → Keeps h → rule h (Told (Member e) x) ≡ true → (has is_decision h || has is_record h || same_outcome x Aborted) ≡ true
told_well h e x k r =
    or_case (hears_here h (Member e) x) (hears_decision h (Member e) x) (heard_well h e x k)
    (λ t. or_left (has is_decision h || has is_record h) (same_outcome x Aborted)
    (or_left (has is_decision h) (has is_record h)
    (sym (decision_seen h)
    ∙ some_decided x (latest decision_of h) (first_of_three (is_decided x (latest decision_of h)) (is_certain x || hears_doubt h (Member e)) (not (ends_again h (Member e))) t)))) r

one_well : (x : Entry) (h : List Entry) → Keeps h → rule h x ≡ true → is_asked_promotable h x ≡ true → is_asked_well h x ≡ true
one_well (Asked e Prepare) h k r a = prepare_well h e r
one_well (Asked e Promote) h k r a = a
one_well (Asked e Single) h k r a = a
one_well (Told (Member e) x) h k r a = told_well h e x k r
one_well _ h k r a = refl

-- so it is in a history that keeps the table, where who is asked to promote or for a single phase was made promotable
pub kept_well : (h : List Entry) → Keeps h → always is_asked_promotable h ≡ true → always is_asked_well h ≡ true
kept_well [] k a = refl
kept_well (x ∷ h) k a =
    let past = keeps_before x h k in
    and_both (is_asked_well h x) (always is_asked_well h) (one_well x h past (newest x h k) (and_left (is_asked_promotable h x) (always is_asked_promotable h) a))
    (kept_well h past (and_right (is_asked_promotable h x) (always is_asked_promotable h) a))
