-- A vote comes to the coordinator only after COMMIT for two phases: it is one after PREPARE.
use Rattle.std.proofs.Common.{◌≡◌, ap, ℕ, ◌==◌, true, false, ◌&&◌, List, ◌∷◌, refl, sym, subst, ◌∙◌}
use Rattle.std.specs.Prelude.{not, is_some}
use Rattle.std.proofs.lemmas.Bool.{eqb-true, false_from_ne_true}
use Rattle.dtx_values.specs.declared.entry.Entry.{Entry}
use Rattle.dtx_values.specs.declared.entry.Entry.TheVariants.{Got, Sent, Voted}
use Rattle.dtx_values.specs.declared.message.Conn.{Conn}
use Rattle.dtx_values.specs.declared.message.Conn.TheVariants.{Enl}
use Rattle.dtx_values.specs.declared.message.Dir.{Dir}
use Rattle.dtx_values.specs.declared.message.Dir.TheVariants.{Up, Down}
use Rattle.dtx_values.specs.declared.message.Message.{Message}
use Rattle.dtx_values.specs.declared.message.Message.TheVariants.{EnlistNo, EnlistPrepare, EnlistPrepared, EnlistReadonly}
use Rattle.dtx_values.specs.declared.number.EnlNo.{EnlNo}
use Rattle.dtx_values.specs.declared.words.Vote.{Vote}
use Rattle.dtx_values.specs.declared.words.Vote.TheVariants.{Yes, No, Done}
use Rattle.dtx_values.specs.Ends.{same_connection, same_direction}
use Rattle.dtx_values.specs.Lines.{has_line, is_opening}
use Rattle.dtx_model.specs.Words.{has}
use Rattle.dtx_model.specs.Entries.{is_asked, is_decision, is_lost, is_two_phase_got, is_vote, is_vote_got}
use Rattle.dtx_model.specs.Promotes.{is_promoting}
use Rattle.dtx_model.specs.Wires.{opens}
use Rattle.dtx_model.specs.Caused.{same_vote}
use Rattle.dtx_model.specs.Coordinated.{ballot_of}
use Rattle.dtx_model.proofs.Bools.{and_left, and_right, not_both, or_case, or_right}
use Rattle.history_table.proofs.Tests.{second_of_five, third_of_four, fourth_of_four}
use Rattle.history_table.proofs.EntryTests.{is_enlisted}
use Rattle.history_table.proofs.Messages.{PREPARE}
use Rattle.history_table.proofs.Table.{is_cast, is_one_phase_got, is_prepare_got, is_there, message_row, rule, stands_volatile}
use Rattle.history_table.proofs.Keeping.{Keeps, arrived, before, keeps_before}
use Rattle.history_table.proofs.Crossed.{got_sent, is_sent_on}
use Rattle.history_table.proofs.Sendings.{by_got}
use Rattle.history_table.proofs.LetDecide.{one_apart}
use Rattle.history_table.proofs.Standing.{prepared_if_asked, unvolatile_if_opened}

-- COMMIT for two phases was got where an enlistment got PREPARE
prepare_of : (e : EnlNo) (m : Message) (h : List Entry) → Keeps h → PREPARE m ≡ true → has_line (Enl e) Down m ≡ true → message_row h (Enl e) m ≡ true → has is_two_phase_got h ≡ true
prepare_of e EnlistPrepare h k t l r = r
prepare_of e _ h k t l r = absurd cc

prepare_new : (n : ℕ) (x : Entry) (h : List Entry) → Keeps (x ∷ h) → is_prepare_got n x ≡ true → has is_two_phase_got h ≡ true
prepare_new n (Got (Enl e) Down EnlistPrepare) h k t =
    by_got (Enl e) Down PREPARE (λ g. has is_two_phase_got g) (λ x g q. or_right (is_two_phase_got x) (has is_two_phase_got g) q) (prepare_of e) EnlistPrepare h k refl
prepare_new n _ h k t = absurd cc

pub two_if_prepared : (n : ℕ) (h : List Entry) → Keeps h → has (is_prepare_got n) h ≡ true → has is_two_phase_got h ≡ true
two_if_prepared n h k t = arrived (is_prepare_got n) (λ g. has is_two_phase_got g) (λ x g q. or_right (is_two_phase_got x) (has is_two_phase_got g) q) (prepare_new n) h k t

-- Who voted, and whose connection was opened, was asked by PREPARE.
cast_two : (e : EnlNo) (v : Vote) (h : List Entry) → Keeps h → has (opens (Enl e)) h ≡ true → has (is_cast (Enl e) v) h ≡ true → has is_two_phase_got h ≡ true
cast_two e v h k o t =
    let asked = before (is_cast (Enl e) v) (is_asked e.value) cast_asked h k t in
    or_case (stands_volatile e.value h) (has (is_prepare_got e.value) h) (λ q. absurd (not_both (stands_volatile e.value h) q (unvolatile_if_opened e h k o))) (two_if_prepared e.value h k)
    (prepared_if_asked e.value h k asked)
  where
    cast_asked : (x : Entry) (h : List Entry) → Keeps h → rule h x ≡ true → is_cast (Enl e) v x ≡ true → has (is_asked e.value) h ≡ true
    cast_asked (Voted f w) h k r t =
        subst (λ n. has (is_asked n) h ≡ true) (sym (eqb-true e.value f.value (and_left (e.value == f.value) (same_vote v w) t)))
        (second_of_five (has (is_enlisted f.value) h) (has (is_asked f.value) h) (not (has (is_vote f.value) h)) (not (has (is_lost f.value) h)) (not (stands_volatile f.value h && has is_decision h)) r)
    cast_asked _ h k r t = absurd cc

-- so it is of each vote that is sent or got
vote_of : (e : EnlNo) (m : Message) → is_some (ballot_of m) ≡ true → (h : List Entry) → Keeps h → has (opens (Enl e)) h ≡ true → message_row h (Enl e) m ≡ true → has is_two_phase_got h ≡ true
vote_of e EnlistPrepared t h k o r = cast_two e Yes h k o r
vote_of e EnlistNo t h k o r = cast_two e No h k o r
vote_of e EnlistReadonly t h k o r = cast_two e Done h k o r
vote_of e _ t h k o r = absurd cc

vote_sent : (e : EnlNo) (x : Entry) (h : List Entry) → Keeps h → rule h x ≡ true → is_sent_on (Enl e) Up (λ m. is_some (ballot_of m)) x ≡ true → has is_two_phase_got h ≡ true
vote_sent e (Sent c d m) h k r t =
    let both = and_left (same_connection (Enl e) c && same_direction Up d) (is_some (ballot_of m)) t in
    by c d m (and_left (same_connection (Enl e) c) (same_direction Up d) both) (and_right (same_connection (Enl e) c) (same_direction Up d) both)
    (and_right (same_connection (Enl e) c && same_direction Up d) (is_some (ballot_of m)) t) r
  where
    unopening : (f : EnlNo) (m : Message) → is_some (ballot_of m) ≡ true → is_opening (Enl f) m ≡ false
    unopening f EnlistPrepared t = refl
    unopening f EnlistNo t = refl
    unopening f EnlistReadonly t = refl
    unopening f _ t = absurd cc

    by : (c : Conn) (d : Dir) (m : Message) → same_connection (Enl e) c ≡ true → same_direction Up d ≡ true → is_some (ballot_of m) ≡ true → rule h (Sent c d m) ≡ true → has is_two_phase_got h ≡ true
    by (Enl f) Up m s w t r =
        vote_of f m t h k
        (or_case (is_opening (Enl f) m) (has (opens (Enl f)) h) (λ o. absurd (not_both (is_opening (Enl f) m) o (unopening f m t))) (λ o. o)
        (third_of_four (has_line (Enl f) Up m) (has is_promoting h) (is_there h (Enl f) Up m) (message_row h (Enl f) m) r))
        (fourth_of_four (has_line (Enl f) Up m) (has is_promoting h) (is_there h (Enl f) Up m) (message_row h (Enl f) m) r)
    by _ _ _ s w t r = absurd cc
vote_sent e _ h k r t = absurd cc

pub vote_is : (e : ℕ) (x : Entry) → is_vote_got e x ≡ true → (f : EnlNo) × (m : Message) × (x ≡ Got (Enl f) Up m) × ((e == f.value) ≡ true) × (is_opening (Enl f) m ≡ false)
vote_is e (Got (Enl f) Up EnlistPrepared) t = (f, EnlistPrepared, refl, t, refl)
vote_is e (Got (Enl f) Up EnlistNo) t = (f, EnlistNo, refl, t, refl)
vote_is e (Got (Enl f) Up EnlistReadonly) t = (f, EnlistReadonly, refl, t, refl)
vote_is e _ t = absurd cc

pub vote_two : (e : ℕ) (x : Entry) (h : List Entry) → Keeps (x ∷ h) → is_vote_got e x ≡ true → has is_two_phase_got h ≡ true
vote_two e x h k a =
    let w = vote_is e x a in
    let P : Entry → Type 0 = λ y. Keeps (y ∷ h) in
    let now = subst P w.2 k in
    before (is_sent_on (Enl w.0) Up (λ m. is_some (ballot_of m))) is_two_phase_got (vote_sent w.0) h (keeps_before x h k)
    (got_sent (Enl w.0) Up w.1 (λ m. is_some (ballot_of m)) h now.wires.0 (vote_ballot e w.0 w.1 (ap (is_vote_got e) (sym w.2) ∙ a)))
  where
    vote_ballot : (e : ℕ) (f : EnlNo) (m : Message) → is_vote_got e (Got (Enl f) Up m) ≡ true → is_some (ballot_of m) ≡ true
    vote_ballot e f EnlistPrepared t = refl
    vote_ballot e f EnlistNo t = refl
    vote_ballot e f EnlistReadonly t = refl
    vote_ballot e f _ t = absurd cc

pub vote_joint : (e : ℕ) (x : Entry) (h : List Entry) → Keeps (x ∷ h) → is_vote_got e x ≡ true → has is_one_phase_got h ≡ false
vote_joint e x h k a = false_from_ne_true (has is_one_phase_got h) (λ t. not_both (has is_two_phase_got h) (vote_two e x h k a) (one_apart h (keeps_before x h k) t))
