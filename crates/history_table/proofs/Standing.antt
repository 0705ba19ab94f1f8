-- What else the table shows, of which completeness makes use: a connection is opened before anything else is sent on it, and after BEGUN; an enlistment that came to the
-- coordinator is no volatile; and a durable or promotable votes after PREPARE.
use Rattle.std.proofs.Common.{◌≡◌, true, ◌&&◌, refl, sym, subst, false, List, Bool, ◌==◌, ◌∷◌, [], ◌||◌, ℕ}
use Rattle.std.specs.Prelude.{not}
use Rattle.std.proofs.lemmas.Bool.{eqb-true, or_left}
use Rattle.dtx_values.specs.declared.entry.Ask.TheVariants.{Prepare}
use Rattle.dtx_values.specs.declared.entry.Entry.{Entry}
use Rattle.dtx_values.specs.declared.entry.Entry.TheVariants.{Got, Sent, Enlisted, Asked}
use Rattle.dtx_values.specs.declared.message.Conn.{Conn}
use Rattle.dtx_values.specs.declared.message.Conn.TheVariants.{Voter, Enl}
use Rattle.dtx_values.specs.declared.message.Dir.TheVariants.{Up, Down}
use Rattle.dtx_values.specs.declared.message.Message.{Message}
use Rattle.dtx_values.specs.declared.message.Message.TheVariants.{VoterVoter, EnlistEnlist}
use Rattle.dtx_values.specs.declared.number.EnlNo.{EnlNo}
use Rattle.dtx_values.specs.Class.{is_volatile}
use Rattle.dtx_values.specs.Ends.{same_connection}
use Rattle.dtx_values.specs.Lines.{is_opening, has_line}
use Rattle.dtx_model.specs.Words.{has}
use Rattle.dtx_model.specs.Entries.{is_decision, is_sealed, is_commit, is_asked}
use Rattle.dtx_model.specs.Promotes.{is_begun_got, is_promoting}
use Rattle.dtx_model.specs.Wires.{opens}
use Rattle.dtx_values.proofs.SameNumbers.{same_enlistment}
use Rattle.dtx_model.proofs.Bools.{and_both, and_left, and_right, and_never, not_both, not_true, or_case, or_false, or_right}
use Rattle.dtx_model.proofs.Connections.{same_is}
use Rattle.history_table.proofs.Table.{is_opening_got, message_row, is_of_conn, is_volatile_conn, is_there, rule, stands_volatile, class_row, ends_with, ask_row, is_prepare_got}
use Rattle.history_table.proofs.Crossed.{is_got_on, is_sent_on, was_sent}
use Rattle.history_table.proofs.Scans.{has_more}
use Rattle.history_table.proofs.Keeping.{Keeps, before, fifth_of_five, keeps_before, newest, earlier}
use Rattle.history_table.proofs.Tests.{second_of_four, fourth_of_four, first_of_three}
use Rattle.history_table.proofs.EntryTests.{is_enlisted}
use Rattle.history_table.proofs.Evident.{volatile_more}
pub use Rattle.history_table.proofs.Sendings.{ends_has}

-- Where the message that opens a connection was got, the connection was opened.
opening_got_on : (c : Conn) (x : Entry) → is_opening_got c x ≡ true → is_got_on c Up (is_opening c) x ≡ true
opening_got_on c (Got e Up m) t =
    let same = and_left (same_connection c e) (is_opening e m) t in
    let P : Conn → Type 0 = λ y. is_opening y m ≡ true in
    let opening : is_opening c m ≡ true = subst P (sym (same_is c e same)) (and_right (same_connection c e) (is_opening e m) t) in
    and_both (same_connection c e && true) (is_opening c m) (and_both (same_connection c e) true same refl) opening
opening_got_on c _ t = absurd cc

pub opening_sent_on : (c : Conn) (x : Entry) → is_sent_on c Up (is_opening c) x ≡ true → opens c x ≡ true
opening_sent_on c (Sent e Up m) t =
    let same = and_left (same_connection c e) true (and_left (same_connection c e && true) (is_opening c m) t) in
    let P : Conn → Type 0 = λ y. is_opening y m ≡ true in
    and_both (same_connection c e) (is_opening e m) same (subst P (same_is c e same) (and_right (same_connection c e && true) (is_opening c m) t))
opening_sent_on c (Sent e Down m) t = absurd (not_both (same_connection c e && false) (and_left (same_connection c e && false) (is_opening c m) t) (and_never (same_connection c e)))
opening_sent_on c _ t = absurd cc

pub opened_if_got : (c : Conn) (h : List Entry) → Keeps h → has (is_opening_got c) h ≡ true → has (opens c) h ≡ true
opened_if_got c h k s =
    has_more (is_sent_on c Up (is_opening c)) (opens c) (opening_sent_on c) h
    (was_sent c Up (is_opening c) h k.wires (has_more (is_opening_got c) (is_got_on c Up (is_opening c)) (opening_got_on c) h s))

-- v and the enlistments' connections are opened after BEGUN
voter_begun : (m : Message) (h : List Entry) → is_opening Voter m ≡ true → message_row h Voter m ≡ true → has is_begun_got h ≡ true
voter_begun (VoterVoter u) h t r = and_left (has is_begun_got h) (not (has (opens Voter) h)) r
voter_begun _ h t r = absurd cc

enlist_begun : (e : EnlNo) (m : Message) (h : List Entry) → is_opening (Enl e) m ≡ true → message_row h (Enl e) m ≡ true → has is_begun_got h ≡ true
enlist_begun e (EnlistEnlist i) h t r =
    second_of_four (is_of_conn (Enl e) i) (has is_begun_got h) (not (has (opens (Enl e)) h)) (not (is_volatile_conn (Enl e) h)) r
enlist_begun e _ h t r = absurd cc

opens_row : (c : Conn) (Q : List Entry → Bool) → ((m : Message) (h : List Entry) → is_opening c m ≡ true → message_row h c m ≡ true → Q h ≡ true)
    → (x : Entry) (h : List Entry) → Keeps h → rule h x ≡ true → opens c x ≡ true → Q h ≡ true
opens_row c Q f (Sent e Up m) h k r t =
    let same : c ≡ e = same_is c e (and_left (same_connection c e) (is_opening e m) t) in
    let P : Conn → Type 0 = λ y. is_opening y m ≡ true in
    let R : Conn → Type 0 = λ y. message_row h y m ≡ true in
    f m h (subst P (sym same) (and_right (same_connection c e) (is_opening e m) t))
    (subst R (sym same) (fourth_of_four (has_line e Up m) (has is_promoting h) (is_there h e Up m) (message_row h e m) r))
opens_row c Q f _ h k r t = absurd cc

pub begun_if_voter : (h : List Entry) → Keeps h → has (opens Voter) h ≡ true → has is_begun_got h ≡ true
begun_if_voter h k s = before (opens Voter) is_begun_got (opens_row Voter (λ g. has is_begun_got g) voter_begun) h k s

pub begun_if_enlist : (e : EnlNo) (h : List Entry) → Keeps h → has (opens (Enl e)) h ≡ true → has is_begun_got h ≡ true
begun_if_enlist e h k s = before (opens (Enl e)) is_begun_got (opens_row (Enl e) (λ g. has is_begun_got g) (enlist_begun e)) h k s

-- Whose connection was opened is no volatile.
enlist_unvolatile : (e : EnlNo) (m : Message) (h : List Entry) → is_opening (Enl e) m ≡ true → message_row h (Enl e) m ≡ true → not (stands_volatile e.value h) ≡ true
enlist_unvolatile e (EnlistEnlist i) h t r =
    fourth_of_four (is_of_conn (Enl e) i) (has is_begun_got h) (not (has (opens (Enl e)) h)) (not (is_volatile_conn (Enl e) h)) r
enlist_unvolatile e _ h t r = absurd cc

newcomer_apart : (e f : EnlNo) (v : Bool) (h : List Entry) → (v && has (opens (Enl f)) h) ≡ false → has (opens (Enl e)) h ≡ true → (a : Bool) → (e.value == f.value) ≡ a → (a && v) ≡ false
newcomer_apart e f v h n s false q = refl
newcomer_apart e f false h n s true q = refl
newcomer_apart e f true h n s true q =
    let same : e ≡ f = same_enlistment e f (eqb-true e.value f.value q) in
    let P : EnlNo → Type 0 = λ g. has (opens (Enl g)) h ≡ true in
    absurd (not_both (has (opens (Enl f)) h) (subst P same s) n)

opened_apart : (e : EnlNo) (x : Entry) (h : List Entry) → Keeps (x ∷ h) → (has (opens (Enl e)) h ≡ true → stands_volatile e.value h ≡ false) → has (opens (Enl e)) (x ∷ h) ≡ true
    → stands_volatile e.value (x ∷ h) ≡ false
opened_apart e (Enlisted f c) h k ih s =
    let row = fifth_of_five (not (has is_decision h)) (not (has is_sealed h)) (not (has (is_enlisted f.value) h)) (class_row h f.value c) (not (is_volatile c && has (opens (Enl f)) h)) (newest (Enlisted f c) h k) in
    or_false ((e.value == f.value) && is_volatile c) (stands_volatile e.value h)
    (newcomer_apart e f (is_volatile c) h (not_true (is_volatile c && has (opens (Enl f)) h) row) s (e.value == f.value) refl) (ih s)
opened_apart e x h k ih s =
    or_case (opens (Enl e) x) (has (opens (Enl e)) h)
    (λ o. not_true (stands_volatile e.value h) (opens_row (Enl e) (λ g. not (stands_volatile e.value g)) (enlist_unvolatile e) x h (keeps_before x h k) (newest x h k) o)) ih s

pub unvolatile_if_opened : (e : EnlNo) (h : List Entry) → Keeps h → has (opens (Enl e)) h ≡ true → stands_volatile e.value h ≡ false
unvolatile_if_opened e [] k s = absurd cc
unvolatile_if_opened e (x ∷ h) k s = opened_apart e x h k (unvolatile_if_opened e h (keeps_before x h k)) s

-- Who was asked to prepare is volatile, or got PREPARE.
prepare_row : (f : EnlNo) (h : List Entry) → ask_row h f.value ≡ true → (stands_volatile f.value h || has (is_prepare_got f.value) h) ≡ true
prepare_row f h r =
    or_case (stands_volatile f.value h && has is_commit h && not (has is_decision h)) (ends_with (is_prepare_got f.value) h)
    (λ t. or_left (stands_volatile f.value h) (has (is_prepare_got f.value) h) (first_of_three (stands_volatile f.value h) (has is_commit h) (not (has is_decision h)) t))
    (λ t. or_right (stands_volatile f.value h) (has (is_prepare_got f.value) h) (ends_has (is_prepare_got f.value) h t)) r

prepare_now : (n : ℕ) (x : Entry) (h : List Entry) → Keeps h → rule h x ≡ true → is_asked n x ≡ true → (stands_volatile n h || has (is_prepare_got n) h) ≡ true
prepare_now n (Asked f Prepare) h k r t =
    let same : n ≡ f.value = eqb-true n f.value t in
    subst (λ m. (stands_volatile m h || has (is_prepare_got m) h) ≡ true) (sym same) (prepare_row f h (and_right (not (has (is_asked f.value) h)) (ask_row h f.value) r))
prepare_now n _ h k r t = absurd cc

pub prepared_if_asked : (n : ℕ) (h : List Entry) → Keeps h → has (is_asked n) h ≡ true → (stands_volatile n h || has (is_prepare_got n) h) ≡ true
prepared_if_asked n h k s =
    earlier (is_asked n) (λ g. stands_volatile n g || has (is_prepare_got n) g)
    (λ x g t. or_case (stands_volatile n g) (has (is_prepare_got n) g) (λ v. or_left (stands_volatile n (x ∷ g)) (has (is_prepare_got n) (x ∷ g)) (volatile_more n x g v))
    (λ p. or_right (stands_volatile n (x ∷ g)) (has (is_prepare_got n) (x ∷ g)) (or_right (is_prepare_got n x) (has (is_prepare_got n) g) p)) t) (prepare_now n) h k s
