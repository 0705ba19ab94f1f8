-- In a history that keeps the joint table each connection is opened once, but that of a reenlistment after a cut or a stop, and what else crosses does where it was opened, in a line that it has.
use Rattle.std.proofs.Common.{◌≡◌, Bool, true, false, ◌&&◌, ◌||◌, List, [], ◌∷◌, refl, ap, sym, subst}
use Rattle.std.specs.Prelude.{not, if◌then◌else◌}
use Rattle.std.proofs.lemmas.Bool.{or_left}
use Rattle.dtx_values.specs.declared.entry.Entry.{Entry}
use Rattle.dtx_values.specs.declared.entry.Entry.TheVariants.{Got, Sent}
use Rattle.dtx_values.specs.declared.message.Conn.{Conn}
use Rattle.dtx_values.specs.declared.message.Conn.TheVariants.{Begin, Voter, Enl, Again}
use Rattle.dtx_values.specs.declared.message.Dir.{Dir}
use Rattle.dtx_values.specs.declared.message.Dir.TheVariants.{Up, Down}
use Rattle.dtx_values.specs.declared.message.Message.{Message}
use Rattle.dtx_values.specs.declared.message.Message.TheVariants.{BeginBegin, VoterVoter, EnlistEnlist, ReenlistReenlist}
use Rattle.dtx_values.specs.Ends.{same_connection, same_direction}
use Rattle.dtx_values.specs.Lines.{has_line, is_opening}
use Rattle.dtx_model.specs.Words.{always, has}
use Rattle.history_table.proofs.Crossed.{is_severing, is_sent_on, got_sent}
use Rattle.dtx_model.specs.Promotes.{is_begun_got, is_promoting}
use Rattle.dtx_model.specs.Wires.{opens}
use Rattle.dtx_model.proofs.Bools.{and_left, and_right, or_case}
use Rattle.history_table.proofs.Tests.{first_of_four, second_of_three, third_of_four}
use Rattle.dtx_model.proofs.Connections.{same_is, same_self, same_way_is}
use Rattle.settled_histories.proofs.Wired.{is_opened_once, is_plain}
use Rattle.history_table.proofs.Table.{is_left_alone, is_of_conn, is_opening_got, is_there, is_volatile_conn, message_row, rule, ruled}
use Rattle.history_table.proofs.Keeping.{Keeps, keeps_before, newest}
use Rattle.history_table.proofs.Standing.{opened_if_got}
use Rattle.settled_histories.proofs.BeforeRows.{by_keeping, row_of}

-- what opens a connection opens it for the first time, or is of a reenlistment and comes after a cut or a stop
opening_new : (c : Conn) (m : Message) (h : List Entry) → message_row h c m ≡ true → is_opening c m ≡ true → (not (has (opens c) h) || (not (is_plain c) && has is_severing h)) ≡ true
opening_new Begin BeginBegin h k t = or_left (not (has (opens Begin) h)) false k
opening_new Voter (VoterVoter u) h k t = or_left (not (has (opens Voter) h)) false (and_right (has is_begun_got h) (not (has (opens Voter) h)) k)
opening_new (Enl e) (EnlistEnlist i) h k t =
    or_left (not (has (opens (Enl e)) h)) false (third_of_four (is_of_conn (Enl e) i) (has is_begun_got h) (not (has (opens (Enl e)) h)) (not (is_volatile_conn (Enl e) h)) k)
opening_new (Again e) (ReenlistReenlist i) h k t = second_of_three (is_of_conn (Again e) i) (not (has (opens (Again e)) h) || has is_severing h) (is_left_alone (Again e) h) k
opening_new _ _ h k t = absurd cc

-- what was sent has a line
has_lines : (c : Conn) (d : Dir) (h : List Entry) → ruled h ≡ true → has (is_sent_on c d (λ n. not (has_line c d n))) h ≡ true → ⊥
has_lines c d [] r k = absurd cc
has_lines c d (Sent e v n ∷ h) r k =
    or_case (same_connection c e && same_direction d v && not (has_line c d n)) (has (is_sent_on c d (λ n. not (has_line c d n))) h)
    (λ q. let both = and_left (same_connection c e && same_direction d v) (not (has_line c d n)) q in
    let P : Conn → Type 0 = λ x. has_line x v n ≡ true in
    let Q : Dir → Type 0 = λ x. has_line c x n ≡ true in
    let line : has_line e v n ≡ true = first_of_four (has_line e v n) (has is_promoting h) (is_there h e v n) (message_row h e n) (and_left (rule h (Sent e v n)) (ruled h) r) in
    let here : has_line c v n ≡ true = subst P (sym (same_is c e (and_left (same_connection c e) (same_direction d v) both))) line in
    not_true_both (has_line c d n) (subst Q (sym (same_way_is d v (and_right (same_connection c e) (same_direction d v) both))) here) (and_right (same_connection c e && same_direction d v) (not (has_line c d n)) q))
    (λ q. has_lines c d h (and_right (rule h (Sent e v n)) (ruled h) r) q) k
  where
    not_true_both : (b : Bool) → b ≡ true → not b ≡ true → ⊥
    not_true_both true p q = absurd cc
    not_true_both false p q = absurd cc
has_lines c d (x ∷ h) r k = has_lines c d h (and_right (rule h x) (ruled h) r) k

chosen : (a b o l : Bool) → a ≡ true → (b ≡ true → (not o || l) ≡ true) → (b || o) ≡ true → (if a && b then not o || l else o) ≡ true
chosen true true o l p f k = f refl
chosen true false o l p f k = k
chosen false b o l p f k = absurd cc

pub kept_opened : (h : List Entry) → Keeps h → always is_opened_once h ≡ true
kept_opened = by_keeping is_opened_once at
  where
    line : (b : Bool) → (b ≡ false → ⊥) → b ≡ true
    line true f = refl
    line false f = absurd (f refl)

    at : (x : Entry) (h : List Entry) → Keeps (x ∷ h) → is_opened_once h x ≡ true
    at (Sent c Up m) h k =
        let r = newest (Sent c Up m) h k in
        chosen (same_connection c c) (is_opening c m) (has (opens c) h) (not (is_plain c) && has is_severing h) (same_self c) (opening_new c m h (row_of c Up m h r))
        (third_of_four (has_line c Up m) (has is_promoting h) (is_there h c Up m) (message_row h c m) r)
    at (Sent c Down m) h k =
        opened_if_got c h (keeps_before (Sent c Down m) h k)
        (third_of_four (has_line c Down m) (has is_promoting h) (has (is_opening_got c) h) (message_row h c m) (newest (Sent c Down m) h k))
    at (Got c d m) h k =
        line (has_line c d m)
        (λ q. has_lines c d h (keeps_before (Got c d m) h k).rules (got_sent c d m (λ n. not (has_line c d n)) h k.wires.0 (ap not q)))
    at x h k = refl
