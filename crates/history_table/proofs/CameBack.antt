-- Who came back: an enlistment comes back only after the end of its own connection, and unless it was handed the commit; so it never is handed it.
use Rattle.std.proofs.Common.{◌≡◌, true, List, ◌==◌, [], ◌∷◌, ◌&&◌, ◌||◌, false, Bool, refl, ℕ, sym, subst}
use Rattle.std.specs.Prelude.{not, if◌then◌else◌}
use Rattle.std.proofs.lemmas.Bool.{false_from_ne_true, eqb-true}
use Rattle.dtx_values.specs.declared.entry.Entry.{Entry}
use Rattle.dtx_values.specs.declared.entry.Entry.TheVariants.{Down as End, Got, Handed, Sent}
use Rattle.dtx_values.specs.declared.message.Conn.{Conn}
use Rattle.dtx_values.specs.declared.message.Conn.TheVariants.{Again, Enl}
use Rattle.dtx_values.specs.declared.message.Dir.{Dir}
use Rattle.dtx_values.specs.declared.message.Dir.TheVariants.{Down, Up}
use Rattle.dtx_values.specs.declared.message.Message.{Message}
use Rattle.dtx_values.specs.declared.message.Message.TheVariants.{EnlistEnlist, EnlistEnlisted, EnlistSingle, ReenlistReenlist}
use Rattle.dtx_values.specs.declared.number.EnlNo.{EnlNo}
use Rattle.dtx_values.specs.Ends.{same_connection, same_direction}
use Rattle.dtx_values.specs.Lines.{has_line, is_opening}
use Rattle.dtx_model.specs.Words.{has}
use Rattle.dtx_model.specs.Entries.{is_any_hand, is_decision, is_hand, is_sealed}
use Rattle.dtx_model.specs.Outcome.{durables, ready}
use Rattle.dtx_model.specs.Promotes.{is_begun_got, is_enlisted_got, is_promoting}
use Rattle.dtx_model.specs.Wires.{ends, is_ended, opens}
use Rattle.dtx_model.proofs.Bools.{and_left, and_right, not_both, not_false, not_true, or_case, or_false, or_right, three_hold}
use Rattle.dtx_model.proofs.Connections.{same_is, same_way_is}
use Rattle.history_table.proofs.Tests.{eq_self, first_of_five, first_of_three, second_of_three, third_of_four, fourth_of_four}
use Rattle.history_table.proofs.EntryTests.{is_only}
use Rattle.history_table.proofs.Table.{ends_with, is_abort_decided, is_enlist_got, is_left_alone, is_of_conn, is_opening_got, is_single_got, is_there, is_volatile_conn, may_hand, message_row, rule}
use Rattle.history_table.proofs.Keeping.{Keeps, arrived, earlier_keeping, keeps_before, newest, third_of_three}
use Rattle.history_table.proofs.Scans.{has_more}
use Rattle.history_table.proofs.Crossed.{IsStill, end_opened, end_still, got_sent, is_got_on, is_severing, still_more, still_silent}
use Rattle.history_table.proofs.Sendings.{got_line, got_promoting}
use Rattle.history_table.proofs.Leading.{opening_was_sent}
use Rattle.history_table.proofs.CoreKnown.{enlist_of, got_there, sent_opened_there}

-- An enlistment's own connection is opened once.
enlist_row : (e : EnlNo) (m : Message) (h : List Entry) → is_opening (Enl e) m ≡ true → message_row h (Enl e) m ≡ true → has (opens (Enl e)) h ≡ false
enlist_row e (EnlistEnlist i) h t r =
    not_true (has (opens (Enl e)) h) (third_of_four (is_of_conn (Enl e) i) (has is_begun_got h) (not (has (opens (Enl e)) h)) (not (is_volatile_conn (Enl e) h)) r)
enlist_row e _ h t r = absurd cc

pub enlist_once : (e : EnlNo) (x : Entry) (h : List Entry) → rule h x ≡ true → opens (Enl e) x ≡ true → has (opens (Enl e)) h ≡ false
enlist_once e (Sent c Up m) h r t =
    let same : Enl e ≡ c = same_is (Enl e) c (and_left (same_connection (Enl e) c) (is_opening c m) t) in
    let P : Conn → Type 0 = λ d. is_opening d m ≡ true in
    let R : Conn → Type 0 = λ d. message_row h d m ≡ true in
    enlist_row e m h (subst P (sym same) (and_right (same_connection (Enl e) c) (is_opening c m) t))
    (subst R (sym same) (fourth_of_four (has_line c Up m) (has is_promoting h) (is_there h c Up m) (message_row h c m) r))
enlist_once e _ h r t = absurd cc

-- Once its end was seen there, it was opened, and nothing comes on it any more.
pub record IsOver (e : EnlNo) (h : List Entry) : Type 0 where
  pub opened : has (opens (Enl e)) h ≡ true
  pub still : IsStill (Enl e) Down h

end_is : (e : EnlNo) (x : Entry) (h : List Entry) → Keeps (x ∷ h) → ends (Enl e) Down x ≡ true → x ≡ End (Enl e) Down
end_is e (End c d) h k t =
    let same : Enl e ≡ c = same_is (Enl e) c (and_left (same_connection (Enl e) c) (same_direction Down d) t) in
    let way : Down ≡ d = same_way_is Down d (and_right (same_connection (Enl e) c) (same_direction Down d) t) in
    let P : Conn → Type 0 = λ y. End y d ≡ End (Enl e) Down in
    let Q : Dir → Type 0 = λ y. End (Enl e) y ≡ End (Enl e) Down in
    subst P same (subst Q way refl)
end_is e (Got c d m) h k t =
    absurd (not_both (has_line c d m) (got_line c d m h k) (not_true (has_line c d m) (and_right (same_connection (Enl e) c && same_direction Down d) (not (has_line c d m)) t)))
end_is e _ h k t = absurd cc

pub over_if_ended : (e : EnlNo) (h : List Entry) → Keeps h → is_ended (Enl e) Down h ≡ true → IsOver e h
over_if_ended e [] k t = absurd cc
over_if_ended e (x ∷ h) k t = step (over_if_ended e h (keeps_before x h k)) (opens (Enl e) x) refl t
  where
    step : (is_ended (Enl e) Down h ≡ true → IsOver e h) → (b : Bool) → opens (Enl e) x ≡ b → (if b then false else (ends (Enl e) Down x || is_ended (Enl e) Down h)) ≡ true → IsOver e (x ∷ h)
    step ih true o t = absurd cc
    step ih false o t =
        or_case (ends (Enl e) Down x) (is_ended (Enl e) Down h)
        (λ q. let P : Entry → Type 0 = λ y. Keeps (y ∷ h) in
        let Q : Entry → Type 0 = λ y. IsOver e (y ∷ h) in
        let same = end_is e x h k q in
        let now = subst P same k in
        subst Q (sym same) (record { opened = or_right (opens (Enl e) (End (Enl e) Down)) (has (opens (Enl e)) h) (end_opened (Enl e) Down h now.wires.0); still = end_still (Enl e) Down h now.wires.0 }))
        (λ q. let w = ih q in
        record {
          opened = or_right (opens (Enl e) x) (has (opens (Enl e)) h) w.opened;
          still = still_more (Enl e) Down x h (λ m a. absurd (not_both (opens (Enl e) x) a o)) (λ a. absurd (not_both (opens (Enl e) x) a o)) w.still;
        }) t

-- and it stays so
pub ended_more : (e : EnlNo) (x : Entry) (h : List Entry) → Keeps (x ∷ h) → is_ended (Enl e) Down h ≡ true → is_ended (Enl e) Down (x ∷ h) ≡ true
ended_more e x h k t =
    let past = keeps_before x h k in
    step (opens (Enl e) x) (false_from_ne_true (opens (Enl e) x) (λ o. not_both (has (opens (Enl e)) h) (over_if_ended e h past t).opened (enlist_once e x h (newest x h k) o)))
  where
    step : (b : Bool) → b ≡ false → (if b then false else (ends (Enl e) Down x || is_ended (Enl e) Down h)) ≡ true
    step true q = absurd cc
    step false q = or_right (ends (Enl e) Down x) (is_ended (Enl e) Down h) t

-- nothing is the newest there that was got on it
ended_apart : (e : EnlNo) (h : List Entry) → Keeps h → is_ended (Enl e) Down h ≡ true → ends_with (is_single_got e.value) h ≡ true → ⊥
ended_apart e (Got (Enl f) Down EnlistSingle ∷ h) k t s =
    let same : Enl e ≡ Enl f = same_is (Enl e) (Enl f) s in
    let P : Conn → Type 0 = λ c. is_ended c Down (Got (Enl f) Down EnlistSingle ∷ h) ≡ true in
    let here : is_ended (Enl f) Down (Got (Enl f) Down EnlistSingle ∷ h) ≡ true = subst P same t in
    still_silent (Enl f) Down EnlistSingle h (over_if_ended f h (keeps_before (Got (Enl f) Down EnlistSingle) h k) (dropped (f.value == f.value) (is_ended (Enl f) Down h) here)).still k.wires.0
  where
    dropped : (a b : Bool) → ((a && true && false) || b) ≡ true → b ≡ true
    dropped true b t = t
    dropped false b t = t
ended_apart e _ k t s = absurd cc

-- who got ENLISTED is of a promotion
enlisted_promoting : (n : ℕ) (h : List Entry) → Keeps h → has (is_enlisted_got n) h ≡ true → has is_promoting h ≡ true
enlisted_promoting n h k t = arrived (is_enlisted_got n) (λ g. has is_promoting g) (λ x g q. or_right (is_promoting x) (has is_promoting g) q) new h k t
  where
    new : (x : Entry) (h : List Entry) → Keeps (x ∷ h) → is_enlisted_got n x ≡ true → has is_promoting h ≡ true
    new (Got c d m) h k t = got_promoting c d m h k
    new _ h k t = absurd cc

-- and came to the coordinator
pub came_if_enlisted : (e : EnlNo) (h : List Entry) → Keeps h → has (is_enlisted_got e.value) h ≡ true → has (is_enlist_got e.value) h ≡ true
came_if_enlisted e h k t =
    has_more (is_opening_got (Enl e)) (is_enlist_got e.value) (enlist_of e.value e (eq_self e.value)) h
    (got_there (Enl e) (λ m. true) h k (has_more (is_enlisted_got e.value) (is_got_on (Enl e) Down (λ m. true)) on h t))
  where
    on : (x : Entry) → is_enlisted_got e.value x ≡ true → is_got_on (Enl e) Down (λ m. true) x ≡ true
    on (Got (Enl f) Down EnlistEnlisted) t = three_hold (e.value == f.value) true true t refl refl
    on _ t = absurd cc

-- So it stays left alone.
hand_apart : (e : EnlNo) (x : Entry) (h : List Entry) → Keeps (x ∷ h) → is_left_alone (Again e) h ≡ true → is_hand e.value x ≡ false
hand_apart e (Handed f) h k a = false_from_ne_true (e.value == f.value) (λ t.
    let same = eqb-true e.value f.value t in
    let past = keeps_before (Handed f) h k in
    let promoting = enlisted_promoting e.value h past (first_of_three (has (is_enlisted_got e.value) h) (not (has (is_hand e.value) h)) (is_ended (Enl e) Down h) a) in
    let row = first_of_five (may_hand h f.value) (has is_sealed h) (ready h) (is_only f.value (durables h)) (not (has is_any_hand h)) (newest (Handed f) h k) in
    ended_apart e h past (third_of_three (has (is_enlisted_got e.value) h) (not (has (is_hand e.value) h)) (is_ended (Enl e) Down h) a)
    (subst (λ n. ends_with (is_single_got n) h ≡ true) (sym same) (by f (has is_promoting h) promoting row)))
  where
    by : (f : EnlNo) (b : Bool) → b ≡ true → (if b then ends_with (is_single_got f.value) h && not (is_abort_decided h) else not (has is_decision h)) ≡ true → ends_with (is_single_got f.value) h ≡ true
    by f true q r = and_left (ends_with (is_single_got f.value) h) (not (is_abort_decided h)) r
    by f false q r = absurd cc
hand_apart e _ h k a = refl

pub alone_more : (e : EnlNo) (x : Entry) (h : List Entry) → Keeps (x ∷ h) → is_left_alone (Again e) h ≡ true → is_left_alone (Again e) (x ∷ h) ≡ true
alone_more e x h k a =
    three_hold (has (is_enlisted_got e.value) (x ∷ h)) (not (has (is_hand e.value) (x ∷ h))) (is_ended (Enl e) Down (x ∷ h))
    (or_right (is_enlisted_got e.value x) (has (is_enlisted_got e.value) h) (first_of_three (has (is_enlisted_got e.value) h) (not (has (is_hand e.value) h)) (is_ended (Enl e) Down h) a))
    (not_false (has (is_hand e.value) (x ∷ h)) (or_false (is_hand e.value x) (has (is_hand e.value) h) (hand_apart e x h k a)
    (not_true (has (is_hand e.value) h) (second_of_three (has (is_enlisted_got e.value) h) (not (has (is_hand e.value) h)) (is_ended (Enl e) Down h) a))))
    (ended_more e x h k (third_of_three (has (is_enlisted_got e.value) h) (not (has (is_hand e.value) h)) (is_ended (Enl e) Down h) a))

-- Whose reenlistment's connection was opened is left alone.
again_row : (e : EnlNo) (x : Entry) (h : List Entry) → Keeps h → rule h x ≡ true → opens (Again e) x ≡ true → is_left_alone (Again e) h ≡ true
again_row e (Sent c Up m) h k r t =
    by c m (and_left (same_connection (Again e) c) (is_opening c m) t) (and_right (same_connection (Again e) c) (is_opening c m) t)
    (fourth_of_four (has_line c Up m) (has is_promoting h) (is_there h c Up m) (message_row h c m) r)
  where
    by : (c : Conn) (m : Message) → same_connection (Again e) c ≡ true → is_opening c m ≡ true → message_row h c m ≡ true → is_left_alone (Again e) h ≡ true
    by (Again f) (ReenlistReenlist i) s o r =
        let P : Conn → Type 0 = λ d. is_left_alone d h ≡ true in
        subst P (sym (same_is (Again e) (Again f) s)) (third_of_three (is_of_conn (Again f) i) (not (has (opens (Again f)) h) || has is_severing h) (is_left_alone (Again f) h) r)
    by _ _ s o r = absurd cc
again_row e _ h k r t = absurd cc

pub alone_if_opened : (e : EnlNo) (h : List Entry) → Keeps h → has (opens (Again e)) h ≡ true → is_left_alone (Again e) h ≡ true
alone_if_opened e h k t = earlier_keeping (opens (Again e)) (λ g. is_left_alone (Again e) g) (alone_more e) (again_row e) h k t

-- and so is who hears anything over it
pub alone_by_got : (e : EnlNo) (m : Message) (h : List Entry) → Keeps (Got (Again e) Down m ∷ h) → is_left_alone (Again e) h ≡ true
alone_by_got e m h k =
    let past = keeps_before (Got (Again e) Down m) h k in
    alone_if_opened e h past (opening_was_sent (Again e) h past.wires (sent_opened_there (Again e) (λ n. true) h past (got_sent (Again e) Down m (λ n. true) h k.wires.0 refl)))
