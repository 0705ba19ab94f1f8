-- Rows that the joint table of rules gives: what is sent is sent after the promotion began, which begins once; and COMMITTED is sent after it succeeded.
use Rattle.std.proofs.Common.{◌≡◌, Bool, true, ◌&&◌, List, [], ◌∷◌, refl}
use Rattle.std.specs.Prelude.{not}
use Rattle.dtx_values.specs.declared.entry.Entry.{Entry}
use Rattle.dtx_values.specs.declared.entry.Entry.TheVariants.{Logged, Promoting, Sent}
use Rattle.dtx_values.specs.declared.message.Conn.{Conn}
use Rattle.dtx_values.specs.declared.message.Conn.TheVariants.{Begin}
use Rattle.dtx_values.specs.declared.message.Dir.{Dir}
use Rattle.dtx_values.specs.declared.message.Dir.TheVariants.{Down}
use Rattle.dtx_values.specs.declared.message.Message.{Message}
use Rattle.dtx_values.specs.declared.message.Message.TheVariants.{BeginCommitted}
use Rattle.dtx_values.specs.Lines.{has_line}
use Rattle.dtx_model.specs.Words.{always, has}
use Rattle.dtx_values.specs.declared.words.Outcome.TheVariants.{Committed}
use Rattle.dtx_model.specs.Entries.{is_decision, is_record, is_sealed}
use Rattle.dtx_model.specs.Promotes.{is_promoting}
use Rattle.dtx_model.specs.Tied.{is_logged}
use Rattle.dtx_model.proofs.Bools.{and_both, and_left, and_right, or_case}
use Rattle.history_table.proofs.Scans.{has_more}
use Rattle.settled_histories.proofs.Rest.{is_after_start}
use Rattle.settled_histories.proofs.BeforeRows.{by_keeping, row_of}
use Rattle.settled_histories.proofs.Committed.{is_committed_well}
use Rattle.history_table.proofs.Handed.{hand_name}
use Rattle.history_table.proofs.LetDecide.{answered_handed, any_single_if_handed, committed_if_one, promoted_if_single}
use Rattle.history_table.proofs.Recording.{promoted_if_yes, yes_if_record}
use Rattle.history_table.proofs.Table.{is_one_committed, is_there, message_row, rule, ruled}
use Rattle.history_table.proofs.Keeping.{Keeps, keeps_before, newest, third_of_three}

-- a row that each entry's rule gives
by_rule : (row : List Entry → Entry → Bool) → ((x : Entry) (h : List Entry) → rule h x ≡ true → row h x ≡ true) → (h : List Entry) → ruled h ≡ true → always row h ≡ true
by_rule row at [] k = refl
by_rule row at (x ∷ h) k = and_both (row h x) (always row h) (at x h (and_left (rule h x) (ruled h) k)) (by_rule row at h (and_right (rule h x) (ruled h) k))

begun_before : (c : Conn) (d : Dir) (m : Message) (h : List Entry) → rule h (Sent c d m) ≡ true → has is_promoting h ≡ true
begun_before c d m h k =
    and_right (has_line c d m) (has is_promoting h)
    (and_left (has_line c d m && has is_promoting h) (is_there h c d m) (and_left (has_line c d m && has is_promoting h && is_there h c d m) (message_row h c m) k))

pub ruled_later : (h : List Entry) → ruled h ≡ true → always is_after_start h ≡ true
ruled_later = by_rule is_after_start at
  where
    at : (x : Entry) (h : List Entry) → rule h x ≡ true → is_after_start h x ≡ true
    at (Sent c d m) h k = begun_before c d m h k
    at (Promoting c) h k = third_of_three (not (has is_decision h)) (not (has is_sealed h)) (not (has is_promoting h)) k
    at x h k = refl

pub kept_committed : (h : List Entry) → Keeps h → always is_committed_well h ≡ true
kept_committed = by_keeping is_committed_well at
  where
    logged : (x : Entry) → is_logged x ≡ true → is_record x ≡ true
    logged Logged k = refl
    logged _ k = absurd cc

    at : (x : Entry) (h : List Entry) → Keeps (x ∷ h) → is_committed_well h x ≡ true
    at (Sent Begin Down BeginCommitted) h k =
        let past = keeps_before (Sent Begin Down BeginCommitted) h k in
        let rule = newest (Sent Begin Down BeginCommitted) h k in
        or_case (has is_logged h) (has is_one_committed h) (λ t. promoted_if_yes h past (yes_if_record h past (has_more is_logged is_record logged h t)))
        (λ t. let name = hand_name h (answered_handed Committed h past (committed_if_one h past t)) in
        promoted_if_single h past (any_single_if_handed name.0 h past (begun_before Begin Down BeginCommitted h rule) name.1)) (row_of Begin Down BeginCommitted h rule)
    at x h k = refl
