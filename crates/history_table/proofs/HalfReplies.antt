-- The block of each reply that is due keeps the table, promoted or not.
use Rattle.std.proofs.Common.{◌≡◌, ℕ, ◌==◌, Bool, true, false, ◌&&◌, ◌||◌, List, [], ◌∷◌, Option, Some, None, refl, ◌∙◌, sym, subst, ◌⊎◌, inl, inr}
use Rattle.std.specs.Prelude.{find, is_some, not, if◌then◌else◌}
use Rattle.std.proofs.lemmas.Bool.{eqb-true, false_from_ne_true, or_left}
use Rattle.dtx_values.specs.declared.entry.Entry.{Entry}
use Rattle.dtx_values.specs.declared.entry.Entry.TheVariants.{Enlisted, Requested, Sent, Voted}
use Rattle.dtx_values.specs.declared.message.Conn.{Conn}
use Rattle.dtx_values.specs.declared.message.Conn.TheVariants.{Begin, Enl as OnEnl}
use Rattle.dtx_values.specs.declared.message.Dir.TheVariants.{Up}
use Rattle.dtx_values.specs.declared.message.Message.{Message}
use Rattle.dtx_values.specs.declared.message.Message.TheVariants.{BeginAbort, BeginCommit, BeginCommitOne}
use Rattle.dtx_values.specs.declared.note.Note.{Note}
use Rattle.dtx_values.specs.declared.note.Note.TheVariants.{Prepare as PrepareNote, Promote as PromoteNote, Hand as HandNote, Single as SingleNote, Commit as CommitNote}
use Rattle.dtx_values.specs.declared.note.Reply.{Reply}
use Rattle.dtx_values.specs.declared.note.Reply.TheVariants.{Vote as VoteReply, Promote as Promotes, Owner as OwnerReply, Ack}
use Rattle.dtx_values.specs.declared.number.EnlNo.{EnlNo}
use Rattle.dtx_values.specs.declared.row.Row.{Row}
use Rattle.dtx_values.specs.declared.words.Class.{Class}
use Rattle.dtx_values.specs.declared.words.Outcome.{Outcome}
use Rattle.dtx_values.specs.declared.words.Outcome.TheVariants.{Aborted}
use Rattle.dtx_values.specs.declared.words.Vote.{Vote}
use Rattle.dtx_values.specs.Class.{is_volatile}
use Rattle.dtx_values.specs.Ends.{knows}
use Rattle.dtx_values.specs.Lines.{has_line}
use Rattle.dtx_values.specs.Row.{has_voted, is_marked, is_of}
use Rattle.dtx_model.specs.Words.{has, latest, onto, or_else}
use Rattle.dtx_model.specs.Entries.{decision_of, is_asked, is_decision, is_lost, is_promoted, is_sealed, is_vote}
use Rattle.dtx_model.specs.Observed.{ends_of, is_request, observe, rows}
use Rattle.dtx_model.specs.Promotes.{is_promoting}
use Rattle.dtx_model.specs.Wires.{opens}
use Rattle.dtx_model.specs.Half.{is_gone, to_up, was_told}
use Rattle.dtx_model.specs.Replies.{conn_due, due_of, fits, is_volatile_row, may_still_vote, note_of_conn, note_of_row, owes_vote, owes_promotion, owes_outcome, owes_request}
use Rattle.dtx_model.proofs.Bools.{and_both, and_left, and_right, not_both, not_false, not_true, or_case, or_right}
use Rattle.dtx_values.proofs.SameNumbers.{same_enlistment}
use Rattle.history_table.proofs.Tests.{five_hold, first_of_four, first_of_three, fourth_of_four, second_of_three}
use Rattle.history_table.proofs.Lists.{found_at, has-at}
use Rattle.history_table.proofs.Scans.{has_more}
use Rattle.history_table.proofs.EntryTests.{has_promotable, is_decided, is_enlisted}
use Rattle.history_table.proofs.Owned.{decision_seen, has_rows}
use Rattle.history_table.proofs.Table.{ends_with, is_abort_decided, is_abort_request, is_abort_sent, is_commit_sent, is_there, may_commit, message_row, rule, stands_volatile}
use Rattle.history_table.proofs.Keeping.{Keeps, earlier, earlier_keeping, newest}
use Rattle.history_table.proofs.Messages.{COMMIT}
use Rattle.history_table.proofs.Recording.{enlisted_unsealed}
use Rattle.history_table.proofs.Sendings.{ends_has, sent_row}
use Rattle.history_table.proofs.Standing.{unvolatile_if_opened}
use Rattle.history_table.proofs.HalfRows.{row_marked, row_voted, rows_enlisted}
use Rattle.history_table.proofs.HalfKnows.{known_opened}
use Rattle.history_table.proofs.Deciding.{decided_there, to_up_keeps}
use Rattle.history_table.proofs.Undecided.{Stands, is_going}

-- a message that is sent where the connection is known keeps it
pub to_up_stands : (g h : List Entry) (c : Conn) (m : Message) → Stands h → has_line c Up m ≡ true → (has (opens c) g ≡ true → has (opens c) h ≡ true) → message_row h c m ≡ true
    → Stands (onto h (to_up (observe g) c m))
unfolding observe
to_up_stands g h c m k l w r = record { keeps = to_up_keeps g h c m k.keeps l w r; going = step (knows c (ends_of g)) }
  where
    step : (b : Bool) → is_going (onto h (if b then Sent c Up m ∷ [] else [])) ≡ true
    step true = k.going
    step false = k.going

-- To which note the reply answers: of the row, or of a connection.
unfit : (r : Reply) (m n : Note) → Some m ≡ Some n → fits r m ≡ false → fits r n ≡ true → ⊥
unfit r m n e f k = let same : m ≡ n = cc in not_both (fits r n) k (subst (λ z. fits r z ≡ false) same f)

-- which test of the row gives the note to which a reply answers
abbrev pub Answers : Reply → Note → Bool → Bool → Bool → Bool → Type 0
Answers (VoteReply v) n a b c d = a ≡ true
Answers (Promotes ok) n a b c d = b ≡ true
Answers (OwnerReply x) n a b c d = ((n ≡ HandNote) × (c ≡ true)) ⊎ ((n ≡ SingleNote) × (d ≡ true))
Answers Ack n a b c d = Unit {0}

row_answers : (r : Reply) (n : Note) (a b c d : Bool) (o : Option Conn)
    → or_else (if a then Some PrepareNote else if b then Some PromoteNote else if c then Some HandNote else if d then Some SingleNote else None) (note_of_conn o) ≡ Some n → fits r n ≡ true
    → Answers r n a b c d
row_answers Ack n a b c d o e f = tt
row_answers (VoteReply v) n true b c d o e f = refl
row_answers (VoteReply v) n false true c d o e f = absurd (unfit (VoteReply v) PromoteNote n e refl f)
row_answers (VoteReply v) n false false true d o e f = absurd (unfit (VoteReply v) HandNote n e refl f)
row_answers (VoteReply v) n false false false true o e f = absurd (unfit (VoteReply v) SingleNote n e refl f)
row_answers (VoteReply v) n false false false false (Some y) e f = absurd (unfit (VoteReply v) CommitNote n e refl f)
row_answers (VoteReply v) n false false false false None e f = absurd cc
row_answers (Promotes ok) n true b c d o e f = absurd (unfit (Promotes ok) PrepareNote n e refl f)
row_answers (Promotes ok) n false true c d o e f = refl
row_answers (Promotes ok) n false false true d o e f = absurd (unfit (Promotes ok) HandNote n e refl f)
row_answers (Promotes ok) n false false false true o e f = absurd (unfit (Promotes ok) SingleNote n e refl f)
row_answers (Promotes ok) n false false false false (Some y) e f = absurd (unfit (Promotes ok) CommitNote n e refl f)
row_answers (Promotes ok) n false false false false None e f = absurd cc
row_answers (OwnerReply x) n true b c d o e f = absurd (unfit (OwnerReply x) PrepareNote n e refl f)
row_answers (OwnerReply x) n false true c d o e f = absurd (unfit (OwnerReply x) PromoteNote n e refl f)
row_answers (OwnerReply x) n false false true d o e f = let same : HandNote ≡ n = cc in inl (sym same, refl)
row_answers (OwnerReply x) n false false false true o e f = let same : SingleNote ≡ n = cc in inr (sym same, refl)
row_answers (OwnerReply x) n false false false false (Some y) e f = absurd (unfit (OwnerReply x) CommitNote n e refl f)
row_answers (OwnerReply x) n false false false false None e f = absurd cc

-- the row of which the reply is, where it is no acknowledgement
pub record IsOwed (o : List Entry) (r : Reply) (n : Note) (e : ℕ) : Type 0 where
  pub row : Row
  pub stands : find (is_of e) (rows o) ≡ Some row
  pub here : is_gone (observe o) e ≡ false
  pub answers : Answers r n (owes_vote (observe o) row) (owes_promotion (observe o) row) (owes_outcome (observe o) row) (owes_request (observe o) row)

abbrev is_ack : Reply → Bool
is_ack Ack = true
is_ack _ = false

no_row : (r : Reply) (n : Note) (o : Option Conn) → is_ack r ≡ false → note_of_conn o ≡ Some n → fits r n ≡ true → ⊥
no_row Ack n o a e f = cc
no_row (VoteReply v) n (Some c) a e f = unfit (VoteReply v) CommitNote n e refl f
no_row (Promotes ok) n (Some c) a e f = unfit (Promotes ok) CommitNote n e refl f
no_row (OwnerReply x) n (Some c) a e f = unfit (OwnerReply x) CommitNote n e refl f
no_row _ n None a e f = cc

pub owed : (h : List Entry) (r : Reply) (n : Note) (e : ℕ) → is_ack r ≡ false → due_of (observe h) e ≡ Some n → fits r n ≡ true → IsOwed h r n e
unfolding due_of observe
owed h r n e a d f = step (is_gone (observe h) e) refl (find (is_of e) (rows h)) refl d
  where
    step : (g : Bool) → is_gone (observe h) e ≡ g → (x : Option Row) → find (is_of e) (rows h) ≡ x
        → (if g then None else or_else (note_of_row (observe h) x) (note_of_conn (conn_due (observe h) e))) ≡ Some n → IsOwed h r n e
    step true p x q d = absurd cc
    step false p None q d = absurd (no_row r n (conn_due (observe h) e) a d f)
    step false p (Some x) q d =
        record {
          row = x;
          stands = q;
          here = p;
          answers = row_answers r n (owes_vote (observe h) x) (owes_promotion (observe h) x) (owes_outcome (observe h) x) (owes_request (observe h) x) (conn_due (observe h) e) d f;
        }

-- A vote.
pub volatile_seen : (h : List Entry) (e : ℕ) → is_volatile_row (observe h) e ≡ stands_volatile e h
unfolding observe
volatile_seen h e = has_rows (λ (f : EnlNo) (c : Class). (e == f.value) && is_volatile c) h

-- who was lost and came back votes no more, and is no volatile
abbrev pub IsLeft : List Entry → EnlNo → Type 0
IsLeft h e = has (is_lost e.value) h ≡ true → is_gone (observe h) e.value ≡ false → (knows (OnEnl e) (ends_of h) ≡ false) × (stands_volatile e.value h ≡ false)

still_votes : (v d k t : Bool) → (if v then not d else k && not t) ≡ true → ((v ≡ true) × (d ≡ false)) ⊎ (k ≡ true)
still_votes true d k t e = inl (refl, not_true d e)
still_votes false d k t e = inr (and_left k (not t) e)

pub vote_rule : (h : List Entry) (e : EnlNo) (v : Vote) (n : Note) → Stands h → IsLeft h e → IsOwed h (VoteReply v) n e.value → rule h (Voted e v) ≡ true
unfolding observe
vote_rule h e v n k l w =
    let place = found_at (is_of e.value) (rows h) w.row w.stands in
    let number : e.value ≡ w.row.number.value = eqb-true e.value w.row.number.value place.2 in
    let same : e ≡ w.row.number = same_enlistment e w.row.number number in
    let o = observe h in
    let marked = first_of_three (is_marked w.row) (not (has_voted w.row)) (may_still_vote o w.row) w.answers in
    let unvoted = not_true (has_voted w.row) (second_of_three (is_marked w.row) (not (has_voted w.row)) (may_still_vote o w.row) w.answers) in
    let may = and_right (is_marked w.row && not (has_voted w.row)) (may_still_vote o w.row) w.answers in
    let decided = is_some (latest decision_of h) in
    let case = still_votes (is_volatile w.row.class) decided (knows (OnEnl w.row.number) (ends_of h)) (was_told o w.row.number.value) may in
    let P : ℕ → Type 0 = λ m. has (is_enlisted m) h ≡ true in
    let A : ℕ → Type 0 = λ m. has (is_asked m) h ≡ true in
    let V : ℕ → Type 0 = λ m. has (is_vote m) h ≡ false in
    five_hold (has (is_enlisted e.value) h) (has (is_asked e.value) h) (not (has (is_vote e.value) h)) (not (has (is_lost e.value) h)) (not (stands_volatile e.value h && has is_decision h))
    (subst P (sym number) (rows_enlisted h place.0 w.row k.keeps place.1))
    (subst A (sym number) (sym (row_marked h place.0 w.row k.keeps place.1) ∙ marked))
    (not_false (has (is_vote e.value) h) (subst V (sym number) (sym (row_voted h place.0 w.row k.keeps place.1) ∙ unvoted)))
    (not_false (has (is_lost e.value) h) (unlost (known same case)))
    (apart (known same case))
  where
    known : e ≡ w.row.number → ((is_volatile w.row.class ≡ true) × (is_some (latest decision_of h) ≡ false)) ⊎ (knows (OnEnl w.row.number) (ends_of h) ≡ true)
        → ((stands_volatile e.value h ≡ true) × (has is_decision h ≡ false)) ⊎ (knows (OnEnl e) (ends_of h) ≡ true)
    known s (inl p) = inl (in_rows, sym (decision_seen h) ∙ p.1)
      where
        in_rows : stands_volatile e.value h ≡ true
        in_rows =
            let place = found_at (is_of e.value) (rows h) w.row w.stands in
            sym (volatile_seen h e.value) ∙ has-at (λ y. is_of e.value y && is_volatile y.class) (rows h) place.0 w.row place.1 (and_both (is_of e.value w.row) (is_volatile w.row.class) place.2 p.0)
    known s (inr p) = let K : EnlNo → Type 0 = λ f. knows (OnEnl f) (ends_of h) ≡ true in inr (subst K (sym s) p)

    unlost : ((stands_volatile e.value h ≡ true) × (has is_decision h ≡ false)) ⊎ (knows (OnEnl e) (ends_of h) ≡ true) → has (is_lost e.value) h ≡ false
    unlost (inl p) = false_from_ne_true (has (is_lost e.value) h) (λ t. not_both (stands_volatile e.value h) p.0 (l t w.here).1)
    unlost (inr p) = false_from_ne_true (has (is_lost e.value) h) (λ t. not_both (knows (OnEnl e) (ends_of h)) p (l t w.here).0)

    apart : ((stands_volatile e.value h ≡ true) × (has is_decision h ≡ false)) ⊎ (knows (OnEnl e) (ends_of h) ≡ true) → not (stands_volatile e.value h && has is_decision h) ≡ true
    apart (inl p) = rw (p.0, p.1) refl
    apart (inr p) = rw (unvolatile_if_opened e h k.keeps (known_opened (OnEnl e) h p)) refl

-- On b nothing is aborted before a decision or a request,
abort_request : (x : Entry) → is_abort_request x ≡ true → is_request x ≡ true
abort_request (Requested e r) t = refl
abort_request _ t = absurd cc

aborted_after : (x : Entry) (h : List Entry) → Keeps h → rule h x ≡ true → is_abort_sent x ≡ true → (has is_decision h || has is_request h) ≡ true
aborted_after (Sent Begin Up BeginAbort) h k r t =
    let row = fourth_of_four (has_line Begin Up BeginAbort) (has is_promoting h) (is_there h Begin Up BeginAbort) _ r in
    or_case (is_abort_decided h) (ends_with is_abort_request h) (λ a. or_left (has is_decision h) (has is_request h) (by (latest decision_of h) refl a))
    (λ a. or_right (has is_decision h) (has is_request h) (has_more is_abort_request is_request abort_request h (ends_has is_abort_request h a)))
    (and_left (is_abort_decided h || ends_with is_abort_request h) (not (has is_commit_sent h)) row)
  where
    by : (o : Option Outcome) → latest decision_of h ≡ o → is_decided Aborted o ≡ true → has is_decision h ≡ true
    by (Some x) q a = decided_there h x q
    by None q a = absurd cc
aborted_after _ h k r t = absurd cc

pub unaborted_yet : (h : List Entry) → Keeps h → has is_decision h ≡ false → has is_request h ≡ false → has is_abort_sent h ≡ false
unaborted_yet h k d r =
    false_from_ne_true (has is_abort_sent h) (λ s.
    or_case (has is_decision h) (has is_request h) (λ a. not_both (has is_decision h) a d) (λ a. not_both (has is_request h) a r)
    (earlier is_abort_sent (λ g. has is_decision g || has is_request g) more aborted_after h k s))
  where
    more : (x : Entry) (g : List Entry) → (has is_decision g || has is_request g) ≡ true → (has is_decision (x ∷ g) || has is_request (x ∷ g)) ≡ true
    more x g t =
        or_case (has is_decision g) (has is_request g) (λ a. or_left (has is_decision (x ∷ g)) (has is_request (x ∷ g)) (or_right (is_decision x) (has is_decision g) a))
        (λ a. or_right (has is_decision (x ∷ g)) (has is_request (x ∷ g)) (or_right (is_request x) (has is_request g) a)) t

-- and COMMIT goes after the seal, and after the request of a promotable that stands.
abbrev is_called_for : List Entry → Bool
is_called_for h = has is_sealed h && (not (has_promotable h) || has is_request h)

called_for_more : (x : Entry) (h : List Entry) → Keeps (x ∷ h) → is_called_for h ≡ true → is_called_for (x ∷ h) ≡ true
called_for_more (Enlisted e c) h k t = absurd (not_both (has is_sealed h) (and_left (has is_sealed h) _ t) (enlisted_unsealed e c h (newest (Enlisted e c) h k)))
called_for_more x h k t =
    and_both (has is_sealed (x ∷ h)) (not (has_promotable (x ∷ h)) || has is_request (x ∷ h)) (or_right (is_sealed x) (has is_sealed h) (and_left (has is_sealed h) (not (has_promotable h) || has is_request h) t))
    (or_case (not (has_promotable h)) (has is_request h) (λ a. or_left (not (has_promotable h)) (has is_request (x ∷ h)) a)
    (λ a. or_right (not (has_promotable h)) (has is_request (x ∷ h)) (or_right (is_request x) (has is_request h) a)) (and_right (has is_sealed h) (not (has_promotable h) || has is_request h) t))

called_for_by : (h : List Entry) → may_commit h ≡ true → is_called_for h ≡ true
called_for_by h r =
    let last = not (has is_abort_sent h) && (not (has_promotable h) || has is_request h) in
    and_both (has is_sealed h) (not (has_promotable h) || has is_request h) (first_of_four (has is_sealed h) (has is_promoted h) (not (has is_decision h)) last r)
    (and_right (not (has is_abort_sent h)) (not (has_promotable h) || has is_request h) (fourth_of_four (has is_sealed h) (has is_promoted h) (not (has is_decision h)) last r))

called_for_of : (m : Message) (h : List Entry) → Keeps h → COMMIT m ≡ true → has_line Begin Up m ≡ true → message_row h Begin m ≡ true → is_called_for h ≡ true
called_for_of BeginCommit h k t l r = called_for_by h (and_left (may_commit h) _ r)
called_for_of BeginCommitOne h k t l r = called_for_by h (and_left (may_commit h) _ r)
called_for_of _ h k t l r = absurd cc

pub requested_if_sent : (h : List Entry) → Keeps h → has is_commit_sent h ≡ true → (not (has_promotable h) || has is_request h) ≡ true
requested_if_sent h k s =
    and_right (has is_sealed h) (not (has_promotable h) || has is_request h)
    (earlier_keeping (λ x. is_commit_sent x) (λ g. is_called_for g) called_for_more (sent_row Begin Up COMMIT (λ g. is_called_for g) called_for_of) h k s)
