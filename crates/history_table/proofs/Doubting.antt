-- Doubt stays: nothing is got on b and on v after their ends.
use Rattle.std.proofs.Common.{◌≡◌, ℕ, ◌==◌, ◌&&◌, ◌||◌, Bool, true, false, List, [], ◌∷◌, Option, Some, None, refl, subst, sym}
use Rattle.std.specs.Prelude.{not}
use Rattle.std.proofs.lemmas.Bool.{eqb-true, false≢true, or_left}
use Rattle.dtx_values.specs.declared.entry.Entry.{Entry}
use Rattle.dtx_values.specs.declared.entry.Entry.TheVariants.{Decided, Down as End, Got, OwnerAnswered, Sent}
use Rattle.dtx_values.specs.declared.message.Conn.{Conn}
use Rattle.dtx_values.specs.declared.message.Conn.TheVariants.{Begin, Voter}
use Rattle.dtx_values.specs.declared.message.Dir.TheVariants.{Up, Down}
use Rattle.dtx_values.specs.declared.message.Message.{Message}
use Rattle.dtx_values.specs.declared.message.Message.TheVariants.{BeginBegin, BeginInDoubt, VoterInDoubt, VoterVoter}
use Rattle.dtx_values.specs.declared.number.EnlNo.{EnlNo}
use Rattle.dtx_values.specs.declared.words.Outcome.{Outcome}
use Rattle.dtx_values.specs.declared.words.Outcome.TheVariants.{Committed, Aborted, InDoubt}
use Rattle.dtx_values.specs.Lines.{has_line, is_opening}
use Rattle.dtx_model.specs.Words.{all_of, ever, has, latest, put}
use Rattle.dtx_model.specs.Entries.{decision_of, handed_of, is_any_owner, is_any_single_sent, is_decision, is_one_got, is_owner, is_sealed, is_single_sent, is_yes, same_outcome}
use Rattle.dtx_model.specs.Outcome.{coordinator_doubt, doubt, ended_there, is_begin_end, is_deciding, is_lost_owner, is_lost_single, is_outcome_got, is_voter_end, owner_doubt, single_doubt}
use Rattle.dtx_model.specs.Wires.{opens}
use Rattle.dtx_model.specs.Promotes.{is_begun_got, is_promoting}
use Rattle.dtx_model.proofs.Bools.{and_both, and_left, and_right, not_both, not_false, not_true, or_case, or_false, or_right}
use Rattle.history_table.proofs.Tests.{eq_self, fourth_of_four, four_hold, first_of_four, second_of_four, third_of_four}
use Rattle.history_table.proofs.Scans.{has_more}
use Rattle.history_table.proofs.Table.{is_one_in_doubt, is_there, message_row, rule}
use Rattle.history_table.proofs.Keeping.{Keeps, keeps_before, newest}
use Rattle.history_table.proofs.Crossed.{IsStill, end_opened, end_still, still_more, still_silent}
use Rattle.history_table.proofs.Sendings.{by_got, got_line}
use Rattle.history_table.proofs.Handed.{hand_listed, is_answered}
use Rattle.history_table.proofs.Recording.{sealed_if_yes}
use Rattle.history_table.proofs.LetDecide.{answered_handed, doubted_if_one, handed_if_owner, owner_any, sealed_if_handed, single_any, yes_if_single}

-- b and v are opened once
begin_row : (m : Message) (h : List Entry) → is_opening Begin m ≡ true → message_row h Begin m ≡ true → not (has (opens Begin) h) ≡ true
begin_row BeginBegin h t r = r
begin_row _ h t r = absurd (false≢true t)

voter_row : (m : Message) (h : List Entry) → is_opening Voter m ≡ true → message_row h Voter m ≡ true → not (has (opens Voter) h) ≡ true
voter_row (VoterVoter u) h t r = and_right (has is_begun_got h) (not (has (opens Voter) h)) r
voter_row _ h t r = absurd (false≢true t)

pub begin_once : (x : Entry) (h : List Entry) → rule h x ≡ true → opens Begin x ≡ true → has (opens Begin) h ≡ false
begin_once (Sent Begin Up m) h r t =
    not_true (has (opens Begin) h) (begin_row m h t (fourth_of_four (has_line Begin Up m) (has is_promoting h) (is_there h Begin Up m) (message_row h Begin m) r))
begin_once (Sent c Down m) h r t = absurd (false≢true t)
begin_once _ h r t = absurd (false≢true t)

pub voter_once : (x : Entry) (h : List Entry) → rule h x ≡ true → opens Voter x ≡ true → has (opens Voter) h ≡ false
voter_once (Sent Voter Up m) h r t =
    not_true (has (opens Voter) h) (voter_row m h t (fourth_of_four (has_line Voter Up m) (has is_promoting h) (is_there h Voter Up m) (message_row h Voter m) r))
voter_once (Sent c Down m) h r t = absurd (false≢true t)
voter_once _ h r t = absurd (false≢true t)

-- Their ends are ends, since what is got has a line.

begin_down : (x : Entry) (h : List Entry) → Keeps (x ∷ h) → is_begin_end x ≡ true → x ≡ End Begin Down
begin_down (End Begin Down) h k t = refl
begin_down (Got Begin Down m) h k t = absurd (not_both (has_line Begin Down m) (got_line Begin Down m h k) (not_true (has_line Begin Down m) t))
begin_down _ h k t = absurd cc

voter_down : (x : Entry) (h : List Entry) → Keeps (x ∷ h) → is_voter_end x ≡ true → x ≡ End Voter Down
voter_down (End Voter Down) h k t = refl
voter_down (Got Voter Down m) h k t = absurd (not_both (has_line Voter Down m) (got_line Voter Down m h k) (not_true (has_line Voter Down m) t))
voter_down _ h k t = absurd cc

-- where the end of a connection that is opened once was seen, it was opened and is still
record IsClosed (c : Conn) (h : List Entry) : Type 0 where
  opened : has (opens c) h ≡ true
  still : IsStill c Down h

closed_now : (c : Conn) (x : Entry) (h : List Entry) → Keeps (x ∷ h) → x ≡ End c Down → IsClosed c (x ∷ h)
closed_now c x h k same =
    let P : Entry → Type 0 = λ y. Keeps (y ∷ h) in
    let Q : Entry → Type 0 = λ y. IsClosed c (y ∷ h) in
    let here = subst P same k in
    subst Q (sym same) (record { opened = or_right (opens c (End c Down)) (has (opens c) h) (end_opened c Down h here.wires.0); still = end_still c Down h here.wires.0 })

closed_later : (c : Conn) (x : Entry) (h : List Entry) → (opens c x ≡ true → has (opens c) h ≡ false) → IsClosed c h → IsClosed c (x ∷ h)
closed_later c x h once w = record {
  opened = or_right (opens c x) (has (opens c) h) w.opened;
  still = still_more c Down x h (λ m o. absurd (not_both (has (opens c) h) w.opened (once o))) (λ o. absurd (not_both (has (opens c) h) w.opened (once o))) w.still;
}

closed_by : (c : Conn) (p : Entry → Bool) → ((x : Entry) (h : List Entry) → rule h x ≡ true → opens c x ≡ true → has (opens c) h ≡ false)
    → ((x : Entry) (h : List Entry) → Keeps (x ∷ h) → p x ≡ true → x ≡ End c Down) → (h : List Entry) → Keeps h → has p h ≡ true → IsClosed c h
closed_by c p once ends [] k t = absurd cc
closed_by c p once ends (x ∷ h) k t =
    or_case (p x) (has p h) (λ q. closed_now c x h k (ends x h k q)) (λ q. closed_later c x h (once x h (newest x h k)) (closed_by c p once ends h (keeps_before x h k) q)) t

begin_still : (h : List Entry) → Keeps h → has is_begin_end h ≡ true → IsStill Begin Down h
begin_still h k t = (closed_by Begin is_begin_end begin_once begin_down h k t).still

voter_still : (h : List Entry) → Keeps h → has is_voter_end h ≡ true → IsStill Voter Down h
voter_still h k t = (closed_by Voter is_voter_end voter_once voter_down h k t).still

-- no outcome is got after both ends
no_outcome : (x : Entry) (h : List Entry) → Keeps (x ∷ h) → has is_begin_end h ≡ true → has is_voter_end h ≡ true → is_outcome_got x ≡ false
no_outcome (Got Begin Down m) h k b v = absurd (still_silent Begin Down m h (begin_still h (keeps_before (Got Begin Down m) h k) b) k.wires.0)
no_outcome (Got Voter Down m) h k b v = absurd (still_silent Voter Down m h (voter_still h (keeps_before (Got Voter Down m) h k) v) k.wires.0)
no_outcome _ h k b v = refl

put_more : {A : Type 0} (p : A → Bool) (o : Option A) (xs : List A) → has p xs ≡ true → has p (put o xs) ≡ true
put_more p (Some x) xs t = or_right (p x) (has p xs) t
put_more p None xs t = t

owner_more : (x : Entry) (h : List Entry) → owner_doubt h ≡ true → owner_doubt (x ∷ h) ≡ true
unfolding owner_doubt
owner_more x h t =
    or_case (has (λ e. has (is_owner e.value InDoubt) h) (all_of handed_of h)) (ever is_lost_owner h)
    (λ a. or_left (has (λ e. has (is_owner e.value InDoubt) (x ∷ h)) (all_of handed_of (x ∷ h))) (ever is_lost_owner (x ∷ h))
    (put_more (λ e. has (is_owner e.value InDoubt) (x ∷ h)) (handed_of x) (all_of handed_of h)
    (has_more (λ e. has (is_owner e.value InDoubt) h) (λ e. has (is_owner e.value InDoubt) (x ∷ h)) (λ e s. or_right (is_owner e.value InDoubt x) (has (is_owner e.value InDoubt) h) s) (all_of handed_of h) a)))
    (λ b. or_right (has (λ e. has (is_owner e.value InDoubt) (x ∷ h)) (all_of handed_of (x ∷ h))) (ever is_lost_owner (x ∷ h)) (or_right (is_lost_owner h x) (ever is_lost_owner h) b)) t

coordinator_more : (x : Entry) (h : List Entry) → Keeps (x ∷ h) → coordinator_doubt h ≡ true → coordinator_doubt (x ∷ h) ≡ true
unfolding coordinator_doubt
coordinator_more x h k t =
    let begin = second_of_four (has is_yes h) (has is_begin_end h) (has is_voter_end h) (not (has is_outcome_got h)) t in
    let voter = third_of_four (has is_yes h) (has is_begin_end h) (has is_voter_end h) (not (has is_outcome_got h)) t in
    let silent = not_true (has is_outcome_got h) (fourth_of_four (has is_yes h) (has is_begin_end h) (has is_voter_end h) (not (has is_outcome_got h)) t) in
    four_hold (has is_yes (x ∷ h)) (has is_begin_end (x ∷ h)) (has is_voter_end (x ∷ h)) (not (has is_outcome_got (x ∷ h)))
    (or_right (is_yes x) (has is_yes h) (first_of_four (has is_yes h) (has is_begin_end h) (has is_voter_end h) (not (has is_outcome_got h)) t)) (or_right (is_begin_end x) (has is_begin_end h) begin)
    (or_right (is_voter_end x) (has is_voter_end h) voter)
    (not_false (has is_outcome_got (x ∷ h)) (or_false (is_outcome_got x) (has is_outcome_got h) (no_outcome x h k begin voter) silent))

pub single_more : (x : Entry) (h : List Entry) → single_doubt h ≡ true → single_doubt (x ∷ h) ≡ true
unfolding single_doubt
single_more x h t = or_right (is_lost_single h x) (ever is_lost_single h) t

-- doubt of one of the three
pub owner_doubts : (h : List Entry) → owner_doubt h ≡ true → doubt h ≡ true
unfolding doubt
owner_doubts h t = or_left (owner_doubt h || coordinator_doubt h) (single_doubt h) (or_left (owner_doubt h) (coordinator_doubt h) t)

pub coordinator_doubts : (h : List Entry) → coordinator_doubt h ≡ true → doubt h ≡ true
unfolding doubt
coordinator_doubts h t = or_left (owner_doubt h || coordinator_doubt h) (single_doubt h) (or_right (owner_doubt h) (coordinator_doubt h) t)

pub single_doubts : (h : List Entry) → single_doubt h ≡ true → doubt h ≡ true
unfolding doubt
single_doubts h t = or_right (owner_doubt h || coordinator_doubt h) (single_doubt h) t

pub doubt_case : {C : Type 0} (h : List Entry) → doubt h ≡ true → (owner_doubt h ≡ true → C) → (coordinator_doubt h ≡ true → C) → (single_doubt h ≡ true → C) → C
unfolding doubt
doubt_case h t f g s = or_case (owner_doubt h || coordinator_doubt h) (single_doubt h) (or_case (owner_doubt h) (coordinator_doubt h) f g) s t

pub doubt_more : (x : Entry) (h : List Entry) → Keeps (x ∷ h) → doubt h ≡ true → doubt (x ∷ h) ≡ true
doubt_more x h k t =
    doubt_case h t (λ a. owner_doubts (x ∷ h) (owner_more x h a)) (λ b. coordinator_doubts (x ∷ h) (coordinator_more x h k b)) (λ c. single_doubts (x ∷ h) (single_more x h c))

-- An owner that answered in doubt is doubt of the owner.
owner_named : (o : Outcome) (h : List Entry) → has (is_answered o) h ≡ true → (e : ℕ) × (has (is_owner e o) h ≡ true)
owner_named o [] t = absurd cc
owner_named o (x ∷ h) t = or_case (is_answered o x) (has (is_answered o) h) (λ a. now x a) (λ a. let w = owner_named o h a in (w.0, or_right (is_owner w.0 o x) (has (is_owner w.0 o) h) w.1)) t
  where
    now : (x : Entry) → is_answered o x ≡ true → (e : ℕ) × (has (is_owner e o) (x ∷ h) ≡ true)
    now (OwnerAnswered f y) a = (f.value, or_left ((f.value == f.value) && same_outcome o y) (has (is_owner f.value o) h) (and_both (f.value == f.value) (same_outcome o y) (eq_self f.value) a))
    now _ a = absurd cc

pub answered_doubt : (h : List Entry) → Keeps h → has (is_answered InDoubt) h ≡ true → owner_doubt h ≡ true
unfolding owner_doubt
answered_doubt h k t =
    let w = owner_named InDoubt h t in
    or_left (has (λ e. has (is_owner e.value InDoubt) h) (all_of handed_of h)) (ever is_lost_owner h)
    (has_more (λ f. f.value == w.0) (λ f. has (is_owner f.value InDoubt) h) (λ f q. let P : ℕ → Type 0 = λ n. has (is_owner n InDoubt) h ≡ true in subst P (sym (eqb-true f.value w.0 q)) w.1) (all_of handed_of h)
    (hand_listed w.0 h (handed_if_owner w.0 h k (has_more (is_owner w.0 InDoubt) (is_any_owner w.0) (owner_any w.0 InDoubt) h w.1))))

-- Where the coordinator says that it is in doubt, it is: who was let decide was lost, or said so.
abbrev pub is_doubt_message : Message → Bool
is_doubt_message BeginInDoubt = true
is_doubt_message VoterInDoubt = true
is_doubt_message _ = false

pub said_more : (x : Entry) (h : List Entry) → (single_doubt h || has is_one_in_doubt h) ≡ true → (single_doubt (x ∷ h) || has is_one_in_doubt (x ∷ h)) ≡ true
said_more x h t =
    or_case (single_doubt h) (has is_one_in_doubt h) (λ a. or_left (single_doubt (x ∷ h)) (has is_one_in_doubt (x ∷ h)) (single_more x h a))
    (λ a. or_right (single_doubt (x ∷ h)) (has is_one_in_doubt (x ∷ h)) (or_right (is_one_in_doubt x) (has is_one_in_doubt h) a)) t

said_of : (c : Conn) (m : Message) (h : List Entry) → Keeps h → is_doubt_message m ≡ true → has_line c Down m ≡ true → message_row h c m ≡ true → (single_doubt h || has is_one_in_doubt h) ≡ true
said_of c BeginInDoubt h k t l r = r
said_of c VoterInDoubt h k t l r = r
said_of c _ h k t l r = absurd cc

doubt_said : (c : Conn) (m : Message) (h : List Entry) → Keeps (Got c Down m ∷ h) → is_doubt_message m ≡ true → (single_doubt h || has is_one_in_doubt h) ≡ true
doubt_said c m h k t = by_got c Down is_doubt_message (λ g. single_doubt g || has is_one_in_doubt g) said_more (said_of c) m h k t

pub doubt_by_got : (c : Conn) (m : Message) (h : List Entry) → Keeps (Got c Down m ∷ h) → is_doubt_message m ≡ true → doubt h ≡ true
doubt_by_got c m h k t =
    let past = keeps_before (Got c Down m) h k in
    or_case (single_doubt h) (has is_one_in_doubt h) (λ a. single_doubts h a) (λ a. owner_doubts h (answered_doubt h past (doubted_if_one h past a))) (doubt_said c m h k t)

-- doubt of the coordinator comes after SINGLE
lost_single : (x : Entry) (h : List Entry) → is_lost_single h x ≡ true → has is_any_single_sent h ≡ true
lost_single x h t = by (ended_there x) t
  where
    by : (o : Option EnlNo) → is_deciding h o ≡ true → has is_any_single_sent h ≡ true
    by (Some e) t = has_more (is_single_sent e.value) is_any_single_sent (single_any e.value) h (and_left (has (is_single_sent e.value) h) (not (has (is_one_got e.value) h)) t)
    by None t = absurd cc

pub single_if_doubt : (h : List Entry) → single_doubt h ≡ true → has is_any_single_sent h ≡ true
unfolding single_doubt
single_if_doubt [] t = absurd cc
single_if_doubt (x ∷ h) t =
    or_right (is_any_single_sent x) (has is_any_single_sent h) (or_case (is_lost_single h x) (ever is_lost_single h) (lost_single x h) (single_if_doubt h) t)

-- and so it is sealed where the coordinator says so
pub sealed_by_doubt : (c : Conn) (m : Message) (h : List Entry) → Keeps (Got c Down m ∷ h) → is_doubt_message m ≡ true → has is_sealed h ≡ true
sealed_by_doubt c m h k t =
    let past = keeps_before (Got c Down m) h k in
    or_case (single_doubt h) (has is_one_in_doubt h) (λ a. sealed_if_yes h past (yes_if_single h past (single_if_doubt h a)))
    (λ a. sealed_if_handed h past (answered_handed InDoubt h past (doubted_if_one h past a))) (doubt_said c m h k t)

-- where the local side decided that the outcome is in doubt, it is
pub decided_doubt : (h : List Entry) → Keeps h → latest decision_of h ≡ Some InDoubt → doubt h ≡ true
decided_doubt [] k d = absurd cc
decided_doubt (Decided InDoubt ∷ h) k d = doubt_more (Decided InDoubt) h k (and_right (not (has is_decision h)) (doubt h) (newest (Decided InDoubt) h k))
decided_doubt (Decided Committed ∷ h) k d = absurd cc
decided_doubt (Decided Aborted ∷ h) k d = absurd cc
decided_doubt (x ∷ h) k d = doubt_more x h k (decided_doubt h (keeps_before x h k) d)
