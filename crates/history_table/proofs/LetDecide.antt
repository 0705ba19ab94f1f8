-- Who was let decide. SINGLE is sent to the one durable of a promotion, after COMMIT for a single phase and YES: so no record comes, whoever is handed the commit of a promotion got SINGLE, and what
-- the coordinator got for an answer the owner answered.
use Rattle.std.proofs.Common.{◌≡◌, true, List, ◌==◌, [], ◌∷◌, ◌&&◌, false, Bool, refl, ℕ, ap, ◌∙◌, sym, subst}
use Rattle.std.specs.Prelude.{not, if◌then◌else◌}
use Rattle.std.proofs.lemmas.Bool.{false_from_ne_true, eqb-true}
use Rattle.dtx_values.specs.declared.entry.Entry.{Entry}
use Rattle.dtx_values.specs.declared.entry.Entry.TheVariants.{Enlisted, Got, Handed, OwnerAnswered, Promoting, Sent}
use Rattle.dtx_values.specs.declared.message.Conn.{Conn}
use Rattle.dtx_values.specs.declared.message.Conn.TheVariants.{Begin, Enl}
use Rattle.dtx_values.specs.declared.message.Dir.{Dir}
use Rattle.dtx_values.specs.declared.message.Dir.TheVariants.{Down, Up}
use Rattle.dtx_values.specs.declared.message.Message.{Message}
use Rattle.dtx_values.specs.declared.message.Message.TheVariants.{BeginCommit, BeginCommitOne, EnlistOneAborted, EnlistOneCommitted, EnlistOneInDoubt, EnlistSingle}
use Rattle.dtx_values.specs.declared.number.EnlNo.{EnlNo}
use Rattle.dtx_values.specs.declared.words.Outcome.{Outcome}
use Rattle.dtx_values.specs.declared.words.Outcome.TheVariants.{Committed, Aborted, InDoubt}
use Rattle.dtx_values.specs.Ends.{same_connection, same_direction}
use Rattle.dtx_values.specs.Lines.{has_line}
use Rattle.dtx_model.specs.Words.{has}
use Rattle.dtx_model.specs.Entries.{is_any_hand, is_any_owner, is_any_single_sent, is_commit_got, is_decision, is_hand, is_one_got, is_owner, is_promoted, is_record, is_sealed, is_single_sent, is_two_phase_got, is_yes, is_yes_got}
use Rattle.dtx_model.specs.Outcome.{durables, ready}
use Rattle.dtx_model.specs.Promotes.{is_promoting}
use Rattle.dtx_model.proofs.Bools.{and_both, and_left, and_right, not_both, not_true, or_case, or_right}
use Rattle.history_table.proofs.Tests.{first_of_four, first_of_five, second_of_four, second_of_five, second_of_three}
use Rattle.history_table.proofs.EntryTests.{is_answer, is_only}
use Rattle.history_table.proofs.Table.{ends_with, is_abort_decided, is_commit_sent, is_lone_owner, is_one_aborted, is_one_committed, is_one_in_doubt, is_one_phase_got, is_single_got, may_answer, may_commit, may_hand, message_row, rule}
use Rattle.history_table.proofs.Keeping.{Keeps, arrived, before, earlier, keeps_before, newest, third_of_three}
use Rattle.history_table.proofs.Scans.{has_less, has_more}
use Rattle.history_table.proofs.Messages.{COMMIT, COMMIT_ONE, COMMIT_TWO, SINGLE}
use Rattle.history_table.proofs.Crossed.{got_sent, is_got_on, is_sent_on}
use Rattle.history_table.proofs.Sendings.{by_got, commit_of, ends_has, from_got_keeping, promoted_if_commit, sent_row, single_row, yes_if_got}
use Rattle.history_table.proofs.Handed.{answered_any, hand_any, hand_name, is_answered}
use Rattle.history_table.proofs.Recording.{can_two_phase, enlisted_unsealed, if_record}

-- Who is durable or promotable stays so after the seal.
pub durables_more : (x : Entry) (h : List Entry) → rule h x ≡ true → has is_sealed h ≡ true → durables (x ∷ h) ≡ durables h
durables_more (Enlisted e c) h r s = absurd (not_both (has is_sealed h) s (enlisted_unsealed e c h r))
durables_more _ h r s = refl

-- COMMIT for a single phase is of one durable that can own the commit, COMMIT for two phases isn't
abbrev pub is_sealed_lone : List Entry → Bool
is_sealed_lone h = has is_sealed h && is_lone_owner (durables h)

abbrev pub is_sealed_joint : List Entry → Bool
is_sealed_joint h = has is_sealed h && not (is_lone_owner (durables h))

lone_more : (x : Entry) (h : List Entry) → Keeps (x ∷ h) → is_sealed_lone h ≡ true → is_sealed_lone (x ∷ h) ≡ true
lone_more x h k t =
    let s = and_left (has is_sealed h) (is_lone_owner (durables h)) t in
    and_both (has is_sealed (x ∷ h)) (is_lone_owner (durables (x ∷ h))) (or_right (is_sealed x) (has is_sealed h) s)
    (ap is_lone_owner (durables_more x h (newest x h k) s) ∙ and_right (has is_sealed h) (is_lone_owner (durables h)) t)

joint_more : (x : Entry) (h : List Entry) → Keeps (x ∷ h) → is_sealed_joint h ≡ true → is_sealed_joint (x ∷ h) ≡ true
joint_more x h k t =
    let s = and_left (has is_sealed h) (not (is_lone_owner (durables h))) t in
    and_both (has is_sealed (x ∷ h)) (not (is_lone_owner (durables (x ∷ h)))) (or_right (is_sealed x) (has is_sealed h) s)
    (ap (λ ds. not (is_lone_owner ds)) (durables_more x h (newest x h k) s) ∙ and_right (has is_sealed h) (not (is_lone_owner (durables h))) t)

one_of : (m : Message) (h : List Entry) → Keeps h → COMMIT_ONE m ≡ true → has_line Begin Up m ≡ true → message_row h Begin m ≡ true → is_sealed_lone h ≡ true
one_of BeginCommitOne h k t l r =
    and_both (has is_sealed h) (is_lone_owner (durables h)) (first_of_four (has is_sealed h) (has is_promoted h) (not (has is_decision h)) _ (and_left (may_commit h) (is_lone_owner (durables h)) r))
    (and_right (may_commit h) (is_lone_owner (durables h)) r)
one_of _ h k t l r = absurd cc

two_of : (m : Message) (h : List Entry) → Keeps h → COMMIT_TWO m ≡ true → has_line Begin Up m ≡ true → message_row h Begin m ≡ true → is_sealed_joint h ≡ true
two_of BeginCommit h k t l r =
    and_both (has is_sealed h) (not (is_lone_owner (durables h))) (first_of_four (has is_sealed h) (has is_promoted h) (not (has is_decision h)) _ (and_left (may_commit h) (not (is_lone_owner (durables h))) r))
    (and_right (may_commit h) (not (is_lone_owner (durables h))) r)
two_of _ h k t l r = absurd cc

one_got_on : (x : Entry) → is_one_phase_got x ≡ true → is_got_on Begin Up COMMIT_ONE x ≡ true
one_got_on (Got Begin Up BeginCommitOne) t = refl
one_got_on _ t = absurd cc

two_got_on : (x : Entry) → is_two_phase_got x ≡ true → is_got_on Begin Up COMMIT_TWO x ≡ true
two_got_on (Got Begin Up BeginCommit) t = refl
two_got_on _ t = absurd cc

pub lone_if_one : (h : List Entry) → Keeps h → has is_one_phase_got h ≡ true → is_sealed_lone h ≡ true
lone_if_one h k t = from_got_keeping Begin Up COMMIT_ONE is_sealed_lone lone_more one_of h k (has_more is_one_phase_got (is_got_on Begin Up COMMIT_ONE) one_got_on h t)

pub joint_if_two : (h : List Entry) → Keeps h → has is_two_phase_got h ≡ true → is_sealed_joint h ≡ true
joint_if_two h k t = from_got_keeping Begin Up COMMIT_TWO is_sealed_joint joint_more two_of h k (has_more is_two_phase_got (is_got_on Begin Up COMMIT_TWO) two_got_on h t)

-- so not both are got
pub one_apart : (h : List Entry) → Keeps h → has is_one_phase_got h ≡ true → has is_two_phase_got h ≡ false
one_apart h k t =
    false_from_ne_true (has is_two_phase_got h) (λ s. not_both (is_lone_owner (durables h)) (and_right (has is_sealed h) (is_lone_owner (durables h)) (lone_if_one h k t))
    (not_true (is_lone_owner (durables h)) (and_right (has is_sealed h) (not (is_lone_owner (durables h))) (joint_if_two h k s))))

pub one_phase_commit : (x : Entry) → is_one_phase_got x ≡ true → is_commit_got x ≡ true
one_phase_commit (Got Begin Up BeginCommitOne) t = refl
one_phase_commit _ t = absurd cc

-- SINGLE was sent after COMMIT for a single phase and YES.
single_one : (x : Entry) (h : List Entry) → Keeps h → rule h x ≡ true → is_any_single_sent x ≡ true → has is_one_phase_got h ≡ true
single_one x h k r t = let w = single_row x h r t in first_of_four (has is_one_phase_got h) (has is_yes_got h) _ _ w.2

single_yes : (x : Entry) (h : List Entry) → Keeps h → rule h x ≡ true → is_any_single_sent x ≡ true → has is_yes_got h ≡ true
single_yes x h k r t = let w = single_row x h r t in second_of_four (has is_one_phase_got h) (has is_yes_got h) _ _ w.2

pub one_if_single : (h : List Entry) → Keeps h → has is_any_single_sent h ≡ true → has is_one_phase_got h ≡ true
one_if_single h k t = before is_any_single_sent is_one_phase_got single_one h k t

pub yes_got_if_single : (h : List Entry) → Keeps h → has is_any_single_sent h ≡ true → has is_yes_got h ≡ true
yes_got_if_single h k t = before is_any_single_sent is_yes_got single_yes h k t

pub yes_if_single : (h : List Entry) → Keeps h → has is_any_single_sent h ≡ true → has is_yes h ≡ true
yes_if_single h k t = yes_if_got h k (yes_got_if_single h k t)

pub commit_if_single : (h : List Entry) → Keeps h → has is_any_single_sent h ≡ true → has is_commit_got h ≡ true
commit_if_single h k t = has_more is_one_phase_got is_commit_got one_phase_commit h (one_if_single h k t)

pub promoted_if_single : (h : List Entry) → Keeps h → has is_any_single_sent h ≡ true → has is_promoted h ≡ true
promoted_if_single h k t = promoted_if_commit h k (commit_if_single h k t)

-- COMMIT was sent only of what is promoted
pub promoted_if_sent : (h : List Entry) → Keeps h → has is_commit_sent h ≡ true → has is_promoted h ≡ true
promoted_if_sent h k s = earlier (is_sent_on Begin Up COMMIT) (λ g. has is_promoted g) (λ x g t. or_right (is_promoted x) (has is_promoted g) t) (sent_row Begin Up COMMIT (λ g. has is_promoted g) commit_of) h k s

-- and no record comes then
pub joint_if_record : (h : List Entry) → Keeps h → has is_record h ≡ true → is_sealed_joint h ≡ true
joint_if_record h k t = if_record is_sealed_joint joint_more (λ g w c. joint_if_two g w (can_two_phase g c)) h k t

pub single_unrecorded : (h : List Entry) → Keeps h → has is_any_single_sent h ≡ true → has is_record h ≡ false
single_unrecorded h k t =
    false_from_ne_true (has is_record h) (λ s. not_both (is_lone_owner (durables h)) (and_right (has is_sealed h) (is_lone_owner (durables h)) (lone_if_one h k (one_if_single h k t)))
    (not_true (is_lone_owner (durables h)) (and_right (has is_sealed h) (not (is_lone_owner (durables h))) (joint_if_record h k s))))

pub single_any : (e : ℕ) (x : Entry) → is_single_sent e x ≡ true → is_any_single_sent x ≡ true
single_any e (Sent (Enl f) Down EnlistSingle) t = refl
single_any e _ t = absurd cc

-- It is handed over only where it is sealed.
hand_sealed : (x : Entry) (h : List Entry) → Keeps h → rule h x ≡ true → is_any_hand x ≡ true → has is_sealed h ≡ true
hand_sealed (Handed e) h k r t = second_of_five (may_hand h e.value) (has is_sealed h) (ready h) (is_only e.value (durables h)) _ r
hand_sealed _ h k r t = absurd cc

pub sealed_if_handed : (h : List Entry) → Keeps h → has is_any_hand h ≡ true → has is_sealed h ≡ true
sealed_if_handed h k s = before is_any_hand is_sealed hand_sealed h k s

-- Of a promotion it is handed over by SINGLE.
abbrev is_single_on : EnlNo → Entry → Bool
is_single_on e x = is_sent_on (Enl e) Down SINGLE x

sent_single : (e : EnlNo) (x : Entry) → is_single_on e x ≡ true → is_single_sent e.value x ≡ true
sent_single e (Sent c d m) t =
    let both = and_left (same_connection (Enl e) c && same_direction Down d) (SINGLE m) t in
    by c d m (and_left (same_connection (Enl e) c) (same_direction Down d) both) (and_right (same_connection (Enl e) c) (same_direction Down d) both)
    (and_right (same_connection (Enl e) c && same_direction Down d) (SINGLE m) t)
  where
    by : (c : Conn) (d : Dir) (m : Message) → same_connection (Enl e) c ≡ true → same_direction Down d ≡ true → SINGLE m ≡ true → is_single_sent e.value (Sent c d m) ≡ true
    by (Enl f) Down EnlistSingle s w t = s
    by _ _ _ s w t = absurd cc
sent_single e _ t = absurd cc

pub got_single : (e : ℕ) (h : List Entry) → Keeps h → ends_with (is_single_got e) h ≡ true → has (is_single_sent e) h ≡ true
got_single e (Got (Enl f) Down EnlistSingle ∷ h) k t =
    subst (λ n. has (is_single_sent n) h ≡ true) (sym (eqb-true e f.value t))
    (has_more (is_single_on f) (is_single_sent f.value) (sent_single f) h (got_sent (Enl f) Down EnlistSingle SINGLE h k.wires.0 refl))
got_single e _ k t = absurd cc

pub single_if_handed : (e : ℕ) (h : List Entry) → Keeps h → has is_promoting h ≡ true → has (is_hand e) h ≡ true → has (is_single_sent e) h ≡ true
single_if_handed e [] k p t = absurd cc
single_if_handed e (Promoting c ∷ h) k p t =
    absurd (not_both (has is_sealed h) (sealed_if_handed h (keeps_before (Promoting c) h k) (has_more (is_hand e) is_any_hand (hand_any e) h t))
    (not_true (has is_sealed h) (second_of_three (not (has is_decision h)) (not (has is_sealed h)) (not (has is_promoting h)) (newest (Promoting c) h k))))
single_if_handed e (Handed f ∷ h) k p t =
    or_case (e == f.value) (has (is_hand e) h)
    (λ a. subst (λ n. has (is_single_sent n) h ≡ true) (sym (eqb-true e f.value a))
    (got_single f.value h (keeps_before (Handed f) h k) (by (has is_promoting h) p (first_of_five (may_hand h f.value) (has is_sealed h) (ready h) (is_only f.value (durables h)) _ (newest (Handed f) h k)))))
    (λ a. single_if_handed e h (keeps_before (Handed f) h k) p a) t
  where
    by : (b : Bool) → b ≡ true → (if b then ends_with (is_single_got f.value) h && not (is_abort_decided h) else not (has is_decision h)) ≡ true → ends_with (is_single_got f.value) h ≡ true
    by true q r = and_left (ends_with (is_single_got f.value) h) (not (is_abort_decided h)) r
    by false q r = absurd cc
single_if_handed e (x ∷ h) k p t = or_right (is_single_sent e x) (has (is_single_sent e) h) (single_if_handed e h (keeps_before x h k) p t)

pub any_single_if_handed : (e : ℕ) (h : List Entry) → Keeps h → has is_promoting h ≡ true → has (is_hand e) h ≡ true → has is_any_single_sent h ≡ true
any_single_if_handed e h k p t = has_more (is_single_sent e) is_any_single_sent (single_any e) h (single_if_handed e h k p t)

-- Who answered was handed the commit.
answer_handed : (e : ℕ) (x : Entry) (h : List Entry) → Keeps h → rule h x ≡ true → is_any_owner e x ≡ true → has (is_hand e) h ≡ true
answer_handed e (OwnerAnswered f y) h k r t =
    subst (λ n. has (is_hand n) h ≡ true) (sym (eqb-true e f.value t)) (second_of_three (may_answer h) (has (is_hand f.value) h) (not (has is_answer h)) r)
answer_handed e _ h k r t = absurd cc

pub handed_if_owner : (e : ℕ) (h : List Entry) → Keeps h → has (is_any_owner e) h ≡ true → has (is_hand e) h ≡ true
handed_if_owner e h k t = before (is_any_owner e) (is_hand e) (answer_handed e) h k t

pub handed_if_answered : (h : List Entry) → Keeps h → has is_answer h ≡ true → has is_any_hand h ≡ true
handed_if_answered h k t = before is_answer is_any_hand some h k t
  where
    some : (x : Entry) (h : List Entry) → Keeps h → rule h x ≡ true → is_answer x ≡ true → has is_any_hand h ≡ true
    some (OwnerAnswered f y) h k r t = has_more (is_hand f.value) is_any_hand (hand_any f.value) h (second_of_three (may_answer h) (has (is_hand f.value) h) (not (has is_answer h)) r)
    some _ h k r t = absurd cc

pub answered_handed : (o : Outcome) (h : List Entry) → Keeps h → has (is_answered o) h ≡ true → has is_any_hand h ≡ true
answered_handed o h k t = handed_if_answered h k (has_more (is_answered o) is_answer (answered_any o) h t)

-- an owner that answered answers once
unanswered : (o : Outcome) (e : EnlNo) (y : Outcome) (h : List Entry) → rule h (OwnerAnswered e y) ≡ true → has (is_answered o) h ≡ false
unanswered o e y h r =
    has_less (is_answered o) is_answer (answered_any o) h (not_true (has is_answer h) (third_of_three (may_answer h) (has (is_hand e.value) h) (not (has is_answer h)) r))

pub answered_once : (h : List Entry) → Keeps h → has (is_answered Aborted) h ≡ true → has (is_answered Committed) h ≡ false
answered_once [] k t = refl
answered_once (OwnerAnswered f Committed ∷ h) k t = absurd (not_both (has (is_answered Aborted) h) t (unanswered Aborted f Committed h (newest (OwnerAnswered f Committed) h k)))
answered_once (OwnerAnswered f Aborted ∷ h) k t = unanswered Committed f Aborted h (newest (OwnerAnswered f Aborted) h k)
answered_once (x ∷ h) k t = answered_once h (keeps_before x h k) t

-- What the coordinator got for an answer, the owner answered.
abbrev ONE : Outcome → Message → Bool
ONE Committed EnlistOneCommitted = true
ONE Aborted EnlistOneAborted = true
ONE InDoubt EnlistOneInDoubt = true
ONE _ _ = false

one_row : (e : EnlNo) (o : Outcome) (m : Message) (h : List Entry) → Keeps h → ONE o m ≡ true → has_line (Enl e) Up m ≡ true → message_row h (Enl e) m ≡ true → has (is_owner e.value o) h ≡ true
one_row e Committed EnlistOneCommitted h k t l r = ends_has (is_owner e.value Committed) h r
one_row e Aborted EnlistOneAborted h k t l r = ends_has (is_owner e.value Aborted) h r
one_row e InDoubt EnlistOneInDoubt h k t l r = ends_has (is_owner e.value InDoubt) h r
one_row e _ _ h k t l r = absurd cc

owner_by_got : (e : EnlNo) (o : Outcome) (m : Message) (h : List Entry) → Keeps (Got (Enl e) Up m ∷ h) → ONE o m ≡ true → has (is_owner e.value o) h ≡ true
owner_by_got e o m h k t = by_got (Enl e) Up (ONE o) (λ g. has (is_owner e.value o) g) (λ x g q. or_right (is_owner e.value o x) (has (is_owner e.value o) g) q) (one_row e o) m h k t

pub owner_answered : (e : ℕ) (o : Outcome) (x : Entry) → is_owner e o x ≡ true → is_answered o x ≡ true
owner_answered e o (OwnerAnswered f y) t = and_right (e == f.value) _ t
owner_answered e o _ t = absurd cc

pub owner_any : (e : ℕ) (o : Outcome) (x : Entry) → is_owner e o x ≡ true → is_any_owner e x ≡ true
owner_any e o (OwnerAnswered f y) t = and_left (e == f.value) _ t
owner_any e o _ t = absurd cc

committed_new : (x : Entry) (h : List Entry) → Keeps (x ∷ h) → is_one_committed x ≡ true → has (is_answered Committed) h ≡ true
committed_new (Got (Enl e) Up EnlistOneCommitted) h k t =
    has_more (is_owner e.value Committed) (is_answered Committed) (owner_answered e.value Committed) h (owner_by_got e Committed EnlistOneCommitted h k refl)
committed_new _ h k t = absurd cc

pub committed_if_one : (h : List Entry) → Keeps h → has is_one_committed h ≡ true → has (is_answered Committed) h ≡ true
committed_if_one h k t = arrived is_one_committed (λ g. has (is_answered Committed) g) (λ x g q. or_right (is_answered Committed x) (has (is_answered Committed) g) q) committed_new h k t

aborted_new : (x : Entry) (h : List Entry) → Keeps (x ∷ h) → is_one_aborted x ≡ true → has (is_answered Aborted) h ≡ true
aborted_new (Got (Enl e) Up EnlistOneAborted) h k t =
    has_more (is_owner e.value Aborted) (is_answered Aborted) (owner_answered e.value Aborted) h (owner_by_got e Aborted EnlistOneAborted h k refl)
aborted_new _ h k t = absurd cc

pub aborted_if_one : (h : List Entry) → Keeps h → has is_one_aborted h ≡ true → has (is_answered Aborted) h ≡ true
aborted_if_one h k t = arrived is_one_aborted (λ g. has (is_answered Aborted) g) (λ x g q. or_right (is_answered Aborted x) (has (is_answered Aborted) g) q) aborted_new h k t

doubted_new : (x : Entry) (h : List Entry) → Keeps (x ∷ h) → is_one_in_doubt x ≡ true → has (is_answered InDoubt) h ≡ true
doubted_new (Got (Enl e) Up EnlistOneInDoubt) h k t =
    has_more (is_owner e.value InDoubt) (is_answered InDoubt) (owner_answered e.value InDoubt) h (owner_by_got e InDoubt EnlistOneInDoubt h k refl)
doubted_new _ h k t = absurd cc

pub doubted_if_one : (h : List Entry) → Keeps h → has is_one_in_doubt h ≡ true → has (is_answered InDoubt) h ≡ true
doubted_if_one h k t = arrived is_one_in_doubt (λ g. has (is_answered InDoubt) g) (λ x g q. or_right (is_answered InDoubt x) (has (is_answered InDoubt) g) q) doubted_new h k t

-- and it got SINGLE before
pub owner_new : (e : ℕ) (x : Entry) (h : List Entry) → Keeps (x ∷ h) → is_one_got e x ≡ true → has (is_any_owner e) h ≡ true
owner_new e (Got (Enl f) Up EnlistOneCommitted) h k t =
    subst (λ n. has (is_any_owner n) h ≡ true) (sym (eqb-true e f.value t))
    (has_more (is_owner f.value Committed) (is_any_owner f.value) (owner_any f.value Committed) h (owner_by_got f Committed EnlistOneCommitted h k refl))
owner_new e (Got (Enl f) Up EnlistOneAborted) h k t =
    subst (λ n. has (is_any_owner n) h ≡ true) (sym (eqb-true e f.value t))
    (has_more (is_owner f.value Aborted) (is_any_owner f.value) (owner_any f.value Aborted) h (owner_by_got f Aborted EnlistOneAborted h k refl))
owner_new e (Got (Enl f) Up EnlistOneInDoubt) h k t =
    subst (λ n. has (is_any_owner n) h ≡ true) (sym (eqb-true e f.value t))
    (has_more (is_owner f.value InDoubt) (is_any_owner f.value) (owner_any f.value InDoubt) h (owner_by_got f InDoubt EnlistOneInDoubt h k refl))
owner_new e _ h k t = absurd cc

pub owner_if_one : (e : ℕ) (h : List Entry) → Keeps h → has (is_one_got e) h ≡ true → has (is_any_owner e) h ≡ true
owner_if_one e h k t = arrived (is_one_got e) (λ g. has (is_any_owner e) g) (λ x g q. or_right (is_any_owner e x) (has (is_any_owner e) g) q) (owner_new e) h k t

-- Where nobody was let decide, and a promotion began, nobody is handed the commit.
pub unsingle_unhanded : (h : List Entry) → Keeps h → has is_promoting h ≡ true → has is_any_single_sent h ≡ false → has is_any_hand h ≡ false
unsingle_unhanded h k p n = false_from_ne_true (has is_any_hand h) (λ t. let w = hand_name h t in not_both (has is_any_single_sent h) (any_single_if_handed w.0 h k p w.1) n)

-- so it is before the local yes
pub unyes_unhanded : (h : List Entry) → Keeps h → has is_promoting h ≡ true → has is_yes h ≡ false → has is_any_hand h ≡ false
unyes_unhanded h k p n =
    unsingle_unhanded h k p (false_from_ne_true (has is_any_single_sent h) (λ t. not_both (has is_yes h) (yes_if_single h k t) n))
