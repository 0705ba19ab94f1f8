-- What the history of an enlistment with puts shows of what the store keeps for it.
use Rattle.std.proofs.Common.{ℕ, ◌≡◌, ◌==◌, ◌||◌, ◌&&◌, Bool, true, false, not, List, [], ◌∷◌, Option, Some, None, refl, sym, subst}
use Rattle.std.proofs.lemmas.Bool.{false_from_ne_true, or_left}
use Rattle.dtx_values.specs.declared.entry.Entry.{Entry}
use Rattle.dtx_values.specs.declared.entry.Entry.TheVariants.{Acked, OwnerAnswered, Told, Voted}
use Rattle.dtx_values.specs.declared.entry.Party.TheVariants.{Enl as Member}
use Rattle.dtx_values.specs.declared.note.Note.TheVariants.{Commit, Hand, Prepare, Rollback}
use Rattle.dtx_values.specs.declared.note.Reply.TheVariants.{Owner, Vote as VoteReply}
use Rattle.dtx_values.specs.declared.number.EnlNo.{EnlNo}
use Rattle.dtx_values.specs.declared.number.RmNo.{RmNo}
use Rattle.dtx_values.specs.declared.script.Line.{Line}
use Rattle.dtx_values.specs.declared.words.Outcome.{Outcome}
use Rattle.dtx_values.specs.declared.words.Outcome.TheVariants.{Aborted, Committed}
use Rattle.dtx_values.specs.declared.words.Vote.{Vote}
use Rattle.dtx_model.specs.Caused.{Manager, answers}
use Rattle.dtx_model.specs.Entries.{is_any_owner, is_final, is_good_vote, is_owner, is_vote}
use Rattle.dtx_model.specs.Outcome.{agree, is_decided_again}
use Rattle.dtx_model.specs.Words.{always, ever, has}
use Rattle.dtx_model.proofs.Bools.{and_both, and_left, and_right, not_both, not_true, or_case, or_false, or_right}
use Rattle.heard_notes.specs.Tables.{commits}
use Rattle.history_table.proofs.EntryTests.{is_enlisted}
use Rattle.history_table.proofs.Evident.{volatile_more}
use Rattle.history_table.proofs.Keeping.{Keeps, keeps_before}
use Rattle.history_table.proofs.Scans.{has_more}
use Rattle.history_table.proofs.Table.{stands_volatile}
use Rattle.history_table.proofs.Tests.{eq_self}
use Rattle.script_histories.proofs.HalfHeard.{is_told_here}
use Rattle.script_histories.proofs.OneOutcome.{all_agree}
use Rattle.store_run.proofs.Acts.{Drafted, Gone, Marked, Prepared, Status, act_of, after_act, answered}
use Rattle.store_run.proofs.Dues.{is_owed}
use Rattle.store_run.proofs.Lasting.{IsMadeBy}
use Rattle.store_run.proofs.Laws.{acked_unaborted, acked_voted, no_vote, voted_one_way, voted_unowned, votes_no}

-- What holds of a transaction's history in a run of the script in which one object answers for a manager: of its end too, and so of each part up to an entry. It keeps the table; each reply was due; what is told is told to one that was enlisted, or
-- after the decision; none of the manager's is a volatile; and whoever stands is made for this transaction.
pub record AreLaws (s : List Line) (r : RmNo) (t : ℕ) (h : List Entry) : Type 0 where
  pub keeps : Keeps h
  pub owed : always is_owed h ≡ true
  pub told : always is_told_here h ≡ true
  pub firm : (e : ℕ) → answers s (Manager r) e ≡ true → stands_volatile e h ≡ false
  pub made : (e u : ℕ) → IsMadeBy s e u → has (is_enlisted e) h ≡ true → u ≡ t

pub laws_before : (s : List Line) (r : RmNo) (t : ℕ) (x : Entry) (h : List Entry) → AreLaws s r t (x ∷ h) → AreLaws s r t h
laws_before s r t x h l = record {
  keeps = keeps_before x h l.keeps;
  owed = and_right (is_owed h x) (always is_owed h) l.owed;
  told = and_right (is_told_here h x) (always is_told_here h) l.told;
  firm = λ e a. false_from_ne_true (stands_volatile e h) (λ k. not_both (stands_volatile e (x ∷ h)) (volatile_more e x h k) (l.firm e a));
  made = λ e u m k. l.made e u m (or_right (is_enlisted e x) (has (is_enlisted e) h) k);
}

-- it tells the enlistment that the transaction aborted
abbrev pub hears_abort : ℕ → Entry → Bool
hears_abort e (Told (Member f) Aborted) = e == f.value
hears_abort e _ = false

-- what it wrote was dropped: it was told of an abort, or refused what it was asked
abbrev pub drops_it : ℕ → Entry → Bool
drops_it e x = hears_abort e x || (votes_no e x || is_owner e Aborted x)

abbrev pub Stands : ℕ → List Entry → Status → Type 0
Stands e h Drafted = (has (is_vote e) h ≡ false) × (has (commits e) h ≡ false)
Stands e h Prepared = has (commits e) h ≡ false
Stands e h Marked = has (commits e) h ≡ true
Stands e h Gone = (has (commits e) h ≡ false) × (has (drops_it e) h ≡ true)

-- the store marked what it wrote
abbrev pub is_marked : Status → Bool
is_marked Marked = true
is_marked st = false

-- an entry that is no vote of it, and doesn't say that it committed
pub stands_more : (e : ℕ) (x : Entry) (h : List Entry) (st : Status) → is_vote e x ≡ false → commits e x ≡ false → Stands e h st → Stands e (x ∷ h) st
stands_more e x h Drafted v c k = (or_false (is_vote e x) (has (is_vote e) h) v k.0, or_false (commits e x) (has (commits e) h) c k.1)
stands_more e x h Prepared v c k = or_false (commits e x) (has (commits e) h) c k
stands_more e x h Marked v c k = or_right (commits e x) (has (commits e) h) k
stands_more e x h Gone v c k = (or_false (commits e x) (has (commits e) h) c k.0, or_right (drops_it e x) (has (drops_it e) h) k.1)

-- whether it committed is whether the store marked what it wrote
pub stands_commits : (e : ℕ) (h : List Entry) (st : Status) → Stands e h st → has (commits e) h ≡ is_marked st
stands_commits e h Drafted k = k.1
stands_commits e h Prepared k = k
stands_commits e h Marked k = k
stands_commits e h Gone k = k.0

-- What each note makes of it.
vote_is : {a b : Vote} → Some (VoteReply a) ≡ Some (VoteReply b) → a ≡ b
vote_is q = cc

outcome_is : {a b : Outcome} → Some (Owner a) ≡ Some (Owner b) → a ≡ b
outcome_is q = cc

pub vote_moves : (e : ℕ) (f : EnlNo) (v : Vote) (h : List Entry) (st : Status) (next : Option ℕ) → (e == f.value) ≡ true → answered st next Prepare ≡ Some (VoteReply v) → Stands e h st
    → Stands e (Voted f v ∷ h) (after_act st (act_of st next Prepare))
vote_moves e f v h Drafted (Some k) q a w = w.1
vote_moves e f v h Drafted None q a w =
    (w.1, or_left (drops_it e (Voted f v)) (has (drops_it e) h) (subst (λ (x : Vote). drops_it e (Voted f x) ≡ true) (vote_is a) (or_left (e == f.value) false q)))
vote_moves e f v h Prepared next q a w = w
vote_moves e f v h Marked next q a w = w
vote_moves e f v h Gone next q a w = (w.0, or_right (drops_it e (Voted f v)) (has (drops_it e) h) w.1)

-- nothing that it wrote was dropped before an owner's commit, or an acknowledgement
final_abort : (e : ℕ) (x : Entry) → hears_abort e x ≡ true → is_final Aborted x ≡ true
final_abort e (Told (Member f) Aborted) k = refl
final_abort e _ k = absurd cc

final_owner : (e : ℕ) (x : Entry) → is_owner e Aborted x ≡ true → is_final Aborted x ≡ true
final_owner e (OwnerAnswered f o) k = and_right (e == f.value) _ k
final_owner e _ k = absurd cc

dropped_how : (e : ℕ) (h : List Entry) → has (drops_it e) h ≡ true → (has (is_final Aborted) h || has (votes_no e) h) ≡ true
dropped_how e [] k = absurd cc
dropped_how e (x ∷ h) k =
    or_case (drops_it e x) (has (drops_it e) h)
    (λ d. or_case (hears_abort e x) (votes_no e x || is_owner e Aborted x) (λ a. or_left (has (is_final Aborted) (x ∷ h)) (has (votes_no e) (x ∷ h)) (or_left (is_final Aborted x) (has (is_final Aborted) h) (final_abort e x a)))
    (λ b. or_case (votes_no e x) (is_owner e Aborted x) (λ a. or_right (has (is_final Aborted) (x ∷ h)) (has (votes_no e) (x ∷ h)) (or_left (votes_no e x) (has (votes_no e) h) a))
    (λ a. or_left (has (is_final Aborted) (x ∷ h)) (has (votes_no e) (x ∷ h)) (or_left (is_final Aborted x) (has (is_final Aborted) h) (final_owner e x a))) b) d)
    (λ d. or_case (has (is_final Aborted) h) (has (votes_no e) h) (λ a. or_left (has (is_final Aborted) (x ∷ h)) (has (votes_no e) (x ∷ h)) (or_right (is_final Aborted x) (has (is_final Aborted) h) a))
    (λ a. or_right (has (is_final Aborted) (x ∷ h)) (has (votes_no e) (x ∷ h)) (or_right (votes_no e x) (has (votes_no e) h) a)) (dropped_how e h d)) k

-- no two opposite ends
pub not_opposite : (h : List Entry) → Keeps h → has (is_final Committed) h ≡ true → has (is_final Aborted) h ≡ true → ⊥
unfolding agree
not_opposite h k c a =
    not_both (has (is_final Committed) h && has (is_final Aborted) h) (and_both (has (is_final Committed) h) (has (is_final Aborted) h) c a)
    (not_true (has (is_final Committed) h && has (is_final Aborted) h) (and_left (not (has (is_final Committed) h && has (is_final Aborted) h)) (not (ever is_decided_again h)) (all_agree h k)))

owner_undropped : (s : List Line) (r : RmNo) (t : ℕ) (f : EnlNo) (h : List Entry) → answers s (Manager r) f.value ≡ true → AreLaws s r t (OwnerAnswered f Committed ∷ h) → has (drops_it f.value) h ≡ true → ⊥
owner_undropped s r t f h own l d =
    or_case (has (is_final Aborted) h) (has (votes_no f.value) h)
    (λ a. not_opposite (OwnerAnswered f Committed ∷ h) l.keeps refl a)
    (λ a. not_both (has (is_any_owner f.value) (OwnerAnswered f Committed ∷ h)) (or_left (f.value == f.value) (has (is_any_owner f.value) h) (eq_self f.value))
    (voted_unowned f (OwnerAnswered f Committed ∷ h) l.keeps (l.firm f.value own) (has_more (votes_no f.value) (is_vote f.value) (no_vote f.value) h a))) (dropped_how f.value h d)

acked_undropped : (s : List Line) (r : RmNo) (t : ℕ) (f : EnlNo) (h : List Entry) → AreLaws s r t (Acked f ∷ h) → has (drops_it f.value) h ≡ true → ⊥
acked_undropped s r t f h l d =
    let k = keeps_before (Acked f) h l.keeps in
    let o = and_left (is_owed h (Acked f)) (always is_owed h) l.owed in
    or_case (has (is_final Aborted) h) (has (votes_no f.value) h) (λ a. not_both (has (is_final Aborted) h) a (acked_unaborted f h k o)) (λ a. voted_one_way f.value h k (acked_voted f h k o) a) (dropped_how f.value h d)

good_is_vote : (n : ℕ) (x : Entry) → is_good_vote n x ≡ true → is_vote n x ≡ true
good_is_vote n (Voted f v) t = and_left (n == f.value) _ t
good_is_vote n _ t = absurd cc

pub owner_moves : (s : List Line) (r : RmNo) (t : ℕ) (f : EnlNo) (o : Outcome) (h : List Entry) (st : Status) (next : Option ℕ) → answers s (Manager r) f.value ≡ true → AreLaws s r t (OwnerAnswered f o ∷ h)
    → answered st next Hand ≡ Some (Owner o) → Stands f.value h st → Stands f.value (OwnerAnswered f o ∷ h) (after_act st (act_of st next Hand))
owner_moves s r t f o h Drafted (Some k) own l a w = subst (λ (x : Outcome). has (commits f.value) (OwnerAnswered f x ∷ h) ≡ true) (outcome_is a) (or_left (f.value == f.value) (has (commits f.value) h) (eq_self f.value))
owner_moves s r t f o h Drafted None own l a w = (
  subst (λ (x : Outcome). has (commits f.value) (OwnerAnswered f x ∷ h) ≡ false) (outcome_is a) w.1,
  subst (λ (x : Outcome). has (drops_it f.value) (OwnerAnswered f x ∷ h) ≡ true) (outcome_is a) (or_left (drops_it f.value (OwnerAnswered f Aborted)) (has (drops_it f.value) h) (and_both (f.value == f.value) true (eq_self f.value) refl)),
)
owner_moves s r t f o h Prepared next own l a w = subst (λ (x : Outcome). has (commits f.value) (OwnerAnswered f x ∷ h) ≡ true) (outcome_is a) (or_left (f.value == f.value) (has (commits f.value) h) (eq_self f.value))
owner_moves s r t f o h Marked next own l a w = or_right (commits f.value (OwnerAnswered f o)) (has (commits f.value) h) w
owner_moves s r t f o h Gone next own l a w = absurd (owner_undropped s r t f h own (subst (λ (x : Outcome). AreLaws s r t (OwnerAnswered f x ∷ h)) (sym (outcome_is a)) l) w.1)

pub ack_moves : (s : List Line) (r : RmNo) (t : ℕ) (f : EnlNo) (h : List Entry) (st : Status) (next : Option ℕ) → AreLaws s r t (Acked f ∷ h) → Stands f.value h st → Stands f.value (Acked f ∷ h) (after_act st (act_of st next Commit))
ack_moves s r t f h Drafted next l w =
    absurd (not_both (has (is_vote f.value) h)
    (has_more (is_good_vote f.value) (is_vote f.value) (good_is_vote f.value) h (acked_voted f h (keeps_before (Acked f) h l.keeps) (and_left (is_owed h (Acked f)) (always is_owed h) l.owed))) w.0)
ack_moves s r t f h Prepared next l w = or_left (f.value == f.value) (has (commits f.value) h) (eq_self f.value)
ack_moves s r t f h Marked next l w = or_right (f.value == f.value) (has (commits f.value) h) w
ack_moves s r t f h Gone next l w = absurd (acked_undropped s r t f h l w.1)

pub abort_moves : (f : EnlNo) (h : List Entry) (st : Status) (next : Option ℕ) → Stands f.value h st → Stands f.value (Told (Member f) Aborted ∷ h) (after_act st (act_of st next Rollback))
abort_moves f h Drafted next w = (w.1, or_left (drops_it f.value (Told (Member f) Aborted)) (has (drops_it f.value) h) (or_left (f.value == f.value) false (eq_self f.value)))
abort_moves f h Prepared next w = (w, or_left (drops_it f.value (Told (Member f) Aborted)) (has (drops_it f.value) h) (or_left (f.value == f.value) false (eq_self f.value)))
abort_moves f h Marked next w = w
abort_moves f h Gone next w = (w.0, or_right (drops_it f.value (Told (Member f) Aborted)) (has (drops_it f.value) h) w.1)
