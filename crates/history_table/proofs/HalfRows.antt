-- The rows of enlistments and clones, and what they have to do with the entries of a history that keeps the table, promoted or not.
use Rattle.std.proofs.Common.{◌≡◌, true, false, ◌&&◌, List, ℕ, ◌∷◌, refl, ◌==◌, Bool, ◌||◌, [], sym, subst, Some}
use Rattle.std.specs.Prelude.{not}
use Rattle.std.specs.List.{slice_get}
use Rattle.std.proofs.lemmas.Bool.{eqb-true, or_left, false_from_ne_true}
use Rattle.dtx_values.specs.declared.number.CloneNo.{CloneNo}
use Rattle.dtx_values.specs.declared.number.EnlNo.{EnlNo}
use Rattle.dtx_values.specs.declared.entry.Ask.TheVariants.{Prepare}
use Rattle.dtx_values.specs.declared.entry.Entry.{Entry}
use Rattle.dtx_values.specs.declared.entry.Entry.TheVariants.{Enlisted, Voted, Got, Asked, Cloned, Completed, CommitAsked}
use Rattle.dtx_values.specs.declared.words.Class.{Class}
use Rattle.dtx_values.specs.declared.words.CloneKind.{CloneKind}
use Rattle.dtx_values.specs.declared.words.Vote.{Vote}
use Rattle.dtx_values.specs.Row.{is_marked, has_voted, is_of}
use Rattle.dtx_values.specs.declared.row.Row.{Row}
use Rattle.dtx_values.specs.Clones.{blocks, is_open_block, is_open_rollback}
use Rattle.dtx_values.specs.Class.{is_volatile, is_zero}
use Rattle.dtx_values.specs.Waves.{zeros_voted, all_voted}
use Rattle.dtx_values.specs.Vote.{voted_well}
use Rattle.dtx_values.specs.declared.message.Conn.TheVariants.{Enl as OnEnl, Begin}
use Rattle.dtx_values.specs.declared.message.Dir.TheVariants.{Up, Down}
use Rattle.dtx_values.specs.declared.message.Message.{Message}
use Rattle.dtx_values.specs.declared.message.Message.TheVariants.{BeginCommit, BeginCommitOne, EnlistPrepare}
use Rattle.dtx_values.specs.Lines.{has_line}
use Rattle.dtx_values.specs.Table.{voted}
use Rattle.dtx_model.specs.Words.{has, each, all_of}
use Rattle.dtx_model.specs.Entries.{is_decision, is_sealed, is_asked, is_vote, is_lost, is_promoted, is_commit_got, is_commit, is_good_vote, is_two_phase_got, clone_of}
use Rattle.dtx_model.specs.Observed.{rows, clone_rows}
use Rattle.dtx_model.specs.Outcome.{enlisted, is_complete, is_veto}
use Rattle.dtx_model.proofs.Bools.{not_true, or_right, and_left, and_right, or_case, or_false, not_both}
use Rattle.dtx_model.specs.Wires.{opens}
use Rattle.history_table.proofs.Tests.{third_of_five, first_of_five, first_of_four, first_of_three}
use Rattle.history_table.proofs.EntryTests.{is_enlisted, is_volatile_of, is_cloned, zeros_cast}
use Rattle.history_table.proofs.Table.{may_commit, rule, class_row, stands_volatile, message_row, ends_with, is_prepare_got, ask_row}
use Rattle.history_table.proofs.Keeping.{Keeps, earlier, keeps_before, newest}
use Rattle.history_table.proofs.Messages.{COMMIT, PREPARE}
use Rattle.history_table.proofs.Scans.{has_more}
use Rattle.history_table.proofs.Crossed.{is_got_on}
use Rattle.history_table.proofs.Sendings.{from_got, commit_got_on, by_got}
use Rattle.history_table.proofs.TableRows.{Ordered, unvoted_by, row_by, class_by, evident_by, open_by, vetoed_by, unvoted_row_by, vote_by}
use Rattle.history_table.proofs.Recording.{enlisted_unsealed, two_phase_commit}

-- what is enlisted wasn't before
pub enlisted_once : (e : EnlNo) (c : Class) (h : List Entry) → rule h (Enlisted e c) ≡ true → has (is_enlisted e.value) h ≡ false
enlisted_once e c h r =
    not_true (has (is_enlisted e.value) h)
    (third_of_five (not (has is_decision h)) (not (has is_sealed h)) (not (has (is_enlisted e.value) h)) (class_row h e.value c) (not (is_volatile c && has (opens (OnEnl e)) h)) r)

-- what votes was enlisted
pub voted_enlisted : (e : EnlNo) (v : Vote) (h : List Entry) → rule h (Voted e v) ≡ true → has (is_enlisted e.value) h ≡ true
voted_enlisted e v h r = first_of_five (has (is_enlisted e.value) h) (has (is_asked e.value) h) (not (has (is_vote e.value) h)) (not (has (is_lost e.value) h)) (not (stands_volatile e.value h && has is_decision h)) r

-- what votes hadn't
pub voted_once : (e : EnlNo) (v : Vote) (h : List Entry) → rule h (Voted e v) ≡ true → has (is_vote e.value) h ≡ false
voted_once e v h r =
    not_true (has (is_vote e.value) h) (third_of_five (has (is_enlisted e.value) h) (has (is_asked e.value) h) (not (has (is_vote e.value) h)) (not (has (is_lost e.value) h)) (not (stands_volatile e.value h && has is_decision h)) r)

-- It was sealed where the coordinator got COMMIT, and so where an enlistment got PREPARE.
pub commit_sealed : (m : Message) (h : List Entry) → Keeps h → COMMIT m ≡ true → has_line Begin Up m ≡ true → message_row h Begin m ≡ true → has is_sealed h ≡ true
commit_sealed BeginCommit h k t l r = first_of_four (has is_sealed h) (has is_promoted h) (not (has is_decision h)) _ (and_left (may_commit h) _ r)
commit_sealed BeginCommitOne h k t l r = first_of_four (has is_sealed h) (has is_promoted h) (not (has is_decision h)) _ (and_left (may_commit h) _ r)
commit_sealed _ h k t l r = absurd cc

pub sealed_if_commit : (h : List Entry) → Keeps h → has is_commit_got h ≡ true → has is_sealed h ≡ true
sealed_if_commit h k s =
    from_got Begin Up COMMIT (λ g. has is_sealed g) (λ x g t. or_right (is_sealed x) (has is_sealed g) t) commit_sealed h k
    (has_more is_commit_got (is_got_on Begin Up COMMIT) commit_got_on h s)

prepare_of : (e : EnlNo) (m : Message) (h : List Entry) → Keeps h → PREPARE m ≡ true → has_line (OnEnl e) Down m ≡ true → message_row h (OnEnl e) m ≡ true → has is_sealed h ≡ true
prepare_of e EnlistPrepare h k t l r = sealed_if_commit h k (has_more is_two_phase_got is_commit_got two_phase_commit h r)
prepare_of e _ h k t l r = absurd cc

pub sealed_by_prepare : (n : ℕ) (h : List Entry) → Keeps h → ends_with (is_prepare_got n) h ≡ true → has is_sealed h ≡ true
sealed_by_prepare n (Got (OnEnl e) Down EnlistPrepare ∷ h) k t =
    by_got (OnEnl e) Down PREPARE (λ g. has is_sealed g) (λ x g t. or_right (is_sealed x) (has is_sealed g) t) (prepare_of e) EnlistPrepare h k refl
sealed_by_prepare n _ k t = absurd cc

-- a volatile that stands was enlisted
pub volatile_stands : (n : ℕ) (h : List Entry) → stands_volatile n h ≡ true → has (is_enlisted n) h ≡ true
volatile_stands n [] t = absurd cc
volatile_stands n (Enlisted e c ∷ h) t = step (n == e.value) (is_volatile c) (has (is_volatile_of n) (enlisted h)) (has (is_enlisted n) h) (volatile_stands n h) t
  where
    step : (s v r b : Bool) → (r ≡ true → b ≡ true) → ((s && v) || r) ≡ true → (s || b) ≡ true
    step true v r b f k = refl
    step false v r b f k = f k
volatile_stands n (x ∷ h) t = volatile_stands n h t

-- what was asked was enlisted, or it is sealed
asked_now : (n : ℕ) (x : Entry) (h : List Entry) → Keeps h → rule h x ≡ true → is_asked n x ≡ true → (has (is_enlisted n) h || has is_sealed h) ≡ true
asked_now n (Asked f Prepare) h k r t =
    let same : n ≡ f.value = eqb-true n f.value t in
    subst (λ m. (has (is_enlisted m) h || has is_sealed h) ≡ true) (sym same)
    (or_case (stands_volatile f.value h && has is_commit h && not (has is_decision h)) (ends_with (is_prepare_got f.value) h)
    (λ t. or_left (has (is_enlisted f.value) h) (has is_sealed h) (volatile_stands f.value h (first_of_three (stands_volatile f.value h) (has is_commit h) (not (has is_decision h)) t)))
    (λ t. or_right (has (is_enlisted f.value) h) (has is_sealed h) (sealed_by_prepare f.value h k t)) (and_right (not (has (is_asked f.value) h)) (ask_row h f.value) r))
asked_now n _ h k r t = absurd cc

asked_there : (n : ℕ) (h : List Entry) → Keeps h → has (is_asked n) h ≡ true → (has (is_enlisted n) h || has is_sealed h) ≡ true
asked_there n h k s =
    earlier (is_asked n) (λ g. has (is_enlisted n) g || has is_sealed g)
    (λ x g t. or_case (has (is_enlisted n) g) (has is_sealed g) (λ v. or_left (has (is_enlisted n) (x ∷ g)) (has is_sealed (x ∷ g)) (or_right (is_enlisted n x) (has (is_enlisted n) g) v))
    (λ p. or_right (has (is_enlisted n) (x ∷ g)) (has is_sealed (x ∷ g)) (or_right (is_sealed x) (has is_sealed g) p)) t) (asked_now n) h k s

-- before the seal what wasn't enlisted wasn't asked
pub unenlisted_unasked : (n : ℕ) (h : List Entry) → Keeps h → has (is_enlisted n) h ≡ false → has is_sealed h ≡ false → has (is_asked n) h ≡ false
unenlisted_unasked n h k e s = false_from_ne_true (has (is_asked n) h) (λ t. not_both (has (is_enlisted n) h || has is_sealed h) (asked_there n h k t) (or_false (has (is_enlisted n) h) (has is_sealed h) e s))

-- what is cloned wasn't before
cloned_once : (c : CloneNo) (k : CloneKind) (h : List Entry) → rule h (Cloned c k) ≡ true → has (is_cloned c.value) h ≡ false
cloned_once c k h r = not_true (has (is_cloned c.value) h) (and_right (not (has is_decision h) && not (has is_commit h)) (not (has (is_cloned c.value) h)) r)

-- what is completed was cloned
completed_cloned : (c : CloneNo) (h : List Entry) → rule h (Completed c) ≡ true → has (is_cloned c.value) h ≡ true
completed_cloned c h r = and_right (not (has is_decision h)) (has (is_cloned c.value) h) r

-- its entries follow one another
pub keeps_order : Ordered Keeps
keeps_order =
    record {
      before = λ x h r. keeps_before x h r;
      new = λ e c h r. enlisted_once e c h (newest (Enlisted e c) h r);
      unasked = λ e c h r. unenlisted_unasked e.value h (keeps_before (Enlisted e c) h r) (enlisted_once e c h (newest (Enlisted e c) h r)) (enlisted_unsealed e c h (newest (Enlisted e c) h r));
      enlisted = λ e v h r. voted_enlisted e v h (newest (Voted e v) h r);
      once = λ e v h r. voted_once e v h (newest (Voted e v) h r);
      unmade = λ c k h r. cloned_once c k h (newest (Cloned c k) h r);
      made = λ c h r. completed_cloned c h (newest (Completed c) h r);
    }

-- what wasn't enlisted didn't vote
pub unenlisted_unvoted : (n : ℕ) (h : List Entry) → Keeps h → has (is_enlisted n) h ≡ false → has (is_vote n) h ≡ false
unenlisted_unvoted n h r e = unvoted_by keeps_order n h r e

-- the row is marked where its enlistment was asked to prepare
pub row_marked : (h : List Entry) (k : ℕ) (x : Row) → Keeps h → slice_get (rows h) k ≡ Some x → is_marked x ≡ has (is_asked x.number.value) h
row_marked h k x r e = (row_by keeps_order h k x r e).marked

-- the row has a vote where its enlistment voted
pub row_voted : (h : List Entry) (k : ℕ) (x : Row) → Keeps h → slice_get (rows h) k ≡ Some x → has_voted x ≡ has (is_vote x.number.value) h
row_voted h k x r e = (row_by keeps_order h k x r e).voted

-- the row at a place is of an enlistment of the history
pub rows_enlisted : (h : List Entry) (k : ℕ) (x : Row) → Keeps h → slice_get (rows h) k ≡ Some x → has (is_enlisted x.number.value) h ≡ true
rows_enlisted h k x r e = (row_by keeps_order h k x r e).stands

-- each Zero row has a vote where each Zero enlistment voted
pub zeros_seen : (h : List Entry) → Keeps h → zeros_voted (rows h) ≡ zeros_cast h
zeros_seen h r = class_by keeps_order is_zero h r

-- each volatile row has a vote where each volatile enlistment voted
pub all_voted_seen : (h : List Entry) → Keeps h → all_voted (rows h) ≡ each (λ x. not (is_volatile x.1) || has (is_vote x.0.value) h) (enlisted h)
all_voted_seen h r = class_by keeps_order is_volatile h r

-- each row is volatile with a vote yes or done where each enlistment is volatile and voted so
pub evident_seen : (h : List Entry) → Keeps h → each (λ x. is_volatile x.class && voted_well x.vote) (rows h) ≡ each (λ x. is_volatile x.1 && has (is_good_vote x.0.value) h) (enlisted h)
evident_seen h r = evident_by keeps_order h r

-- a blocking clone is open by the rows where it is by the history
pub open_blocks : (h : List Entry) → Keeps h → has is_open_block (clone_rows h) ≡ has (λ c. blocks c.1 && not (is_complete h c)) (all_of clone_of h)
open_blocks h r = open_by keeps_order blocks h r

-- a commit is a veto where such a clone is open by the rows
pub commit_vetoed : (h : List Entry) → Keeps h → has is_open_rollback (clone_rows h) ≡ is_veto h CommitAsked
commit_vetoed h r = vetoed_by keeps_order h r

-- an enlistment whose row has no vote didn't vote
pub unvoted_seen : (h : List Entry) (e : ℕ) → Keeps h → has (is_of e) (rows h) ≡ true → voted e (rows h) ≡ false → has (is_vote e) h ≡ false
unvoted_seen h e r s v = unvoted_row_by keeps_order h e r s v

-- an enlistment that stands voted exactly where its row has a vote
pub vote_seen : (h : List Entry) (e : ℕ) → Keeps h → has (is_of e) (rows h) ≡ true → voted e (rows h) ≡ has (is_vote e) h
vote_seen h e r s = vote_by keeps_order h e r s
