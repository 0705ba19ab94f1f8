-- What the rows and the listeners of a history say where it keeps the table of rules in which nothing is promoted.
use Rattle.std.proofs.Common.{◌≡◌, true, false, ◌&&◌, ◌||◌, List, ℕ, ◌==◌, [], ◌∷◌, refl, Bool, ◌∙◌, ap, Some, None, sym, map, subst}
use Rattle.std.specs.Prelude.{not}
use Rattle.std.proofs.lemmas.Bool.{eqb-true}
use Rattle.std.specs.List.{slice_get}
use Rattle.dtx_values.specs.declared.number.EnlNo.{EnlNo}
use Rattle.dtx_values.specs.declared.entry.Ask.TheVariants.{Prepare}
use Rattle.dtx_values.specs.declared.entry.Entry.{Entry}
use Rattle.dtx_values.specs.declared.entry.Entry.TheVariants.{Enlisted, Asked, Voted, Cloned, Completed, CommitAsked, Handed, Told, Lost, Reenlisted}
use Rattle.dtx_values.specs.declared.entry.Party.TheVariants.{Enl}
use Rattle.dtx_values.specs.declared.words.Class.{Class}
use Rattle.dtx_values.specs.declared.row.Row.{Row}
use Rattle.dtx_values.specs.Table.{voted}
use Rattle.dtx_values.specs.Class.{is_volatile, is_zero}
use Rattle.dtx_values.specs.Owners.{owner_of}
use Rattle.dtx_values.specs.Row.{is_marked, has_voted, is_of}
use Rattle.dtx_values.specs.Vote.{voted_well}
use Rattle.dtx_values.specs.Waves.{zeros_voted, all_voted}
use Rattle.dtx_values.specs.declared.number.CloneNo.{CloneNo}
use Rattle.dtx_values.specs.declared.words.CloneKind.{CloneKind}
use Rattle.dtx_values.specs.declared.words.Vote.{Vote}
use Rattle.dtx_values.specs.Clones.{is_clone, blocks, is_open_block, is_open_rollback}
use Rattle.dtx_model.specs.Words.{has, each, all_of, latest}
use Rattle.dtx_model.specs.Entries.{is_decision, is_sealed, is_commit, is_asked, is_vote, clone_of, is_good_vote, is_hand, is_any_hand, handed_of, is_lost}
use Rattle.dtx_model.specs.Observed.{clone_rows, rows, listener_number, hear, listeners, lose}
use Rattle.dtx_model.specs.Outcome.{can_own, durables, is_empty, enlisted, is_complete, is_veto, ready}
use Rattle.dtx_model.specs.Half.{is_handed}
use Rattle.dtx_model.proofs.Bools.{not_true, or_false, or_second, and_right, and_left, and_never, not_both}
use Rattle.history_table.proofs.Tests.{third_of_four, third_of_five, second_of_four, fourth_of_four, apart, eq_self}
use Rattle.history_table.proofs.EntryTests.{is_enlisted, is_cloned, zeros_cast, is_only}
use Rattle.history_table.proofs.Lists.{each_kept, has_kept, has-insert}
use Rattle.history_table.proofs.TableRows.{Ordered, IsRow, class_by, evident_by, open_by, row_by, vetoed_by, vote_by}
use Rattle.history_table.proofs.Owned.{Owning, listens, is_lost_listener, none_by, only_by}
use Rattle.history_table.proofs.Scans.{has_less}
use Rattle.history_table.proofs.Handed.{hand_any}
use Rattle.script_histories.proofs.Rule.{rule, ruled, first_rule, other_rules}
use Rattle.script_histories.proofs.MoreLists.{each-behind}

-- what is enlisted wasn't before
pub enlisted_once : (e : EnlNo) (c : Class) (h : List Entry) → rule h (Enlisted e c) ≡ true → has (is_enlisted e.value) h ≡ false
enlisted_once e c h r = not_true (has (is_enlisted e.value) h) (third_of_four (not (has is_decision h)) (not (has is_sealed h)) (not (has (is_enlisted e.value) h)) (is_volatile c || (can_own c && is_empty (durables h))) r)

-- what is asked was enlisted
pub asked_enlisted : (e : EnlNo) (h : List Entry) → rule h (Asked e Prepare) ≡ true → has (is_enlisted e.value) h ≡ true
asked_enlisted e h r = third_of_five (not (has is_decision h)) (has is_commit h) (has (is_enlisted e.value) h) (not (has (is_asked e.value) h)) _ r

-- what votes was enlisted
pub voted_enlisted : (e : EnlNo) (v : Vote) (h : List Entry) → rule h (Voted e v) ≡ true → has (is_enlisted e.value) h ≡ true
voted_enlisted e v h r = second_of_four (not (has is_decision h)) (has (is_enlisted e.value) h) (has (is_asked e.value) h) (not (has (is_vote e.value) h)) r

-- what votes hadn't
pub voted_once : (e : EnlNo) (v : Vote) (h : List Entry) → rule h (Voted e v) ≡ true → has (is_vote e.value) h ≡ false
voted_once e v h r =
    not_true (has (is_vote e.value) h) (fourth_of_four (not (has is_decision h)) (has (is_enlisted e.value) h) (has (is_asked e.value) h) (not (has (is_vote e.value) h)) r)

-- what wasn't enlisted wasn't asked
unenlisted_unasked : (n : ℕ) (h : List Entry) → ruled h ≡ true → has (is_enlisted n) h ≡ false → has (is_asked n) h ≡ false
unenlisted_unasked n [] r e = refl
unenlisted_unasked n (Enlisted f c ∷ h) r e = unenlisted_unasked n h (other_rules (Enlisted f c) h r) (or_second (n == f.value) (has (is_enlisted n) h) e)
unenlisted_unasked n (Asked f Prepare ∷ h) r e =
    or_false (n == f.value) (has (is_asked n) h) (apart (λ m. has (is_enlisted m) h) n f.value e (asked_enlisted f h (first_rule (Asked f Prepare) h r)))
    (unenlisted_unasked n h (other_rules (Asked f Prepare) h r) e)
unenlisted_unasked n (x ∷ h) r e = unenlisted_unasked n h (other_rules x h r) e

-- what each row of a clone passes by its number and kind, each clone passes
pub each_clones : (f : CloneNo → CloneKind → Bool) (h : List Entry) → each (λ r. f r.clone r.kind) (clone_rows h) ≡ each (λ c. f c.0 c.1) (all_of clone_of h)
each_clones f [] = refl
each_clones f (Cloned c k ∷ h) = each-behind (λ r. f r.clone r.kind) (record { clone = c; kind = k; complete = false }) (clone_rows h) ∙ ap (λ b. f c k && b) (each_clones f h)
each_clones f (Completed c ∷ h) =
    each_kept (λ r. f r.clone r.kind) (λ r. record { clone = r.clone; kind = r.kind; complete = is_clone c.value r || r.complete }) (λ r. refl) (clone_rows h) ∙ each_clones f h
each_clones f (x ∷ h) = each_clones f h

-- what is cloned wasn't before
cloned_once : (c : CloneNo) (k : CloneKind) (h : List Entry) → rule h (Cloned c k) ≡ true → has (is_cloned c.value) h ≡ false
cloned_once c k h r = not_true (has (is_cloned c.value) h) (and_right (not (has is_decision h) && not (has is_commit h)) (not (has (is_cloned c.value) h)) r)

-- what is completed was cloned
completed_cloned : (c : CloneNo) (h : List Entry) → rule h (Completed c) ≡ true → has (is_cloned c.value) h ≡ true
completed_cloned c h r = and_right (not (has is_decision h)) (has (is_cloned c.value) h) r

-- so does a history that keeps the rules
pub ruled_order : Ordered (λ h. ruled h ≡ true)
ruled_order =
    record {
      before = λ x h r. other_rules x h r;
      new = λ e c h r. enlisted_once e c h (first_rule (Enlisted e c) h r);
      unasked = λ e c h r. unenlisted_unasked e.value h (other_rules (Enlisted e c) h r) (enlisted_once e c h (first_rule (Enlisted e c) h r));
      enlisted = λ e v h r. voted_enlisted e v h (first_rule (Voted e v) h r);
      once = λ e v h r. voted_once e v h (first_rule (Voted e v) h r);
      unmade = λ c k h r. cloned_once c k h (first_rule (Cloned c k) h r);
      made = λ c h r. completed_cloned c h (first_rule (Completed c) h r);
    }

-- the row at a place says what the history shows of its enlistment
pub row_seen : (h : List Entry) (k : ℕ) (x : Row) → ruled h ≡ true → slice_get (rows h) k ≡ Some x → IsRow h x
row_seen h k x r e = row_by ruled_order h k x r e

-- the row is marked where its enlistment was asked to prepare
pub row_marked : (h : List Entry) (k : ℕ) (x : Row) → ruled h ≡ true → slice_get (rows h) k ≡ Some x → is_marked x ≡ has (is_asked x.number.value) h
row_marked h k x r e = (row_by ruled_order h k x r e).marked

-- the row has a vote where its enlistment voted
pub row_voted : (h : List Entry) (k : ℕ) (x : Row) → ruled h ≡ true → slice_get (rows h) k ≡ Some x → has_voted x ≡ has (is_vote x.number.value) h
row_voted h k x r e = (row_by ruled_order h k x r e).voted

-- the row at a place is of an enlistment of the history
pub rows_enlisted : (h : List Entry) (k : ℕ) (x : Row) → ruled h ≡ true → slice_get (rows h) k ≡ Some x → has (is_enlisted x.number.value) h ≡ true
rows_enlisted h k x r e = (row_by ruled_order h k x r e).stands

-- each Zero row has a vote where each Zero enlistment voted
pub zeros_seen : (h : List Entry) → ruled h ≡ true → zeros_voted (rows h) ≡ zeros_cast h
zeros_seen h r = class_by ruled_order is_zero h r

-- each volatile row has a vote where each volatile enlistment voted
pub all_voted_seen : (h : List Entry) → ruled h ≡ true → all_voted (rows h) ≡ each (λ x. not (is_volatile x.1) || has (is_vote x.0.value) h) (enlisted h)
all_voted_seen h r = class_by ruled_order is_volatile h r

-- each row is volatile with a vote yes or done where each enlistment is volatile and voted so
pub evident_seen : (h : List Entry) → ruled h ≡ true → each (λ x. is_volatile x.class && voted_well x.vote) (rows h) ≡ each (λ x. is_volatile x.1 && has (is_good_vote x.0.value) h) (enlisted h)
evident_seen h r = evident_by ruled_order h r

-- a blocking clone is open by the rows where it is by the history
pub open_blocks : (h : List Entry) → ruled h ≡ true → has is_open_block (clone_rows h) ≡ has (λ c. blocks c.1 && not (is_complete h c)) (all_of clone_of h)
open_blocks h r = open_by ruled_order blocks h r

-- a commit is a veto where such a clone is open by the rows
pub commit_vetoed : (h : List Entry) → ruled h ≡ true → has is_open_rollback (clone_rows h) ≡ is_veto h CommitAsked
commit_vetoed h r = vetoed_by ruled_order h r

-- a history that keeps the rules
owning : Owning (λ h. ruled h ≡ true)
owning =
    record {
      before = λ x h r. other_rules x h r;
      class = λ e c h r. fourth_of_four (not (has is_decision h)) (not (has is_sealed h)) (not (has (is_enlisted e.value) h)) _ (first_rule (Enlisted e c) h r);
    }

-- the owner by the rows is the only durable or promotable, and can own the commit
pub owner_only : (h : List Entry) (e : EnlNo) → ruled h ≡ true → owner_of (rows h) ≡ Some e → is_only e.value (durables h) ≡ true
owner_only h e r o = only_by owning h e r o

-- where the rows have no owner, nothing is durable or promotable
pub owner_none : (h : List Entry) → ruled h ≡ true → owner_of (rows h) ≡ None → durables h ≡ []
owner_none h r o = none_by owning h r o

-- to whom the commit was handed by what is observed it was handed by the history
pub hand_seen : (e : ℕ) (h : List Entry) → ruled h ≡ true → is_handed (latest handed_of h) e ≡ has (is_hand e) h
hand_seen e [] r = refl
hand_seen e (Handed f ∷ h) r = step (e == f.value) (has (is_hand e) h) (has_less (is_hand e) is_any_hand (hand_any e) h (none_yet f h (first_rule (Handed f) h r)))
  where
    none_yet : (f : EnlNo) (h : List Entry) → rule h (Handed f) ≡ true → has is_any_hand h ≡ false
    none_yet f h k = not_true (has is_any_hand h) (and_right (not (has is_decision h) && has is_sealed h && ready h && is_only f.value (durables h)) (not (has is_any_hand h)) k)

    step : (a b : Bool) → b ≡ false → a ≡ (a || b)
    step true b e = refl
    step false b e = sym e
hand_seen e (x ∷ h) r = hand_seen e h (other_rules x h r)

-- some of the changed items pass the one test where some pass the other
has_mapped : {A : Type 0} (p q : A → Bool) (f : A → A) → ((x : A) → p (f x) ≡ q x) → (xs : List A) → has p (map f xs) ≡ has q xs
has_mapped p q f same [] = refl
has_mapped p q f same (x ∷ xs) = ap (λ b. b || has p (map f xs)) (same x) ∙ ap (λ b. q x || b) (has_mapped p q f same xs)

-- a listener is lost where the history says so
pub lost_seen : (n : ℕ) (h : List Entry) → ruled h ≡ true → has (is_lost_listener n) (listeners h) ≡ has (is_lost n) h
lost_seen n [] r = refl
lost_seen n (Enlisted e c ∷ h) r =
    has-insert (is_lost_listener n) listener_number (record { enlistment = e; told = false; lost = false }) (listeners h)
    ∙ ap (λ b. b || has (is_lost_listener n) (listeners h)) (and_never (n == e.value)) ∙ lost_seen n h (other_rules (Enlisted e c) h r)
lost_seen n (Told (Enl e) o ∷ h) r = has_kept (is_lost_listener n) (hear e.value) (λ l. refl) (listeners h) ∙ lost_seen n h (other_rules (Told (Enl e) o) h r)
lost_seen n (Lost e ∷ h) r =
    step n e h (and_left (has (is_enlisted e.value) h) (not (has (is_lost e.value) h)) (first_rule (Lost e) h r)) (lost_seen n h (other_rules (Lost e) h r)) (n == e.value) refl
  where
    own : (a b : Bool) → (a && (a || b)) ≡ a
    own true b = refl
    own false b = refl

    others : (n m k : ℕ) (b : Bool) → (n == m) ≡ false → ((n == k) && ((m == k) || b)) ≡ ((n == k) && b)
    others n m k b e = distinct (n == k) (m == k) refl refl
      where
        distinct : (x y : Bool) → (n == k) ≡ x → (m == k) ≡ y → (x && (y || b)) ≡ (x && b)
        distinct true true p q = let first : n ≡ k = eqb-true n k p in let second : m ≡ k = eqb-true m k q in absurd (not_both (n == m) (rw (first, second) (eq_self k)) e)
        distinct true false p q = refl
        distinct false y p q = refl

    step : (n : ℕ) (e : EnlNo) (h : List Entry) → has (is_enlisted e.value) h ≡ true → has (is_lost_listener n) (listeners h) ≡ has (is_lost n) h → (b : Bool) → (n == e.value) ≡ b
        → has (is_lost_listener n) (map (lose e.value) (listeners h)) ≡ (b || has (is_lost n) h)
    step n e h s ih true same =
        let number : n ≡ e.value = eqb-true n e.value same in
        has_mapped (is_lost_listener n) (λ l. n == l.enlistment.value) (lose e.value)
        (λ l. subst (λ m. ((n == l.enlistment.value) && ((m == l.enlistment.value) || l.lost)) ≡ (n == l.enlistment.value)) number (own (n == l.enlistment.value) l.lost)) (listeners h)
        ∙ listens n h ∙ subst (λ m. has (is_enlisted m) h ≡ true) (sym number) s
    step n e h s ih false other =
        has_kept (is_lost_listener n) (lose e.value) (λ l. others n e.value l.enlistment.value l.lost other) (listeners h) ∙ ih
lost_seen n (Reenlisted e ∷ h) r = absurd cc
lost_seen n (x ∷ h) r = lost_seen n h (other_rules x h r)

-- an enlistment that stands voted exactly where its row has a vote
pub vote_seen : (h : List Entry) (e : ℕ) → ruled h ≡ true → has (is_of e) (rows h) ≡ true → voted e (rows h) ≡ has (is_vote e) h
vote_seen h e r s = vote_by ruled_order h e r s
