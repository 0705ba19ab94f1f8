-- The block of each call that may come keeps the rules.
use Rattle.std.proofs.Common.{◌≡◌, ℕ, Bool, true, false, ◌&&◌, ◌||◌, List, [], ◌∷◌, Option, Some, None, refl, ◌∙◌, ap, sym}
use Rattle.std.specs.Prelude.{is_some, length, nat_le, not, if◌then◌else◌}
use Rattle.std.proofs.lemmas.Bool.{or_left}
use Rattle.dtx_values.specs.declared.number.ActorNo.{ActorNo}
use Rattle.dtx_values.specs.declared.call.Call.{Call}
use Rattle.dtx_values.specs.declared.call.Call.TheVariants.{Begin, Volatile, Durable, Promotable, Clone, Complete, Commit, Rollback, Tick, Gone}
use Rattle.dtx_values.specs.declared.entry.Answer.{Answer}
use Rattle.dtx_values.specs.declared.entry.Answer.TheVariants.{True, False, Many}
use Rattle.dtx_values.specs.declared.entry.Entry.{Entry}
use Rattle.dtx_values.specs.declared.entry.Entry.TheVariants.{Called, Began, Enlisted, CommitAsked, Clock, Late, Init, Lost}
use Rattle.dtx_values.specs.declared.limits.TheConstants.{DURABLES, ENLISTMENTS}
use Rattle.dtx_values.specs.declared.number.EnlNo.{EnlNo}
use Rattle.dtx_values.specs.declared.words.Class.TheVariants.{DurableSingle, Promotable as PromotableClass}
use Rattle.dtx_values.specs.declared.words.Outcome.{Outcome}
use Rattle.dtx_values.specs.declared.row.Row.{Row}
use Rattle.dtx_values.specs.Table.{how_many, voted}
use Rattle.dtx_values.specs.Clones.{is_clone, is_complete_clone, is_open_rollback}
use Rattle.dtx_model.specs.Words.{has, latest, onto}
use Rattle.dtx_values.specs.Class.{is_volatile}
use Rattle.dtx_model.specs.Entries.{is_commit, is_sealed, is_vote, is_hand, is_any_hand, is_lost, decision_of, handed_of, is_decision, began_of}
use Rattle.dtx_model.specs.Observed.{observe, rows, clone_rows, clock}
use Rattle.dtx_model.specs.Outcome.{is_empty, ready, by_seal, by_owner, by_log, evidence, is_veto}
use Rattle.dtx_values.specs.Support.{is_single}
use Rattle.dtx_values.specs.Row.{is_lasting, is_of}
use Rattle.dtx_model.specs.Answers.{limit_of, class_of, if_begun, unless_ended, wait_for, clone_answer, complete_answer, gone_answer, unless_late}
use Rattle.dtx_model.specs.Facts.{ticked, reaches, facts_if, is_done, lost_outcome}
use Rattle.dtx_model.proofs.Narrow.{volatile_answer, durable_answer, promotable_answer, answer}
use Rattle.dtx_values.specs.Owners.{is_evident, cause_of, may_own}
use Rattle.dtx_model.specs.Half.{is_gone, is_handed}
use Rattle.dtx_model.proofs.Narrow.{veto_if, is_late, time_up, decided_if, facts}
use Rattle.dtx_model.specs.Caused.{is_new}
use Rattle.dtx_model.proofs.Bools.{and_both, or_first, or_second, not_false, not_true, or_right}
use Rattle.dtx_model.proofs.Unowned.{causeless}
use Rattle.history_table.proofs.EntryTests.{is_answer, is_enlisted, undecided}
use Rattle.script_histories.proofs.Rule.{rule, ruled}
use Rattle.history_table.proofs.TableRows.{none_there, enlisted_in_rows, clone_stands}
use Rattle.script_histories.proofs.RuledRows.{evident_seen, commit_vetoed, hand_seen, lost_seen, vote_seen}
use Rattle.script_histories.proofs.Evidence.{evidence-sealed}
use Rattle.history_table.proofs.Owned.{decision_seen, none_lasting, any_hand_seen}
use Rattle.script_histories.proofs.Going.{IsKept, keep, keep_lost, going_unanswered, enlisted_keeps, cloned_keeps, completed_keeps, rollback_keeps, timeout_keeps, refused_keeps, commit_keeps, lost_aborts, lost_doubts}
use Rattle.dtx_model.proofs.Classes.{volatile_class}

-- where no owner answered, the rows show whether evidence stands
evidence_shown : (h : List Entry) → ruled h ≡ true → has is_answer h ≡ false → is_evident (has is_sealed h) (rows h) ≡ evidence h
evidence_shown h r u = ap (λ b. has is_sealed h && b) (evident_seen h r) ∙ sym (evidence-sealed h r u)

-- while nothing is decided, the rows show whether evidence stands
evidence_seen : (h : List Entry) → IsKept h → has is_decision h ≡ false → is_evident (has is_sealed h) (rows h) ≡ evidence h
evidence_seen h k d = evidence_shown h k.rules (going_unanswered h d k.going)

-- a call was done where it was begun and nothing is decided
done_behind : (l : Option ℕ) (d : Option Outcome) (a : Answer) → is_done (if_begun l (unless_ended d a)) ≡ true → (d ≡ None) × (is_done a ≡ true)
done_behind None d a k = absurd cc
done_behind (Some n) (Some x) a k = absurd cc
done_behind (Some n) None a k = (refl, k)

-- a call of volatile that was done stood after no seal
volatile_done : (sealed : Bool) (xs : List Row) → is_done (volatile_answer sealed xs) ≡ true → sealed ≡ false
volatile_done true xs k = absurd cc
volatile_done false xs k = refl

-- a durable call that was done stood after no seal, and after nothing durable or promotable
durable_done : (sealed single : Bool) (xs : List Row) → is_done (durable_answer sealed single xs) ≡ true → (sealed ≡ false) × (has is_lasting xs ≡ false)
durable_done true single xs k = absurd cc
durable_done false single xs k = step single xs (nat_le ENLISTMENTS (length xs)) (nat_le DURABLES (how_many is_lasting xs)) k
  where
    step : (single : Bool) (xs : List Row) (a b : Bool) → is_done (if a then Many ENLISTMENTS else if b then Many DURABLES else wait_for (cause_of xs single)) ≡ true
        → (false ≡ false) × (has is_lasting xs ≡ false)
    step single xs true b k = absurd cc
    step single xs false true k = absurd cc
    step single xs false false k = (refl, causeless xs single k)

-- and so did a promotable call
promotable_done : (sealed : Bool) (xs : List Row) → is_done (promotable_answer sealed xs) ≡ true → (sealed ≡ false) × (has is_lasting xs ≡ false)
unfolding may_own
promotable_done true xs k = absurd cc
promotable_done false xs k = step (has is_lasting xs) (nat_le ENLISTMENTS (length xs)) k
  where
    step : (l a : Bool) → is_done (if not (true && not l) then False else if a then Many ENLISTMENTS else True) ≡ true → (false ≡ false) × (l ≡ false)
    step true a k = absurd cc
    step false a k = (refl, refl)

-- a call of clone that was done stood after no commit
clone_done : (commit : Bool) (n : ℕ) → is_done (clone_answer commit n) ≡ true → commit ≡ false
clone_done true n k = absurd cc
clone_done false n k = refl

-- a call of complete that was done is of a clone that stands
complete_done : (stands complete : Bool) → is_done (complete_answer stands complete) ≡ true → stands ≡ true
complete_done true complete k = refl
complete_done false complete k = absurd cc

-- a call that was done didn't come too late
late_done : (late : Bool) → is_done (unless_late late) ≡ true → late ≡ false
late_done true k = absurd cc
late_done false k = refl

-- a call of gone that was done is of an enlistment that stands and wasn't lost
gone_done : (l : Option ℕ) (stands lost : Bool) → is_done (if_begun l (gone_answer stands lost)) ≡ true → (stands ≡ true) × (lost ≡ false)
gone_done None stands lost k = absurd cc
gone_done (Some n) false lost k = absurd cc
gone_done (Some n) true true k = absurd cc
gone_done (Some n) true false k = (refl, refl)

-- commit keeps it, whether it is a veto or none
asked_commit : (h : List Entry) (b : Bool) → IsKept h → has is_decision h ≡ false → has is_commit h ≡ false → is_veto h CommitAsked ≡ b → IsKept (onto h (CommitAsked ∷ veto_if b))
asked_commit h true k d c v = refused_keeps h k d c v
asked_commit h false k d c v = commit_keeps h k d c v

-- the clock that reaches the timeout, or doesn't, keeps it
time_keeps : (h : List Entry) (reached late : Bool) → IsKept h → (late ≡ false → (has is_decision h ≡ false) × (has is_any_hand h ≡ false) × (evidence h ≡ false))
    → IsKept (onto h (if reached then time_up late else []))
time_keeps h false late k f = k
time_keeps h true true k f = keep Late h k refl refl (λ g. g)
time_keeps h true false k f = let w = f refl in timeout_keeps h k w.0 w.1 w.2

-- a timeout that isn't late comes while nothing is decided, the commit isn't handed over, and no evidence stands
not_late : (h : List Entry) → IsKept h → is_late (observe h) ≡ false → (has is_decision h ≡ false) × (has is_any_hand h ≡ false) × (evidence h ≡ false)
unfolding observe
not_late h k l =
    let decided = is_some (latest decision_of h) in
    let handed = is_some (latest handed_of h) in
    let evident = is_evident (has is_sealed h) (rows h) in
    let first = or_first (decided || handed) evident l in
    let d = undecided h (none_there (latest decision_of h) (or_first decided handed first)) in
    (d, sym (any_hand_seen h) ∙ or_second decided handed first, sym (evidence_seen h k d) ∙ or_second (decided || handed) evident l)

-- what is lost decides where nothing is decided and it didn't vote
gone_keeps : (h : List Entry) (e : EnlNo) (decided voted handed : Bool) → IsKept h → rule h (Lost e) ≡ true → decided ≡ has is_decision h
    → voted ≡ has (is_vote e.value) h → handed ≡ has (is_hand e.value) h → IsKept (onto (Lost e ∷ h) (decided_if (not decided && not voted) (lost_outcome handed)))
gone_keeps h e true voted handed k q f g w = keep_lost h e k q (or_left (has is_decision h) _ (sym f))
gone_keeps h e false true handed k q f g w = keep_lost h e k q (or_right (has is_decision h) _ (sym g))
gone_keeps h e false false true k q f g w = lost_doubts h e k (sym f) q (sym w)
gone_keeps h e false false false k q f g w = lost_aborts h e k (sym f) q (sym g) (sym w)

-- the entries of a call keep it
pub call_keeps : (h : List Entry) (n : ℕ) (a : ActorNo) (y : Answer) (c : Call) (m : ℕ) (b : Bool) → IsKept h → is_new (observe h) c ≡ true → is_done (answer (observe h) c m) ≡ b
    → IsKept (onto (Called n a y ∷ h) (facts_if b (facts (observe h) c)))
unfolding answer observe evidence ready by_seal by_owner by_log
call_keeps h n a y c m false k w f = keep (Called n a y) h k refl refl (λ g. g)
call_keeps h n a y (Begin t d) m true k w f = keep (Began (limit_of d)) (Called n a y ∷ h) (keep (Called n a y) h k refl refl (λ g. g)) refl refl (λ g. g)
call_keeps h n a y (Volatile t e x v) m true k w f =
    let fine = done_behind (latest began_of h) (latest decision_of h) (volatile_answer (has is_sealed h) (rows h)) f in
    enlisted_keeps (Called n a y ∷ h) e (class_of x) (keep (Called n a y) h k refl refl (λ g. g)) (undecided h fine.0) (volatile_done (has is_sealed h) (rows h) fine.1)
    (sym (enlisted_in_rows e.value h) ∙ not_true (has (is_of e.value) (rows h)) w) (or_left (is_volatile (class_of x)) _ (volatile_class x))
call_keeps h n a y (Durable t e r x) m true k w f =
    let fine = done_behind (latest began_of h) (latest decision_of h) (durable_answer (has is_sealed h) (is_single x) (rows h)) f in
    let first = durable_done (has is_sealed h) (is_single x) (rows h) fine.1 in
    enlisted_keeps (Called n a y ∷ h) e DurableSingle (keep (Called n a y) h k refl refl (λ g. g)) (undecided h fine.0) first.0
    (sym (enlisted_in_rows e.value h) ∙ not_true (has (is_of e.value) (rows h)) w) (ap is_empty (none_lasting h first.1))
call_keeps h n a y (Promotable t e r v x p) m true k w f =
    let fine = done_behind (latest began_of h) (latest decision_of h) (promotable_answer (has is_sealed h) (rows h)) f in
    let first = promotable_done (has is_sealed h) (rows h) fine.1 in
    keep (Init e) (Enlisted e PromotableClass ∷ Called n a y ∷ h)
    (enlisted_keeps (Called n a y ∷ h) e PromotableClass (keep (Called n a y) h k refl refl (λ g. g)) (undecided h fine.0) first.0
    (sym (enlisted_in_rows e.value h) ∙ not_true (has (is_of e.value) (rows h)) w) (ap is_empty (none_lasting h first.1))) refl refl (λ g. g)
call_keeps h n a y (Clone t c d) m true k w f =
    let fine = done_behind (latest began_of h) (latest decision_of h) _ f in
    cloned_keeps (Called n a y ∷ h) c d (keep (Called n a y) h k refl refl (λ g. g)) (undecided h fine.0) (clone_done (has is_commit h) _ fine.1)
    (sym (clone_stands c.value h) ∙ not_true (has (is_clone c.value) (clone_rows h)) w)
call_keeps h n a y (Complete c) m true k w f =
    let fine = done_behind (latest began_of h) (latest decision_of h) _ f in
    completed_keeps (Called n a y ∷ h) c (keep (Called n a y) h k refl refl (λ g. g)) (undecided h fine.0)
    (sym (clone_stands c.value h) ∙ complete_done (has (is_clone c.value) (clone_rows h)) (has (is_complete_clone c.value) (clone_rows h)) fine.1)
call_keeps h n a y (Commit t) m true k w f =
    let fine = done_behind (latest began_of h) (latest decision_of h) (unless_late (has is_commit h)) f in
    asked_commit (Called n a y ∷ h) (has is_open_rollback (clone_rows h)) (keep (Called n a y) h k refl refl (λ g. g)) (undecided h fine.0) (late_done (has is_commit h) fine.1)
    (sym (commit_vetoed h k.rules))
call_keeps h n a y (Rollback t) m true k w f =
    let fine = done_behind (latest began_of h) (latest decision_of h) (unless_late (has is_sealed h)) f in
    rollback_keeps (Called n a y ∷ h) (keep (Called n a y) h k refl refl (λ g. g)) (undecided h fine.0) (late_done (has is_sealed h) fine.1)
call_keeps h n a y (Tick t i) m true k w f =
    let z = ticked (clock h) i in
    time_keeps (Clock z ∷ Called n a y ∷ h) (reaches (latest began_of h) (clock h) z) (is_late (observe h))
    (keep (Clock z) (Called n a y ∷ h) (keep (Called n a y) h k refl refl (λ g. g)) refl refl (λ g. g)) (not_late h k)
call_keeps h n a y (Gone e) m true k w f =
    let fine = gone_done (latest began_of h) (has (is_of e.value) (rows h)) (is_gone (observe h) e.value) f in
    let lost = sym (lost_seen e.value h k.rules) ∙ fine.1 in
    let rule : rule h (Lost e) ≡ true = and_both (has (is_enlisted e.value) h) (not (has (is_lost e.value) h)) (sym (enlisted_in_rows e.value h) ∙ fine.0) (not_false (has (is_lost e.value) h) lost) in
    gone_keeps (Called n a y ∷ h) e (is_some (latest decision_of h)) (voted e.value (rows h)) (is_handed (latest handed_of h) e.value) (keep (Called n a y) h k refl refl (λ g. g)) rule
    (decision_seen h) (vote_seen h e.value k.rules fine.0) (hand_seen e.value h k.rules)
call_keeps h n a y _ m true k w f = keep (Called n a y) h k refl refl (λ g. g)
