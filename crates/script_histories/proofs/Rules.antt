-- What follows from the rules: what is told is just, and no two are told opposite outcomes.
use Rattle.std.proofs.Common.{Bool, ◌&&◌, List, ◌≡◌, true, ◌||◌, ◌∙◌, ap, [], ◌∷◌, Some, refl, false, subst, Option, None}
use Rattle.std.specs.Prelude.{not}
use Rattle.std.proofs.lemmas.Bool.{or_left, true_from_ne_false}
use Rattle.dtx_values.specs.declared.entry.Ask.TheVariants.{Prepare}
use Rattle.dtx_values.specs.declared.entry.Entry.{Entry}
use Rattle.dtx_values.specs.declared.entry.Entry.TheVariants.{Decided, Cloned, Completed, Enlisted, CommitAsked, Asked, Voted, Sealed, Handed, OwnerAnswered, Called, Began, RollbackAsked, Clock, TimedOut, Late, Told, Init, Lost}
use Rattle.dtx_values.specs.declared.entry.Party.{Party}
use Rattle.dtx_values.specs.declared.entry.Party.TheVariants.{Client}
use Rattle.dtx_values.specs.declared.number.EnlNo.{EnlNo}
use Rattle.dtx_values.specs.declared.words.Outcome.{Outcome}
use Rattle.dtx_values.specs.declared.words.Outcome.TheVariants.{Committed, Aborted, InDoubt}
use Rattle.dtx_model.specs.Words.{has, latest, ever, always}
use Rattle.dtx_model.specs.Entries.{decision_of, is_decision, is_commit, is_asked, is_vote, is_hand, is_any_hand, same_outcome, is_final}
use Rattle.dtx_model.specs.Outcome.{evidence, vetoed, doubt, may_tell, hears_doubt, ready, by_seal, by_owner, by_log, is_first_veto, is_lost_owner, owner_doubt, coordinator_doubt, single_doubt, is_just, justified, is_decided_again, agree}
use Rattle.dtx_model.proofs.Bools.{and_both, and_left, and_right, not_true, not_both, or_right, or_false, or_case}
use Rattle.history_table.proofs.EntryTests.{is_certain, is_cloned, all_complete, zeros_cast, is_answer, is_decided}
use Rattle.history_table.proofs.Tests.{first_of_three, first_of_four, first_of_five}
use Rattle.history_table.proofs.Handed.{is_answered, answered_any}
use Rattle.history_table.proofs.Scans.{has_more, has_less}
use Rattle.script_histories.proofs.Rule.{rule, ruled, first_rule, other_rules}
use Rattle.script_histories.proofs.Evidence.{unhanded_unanswered, evidence-handed}

-- this outcome may be told: to anybody where it is certain, else to whoever may hear that it is in doubt
abbrev pub may_be : List Entry → Outcome → Bool
may_be h Committed = evidence h
may_be h Aborted = vetoed h && not (evidence h)
may_be h InDoubt = doubt h

-- what may be told to the client may be told
client_may_be : (h : List Entry) (x : Outcome) → may_tell h Client x ≡ true → may_be h x ≡ true
unfolding may_tell
client_may_be h Committed k = k
client_may_be h Aborted k = k
client_may_be h InDoubt k = k

-- what may be told may be told to this party, which hears of doubt if it is that
may_be_told : (h : List Entry) (p : Party) (x : Outcome) → (is_certain x || hears_doubt h p) ≡ true → may_be h x ≡ true → may_tell h p x ≡ true
unfolding may_tell
may_be_told h p Committed c k = k
may_be_told h p Aborted c k = k
may_be_told h p InDoubt c k = and_both (hears_doubt h p) (doubt h) c k

-- what could be told can be told after more entries that leave evidence as it is, and vetoes and doubt where they are
may_more : (h k : List Entry) (x : Outcome) → evidence k ≡ evidence h → (vetoed h ≡ true → vetoed k ≡ true) → (doubt h ≡ true → doubt k ≡ true) → may_be h x ≡ true → may_be k x ≡ true
may_more h k Committed e v d m = e ∙ m
may_more h k Aborted e v d m =
    and_both (vetoed k) (not (evidence k)) (v (and_left (vetoed h) (not (evidence h)) m)) (ap (λ b. not b) e ∙ and_right (vetoed h) (not (evidence h)) m)
may_more h k InDoubt e v d m = d m

-- what was decided stands there
decision_from_latest : (h : List Entry) (x : Outcome) → latest decision_of h ≡ Some x → has is_decision h ≡ true
decision_from_latest [] x e = absurd cc
decision_from_latest (Decided y ∷ h) x e = refl
decision_from_latest (_ ∷ h) x e = decision_from_latest h x e

-- the entries that come only where nothing was decided
abbrev pub is_open : Entry → Bool
is_open (Enlisted e c) = true
is_open (Cloned c k) = true
is_open (Completed c) = true
is_open CommitAsked = true
is_open (Asked e Prepare) = true
is_open (Voted e v) = true
is_open Sealed = true
is_open (Handed e) = true
is_open (OwnerAnswered e x) = true
is_open (Decided x) = true
is_open _ = false

-- they come where nothing was decided
pub open_rule : (h : List Entry) (x : Entry) → is_open x ≡ true → rule h x ≡ true → not (has is_decision h) ≡ true
open_rule h (Enlisted e c) k r = first_of_four (not (has is_decision h)) _ _ _ r
open_rule h (Cloned c d) k r = first_of_three (not (has is_decision h)) _ (not (has (is_cloned c.value) h)) r
open_rule h (Completed c) k r = and_left (not (has is_decision h)) (has (is_cloned c.value) h) r
open_rule h CommitAsked k r = and_left (not (has is_decision h)) (not (has is_commit h)) r
open_rule h (Asked e Prepare) k r = first_of_five (not (has is_decision h)) _ _ (not (has (is_asked e.value) h)) _ r
open_rule h (Voted e v) k r = first_of_four (not (has is_decision h)) _ _ (not (has (is_vote e.value) h)) r
open_rule h Sealed k r = first_of_four (not (has is_decision h)) (has is_commit h) (all_complete h) (zeros_cast h) r
open_rule h (Handed e) k r = first_of_five (not (has is_decision h)) _ (ready h) _ (not (has is_any_hand h)) r
open_rule h (OwnerAnswered e x) k r = first_of_three (not (has is_decision h)) (has (is_hand e.value) h) (not (has is_answer h)) r
open_rule h (Decided x) k r = and_left (not (has is_decision h)) (may_tell h Client x) r
open_rule h _ k r = absurd cc

-- they don't come after a decision
pub not_behind : {C : Type 0} (y : Entry) (h : List Entry) (x : Outcome) → latest decision_of h ≡ Some x → is_open y ≡ true → ruled (y ∷ h) ≡ true → C
not_behind y h x e k r = absurd (not_both (has is_decision h) (decision_from_latest h x e) (not_true (has is_decision h) (open_rule h y k (first_rule y h r))))

-- the rule of a decision
decision_rule : (h : List Entry) (x : Outcome) → rule h (Decided x) ≡ true → may_be h x ≡ true
decision_rule h x k = client_may_be h x (and_right (not (has is_decision h)) (may_tell h Client x) k)

-- doubt stays with one more that is lost
doubt_step : (w q l c s : Bool) → ((w || l) || c || s) ≡ true → ((w || (q || l)) || c || s) ≡ true
doubt_step true q l c s k = refl
doubt_step false true l c s k = refl
doubt_step false false l c s k = k

-- what is decided may be told
pub decided_may : (h : List Entry) → ruled h ≡ true → (x : Outcome) → latest decision_of h ≡ Some x → may_be h x ≡ true
unfolding evidence ready by_seal by_owner by_log vetoed doubt owner_doubt coordinator_doubt single_doubt
decided_may [] r x e = absurd cc
decided_may (Decided y ∷ h) r x e =
    let same : y ≡ x = cc in
    subst (λ o. may_be (Decided y ∷ h) o ≡ true) same (may_more h (Decided y ∷ h) y refl (λ k. k) (λ k. k) (decision_rule h y (first_rule (Decided y) h r)))
decided_may (RollbackAsked ∷ h) r x e =
    may_more h (RollbackAsked ∷ h) x refl (or_right (is_first_veto h RollbackAsked) (vetoed h)) (λ k. k) (decided_may h (other_rules RollbackAsked h r) x e)
decided_may (TimedOut ∷ h) r x e =
    may_more h (TimedOut ∷ h) x refl (or_right (is_first_veto h TimedOut) (vetoed h)) (λ k. k) (decided_may h (other_rules TimedOut h r) x e)
decided_may (Lost f ∷ h) r x e =
    may_more h (Lost f ∷ h) x refl (or_right (is_first_veto h (Lost f)) (vetoed h)) (doubt_step _ (is_lost_owner h (Lost f)) (ever is_lost_owner h) (coordinator_doubt h) (single_doubt h))
    (decided_may h (other_rules (Lost f) h r) x e)
decided_may (Called n a y ∷ h) r x e = may_more h (Called n a y ∷ h) x refl (λ k. k) (λ k. k) (decided_may h (other_rules (Called n a y) h r) x e)
decided_may (Began d ∷ h) r x e = may_more h (Began d ∷ h) x refl (λ k. k) (λ k. k) (decided_may h (other_rules (Began d) h r) x e)
decided_may (Clock n ∷ h) r x e = may_more h (Clock n ∷ h) x refl (λ k. k) (λ k. k) (decided_may h (other_rules (Clock n) h r) x e)
decided_may (Late ∷ h) r x e = may_more h (Late ∷ h) x refl (λ k. k) (λ k. k) (decided_may h (other_rules Late h r) x e)
decided_may (Init f ∷ h) r x e = may_more h (Init f ∷ h) x refl (λ k. k) (λ k. k) (decided_may h (other_rules (Init f) h r) x e)
decided_may (Told p y ∷ h) r x e = may_more h (Told p y ∷ h) x refl (λ k. k) (λ k. k) (decided_may h (other_rules (Told p y) h r) x e)
decided_may (Asked f Prepare ∷ h) r x e = not_behind (Asked f Prepare) h x e refl r
decided_may (Enlisted f c ∷ h) r x e = not_behind (Enlisted f c) h x e refl r
decided_may (Cloned c k ∷ h) r x e = not_behind (Cloned c k) h x e refl r
decided_may (Completed c ∷ h) r x e = not_behind (Completed c) h x e refl r
decided_may (CommitAsked ∷ h) r x e = not_behind CommitAsked h x e refl r
decided_may (Voted f v ∷ h) r x e = not_behind (Voted f v) h x e refl r
decided_may (Sealed ∷ h) r x e = not_behind Sealed h x e refl r
decided_may (Handed f ∷ h) r x e = not_behind (Handed f) h x e refl r
decided_may (OwnerAnswered f y ∷ h) r x e = not_behind (OwnerAnswered f y) h x e refl r
decided_may (_ ∷ h) r x e = absurd cc

-- where an outcome was decided, it is this one
pub decided_same : (x : Outcome) (o : Option Outcome) → is_decided x o ≡ true → o ≡ Some x
decided_same Committed (Some Committed) k = refl
decided_same Aborted (Some Aborted) k = refl
decided_same InDoubt (Some InDoubt) k = refl
decided_same Committed (Some Aborted) k = absurd cc
decided_same Committed (Some InDoubt) k = absurd cc
decided_same Aborted (Some Committed) k = absurd cc
decided_same Aborted (Some InDoubt) k = absurd cc
decided_same InDoubt (Some Committed) k = absurd cc
decided_same InDoubt (Some Aborted) k = absurd cc
decided_same x None k = absurd cc

-- equal outcomes are the same
same_outcome_is : (x y : Outcome) → same_outcome x y ≡ true → x ≡ y
same_outcome_is x y k = let e : Some y ≡ Some x = decided_same x (Some y) k in cc

-- what an entry tells or decides is just
one_just : (h : List Entry) (x : Entry) → ruled h ≡ true → rule h x ≡ true → is_just h x ≡ true
one_just h (Told p x) r k =
    may_be_told h p x (and_right (is_decided x (latest decision_of h)) (is_certain x || hears_doubt h p) k)
    (decided_may h r x (decided_same x (latest decision_of h) (and_left (is_decided x (latest decision_of h)) (is_certain x || hears_doubt h p) k)))
one_just h (Decided x) r k = and_right (not (has is_decision h)) (may_tell h Client x) k
one_just h _ r k = refl

-- what is told is just
pub ruled_justified : (h : List Entry) → ruled h ≡ true → justified h ≡ true
unfolding justified
ruled_justified [] r = refl
ruled_justified (x ∷ h) r =
    and_both (is_just h x) (always is_just h) (one_just h x (other_rules x h r) (first_rule x h r)) (ruled_justified h (other_rules x h r))

-- what keeps its rule is no second decision
one_decision : (h : List Entry) (x : Entry) → rule h x ≡ true → is_decided_again h x ≡ false
one_decision h (Decided x) k = not_true (has is_decision h) (open_rule h (Decided x) refl k)
one_decision h _ k = refl

-- it is decided once
decided_once : (h : List Entry) → ruled h ≡ true → ever is_decided_again h ≡ false
decided_once [] r = refl
decided_once (x ∷ h) r = or_false (is_decided_again h x) (ever is_decided_again h) (one_decision h x (first_rule x h r)) (decided_once h (other_rules x h r))

-- an outcome that is final is what was decided, or what an owner answered
final_cause : (x : Outcome) (h : List Entry) → ruled h ≡ true → has (is_final x) h ≡ true → (is_decided x (latest decision_of h) || has (is_answered x) h) ≡ true
final_cause x [] r k = absurd cc
final_cause x (Told p y ∷ h) r k =
    or_case (same_outcome x y) (has (is_final x) h)
    (λ e. let same : x ≡ y = same_outcome_is x y e in
    let decided : is_decided x (latest decision_of h) ≡ true = rw same (and_left (is_decided y (latest decision_of h)) (is_certain y || hears_doubt h p) (first_rule (Told p y) h r)) in
    or_left (is_decided x (latest decision_of h)) (has (is_answered x) h) decided)
    (final_cause x h (other_rules (Told p y) h r)) k
final_cause x (Decided y ∷ h) r k =
    or_case (same_outcome x y) (has (is_final x) h) (or_left (same_outcome x y) (has (is_answered x) h))
    (λ e. or_case (is_decided x (latest decision_of h)) (has (is_answered x) h) (λ f. not_behind (Decided y) h x (decided_same x (latest decision_of h) f) refl r)
    (or_right (same_outcome x y) (has (is_answered x) h)) (final_cause x h (other_rules (Decided y) h r) e)) k
final_cause x (OwnerAnswered f y ∷ h) r k =
    or_case (same_outcome x y) (has (is_final x) h)
    (λ e. or_right (is_decided x (latest decision_of h)) (same_outcome x y || has (is_answered x) h) (or_left (same_outcome x y) (has (is_answered x) h) e))
    (λ e. or_case (is_decided x (latest decision_of h)) (has (is_answered x) h) (or_left (is_decided x (latest decision_of h)) (same_outcome x y || has (is_answered x) h))
    (λ q. or_right (is_decided x (latest decision_of h)) (same_outcome x y || has (is_answered x) h) (or_right (same_outcome x y) (has (is_answered x) h) q))
    (final_cause x h (other_rules (OwnerAnswered f y) h r) e)) k
final_cause x (y ∷ h) r k = final_cause x h (other_rules y h r) k

-- what was answered was answered where the commit was handed over
answered_handed : (x : Outcome) (h : List Entry) → ruled h ≡ true → has (is_answered x) h ≡ true → has is_any_hand h ≡ true
answered_handed x h r k = true_from_ne_false (has is_any_hand h) (λ e. not_both (has is_answer h) (has_more (is_answered x) is_answer (answered_any x) h k) (unhanded_unanswered h r e))

-- no owner answers after an answer
unanswered : (x : Outcome) (e : EnlNo) (y : Outcome) (h : List Entry) → rule h (OwnerAnswered e y) ≡ true → has (is_answered x) h ≡ false
unanswered x e y h k =
    has_less (is_answered x) is_answer (answered_any x) h
    (not_true (has is_answer h) (and_right (not (has is_decision h) && has (is_hand e.value) h) (not (has is_answer h)) k))

-- what an owner answered aborted none answered committed
answered_once : (h : List Entry) → ruled h ≡ true → has (is_answered Aborted) h ≡ true → has (is_answered Committed) h ≡ false
answered_once [] r k = refl
answered_once (OwnerAnswered f Committed ∷ h) r k =
    absurd (not_both (has (is_answered Aborted) h) k (unanswered Aborted f Committed h (first_rule (OwnerAnswered f Committed) h r)))
answered_once (OwnerAnswered f Aborted ∷ h) r k = unanswered Committed f Aborted h (first_rule (OwnerAnswered f Aborted) h r)
answered_once (x ∷ h) r k = answered_once h (other_rules x h r) k

-- what is final and committed stands on evidence
final_evident : (h : List Entry) → ruled h ≡ true → has (is_final Committed) h ≡ true → evidence h ≡ true
final_evident h r k =
    or_case (is_decided Committed (latest decision_of h)) (has (is_answered Committed) h)
    (λ e. decided_may h r Committed (decided_same Committed (latest decision_of h) e))
    (λ e. evidence-handed h r (answered_handed Committed h r e) ∙ e) (final_cause Committed h r k)

-- what is final and aborted stands on no evidence
final_open : (h : List Entry) → ruled h ≡ true → has (is_final Aborted) h ≡ true → evidence h ≡ false
final_open h r k =
    or_case (is_decided Aborted (latest decision_of h)) (has (is_answered Aborted) h)
    (λ e. not_true (evidence h) (and_right (vetoed h) (not (evidence h)) (decided_may h r Aborted (decided_same Aborted (latest decision_of h) e))))
    (λ e. evidence-handed h r (answered_handed Aborted h r e) ∙ answered_once h r e) (final_cause Aborted h r k)

-- where the one needs a test and the other its opposite, not both hold
pub not_opposite : (a b e : Bool) → (a ≡ true → e ≡ true) → (b ≡ true → e ≡ false) → (a && b) ≡ false
not_opposite false b e f g = refl
not_opposite true false e f g = refl
not_opposite true true e f g = absurd (not_both e (f refl) (g refl))

-- no two are told opposite outcomes
pub ruled_agree : (h : List Entry) → ruled h ≡ true → agree h ≡ true
unfolding agree
ruled_agree h r =
    let once = decided_once h r in
    let opposite : (has (is_final Committed) h && has (is_final Aborted) h) ≡ false =
    not_opposite (has (is_final Committed) h) (has (is_final Aborted) h) (evidence h) (final_evident h r) (final_open h r) in
    rw (opposite, once) refl
