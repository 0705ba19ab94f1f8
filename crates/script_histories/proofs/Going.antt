-- What stands at the end of each block while nothing is decided, and which single entries keep it.
use Rattle.std.proofs.Common.{Bool, ◌&&◌, ◌||◌, List, Option, Some, None, ◌≡◌, true, false, ◌∷◌, refl, ◌==◌, ℕ, ◌∙◌, ap}
use Rattle.std.specs.Prelude.{not, is_none}
use Rattle.std.proofs.lemmas.Bool.{false_from_ne_true, or_left}
use Rattle.dtx_values.specs.declared.number.CloneNo.{CloneNo}
use Rattle.dtx_values.specs.declared.number.EnlNo.{EnlNo}
use Rattle.dtx_values.specs.declared.entry.Entry.{Entry}
use Rattle.dtx_values.specs.declared.entry.Entry.TheVariants.{Lost, Enlisted, Cloned, Completed, Decided, RollbackAsked, TimedOut, CommitAsked, Voted, OwnerAnswered}
use Rattle.dtx_values.specs.declared.words.Class.{Class}
use Rattle.dtx_values.specs.declared.words.CloneKind.{CloneKind}
use Rattle.dtx_values.specs.declared.entry.Party.TheVariants.{Client}
use Rattle.dtx_values.specs.declared.words.Outcome.{Outcome}
use Rattle.dtx_values.specs.declared.words.Outcome.TheVariants.{Aborted, InDoubt, Committed}
use Rattle.dtx_values.specs.declared.words.Vote.TheVariants.{Yes, Done, No}
use Rattle.dtx_values.specs.Clones.{blocks}
use Rattle.dtx_values.specs.Class.{is_volatile}
use Rattle.dtx_model.specs.Words.{ever, has, each, all_of, put}
use Rattle.dtx_model.specs.Entries.{is_commit, is_decision, is_vote, is_sealed, clone_of, is_yes, is_any_hand, is_good_vote, is_hand, is_lost, is_any_owner, is_owner, handed_of}
use Rattle.dtx_model.specs.Outcome.{can_own, durables, is_empty, is_complete, may_tell, evidence, vetoed, is_veto, ready, by_seal, by_owner, by_log, is_rollback, enlisted, is_lost_owner, owner_doubt}
use Rattle.dtx_model.proofs.Bools.{or_right, and_both, not_false, not_both, three_hold, and_right, and_never, or_false, not_true, and_left}
use Rattle.history_table.proofs.EntryTests.{is_answer, all_closed, is_no_vote, is_enlisted, is_cloned, enlisted_passes}
use Rattle.history_table.proofs.Scans.{each_more, has_less, has_more}
use Rattle.history_table.proofs.Tests.{four_hold, or_between, closed_step, second_of_three}
use Rattle.history_table.proofs.Lists.{none_each}
use Rattle.history_table.proofs.TableRows.{unvoted_unwell}
use Rattle.history_table.proofs.Handed.{any_answer, answered_any, is_answered, hand_any, hand_listed}
use Rattle.script_histories.proofs.Rule.{ruled, rule}
use Rattle.history_table.proofs.Doubting.{owner_doubts}
use Rattle.script_histories.proofs.Evidence.{none_yes, unsealed_unhanded, unsealed_open, sealed_closed, all_well, evidence-sealed, evidence-handed}
use Rattle.script_histories.proofs.RuledRows.{voted_enlisted, voted_once}
use Rattle.script_histories.proofs.Rules.{open_rule}

-- while nothing is decided nobody voted no and no owner answered, and after commit no clone is open that makes a commit a veto
abbrev pub is_going : List Entry → Bool
is_going h = has is_decision h || (not (has is_no_vote h) && not (has is_answer h) && (not (has is_commit h) || all_closed h))

abbrev pub lost_of : Entry → Option EnlNo
lost_of (Lost e) = Some e
lost_of _ = None

-- while nothing is decided, each that was lost had voted
abbrev pub is_spared : List Entry → Bool
is_spared h = has is_decision h || each (λ e. has (is_vote e.value) h) (all_of lost_of h)

-- what holds at the end of each block
pub record IsKept (h : List Entry) : Type 0 where
  pub rules : ruled h ≡ true
  pub going : is_going h ≡ true
  pub spared : is_spared h ≡ true

-- with one more entry that is no loss, each that was lost had voted
spared_more : (x : Entry) (h : List Entry) → is_none (lost_of x) ≡ true → is_spared h ≡ true → is_spared (x ∷ h) ≡ true
spared_more x h n s = step (is_decision x) (lost_of x) n s
  where
    votes : (xs : List EnlNo) → each (λ e. has (is_vote e.value) h) xs ≡ true → each (λ e. has (is_vote e.value) (x ∷ h)) xs ≡ true
    votes xs k = each_more (λ e. has (is_vote e.value) h) (λ e. has (is_vote e.value) (x ∷ h)) (λ e. or_right (is_vote e.value x) (has (is_vote e.value) h)) xs k

    still : (d : Bool) → (d || each (λ e. has (is_vote e.value) h) (all_of lost_of h)) ≡ true → (d || each (λ e. has (is_vote e.value) (x ∷ h)) (all_of lost_of h)) ≡ true
    still true k = refl
    still false k = votes (all_of lost_of h) k

    step : (d : Bool) (o : Option EnlNo) → is_none o ≡ true → (has is_decision h || each (λ e. has (is_vote e.value) h) (all_of lost_of h)) ≡ true
        → ((d || has is_decision h) || each (λ e. has (is_vote e.value) (x ∷ h)) (put o (all_of lost_of h))) ≡ true
    step true o n k = refl
    step false None n k = still (has is_decision h) k
    step false (Some e) n k = absurd cc

-- one more entry that is no loss keeps it
pub keep : (x : Entry) (h : List Entry) → IsKept h → is_none (lost_of x) ≡ true → rule h x ≡ true → (is_going h ≡ true → is_going (x ∷ h) ≡ true) → IsKept (x ∷ h)
keep x h k n r g = record { rules = and_both (rule h x) (ruled h) r k.rules; going = g k.going; spared = spared_more x h n k.spared }

-- a loss after a decision keeps it, and one of an enlistment that voted
pub keep_lost : (h : List Entry) (e : EnlNo) → IsKept h → rule h (Lost e) ≡ true → (has is_decision h || has (is_vote e.value) h) ≡ true → IsKept (Lost e ∷ h)
keep_lost h e k r v =
    record {
      rules = and_both (rule h (Lost e)) (ruled h) r k.rules;
      going = k.going;
      spared = step (has is_decision h) (has (is_vote e.value) h) (each (λ e. has (is_vote e.value) h) (all_of lost_of h)) v k.spared;
    }
  where
    step : (d w s : Bool) → (d || w) ≡ true → (d || s) ≡ true → (d || (w && s)) ≡ true
    step true w s v k = refl
    step false w s v k = and_both w s v k

-- where nothing is decided, nobody voted no
pub going_willing : (h : List Entry) → has is_decision h ≡ false → is_going h ≡ true → has is_no_vote h ≡ false
going_willing h d g = step (has is_decision h) (has is_no_vote h) (has is_answer h) (not (has is_commit h) || all_closed h) d g
  where
    step : (d n w c : Bool) → d ≡ false → (d || (not n && not w && c)) ≡ true → n ≡ false
    step true n w c d g = absurd cc
    step false true w c d g = absurd cc
    step false false w c d g = refl

-- where nothing is decided, no owner answered
pub going_unanswered : (h : List Entry) → has is_decision h ≡ false → is_going h ≡ true → has is_answer h ≡ false
going_unanswered h d g = step (has is_decision h) (has is_no_vote h) (has is_answer h) (not (has is_commit h) || all_closed h) d g
  where
    step : (d n w c : Bool) → d ≡ false → (d || (not n && not w && c)) ≡ true → w ≡ false
    step true n w c d g = absurd cc
    step false true w c d g = absurd cc
    step false false true c d g = absurd cc
    step false false false c d g = refl

-- where nothing is decided and commit was asked, no clone is open that makes a commit a veto
pub going_closed : (h : List Entry) → has is_decision h ≡ false → has is_commit h ≡ true → is_going h ≡ true → all_closed h ≡ true
going_closed h d c g = step (has is_decision h) (not (has is_no_vote h) && not (has is_answer h)) (has is_commit h) (all_closed h) d c g
  where
    step : (d n c a : Bool) → d ≡ false → c ≡ true → (d || (n && (not c || a))) ≡ true → a ≡ true
    step true n c a d k g = absurd cc
    step false false c a d k g = absurd cc
    step false true false a d k g = absurd cc
    step false true true a d k g = g

-- after commit the clones are as closed as they were
going_step : (d n c x y : Bool) → (c ≡ true → x ≡ true → y ≡ true) → (d || (n && (not c || x))) ≡ true → (d || (n && (not c || y))) ≡ true
going_step true n c x y f g = refl
going_step false false c x y f g = g
going_step false true false x y f g = refl
going_step false true true x y f g = f refl g

-- commit is asked where the clones are closed
commit_step : (d n c x : Bool) → x ≡ true → (d || (n && (not c || x))) ≡ true → (d || (n && x)) ≡ true
commit_step true n c x e g = refl
commit_step false false c x e g = g
commit_step false true c x e g = e

-- one more enlistment keeps it
pub enlisted_keeps : (h : List Entry) (e : EnlNo) (c : Class) → IsKept h → has is_decision h ≡ false → has is_sealed h ≡ false
    → has (is_enlisted e.value) h ≡ false → (is_volatile c || (can_own c && is_empty (durables h))) ≡ true → IsKept (Enlisted e c ∷ h)
enlisted_keeps h e c k d s n v =
    keep (Enlisted e c) h k refl
    (four_hold (not (has is_decision h)) (not (has is_sealed h)) (not (has (is_enlisted e.value) h)) (is_volatile c || (can_own c && is_empty (durables h)))
    (not_false (has is_decision h) d) (not_false (has is_sealed h) s) (not_false (has (is_enlisted e.value) h) n) v) (λ g. g)

-- one more clone keeps it
pub cloned_keeps : (h : List Entry) (c : CloneNo) (d : CloneKind) → IsKept h → has is_decision h ≡ false → has is_commit h ≡ false
    → has (is_cloned c.value) h ≡ false → IsKept (Cloned c d ∷ h)
cloned_keeps h c d k u m n =
    keep (Cloned c d) h k refl
    (three_hold (not (has is_decision h)) (not (has is_commit h)) (not (has (is_cloned c.value) h))
    (not_false (has is_decision h) u) (not_false (has is_commit h) m) (not_false (has (is_cloned c.value) h) n))
    (going_step (has is_decision h) (not (has is_no_vote h) && not (has is_answer h)) (has is_commit h) (all_closed h) (all_closed (Cloned c d ∷ h)) (λ t. absurd (not_both (has is_commit h) t m)))

-- one more complete keeps it
pub completed_keeps : (h : List Entry) (c : CloneNo) → IsKept h → has is_decision h ≡ false → has (is_cloned c.value) h ≡ true → IsKept (Completed c ∷ h)
completed_keeps h c k u n =
    keep (Completed c) h k refl (and_both (not (has is_decision h)) (has (is_cloned c.value) h) (not_false (has is_decision h) u) n)
    (going_step (has is_decision h) (not (has is_no_vote h) && not (has is_answer h)) (has is_commit h) (all_closed h) (all_closed (Completed c ∷ h))
    (λ t. each_more (λ d. blocks d.1 || is_complete h d) (λ d. blocks d.1 || is_complete (Completed c ∷ h) d)
    (λ d. or_between (blocks d.1) (d.0.value == c.value) (is_complete h d)) (all_of clone_of h)))

-- a decision that may be told to the client keeps it
pub decided_keeps : (h : List Entry) (x : Outcome) → ruled h ≡ true → has is_decision h ≡ false → may_tell h Client x ≡ true → IsKept (Decided x ∷ h)
decided_keeps h x r d m =
    record {
      rules = and_both (rule h (Decided x)) (ruled h) (and_both (not (has is_decision h)) (may_tell h Client x) (not_false (has is_decision h) d) m) r;
      going = refl;
      spared = refl;
    }

-- an abort after a veto keeps it
aborted_keeps : (h : List Entry) → ruled h ≡ true → has is_decision h ≡ false → vetoed h ≡ true → evidence h ≡ false → IsKept (Decided Aborted ∷ h)
unfolding may_tell
aborted_keeps h r d v e = decided_keeps h Aborted r d (and_both (vetoed h) (not (evidence h)) v (not_false (evidence h) e))

-- a veto after which no evidence stood yet
first_vetoed : (x : Entry) (h : List Entry) → is_veto h x ≡ true → evidence h ≡ false → vetoed (x ∷ h) ≡ true
unfolding vetoed
first_vetoed x h v e =
    let first : (is_veto h x && not (evidence h)) ≡ true = and_both (is_veto h x) (not (evidence h)) v (not_false (evidence h) e) in rw first refl

-- where nothing is handed over, nothing stands against a rollback or a timeout
free : (h : List Entry) → ruled h ≡ true → has is_any_hand h ≡ false → (not (has is_yes h) && not (has is_any_hand h)) ≡ true
free h r u = and_both (not (has is_yes h)) (not (has is_any_hand h)) (not_false (has is_yes h) (none_yes h r)) (not_false (has is_any_hand h) u)

-- a rollback aborts
pub rollback_keeps : (h : List Entry) → IsKept h → has is_decision h ≡ false → has is_sealed h ≡ false → IsKept (Decided Aborted ∷ RollbackAsked ∷ h)
rollback_keeps h k d s =
    aborted_keeps (RollbackAsked ∷ h) k.rules d (first_vetoed RollbackAsked h (free h k.rules (unsealed_unhanded h k.rules s)) (unsealed_open h k.rules s))
    (unsealed_open (RollbackAsked ∷ h) k.rules s)

-- the timeout aborts where nothing is handed over and no evidence stands
pub timeout_keeps : (h : List Entry) → IsKept h → has is_decision h ≡ false → has is_any_hand h ≡ false → evidence h ≡ false → IsKept (Decided Aborted ∷ TimedOut ∷ h)
unfolding evidence ready by_seal by_owner by_log
timeout_keeps h k d u e = aborted_keeps (TimedOut ∷ h) k.rules d (first_vetoed TimedOut h (free h k.rules u) e) e

-- commit was asked only of what isn't sealed
commit_unsealed : (h : List Entry) → ruled h ≡ true → has is_commit h ≡ false → has is_sealed h ≡ false
commit_unsealed h r c = false_from_ne_true (has is_sealed h) (λ s. not_both (has is_commit h) (sealed_closed h r s).commit c)

-- the rule of commit
commit_rule : (h : List Entry) → has is_decision h ≡ false → has is_commit h ≡ false → rule h CommitAsked ≡ true
commit_rule h d c = and_both (not (has is_decision h)) (not (has is_commit h)) (not_false (has is_decision h) d) (not_false (has is_commit h) c)

-- commit that is a veto aborts
pub refused_keeps : (h : List Entry) → IsKept h → has is_decision h ≡ false → has is_commit h ≡ false → is_veto h CommitAsked ≡ true → IsKept (Decided Aborted ∷ CommitAsked ∷ h)
refused_keeps h k d c v =
    let rules : ruled (CommitAsked ∷ h) ≡ true = and_both (rule h CommitAsked) (ruled h) (commit_rule h d c) k.rules in
    let unsealed = commit_unsealed h k.rules c in
    aborted_keeps (CommitAsked ∷ h) rules d (first_vetoed CommitAsked h v (unsealed_open h k.rules unsealed)) (unsealed_open (CommitAsked ∷ h) rules unsealed)

-- commit that is no veto keeps it
pub commit_keeps : (h : List Entry) → IsKept h → has is_decision h ≡ false → has is_commit h ≡ false → is_veto h CommitAsked ≡ false → IsKept (CommitAsked ∷ h)
commit_keeps h k d c v =
    let closed : all_closed h ≡ true =
    none_each (λ c. is_rollback c.1 && not (is_complete h c)) (λ c. blocks c.1 || is_complete h c) (λ c. closed_step c.1 (is_complete h c)) (all_of clone_of h) v in
    keep CommitAsked h k refl (commit_rule h d c) (commit_step (has is_decision h) (not (has is_no_vote h) && not (has is_answer h)) (has is_commit h) (all_closed h) closed)

-- a vote yes keeps it
pub yes_keeps : (h : List Entry) (e : EnlNo) → IsKept h → rule h (Voted e Yes) ≡ true → IsKept (Voted e Yes ∷ h)
yes_keeps h e k q = keep (Voted e Yes) h k refl q (λ g. g)

-- a vote done keeps it
pub done_keeps : (h : List Entry) (e : EnlNo) → IsKept h → rule h (Voted e Done) ≡ true → IsKept (Voted e Done ∷ h)
done_keeps h e k q = keep (Voted e Done) h k refl q (λ g. g)

-- one that hasn't voted well is left
unwilling : (h k : List Entry) (e : ℕ) → has (is_enlisted e) h ≡ true → has (is_good_vote e) k ≡ false
    → each (λ x. is_volatile x.1 && has (is_good_vote x.0.value) k) (enlisted h) ≡ false
unwilling h k e s g =
    false_from_ne_true (each (λ x. is_volatile x.1 && has (is_good_vote x.0.value) k) (enlisted h))
    (λ w. not_both (has (is_good_vote e) k) (enlisted_passes (λ f. has (is_good_vote f) k) e h
    (each_more (λ x. is_volatile x.1 && has (is_good_vote x.0.value) k) (λ x. has (is_good_vote x.0.value) k)
    (λ x. and_right (is_volatile x.1) (has (is_good_vote x.0.value) k)) (enlisted h) w) s) g)

-- where no owner answered and one hasn't voted well there is no evidence
unwilling_open : (h : List Entry) → ruled h ≡ true → has is_answer h ≡ false → all_well h ≡ false → evidence h ≡ false
unwilling_open h r u w = evidence-sealed h r u ∙ ap (λ b. has is_sealed h && b) w ∙ and_never (has is_sealed h)

-- a vote no aborts
pub no_keeps : (h : List Entry) (e : EnlNo) → IsKept h → rule h (Voted e No) ≡ true → IsKept (Decided Aborted ∷ Voted e No ∷ h)
no_keeps h e k q =
    let d = not_true (has is_decision h) (open_rule h (Voted e No) refl q) in
    let u = going_unanswered h d k.going in
    let stands = voted_enlisted e No h q in
    let none = unvoted_unwell e.value h (voted_once e No h q) in
    let rules : ruled (Voted e No ∷ h) ≡ true = and_both (rule h (Voted e No)) (ruled h) q k.rules in
    aborted_keeps (Voted e No ∷ h) rules d (first_vetoed (Voted e No) h refl (unwilling_open h k.rules u (unwilling h h e.value stands none)))
    (unwilling_open (Voted e No ∷ h) rules u
    (unwilling h (Voted e No ∷ h) e.value stands (or_false ((e.value == e.value) && false) (has (is_good_vote e.value) h) (and_never (e.value == e.value)) none)))

-- one that hasn't voted and wasn't handed the commit is lost: that aborts
pub lost_aborts : (h : List Entry) (e : EnlNo) → IsKept h → has is_decision h ≡ false → rule h (Lost e) ≡ true → has (is_vote e.value) h ≡ false → has (is_hand e.value) h ≡ false
    → IsKept (Decided Aborted ∷ Lost e ∷ h)
unfolding evidence ready by_seal by_owner by_log
lost_aborts h e k d q v u =
    let stands = and_left (has (is_enlisted e.value) h) (not (has (is_lost e.value) h)) q in
    let bare = unwilling_open h k.rules (going_unanswered h d k.going) (unwilling h h e.value stands (unvoted_unwell e.value h v)) in
    let veto : is_veto h (Lost e) ≡ true = and_both (not (has (is_vote e.value) h)) (not (has (is_hand e.value) h)) (not_false (has (is_vote e.value) h) v) (not_false (has (is_hand e.value) h) u) in
    aborted_keeps (Lost e ∷ h) (and_both (rule h (Lost e)) (ruled h) q k.rules) d (first_vetoed (Lost e) h veto bare) bare

-- the one that was handed the commit is lost before its answer: that leaves it in doubt
pub lost_doubts : (h : List Entry) (e : EnlNo) → IsKept h → has is_decision h ≡ false → rule h (Lost e) ≡ true → has (is_hand e.value) h ≡ true → IsKept (Decided InDoubt ∷ Lost e ∷ h)
unfolding may_tell owner_doubt
lost_doubts h e k d q u =
    let silent = has_less (is_any_owner e.value) is_answer (any_answer e.value) h (going_unanswered h d k.going) in
    let lost : is_lost_owner h (Lost e) ≡ true = and_both (has (is_hand e.value) h) (not (has (is_any_owner e.value) h)) u (not_false (has (is_any_owner e.value) h) silent) in
    decided_keeps (Lost e ∷ h) InDoubt (and_both (rule h (Lost e)) (ruled h) q k.rules) d
    (owner_doubts (Lost e ∷ h) (or_right _ (ever is_lost_owner (Lost e ∷ h)) (or_left (is_lost_owner h (Lost e)) (ever is_lost_owner h) lost)))

-- the owner's answer decides
pub answer_keeps : (h : List Entry) (e : EnlNo) (x : Outcome) → IsKept h → rule h (OwnerAnswered e x) ≡ true → IsKept (Decided x ∷ OwnerAnswered e x ∷ h)
unfolding may_tell owner_doubt
answer_keeps h e x k q =
    let d = not_true (has is_decision h) (open_rule h (OwnerAnswered e x) refl q) in
    let rules : ruled (OwnerAnswered e x ∷ h) ≡ true = and_both (rule h (OwnerAnswered e x)) (ruled h) q k.rules in
    let hand = second_of_three (not (has is_decision h)) (has (is_hand e.value) h) (not (has is_answer h)) q in
    by_outcome h e x k d rules hand (has_more (is_hand e.value) is_any_hand (hand_any e.value) h hand)
  where
    by_outcome : (h : List Entry) (e : EnlNo) (x : Outcome) → IsKept h → has is_decision h ≡ false → ruled (OwnerAnswered e x ∷ h) ≡ true → has (is_hand e.value) h ≡ true
        → has is_any_hand h ≡ true → IsKept (Decided x ∷ OwnerAnswered e x ∷ h)
    by_outcome h e Committed k d r s a = decided_keeps (OwnerAnswered e Committed ∷ h) Committed r d (evidence-handed (OwnerAnswered e Committed ∷ h) r a)
    by_outcome h e Aborted k d r s a =
        let silent = has_less (is_answered Committed) is_answer (answered_any Committed) h (going_unanswered h d k.going) in
        aborted_keeps (OwnerAnswered e Aborted ∷ h) r d (first_vetoed (OwnerAnswered e Aborted) h refl (evidence-handed h k.rules a ∙ silent))
        (evidence-handed (OwnerAnswered e Aborted ∷ h) r a ∙ silent)
    by_outcome h e InDoubt k d r s a =
        let heard : has (λ f. has (is_owner f.value InDoubt) (OwnerAnswered e InDoubt ∷ h)) (all_of handed_of h) ≡ true =
        has_more (λ f. f.value == e.value) (λ f. has (is_owner f.value InDoubt) (OwnerAnswered e InDoubt ∷ h))
        (λ f g. or_left ((f.value == e.value) && true) (has (is_owner f.value InDoubt) h) (and_both (f.value == e.value) true g refl)) (all_of handed_of h) (hand_listed e.value h s) in
        decided_keeps (OwnerAnswered e InDoubt ∷ h) InDoubt r d (owner_doubts (OwnerAnswered e InDoubt ∷ h) (or_left (has (λ f. has (is_owner f.value InDoubt) (OwnerAnswered e InDoubt ∷ h)) (all_of handed_of h)) _ heard))
