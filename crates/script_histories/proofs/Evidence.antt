-- What the rules say of evidence: nothing is promoted, and at most one enlistment is durable or promotable. So evidence stands by the seal
-- where each is volatile and voted well, and by the owner's answer where the commit was handed over.
use Rattle.std.proofs.Common.{Bool, ◌&&◌, List, ◌≡◌, true, false, [], ◌∷◌, refl, ◌∙◌, ap, ℕ, ◌==◌, ◌||◌}
use Rattle.std.specs.Prelude.{not, filter, if◌then◌else◌}
use Rattle.std.proofs.lemmas.Bool.{eqb-true}
use Rattle.dtx_values.specs.declared.number.EnlNo.{EnlNo}
use Rattle.dtx_values.specs.declared.entry.Entry.{Entry}
use Rattle.dtx_values.specs.declared.entry.Entry.TheVariants.{Promoted, Sent, LocalYes, Enlisted, Cloned, Completed, CommitAsked, Sealed, Handed, OwnerAnswered, Voted}
use Rattle.dtx_values.specs.declared.words.Class.{Class}
use Rattle.dtx_values.specs.declared.words.Outcome.{Outcome}
use Rattle.dtx_values.specs.declared.words.Outcome.TheVariants.{Committed}
use Rattle.dtx_values.specs.Class.{is_volatile}
use Rattle.dtx_model.specs.Words.{has, each, all_of}
use Rattle.dtx_model.specs.Entries.{is_any_single_sent, is_good_vote, is_promoted, is_yes, is_sealed, is_decision, is_commit, clone_of, is_any_hand, is_hand, is_owner, is_record, same_outcome}
use Rattle.dtx_model.specs.Outcome.{enlisted, volatiles, voters, is_complete, ready, can_own, may_decide, owner_committed, is_empty, durables, by_seal, by_owner, by_log, evidence}
use Rattle.dtx_model.proofs.Bools.{or_false, not_true, or_right, not_both, and_never, and_left, and_right, and_both, three_hold, or_case}
use Rattle.history_table.proofs.Tests.{second_of_four, second_of_three, third_of_four, second_of_five, third_of_five, fourth_of_five}
use Rattle.history_table.proofs.EntryTests.{is_enlisted, all_complete, is_cloned, zeros_cast, is_answer, is_only}
use Rattle.history_table.proofs.Scans.{each_more, has_less}
use Rattle.history_table.proofs.Evident.{may_decide_local}
use Rattle.history_table.proofs.Handed.{hand_any, is_answered, owner_alone, only_name, hand_name}
use Rattle.script_histories.proofs.Rule.{rule, ruled, first_rule, other_rules}

-- each enlistment is volatile and voted yes or done
abbrev pub all_well : List Entry → Bool
all_well h = each (λ x. is_volatile x.1 && has (is_good_vote x.0.value) h) (enlisted h)

-- what no entry that keeps its rule passes, no entry passes
none_ruled : (p : Entry → Bool) → ((h : List Entry) (x : Entry) → rule h x ≡ true → p x ≡ false) → (h : List Entry) → ruled h ≡ true → has p h ≡ false
none_ruled p sub [] r = refl
none_ruled p sub (x ∷ h) r = or_false (p x) (has p h) (sub h x (first_rule x h r)) (none_ruled p sub h (other_rules x h r))

-- what keeps its rule is no promotion
not_promoted : (h : List Entry) (x : Entry) → rule h x ≡ true → is_promoted x ≡ false
not_promoted h (Promoted u c) r = absurd cc
not_promoted h _ r = refl

-- what keeps its rule is no yes of the local side
not_yes : (h : List Entry) (x : Entry) → rule h x ≡ true → is_yes x ≡ false
not_yes h LocalYes r = absurd cc
not_yes h _ r = refl

-- what keeps its rule is no SINGLE that is sent
not_single : (h : List Entry) (x : Entry) → rule h x ≡ true → is_any_single_sent x ≡ false
not_single h (Sent c d m) r = absurd cc
not_single h _ r = refl

-- nothing is promoted
pub none_promoted : (h : List Entry) → ruled h ≡ true → has is_promoted h ≡ false
none_promoted = none_ruled is_promoted not_promoted

-- the local side said no yes
pub none_yes : (h : List Entry) → ruled h ≡ true → has is_yes h ≡ false
none_yes = none_ruled is_yes not_yes

-- nobody is let decide
pub none_single : (h : List Entry) → ruled h ≡ true → has is_any_single_sent h ≡ false
none_single = none_ruled is_any_single_sent not_single

-- the volatiles vote
pub voters-volatile : (h : List Entry) → ruled h ≡ true → voters h ≡ volatiles h
voters-volatile h r = let local = none_promoted h r in rw local refl

-- what is enlisted isn't sealed
enlisted_unsealed : (e : EnlNo) (c : Class) (h : List Entry) → ruled (Enlisted e c ∷ h) ≡ true → has is_sealed h ≡ false
enlisted_unsealed e c h r =
    not_true (has is_sealed h) (second_of_four (not (has is_decision h)) (not (has is_sealed h)) (not (has (is_enlisted e.value) h)) _ (first_rule (Enlisted e c) h r))

-- what is sealed was asked to commit, and each clone is complete
pub record IsClosed (h : List Entry) : Type 0 where
  pub commit : has is_commit h ≡ true
  pub complete : all_complete h ≡ true

-- what is complete stays complete with one more
complete_more : (c : Entry) (h : List Entry) → all_of clone_of (c ∷ h) ≡ all_of clone_of h → all_complete h ≡ true → all_complete (c ∷ h) ≡ true
complete_more x h e k =
    ap (λ cs. each (λ c. is_complete (x ∷ h) c) cs) e
    ∙ each_more (λ c. is_complete h c) (λ c. is_complete (x ∷ h) c) (λ c k. or_right _ (is_complete h c) k) (all_of clone_of h) k

-- sealed is only what was asked to commit, with each clone complete
pub sealed_closed : (h : List Entry) → ruled h ≡ true → has is_sealed h ≡ true → IsClosed h
sealed_closed [] r k = absurd cc
sealed_closed (Sealed ∷ h) r k =
    let rule = first_rule Sealed h r in
    record {
      commit = second_of_four (not (has is_decision h)) (has is_commit h) (all_complete h) (zeros_cast h) rule;
      complete = third_of_four (not (has is_decision h)) (has is_commit h) (all_complete h) (zeros_cast h) rule;
    }
sealed_closed (CommitAsked ∷ h) r k = let w = sealed_closed h (other_rules CommitAsked h r) k in record { commit = refl; complete = w.complete }
sealed_closed (Cloned c d ∷ h) r k =
    let w = sealed_closed h (other_rules (Cloned c d) h r) k in
    let rule = second_of_three (not (has is_decision h)) (not (has is_commit h)) (not (has (is_cloned c.value) h)) (first_rule (Cloned c d) h r) in
    absurd (not_both (has is_commit h) w.commit (not_true (has is_commit h) rule))
sealed_closed (Completed c ∷ h) r k =
    let w = sealed_closed h (other_rules (Completed c) h r) k in record { commit = w.commit; complete = complete_more (Completed c) h refl w.complete }
sealed_closed (x ∷ h) r k = let w = sealed_closed h (other_rules x h r) k in record { commit = w.commit; complete = w.complete }

-- the commit is handed to nobody before the seal
pub unsealed_unhanded : (h : List Entry) → ruled h ≡ true → has is_sealed h ≡ false → has is_any_hand h ≡ false
unsealed_unhanded [] r s = refl
unsealed_unhanded (Sealed ∷ h) r s = absurd cc
unsealed_unhanded (Handed e ∷ h) r s =
    let sealed = second_of_five (not (has is_decision h)) (has is_sealed h) (ready h) _ (not (has is_any_hand h)) (first_rule (Handed e) h r) in
    absurd (not_both (has is_sealed h) sealed s)
unsealed_unhanded (x ∷ h) r s = unsealed_unhanded h (other_rules x h r) s

-- no owner answers before the commit is handed over
pub unhanded_unanswered : (h : List Entry) → ruled h ≡ true → has is_any_hand h ≡ false → has is_answer h ≡ false
unhanded_unanswered [] r u = refl
unhanded_unanswered (Handed e ∷ h) r u = absurd cc
unhanded_unanswered (OwnerAnswered e x ∷ h) r u =
    let handed = second_of_three (not (has is_decision h)) (has (is_hand e.value) h) (not (has is_answer h)) (first_rule (OwnerAnswered e x) h r) in
    absurd (not_both (has (is_hand e.value) h) handed (has_less (is_hand e.value) is_any_hand (hand_any e.value) h u))
unhanded_unanswered (x ∷ h) r u = unhanded_unanswered h (other_rules x h r) u

-- an answer of this owner is an answer
owner_answer : (e : ℕ) (o : Outcome) (x : Entry) → is_owner e o x ≡ true → is_answer x ≡ true
owner_answer e o (OwnerAnswered f y) k = refl
owner_answer e o _ k = k

-- where no owner answered, none answered committed
pub uncommitted : (h : List Entry) (ds : List (EnlNo × Class)) → has is_answer h ≡ false → owner_committed h ds ≡ false
uncommitted h [] u = refl
uncommitted h (x ∷ xs) u =
    ap (λ b. each (λ y. x.0.value == y.0.value) xs && has (λ y. can_own y.1) (x ∷ xs) && may_decide h x.0.value && has (is_hand x.0.value) h && b)
    (has_less (is_owner x.0.value Committed) is_answer (owner_answer x.0.value Committed) h u)
    ∙ and_never (each (λ y. x.0.value == y.0.value) xs && has (λ y. can_own y.1) (x ∷ xs) && may_decide h x.0.value && has (is_hand x.0.value) h)

-- where nothing is promoted and no owner committed, evidence is by the seal
pub seal_alone : (a s p l e o : Bool) → p ≡ false → o ≡ false → (a && ((s && not p && e) || o || (p && l))) ≡ (a && (s && e))
seal_alone a s true l e o p q = absurd cc
seal_alone a s false l e true p q = absurd cc
seal_alone a true false l true false p q = refl
seal_alone a true false l false false p q = refl
seal_alone a false false l e false p q = refl

-- after the seal nothing but the votes and the durables is open
pub seal_step : (s c a w e : Bool) → (s ≡ true → c ≡ true) → (s ≡ true → a ≡ true) → ((c && a && w) && (s && e)) ≡ (s && (w && e))
seal_step true true true true e f g = refl
seal_step true true true false e f g = refl
seal_step true true false w e f g = let k = g refl in absurd cc
seal_step true false a w e f g = let k = f refl in absurd cc
seal_step false c a w e f g = and_never (c && a && w)

-- each volatile passes and the rest are none: each is volatile and passes
pub volatile_well : (g : EnlNo × Class → Bool) (xs : List (EnlNo × Class))
    → (each g (filter (λ x. is_volatile x.1) xs) && is_empty (filter (λ x. not (is_volatile x.1)) xs)) ≡ each (λ x. is_volatile x.1 && g x) xs
volatile_well g [] = refl
volatile_well g (x ∷ xs) =
    step g (is_volatile x.1) x (filter (λ y. is_volatile y.1) xs) (filter (λ y. not (is_volatile y.1)) xs) (each (λ y. is_volatile y.1 && g y) xs) (volatile_well g xs)
  where
    first : (a b c d : Bool) → (b && c) ≡ d → ((a && b) && c) ≡ (a && d)
    first true b c d e = e
    first false b c d e = refl

    step : (g : EnlNo × Class → Bool) (v : Bool) (x : EnlNo × Class) (vs ds : List (EnlNo × Class)) (b : Bool) → (each g vs && is_empty ds) ≡ b
        → (each g (if v then x ∷ vs else vs) && is_empty (if not v then x ∷ ds else ds)) ≡ ((v && g x) && b)
    step g true x vs ds b e = first (g x) (each g vs) (is_empty ds) b e
    step g false x vs ds b e = and_never (each g vs)

-- where no owner answered, evidence stands where it is sealed and each is volatile and voted well
pub evidence-sealed : (h : List Entry) → ruled h ≡ true → has is_answer h ≡ false → evidence h ≡ (has is_sealed h && all_well h)
unfolding evidence ready by_seal by_owner by_log
evidence-sealed h r u =
    seal_alone (ready h) (has is_sealed h) (has is_promoted h) (has is_record h) (is_empty (durables h)) (owner_committed h (durables h)) (none_promoted h r)
    (uncommitted h (durables h) u)
    ∙ ap (λ xs. (has is_commit h && all_complete h && each (λ x. has (is_good_vote x.0.value) h) xs) && (has is_sealed h && is_empty (durables h))) (voters-volatile h r)
    ∙ seal_step (has is_sealed h) (has is_commit h) (all_complete h) (each (λ x. has (is_good_vote x.0.value) h) (volatiles h)) (is_empty (durables h))
    (λ k. (sealed_closed h r k).commit) (λ k. (sealed_closed h r k).complete)
    ∙ ap (λ b. has is_sealed h && b) (volatile_well (λ x. has (is_good_vote x.0.value) h) (enlisted h))

-- what isn't sealed isn't evidence
pub unsealed_open : (h : List Entry) → ruled h ≡ true → has is_sealed h ≡ false → evidence h ≡ false
unsealed_open h r u = evidence-sealed h r (unhanded_unanswered h r (unsealed_unhanded h r u)) ∙ ap (λ b. b && all_well h) u

-- what is sealed and ready stays ready with one more
ready_more : (x : Entry) (h : List Entry) → ruled (x ∷ h) ≡ true → has is_sealed h ≡ true → ready h ≡ true → ready (x ∷ h) ≡ true
unfolding ready
ready_more (Enlisted e c) h r s k = absurd (not_both (has is_sealed h) s (enlisted_unsealed e c h r))
ready_more (Cloned c d) h r s k =
    let rule = second_of_three (not (has is_decision h)) (not (has is_commit h)) (not (has (is_cloned c.value) h)) (first_rule (Cloned c d) h r) in
    absurd (not_both (has is_commit h) (sealed_closed h (other_rules (Cloned c d) h r) s).commit (not_true (has is_commit h) rule))
ready_more (CommitAsked) h r s k =
    let rule = and_right (not (has is_decision h)) (not (has is_commit h)) (first_rule CommitAsked h r) in
    absurd (not_both (has is_commit h) (sealed_closed h (other_rules CommitAsked h r) s).commit (not_true (has is_commit h) rule))
ready_more (Completed c) h r s k =
    let w = sealed_closed h (other_rules (Completed c) h r) s in
    three_hold (has is_commit h) (all_complete (Completed c ∷ h)) _ w.commit (complete_more (Completed c) h refl w.complete) (and_right (has is_commit h && all_complete h) _ k)
ready_more (Voted e v) h r s k =
    and_both (has is_commit h && all_complete h) _ (and_left (has is_commit h && all_complete h) _ k)
    (each_more (λ x. has (is_good_vote x.0.value) h) (λ x. has (is_good_vote x.0.value) (Voted e v ∷ h))
    (λ x. or_right (is_good_vote x.0.value (Voted e v)) (has (is_good_vote x.0.value) h)) (voters h) (and_right (has is_commit h && all_complete h) _ k))
ready_more (Promoted u c) h r s k = absurd cc
ready_more (Sent c d m) h r s k = absurd cc
ready_more _ h r s k = k

-- after the seal no more are enlisted
durables_more : (x : Entry) (h : List Entry) → ruled (x ∷ h) ≡ true → has is_sealed h ≡ true → durables (x ∷ h) ≡ durables h
durables_more (Enlisted e c) h r s = absurd (not_both (has is_sealed h) s (enlisted_unsealed e c h r))
durables_more _ h r s = refl

-- to whom the commit was handed: it is sealed and ready, and this enlistment alone is durable or promotable
pub record IsHanded (h : List Entry) (e : ℕ) : Type 0 where
  pub sealed : has is_sealed h ≡ true
  pub all_ready : ready h ≡ true
  pub alone : is_only e (durables h) ≡ true

-- what was handed stays so with one more
handed_more : (x : Entry) (h : List Entry) (e : ℕ) → ruled (x ∷ h) ≡ true → IsHanded h e → IsHanded (x ∷ h) e
handed_more x h e r w =
    record {
      sealed = or_right (is_sealed x) (has is_sealed h) w.sealed;
      all_ready = ready_more x h r w.sealed w.all_ready;
      alone = rw (durables_more x h r w.sealed) w.alone;
    }

-- the commit is handed only where it is sealed, ready and the one enlistment's
pub hand_stands : (e : ℕ) (h : List Entry) → ruled h ≡ true → has (is_hand e) h ≡ true → IsHanded h e
hand_stands e [] r k = absurd cc
hand_stands e (Handed f ∷ h) r k =
    or_case (e == f.value) (has (is_hand e) h)
    (λ s. handed_more (Handed f) h e r (rw (eqb-true e f.value s) (now f h (first_rule (Handed f) h r))))
    (λ s. handed_more (Handed f) h e r (hand_stands e h (other_rules (Handed f) h r) s)) k
  where
    now : (f : EnlNo) (h : List Entry) → rule h (Handed f) ≡ true → IsHanded h f.value
    now f h k =
        record {
          sealed = second_of_five (not (has is_decision h)) (has is_sealed h) (ready h) _ (not (has is_any_hand h)) k;
          all_ready = third_of_five (not (has is_decision h)) (has is_sealed h) (ready h) _ (not (has is_any_hand h)) k;
          alone = fourth_of_five (not (has is_decision h)) (has is_sealed h) (ready h) (is_only f.value (durables h)) (not (has is_any_hand h)) k;
        }
hand_stands e (x ∷ h) r k = handed_more x h e r (hand_stands e h (other_rules x h r) k)

-- where the commit is only this one's, the answers are its answers
answers_alone : (e : ℕ) (o : Outcome) (h : List Entry) → ruled h ≡ true → ((f : ℕ) → has (is_hand f) h ≡ true → (e == f) ≡ true) → has (is_owner e o) h ≡ has (is_answered o) h
answers_alone e o [] r one = refl
answers_alone e o (Handed f ∷ h) r one =
    answers_alone e o h (other_rules (Handed f) h r) (λ g k. one g (or_right (g == f.value) (has (is_hand g) h) k))
answers_alone e o (OwnerAnswered f y ∷ h) r one =
    let handed = second_of_three (not (has is_decision h)) (has (is_hand f.value) h) (not (has is_answer h)) (first_rule (OwnerAnswered f y) h r) in
    ap (λ b. (b && same_outcome o y) || has (is_owner e o) h) (one f.value handed)
    ∙ ap (λ b. same_outcome o y || b) (answers_alone e o h (other_rules (OwnerAnswered f y) h r) one)
answers_alone e o (x ∷ h) r one = answers_alone e o h (other_rules x h r) one

-- where the commit was handed over, evidence stands where the owner answered committed
pub evidence-handed : (h : List Entry) → ruled h ≡ true → has is_any_hand h ≡ true → evidence h ≡ has (is_answered Committed) h
unfolding evidence by_seal by_owner by_log
evidence-handed h r k =
    let name = hand_name h k in
    let w = hand_stands name.0 h r name.1 in
    owner_alone (ready h) (has is_sealed h) (has is_promoted h) (has is_record h) h name.0 (durables h) w.all_ready (may_decide_local h name.0 (none_promoted h r)) (ap (λ b. b && has is_record h) (none_promoted h r)) w.alone name.1
    ∙ answers_alone name.0 Committed h r (λ f g. only_name f name.0 (durables h) (hand_stands f h r g).alone w.alone)
