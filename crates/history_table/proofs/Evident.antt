-- Evidence by the table: it stands only where it is sealed; where it is promoted, by the record; where it isn't, no entry changes it after a decision; and where the commit
-- was handed over, by the owner's answer.
use Rattle.std.proofs.Common.{◌≡◌, true, List, ◌==◌, [], ◌∷◌, ◌&&◌, ◌||◌, false, Bool, refl, ℕ, ap, ◌∙◌, sym, subst}
use Rattle.std.specs.Prelude.{not, ◌++◌, filter, if◌then◌else◌}
use Rattle.std.proofs.lemmas.Bool.{false_from_ne_true, eqb-true}
use Rattle.std.proofs.lemmas.List.Folds.{list_all-append}
use Rattle.dtx_values.specs.declared.entry.Entry.{Entry}
use Rattle.dtx_values.specs.declared.entry.Entry.TheVariants.{Handed, Voted, Cloned, CommitAsked, Completed, Decided, Enlisted, LocalYes, OwnerAnswered, Promoted, Sealed, Logged, Restarted, Sent}
use Rattle.dtx_values.specs.declared.message.Conn.{Conn}
use Rattle.dtx_values.specs.declared.message.Dir.{Dir}
use Rattle.dtx_values.specs.declared.message.Message.{Message}
use Rattle.dtx_values.specs.declared.number.EnlNo.{EnlNo}
use Rattle.dtx_values.specs.declared.words.Class.{Class}
use Rattle.dtx_values.specs.declared.words.Outcome.{Outcome}
use Rattle.dtx_values.specs.declared.words.Outcome.TheVariants.{Committed, InDoubt}
use Rattle.dtx_values.specs.declared.words.Vote.{Vote}
use Rattle.dtx_values.specs.Class.{is_volatile}
use Rattle.dtx_values.specs.Vote.{is_good}
use Rattle.dtx_model.specs.Words.{has, each, latest}
use Rattle.dtx_model.specs.Entries.{decision_of, is_any_hand, is_any_single_sent, is_single_sent, is_decision, is_sealed, is_hand, is_owner, is_promoted, is_record, is_good_vote, is_yes, is_commit, is_asked, is_lost, is_vote, same_outcome}
use Rattle.dtx_model.specs.Outcome.{all_vote, durables, ready, can_own, may_decide, owner_committed, by_log, by_owner, by_seal, evidence, is_empty, volatiles, voters, enlisted}
use Rattle.dtx_model.specs.Promotes.{is_promoting, is_under_way, is_begun_got, is_created_got}
use Rattle.dtx_model.proofs.Bools.{and_right, or_case, not_both, or_first, or_second, and_left, not_true, and_both, or_right, three_hold}
use Rattle.history_table.proofs.Tests.{second_of_five, first_of_three, eq_swap, first_of_five, second_of_three, third_of_five, fourth_of_five}
use Rattle.history_table.proofs.EntryTests.{is_decided, is_only, is_volatile_of, all_complete, is_answer, is_cloned, is_enlisted, zeros_cast}
use Rattle.history_table.proofs.Table.{ends_with, is_abort_decided, is_single_got, may_answer, may_hand, rule, stands_volatile, class_row, have_come}
use Rattle.history_table.proofs.Keeping.{Keeps, fifth_of_five, keeps_before, newest}
use Rattle.history_table.proofs.Scans.{has_more, each_more}
pub use Rattle.history_table.proofs.LetDecide.{sealed_if_handed}
use Rattle.history_table.proofs.LetDecide.{any_single_if_handed, durables_more, got_single, promoted_if_single, single_any, single_if_handed, single_unrecorded, unyes_unhanded}
use Rattle.history_table.proofs.Handed.{hand_any, is_answered, only_name, hand_name, owner_alone}
use Rattle.history_table.proofs.Recording.{sealed_if_yes, yes_if_record, promoted_if_sealed, promoting_if_promoted, complete_if_sealed, complete_more, commit_if_sealed, enlisted_unsealed}

-- who could own the commit and committed was handed it
pub owner_handed : (h : List Entry) (ds : List (EnlNo × Class)) → owner_committed h ds ≡ true → has is_any_hand h ≡ true
owner_handed h [] t = absurd cc
owner_handed h (x ∷ xs) t =
    has_more (is_hand x.0.value) is_any_hand (hand_any x.0.value) h
    (fourth_of_five (each (λ y. x.0.value == y.0.value) xs) (has (λ y. can_own y.1) (x ∷ xs)) (may_decide h x.0.value) (has (is_hand x.0.value) h) (has (is_owner x.0.value Committed) h) t)

-- evidence stands only where it is sealed
pub sealed_if_evident : (h : List Entry) → Keeps h → evidence h ≡ true → has is_sealed h ≡ true
unfolding evidence by_seal by_owner by_log
sealed_if_evident h k e =
    or_case ((has is_sealed h && not (has is_promoted h) && is_empty (durables h)) || owner_committed h (durables h)) (has is_promoted h && has is_record h)
    (λ t. or_case (has is_sealed h && not (has is_promoted h) && is_empty (durables h)) (owner_committed h (durables h))
    (λ s. first_of_three (has is_sealed h) (not (has is_promoted h)) (is_empty (durables h)) s)
    (λ o. sealed_if_handed h k (owner_handed h (durables h) o)) t)
    (λ l. sealed_if_yes h k (yes_if_record h k (and_right (has is_promoted h) (has is_record h) l)))
    (and_right (ready h) _ e)

pub unsealed_open : (h : List Entry) → Keeps h → has is_sealed h ≡ false → evidence h ≡ false
unsealed_open h k s = false_from_ne_true (evidence h) (λ e. not_both (has is_sealed h) (sealed_if_evident h k e) s)

-- where it is promoted, and the commit isn't handed over, evidence stands by the record
promoted_alone : (a s p m o l : Bool) → p ≡ true → o ≡ false → (a && ((s && not p && m) || o || (p && l))) ≡ true → l ≡ true
promoted_alone true true true m false l q r t = t
promoted_alone true false true m false l q r t = t
promoted_alone a s p m true l q r t = absurd cc
promoted_alone false s true m false l q r t = absurd cc
promoted_alone a s false m o l q r t = absurd cc

pub evident_record : (h : List Entry) → has is_promoted h ≡ true → has is_any_hand h ≡ false → evidence h ≡ true → has is_record h ≡ true
unfolding evidence by_seal by_owner by_log
evident_record h p n e =
    promoted_alone (ready h) (has is_sealed h) (has is_promoted h) (is_empty (durables h)) (owner_committed h (durables h)) (has is_record h) p
    (false_from_ne_true (owner_committed h (durables h)) (λ o. not_both (has is_any_hand h) (owner_handed h (durables h) o) n)) e

-- where a promotion began, there is no record, and the commit isn't handed over, there is no evidence
pub unrecorded_open : (h : List Entry) → Keeps h → has is_promoting h ≡ true → has is_any_hand h ≡ false → has is_record h ≡ false → evidence h ≡ false
unrecorded_open h k p n s =
    false_from_ne_true (evidence h) (λ e. not_both (has is_record h) (evident_record h (promoted_if_sealed h k (sealed_if_evident h k e) p) n e) s)

-- so before the local yes of a promotion
pub unyes_open : (h : List Entry) → Keeps h → has is_promoting h ≡ true → has is_yes h ≡ false → evidence h ≡ false
unyes_open h k p n =
    unrecorded_open h k p (unyes_unhanded h k p n) (false_from_ne_true (has is_record h) (λ r. not_both (has is_yes h) (yes_if_record h k r) n))

-- Where it isn't promoted, what the log says doesn't count.
log_apart : (a b p r s : Bool) → p ≡ false → (a && (b || (p && r))) ≡ (a && (b || (p && s)))
log_apart a b true r s q = absurd cc
log_apart a b false r s q = refl

-- a vote of one that isn't among the volatiles changes nothing among them
vote_apart : (e : ℕ) (b : Bool) (h : List Entry) (xs : List (EnlNo × Class)) → has (is_volatile_of e) xs ≡ false
    → each (λ x. ((x.0.value == e) && b) || has (is_good_vote x.0.value) h) (filter (λ x. is_volatile x.1) xs) ≡ each (λ x. has (is_good_vote x.0.value) h) (filter (λ x. is_volatile x.1) xs)
vote_apart e b h [] n = refl
vote_apart e b h (x ∷ xs) n =
    step x (filter (λ y. is_volatile y.1) xs) (is_volatile x.1) (or_first ((e == x.0.value) && is_volatile x.1) (has (is_volatile_of e) xs) n)
    (vote_apart e b h xs (or_second ((e == x.0.value) && is_volatile x.1) (has (is_volatile_of e) xs) n))
  where
    passes : EnlNo × Class → Bool
    passes y = ((y.0.value == e) && b) || has (is_good_vote y.0.value) h

    drop : (t g : Bool) → t ≡ false → ((t && b) || g) ≡ g
    drop true g q = absurd cc
    drop false g q = refl

    first : (t : Bool) → (t && true) ≡ false → t ≡ false
    first true q = absurd cc
    first false q = refl

    step : (x : EnlNo × Class) (ys : List (EnlNo × Class)) (v : Bool) → ((e == x.0.value) && v) ≡ false
        → each (λ y. ((y.0.value == e) && b) || has (is_good_vote y.0.value) h) ys ≡ each (λ y. has (is_good_vote y.0.value) h) ys
        → each (λ y. ((y.0.value == e) && b) || has (is_good_vote y.0.value) h) (if v then x ∷ ys else ys) ≡ each (λ y. has (is_good_vote y.0.value) h) (if v then x ∷ ys else ys)
    step x ys true q ih =
        ap (λ t. t && each (λ y. ((y.0.value == e) && b) || has (is_good_vote y.0.value) h) ys) (drop (x.0.value == e) (has (is_good_vote x.0.value) h) (eq_swap x.0.value e ∙ first (e == x.0.value) q))
        ∙ ap (λ t. has (is_good_vote x.0.value) h && t) ih
    step x ys false q ih = ih

-- the voters of what isn't promoted
pub not_all : (h : List Entry) → has is_promoted h ≡ false → all_vote h ≡ false
not_all h p = ap (λ b. b && not (has is_any_single_sent h)) p

pub local_voters : (h : List Entry) → has is_promoted h ≡ false → voters h ≡ volatiles h
local_voters h p = ap (λ b. if b then volatiles h ++ durables h else volatiles h) (not_all h p)

vote_same : (e : EnlNo) (v : Vote) (h : List Entry) → has is_promoted h ≡ false → stands_volatile e.value h ≡ false → evidence (Voted e v ∷ h) ≡ evidence h
unfolding evidence ready by_seal by_owner by_log
vote_same e v h p n =
    ap (λ xs. (has is_commit h && all_complete h && each (λ x. has (is_good_vote x.0.value) (Voted e v ∷ h)) xs) && (by_seal h || by_owner h || by_log h)) (local_voters h p)
    ∙ ap (λ b. (has is_commit h && all_complete h && b) && (by_seal h || by_owner h || by_log h)) (vote_apart e.value (is_good v) h (enlisted h) n)
    ∙ ap (λ xs. (has is_commit h && all_complete h && each (λ x. has (is_good_vote x.0.value) h) xs) && (by_seal h || by_owner h || by_log h)) (sym (local_voters h p))

-- any may decide what isn't promoted
pub may_decide_local : (h : List Entry) (e : ℕ) → has is_promoted h ≡ false → may_decide h e ≡ true
may_decide_local h e p = ap (λ b. not b || has (is_single_sent e) h) p

-- nor does what is sent
owner_sent : (c : Conn) (d : Dir) (m : Message) (h : List Entry) (ds : List (EnlNo × Class)) → has is_promoted h ≡ false → owner_committed (Sent c d m ∷ h) ds ≡ owner_committed h ds
owner_sent c d m h [] p = refl
owner_sent c d m h (x ∷ xs) p =
    ap (λ b. each (λ y. x.0.value == y.0.value) xs && has (λ y. can_own y.1) (x ∷ xs) && b && has (is_hand x.0.value) h && has (is_owner x.0.value Committed) h)
    (may_decide_local (Sent c d m ∷ h) x.0.value p ∙ sym (may_decide_local h x.0.value p))

evidence_by : (h : List Entry) → Bool → Bool → Bool
evidence_by h a o =
    (has is_commit h && all_complete h && each (λ x. has (is_good_vote x.0.value) h) (if a then volatiles h ++ durables h else volatiles h)) && (by_seal h || o || by_log h)

sent_same : (c : Conn) (d : Dir) (m : Message) (h : List Entry) → has is_promoted h ≡ false → evidence (Sent c d m ∷ h) ≡ evidence h
unfolding evidence ready by_seal by_owner by_log evidence_by
sent_same c d m h p =
    ap (λ a. evidence_by h a (owner_committed (Sent c d m ∷ h) (durables h))) (not_all (Sent c d m ∷ h) p ∙ sym (not_all h p))
    ∙ ap (evidence_by h (all_vote h)) (owner_sent c d m h (durables h) p)

-- the entries that come only where nothing was decided
abbrev is_undecided_yet : Entry → Bool
is_undecided_yet (Enlisted e c) = true
is_undecided_yet (Cloned c d) = true
is_undecided_yet (Completed c) = true
is_undecided_yet CommitAsked = true
is_undecided_yet Sealed = true
is_undecided_yet (Promoted u c) = true
is_undecided_yet LocalYes = true
is_undecided_yet (Decided o) = true
is_undecided_yet _ = false

undecided_row : (x : Entry) (h : List Entry) → is_undecided_yet x ≡ true → rule h x ≡ true → not (has is_decision h) ≡ true
undecided_row (Enlisted e c) h t r = first_of_five (not (has is_decision h)) (not (has is_sealed h)) (not (has (is_enlisted e.value) h)) (class_row h e.value c) _ r
undecided_row (Cloned c d) h t r = first_of_three (not (has is_decision h)) (not (has is_commit h)) (not (has (is_cloned c.value) h)) r
undecided_row (Completed c) h t r = and_left (not (has is_decision h)) (has (is_cloned c.value) h) r
undecided_row CommitAsked h t r = and_left (not (has is_decision h)) (not (has is_commit h)) r
undecided_row Sealed h t r = first_of_five (not (has is_decision h)) (has is_commit h) (all_complete h) (zeros_cast h) _ r
undecided_row (Promoted u c) h t r = first_of_five (not (has is_decision h)) (not (has is_sealed h)) (is_under_way h) (have_come h) _ r
undecided_row LocalYes h t r = first_of_five (not (has is_decision h)) (has is_sealed h) (has is_promoted h) _ _ r
undecided_row (Decided o) h t r = and_left (not (has is_decision h)) _ r
undecided_row _ h t r = absurd cc

-- they don't come after a decision
pub not_after : {C : Type 0} (x : Entry) (h : List Entry) → is_undecided_yet x ≡ true → rule h x ≡ true → has is_decision h ≡ true → C
not_after x h t r d = absurd (not_both (has is_decision h) d (not_true (has is_decision h) (undecided_row x h t r)))

-- the commit is handed over after a decision, and an owner answers, only of a promotion
hand_after : {C : Type 0} (e : EnlNo) (h : List Entry) → Keeps (Handed e ∷ h) → has is_decision h ≡ true → has is_promoted h ≡ false → C
hand_after e h k d p = absurd (by (has is_promoting h) (first_of_five (may_hand h e.value) (has is_sealed h) (ready h) (is_only e.value (durables h)) _ (newest (Handed e) h k)))
  where
    past : Keeps h
    past = keeps_before (Handed e) h k

    by : (b : Bool) → (if b then ends_with (is_single_got e.value) h && not (is_abort_decided h) else not (has is_decision h)) ≡ true → ⊥
    by true t =
        not_both (has is_promoted h)
        (promoted_if_single h past (has_more (is_single_sent e.value) is_any_single_sent (single_any e.value) h (got_single e.value h past (and_left (ends_with (is_single_got e.value) h) (not (is_abort_decided h)) t)))) p
    by false t = not_both (has is_decision h) d (not_true (has is_decision h) t)

answer_after : {C : Type 0} (e : EnlNo) (o : Outcome) (h : List Entry) → rule h (OwnerAnswered e o) ≡ true → has is_decision h ≡ true → has is_promoted h ≡ false → C
answer_after e o h r d p =
    absurd (or_case (not (has is_decision h)) (has is_promoted h && is_decided InDoubt (latest decision_of h)) (λ t. not_both (has is_decision h) d (not_true (has is_decision h) t))
    (λ t. not_both (has is_promoted h) (and_left (has is_promoted h) (is_decided InDoubt (latest decision_of h)) t) p)
    (first_of_three (may_answer h) (has (is_hand e.value) h) (not (has is_answer h)) r))

-- where it isn't promoted, no entry changes the evidence after a decision
pub evidence_same : (x : Entry) (h : List Entry) → Keeps (x ∷ h) → has is_decision h ≡ true → has is_promoted h ≡ false → evidence (x ∷ h) ≡ evidence h
unfolding evidence ready by_seal by_owner by_log
evidence_same (Enlisted e c) h k d p = not_after (Enlisted e c) h refl (newest (Enlisted e c) h k) d
evidence_same (Cloned c n) h k d p = not_after (Cloned c n) h refl (newest (Cloned c n) h k) d
evidence_same (Completed c) h k d p = not_after (Completed c) h refl (newest (Completed c) h k) d
evidence_same CommitAsked h k d p = not_after CommitAsked h refl (newest CommitAsked h k) d
evidence_same Sealed h k d p = not_after Sealed h refl (newest Sealed h k) d
evidence_same (Handed e) h k d p = hand_after e h k d p
evidence_same (OwnerAnswered e o) h k d p = answer_after e o h (newest (OwnerAnswered e o) h k) d p
evidence_same (Sent c e m) h k d p = sent_same c e m h p
evidence_same (Promoted u c) h k d p = not_after (Promoted u c) h refl (newest (Promoted u c) h k) d
evidence_same (Voted e v) h k d p = vote_same e v h p (unvolatile (stands_volatile e.value h) (has is_decision h) d (not_true (stands_volatile e.value h && has is_decision h) (fifth_of_five (has (is_enlisted e.value) h) (has (is_asked e.value) h) (not (has (is_vote e.value) h)) (not (has (is_lost e.value) h)) (not (stands_volatile e.value h && has is_decision h)) (newest (Voted e v) h k))))
  where
    unvolatile : (a b : Bool) → b ≡ true → (a && b) ≡ false → a ≡ false
    unvolatile true true q t = absurd cc
    unvolatile true false q t = absurd cc
    unvolatile false b q t = refl
evidence_same Logged h k d p = log_apart (ready h) (by_seal h || by_owner h) (has is_promoted h) true (has is_record h) p
evidence_same (Restarted b) h k d p = log_apart (ready h) (by_seal h || by_owner h) (has is_promoted h) (b || has is_record h) (has is_record h) p
evidence_same _ h k d p = refl

-- Where the commit was handed over.
pub record IsHanded (h : List Entry) (e : ℕ) : Type 0 where
  pub sealed : has is_sealed h ≡ true
  pub all_ready : ready h ≡ true
  pub alone : is_only e (durables h) ≡ true

-- who votes where fewer do passes too
fewer_pass : (q : EnlNo × Class → Bool) (h : List Entry) (a b : Bool) → (b ≡ true → a ≡ true) → each q (if a then volatiles h ++ durables h else volatiles h) ≡ true
    → each q (if b then volatiles h ++ durables h else volatiles h) ≡ true
fewer_pass q h true true f t = t
fewer_pass q h true false f t = and_left (each q (volatiles h)) (each q (durables h)) (sym (list_all-append q (volatiles h) (durables h)) ∙ t)
fewer_pass q h false true f t = let never : false ≡ true = f refl in absurd cc
fewer_pass q h false false f t = t

-- what is sealed and ready stays ready
ready_more : (x : Entry) (h : List Entry) → Keeps (x ∷ h) → has is_sealed h ≡ true → ready h ≡ true → ready (x ∷ h) ≡ true
unfolding ready
ready_more (Enlisted e c) h k s a = absurd (not_both (has is_sealed h) s (enlisted_unsealed e c h (newest (Enlisted e c) h k)))
ready_more (Cloned c d) h k s a =
    let row = second_of_three (not (has is_decision h)) (not (has is_commit h)) (not (has (is_cloned c.value) h)) (newest (Cloned c d) h k) in
    absurd (not_both (has is_commit h) (commit_if_sealed h (keeps_before (Cloned c d) h k) s) (not_true (has is_commit h) row))
ready_more CommitAsked h k s a =
    let row = and_right (not (has is_decision h)) (not (has is_commit h)) (newest CommitAsked h k) in
    absurd (not_both (has is_commit h) (commit_if_sealed h (keeps_before CommitAsked h k) s) (not_true (has is_commit h) row))
ready_more (Completed c) h k s a =
    let past = keeps_before (Completed c) h k in
    three_hold (has is_commit h) (all_complete (Completed c ∷ h)) _ (commit_if_sealed h past s) (complete_more c h (complete_if_sealed h past s)) (and_right (has is_commit h && all_complete h) _ a)
ready_more (Voted e v) h k s a =
    and_both (has is_commit h && all_complete h) _ (and_left (has is_commit h && all_complete h) _ a)
    (each_more (λ x. has (is_good_vote x.0.value) h) (λ x. has (is_good_vote x.0.value) (Voted e v ∷ h))
    (λ x. or_right (is_good_vote x.0.value (Voted e v)) (has (is_good_vote x.0.value) h)) (voters h) (and_right (has is_commit h && all_complete h) _ a))
ready_more (Promoted u c) h k s a =
    absurd (not_both (has is_sealed h) s (not_true (has is_sealed h) (second_of_five (not (has is_decision h)) (not (has is_sealed h)) (is_under_way h) (have_come h) (has is_begun_got h && has is_created_got h) (newest (Promoted u c) h k))))
ready_more (Sent c d m) h k s a =
    and_both (has is_commit h && all_complete h) _ (and_left (has is_commit h && all_complete h) _ a)
    (fewer_pass (λ x. has (is_good_vote x.0.value) h) h (all_vote h) (all_vote (Sent c d m ∷ h)) (fewer (has is_promoted h) (is_any_single_sent (Sent c d m)) (has is_any_single_sent h)) (and_right (has is_commit h && all_complete h) _ a))
  where
    fewer : (p x s : Bool) → (p && not (x || s)) ≡ true → (p && not s) ≡ true
    fewer true true s t = absurd cc
    fewer true false s t = t
    fewer false x s t = absurd cc
ready_more _ h k s a = a

handed_more : (x : Entry) (h : List Entry) (e : ℕ) → Keeps (x ∷ h) → IsHanded h e → IsHanded (x ∷ h) e
handed_more x h e k w =
    record {
      sealed = or_right (is_sealed x) (has is_sealed h) w.sealed;
      all_ready = ready_more x h k w.sealed w.all_ready;
      alone = subst (λ ds. is_only e ds ≡ true) (sym (durables_more x h (newest x h k) w.sealed)) w.alone;
    }

hand_now : (f : EnlNo) (h : List Entry) → rule h (Handed f) ≡ true → IsHanded h f.value
hand_now f h r =
    record {
      sealed = second_of_five (may_hand h f.value) (has is_sealed h) (ready h) (is_only f.value (durables h)) (not (has is_any_hand h)) r;
      all_ready = third_of_five (may_hand h f.value) (has is_sealed h) (ready h) (is_only f.value (durables h)) (not (has is_any_hand h)) r;
      alone = fourth_of_five (may_hand h f.value) (has is_sealed h) (ready h) (is_only f.value (durables h)) (not (has is_any_hand h)) r;
    }

-- it is handed only where it is sealed, ready and the one enlistment's
pub hand_stands : (e : ℕ) (h : List Entry) → Keeps h → has (is_hand e) h ≡ true → IsHanded h e
hand_stands e [] k s = absurd cc
hand_stands e (Handed f ∷ h) k s =
    or_case (e == f.value) (has (is_hand e) h)
    (λ t. handed_more (Handed f) h e k (let same : e ≡ f.value = eqb-true e f.value t in subst (λ n. IsHanded h n) (sym same) (hand_now f h (newest (Handed f) h k))))
    (λ t. handed_more (Handed f) h e k (hand_stands e h (keeps_before (Handed f) h k) t)) s
hand_stands e (x ∷ h) k s = handed_more x h e k (hand_stands e h (keeps_before x h k) s)

-- where the commit is only this one's, the answers are its answers
answers_alone : (e : ℕ) (o : Outcome) (h : List Entry) → Keeps h → ((f : ℕ) → has (is_hand f) h ≡ true → (e == f) ≡ true) → has (is_owner e o) h ≡ has (is_answered o) h
answers_alone e o [] k one = refl
answers_alone e o (Handed f ∷ h) k one = answers_alone e o h (keeps_before (Handed f) h k) (λ g t. one g (or_right (g == f.value) (has (is_hand g) h) t))
answers_alone e o (OwnerAnswered f y ∷ h) k one =
    let handed = second_of_three (may_answer h) (has (is_hand f.value) h) (not (has is_answer h)) (newest (OwnerAnswered f y) h k) in
    ap (λ b. (b && same_outcome o y) || has (is_owner e o) h) (one f.value handed)
    ∙ ap (λ b. same_outcome o y || b) (answers_alone e o h (keeps_before (OwnerAnswered f y) h k) one)
answers_alone e o (x ∷ h) k one = answers_alone e o h (keeps_before x h k) one

-- whoever was handed the commit may decide
handed_may_decide : (e : ℕ) (h : List Entry) → Keeps h → has (is_hand e) h ≡ true → (b : Bool) → has is_promoted h ≡ b → (not b || has (is_single_sent e) h) ≡ true
handed_may_decide e h k t true p = single_if_handed e h k (promoting_if_promoted h k p) t
handed_may_decide e h k t false p = refl

pub handed_unlogged : (e : ℕ) (h : List Entry) → Keeps h → has (is_hand e) h ≡ true → (b : Bool) → has is_promoted h ≡ b → (b && has is_record h) ≡ false
handed_unlogged e h k t true p = single_unrecorded h k (any_single_if_handed e h k (promoting_if_promoted h k p) t)
handed_unlogged e h k t false p = refl

-- where the commit was handed over, evidence stands where the owner answered committed
pub evidence-handed : (h : List Entry) → Keeps h → has is_any_hand h ≡ true → evidence h ≡ has (is_answered Committed) h
unfolding evidence by_seal by_owner by_log
evidence-handed h k s =
    let name = hand_name h s in
    let w = hand_stands name.0 h k name.1 in
    owner_alone (ready h) (has is_sealed h) (has is_promoted h) (has is_record h) h name.0 (durables h) w.all_ready
    (handed_may_decide name.0 h k name.1 (has is_promoted h) refl) (handed_unlogged name.0 h k name.1 (has is_promoted h) refl) w.alone name.1
    ∙ answers_alone name.0 Committed h k (λ f g. only_name f name.0 (durables h) (hand_stands f h k g).alone w.alone)

pub volatile_more : (n : ℕ) (x : Entry) (h : List Entry) → stands_volatile n h ≡ true → stands_volatile n (x ∷ h) ≡ true
volatile_more n (Enlisted e c) h t = or_right (is_volatile_of n (e, c)) (stands_volatile n h) t
volatile_more n _ h t = t

pub good_voted : (e : ℕ) (x : Entry) → is_good_vote e x ≡ true → is_vote e x ≡ true
good_voted e (Voted f v) t = and_left (e == f.value) (is_good v) t
good_voted e _ t = absurd cc
