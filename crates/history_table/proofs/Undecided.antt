-- What stands at the end of each block while nothing is decided, promoted or not: no volatile refused, no owner answered, no clone is open that makes a commit a veto,
-- no promotion failed, and the coordinator sent no outcome. And where there is no evidence then.
use Rattle.std.proofs.Common.{◌≡◌, ◌==◌, ℕ, Bool, true, false, ◌&&◌, ◌||◌, List, [], ◌∷◌, ◌++◌, refl, ◌∙◌, ap, sym, subst}
use Rattle.std.specs.Prelude.{not, filter, if◌then◌else◌}
use Rattle.std.proofs.lemmas.Bool.{false_from_ne_true, or_left}
use Rattle.dtx_values.specs.declared.entry.Entry.{Entry}
use Rattle.dtx_values.specs.declared.entry.Entry.TheVariants.{Handed, OwnerAnswered}
use Rattle.dtx_values.specs.declared.number.EnlNo.{EnlNo}
use Rattle.dtx_values.specs.declared.words.Class.{Class}
use Rattle.dtx_values.specs.declared.words.Outcome.TheVariants.{Committed}
use Rattle.dtx_values.specs.Class.{is_volatile}
use Rattle.dtx_values.specs.Owners.{is_evident}
use Rattle.dtx_model.specs.Words.{each, has, latest}
use Rattle.dtx_model.specs.Entries.{handed_of, is_any_hand, is_commit, is_decision, is_good_vote, is_hand, is_owner, is_promoted, is_record, is_sealed, is_vote, is_yes}
use Rattle.dtx_model.specs.Outcome.{all_vote, by_log, by_owner, by_seal, can_own, durables, enlisted, evidence, is_empty, is_outcome_got, may_decide, owner_committed, ready, volatiles, voters}
use Rattle.dtx_model.specs.Observed.{is_promotion_failed, observe, rows}
use Rattle.dtx_model.specs.Promotes.{is_promoting, is_under_way}
use Rattle.dtx_model.specs.Half.{is_handed}
use Rattle.dtx_model.specs.Tied.{is_tied}
use Rattle.dtx_model.specs.Wires.{MayCross}
use Rattle.dtx_model.specs.Answers.{has_promotion}
use Rattle.dtx_model.proofs.Bools.{and_left, and_right, and_both, not_both, not_false, not_true, or_case, or_first, or_second}
use Rattle.history_table.proofs.Tests.{first_of_three, second_of_three}
use Rattle.history_table.proofs.Scans.{each_more, has_less, has_more}
use Rattle.history_table.proofs.EntryTests.{is_answer, is_enlisted, is_only, all_closed, enlisted_passes}
use Rattle.history_table.proofs.Handed.{hand_any}
use Rattle.history_table.proofs.Owned.{empty_list}
use Rattle.history_table.proofs.Table.{may_hand, rule}
use Rattle.history_table.proofs.Keeping.{Keeps, fifth_of_five, keeps_before, newest}
use Rattle.history_table.proofs.Recording.{all_good, good_if_record, promoted_if_sealed, yes_if_record}
use Rattle.history_table.proofs.LetDecide.{handed_if_answered}
use Rattle.history_table.proofs.HalfRows.{evident_seen}
use Rattle.history_table.proofs.HalfKnows.{way_seen}
use Rattle.history_table.proofs.Deciding.{one_more}
use Rattle.history_table.proofs.Evident.{not_all, owner_handed}

-- each volatile that voted, voted yes or done
abbrev pub is_willing : List Entry → EnlNo × Class → Bool
is_willing h x = not (is_volatile x.1) || (not (has (is_vote x.0.value) h) || has (is_good_vote x.0.value) h)

abbrev pub all_willing : List Entry → Bool
all_willing h = each (is_willing h) (enlisted h)

-- no owner answered, unless of a promotion
abbrev pub is_unanswered : List Entry → Bool
is_unanswered h = not (has is_answer h) || has is_promoted h

abbrev pub is_going : List Entry → Bool
is_going h =
    has is_decision h || (all_willing h && is_unanswered h && (not (has is_commit h) || all_closed h) && (not (has is_promotion_failed h) && not (has is_outcome_got h)))

-- what holds at the end of each block
pub record Stands (h : List Entry) : Type 0 where
  pub keeps : Keeps h
  pub going : is_going h ≡ true

-- one more entry keeps it
pub stand : (x : Entry) (h : List Entry) → is_tied h x ≡ true → MayCross h x → Stands h → rule h x ≡ true → (is_going h ≡ true → is_going (x ∷ h) ≡ true) → Stands (x ∷ h)
stand x h t c k r g = record { keeps = one_more x h t c k.keeps r; going = g k.going }

-- and so does whatever is decided
pub decided_stand : (h : List Entry) → Keeps h → has is_decision h ≡ true → Stands h
decided_stand h k d = record { keeps = k; going = or_left (has is_decision h) _ d }

-- what goes on where nothing is decided
pub record IsOpen (h : List Entry) : Type 0 where
  pub willing : all_willing h ≡ true
  pub unanswered : has is_promoted h ≡ false → has is_answer h ≡ false
  pub closed : (not (has is_commit h) || all_closed h) ≡ true
  pub unfailed : has is_promotion_failed h ≡ false
  pub unheard : has is_outcome_got h ≡ false

unanswered_here : (h : List Entry) → has is_promoted h ≡ false → is_unanswered h ≡ true → has is_answer h ≡ false
unanswered_here h p t = or_case (not (has is_answer h)) (has is_promoted h) (not_true (has is_answer h)) (λ q. absurd (not_both (has is_promoted h) q p)) t

pub goes_on : (h : List Entry) → Stands h → has is_decision h ≡ false → IsOpen h
goes_on h k d = step (has is_decision h) d k.going
  where
    step : (b : Bool) → b ≡ false → (b || (all_willing h && is_unanswered h && (not (has is_commit h) || all_closed h) && (not (has is_promotion_failed h) && not (has is_outcome_got h)))) ≡ true → IsOpen h
    step true e g = absurd cc
    step false e g =
        let first = and_left (all_willing h && is_unanswered h && (not (has is_commit h) || all_closed h)) (not (has is_promotion_failed h) && not (has is_outcome_got h)) g in
        let last = and_right (all_willing h && is_unanswered h && (not (has is_commit h) || all_closed h)) (not (has is_promotion_failed h) && not (has is_outcome_got h)) g in
        record {
          willing = first_of_three (all_willing h) (is_unanswered h) (not (has is_commit h) || all_closed h) first;
          unanswered = λ p. unanswered_here h p (second_of_three (all_willing h) (is_unanswered h) (not (has is_commit h) || all_closed h) first);
          closed = and_right (all_willing h && is_unanswered h) (not (has is_commit h) || all_closed h) first;
          unfailed = not_true (has is_promotion_failed h) (and_left (not (has is_promotion_failed h)) (not (has is_outcome_got h)) last);
          unheard = not_true (has is_outcome_got h) (and_right (not (has is_promotion_failed h)) (not (has is_outcome_got h)) last);
        }

-- no owner answered, where of a promotion nobody is handed the commit
pub unanswered_if : (h : List Entry) → Stands h → has is_decision h ≡ false → (has is_promoted h ≡ true → has is_any_hand h ≡ false) → has is_answer h ≡ false
unanswered_if h k d f = by (has is_promoted h) refl
  where
    by : (b : Bool) → has is_promoted h ≡ b → has is_answer h ≡ false
    by true p = false_from_ne_true (has is_answer h) (λ t. not_both (has is_any_hand h) (handed_if_answered h k.keeps t) (f p))
    by false p = (goes_on h k d).unanswered p

-- whether an owner answered doesn't matter of a promotion
pub going_as : (h : List Entry) (v : Bool) → v ≡ true → is_going h ≡ true
    → (has is_decision h || (all_willing h && v && (not (has is_commit h) || all_closed h) && (not (has is_promotion_failed h) && not (has is_outcome_got h)))) ≡ true
going_as h v e g = swap (has is_decision h) (all_willing h) (is_unanswered h) v (not (has is_commit h) || all_closed h) (not (has is_promotion_failed h) && not (has is_outcome_got h)) e g
  where
    swap : (d w u v c f : Bool) → v ≡ true → (d || (w && u && c && f)) ≡ true → (d || (w && v && c && f)) ≡ true
    swap true w u v c f q t = refl
    swap false true true true c f q t = t
    swap false true false v c f q t = absurd cc
    swap false false u v c f q t = absurd cc
    swap false true true false c f q t = absurd cc

-- A promotion is under way where one began, and it neither succeeded nor failed.
pub promotes_on : (h : List Entry) → has is_promoting h ≡ true → has is_promoted h ≡ false → has is_promotion_failed h ≡ false → is_under_way h ≡ true
promotes_on h p q f = rw (p, q, f) refl

-- where nothing is decided and the local side sees no promotion, none began
pub none_began : (h : List Entry) → Stands h → has is_decision h ≡ false → has_promotion (observe h) ≡ false → has is_promoting h ≡ false
unfolding observe
none_began h k d n =
    let unpromoted = or_first (has is_promoted h) _ n in
    let still : is_under_way h ≡ false = sym (way_seen h) ∙ or_second (has is_promoted h) _ n in
    false_from_ne_true (has is_promoting h) (λ p. not_both (is_under_way h) (promotes_on h p unpromoted (goes_on h k d).unfailed) still)

-- what is under way isn't sealed
pub way_unsealed : (h : List Entry) → Keeps h → is_under_way h ≡ true → has is_sealed h ≡ false
way_unsealed h k w =
    let both = and_left (has is_promoting h && not (has is_promoted h)) (not (has is_promotion_failed h)) w in
    false_from_ne_true (has is_sealed h) (λ s. not_both (has is_promoted h) (promoted_if_sealed h k s (and_left (has is_promoting h) (not (has is_promoted h)) both))
    (not_true (has is_promoted h) (and_right (has is_promoting h) (not (has is_promoted h)) both)))

-- The commit was handed to this enlistment by what is observed where it was by the history.
pub hand_seen : (e : ℕ) (h : List Entry) → Keeps h → is_handed (latest handed_of h) e ≡ has (is_hand e) h
hand_seen e [] k = refl
hand_seen e (Handed f ∷ h) k = step (e == f.value) (has (is_hand e) h) (has_less (is_hand e) is_any_hand (hand_any e) h (none_yet (newest (Handed f) h k)))
  where
    none_yet : rule h (Handed f) ≡ true → has is_any_hand h ≡ false
    none_yet r = not_true (has is_any_hand h) (fifth_of_five (may_hand h f.value) (has is_sealed h) (ready h) (is_only f.value (durables h)) (not (has is_any_hand h)) r)

    step : (a b : Bool) → b ≡ false → a ≡ (a || b)
    step true b e = refl
    step false b e = sym e
hand_seen e (x ∷ h) k = hand_seen e h (keeps_before x h k)

-- Each of a list passes where it passes among those that are picked, and the others are none.
both_picked : {A : Type 0} (p q : A → Bool) (xs : List A) → filter (λ x. not (p x)) xs ≡ [] → each q (filter p xs) ≡ true → each (λ x. p x && q x) xs ≡ true
both_picked p q [] n k = refl
both_picked p q (x ∷ xs) n k = step (both_picked p q xs) (p x) n k
  where
    step : (filter (λ x. not (p x)) xs ≡ [] → each q (filter p xs) ≡ true → each (λ x. p x && q x) xs ≡ true) → (b : Bool) → (if not b then x ∷ filter (λ x. not (p x)) xs else filter (λ x. not (p x)) xs) ≡ [] → each q (if b then x ∷ filter p xs else filter p xs) ≡ true
        → ((b && q x) && each (λ x. p x && q x) xs) ≡ true
    step ih true n k = and_both (q x) (each (λ x. p x && q x) xs) (and_left (q x) (each q (filter p xs)) k) (ih n (and_right (q x) (each q (filter p xs)) k))
    step ih false n k = absurd cc

-- an owner that committed answered
owner_answered : (h : List Entry) (ds : List (EnlNo × Class)) → owner_committed h ds ≡ true → has is_answer h ≡ true
owner_answered h [] t = absurd cc
owner_answered h (x ∷ xs) t =
    has_more (is_owner x.0.value Committed) is_answer (λ y. any_answer x.0.value y) h
    (and_right (each (λ y. x.0.value == y.0.value) xs && has (λ y. can_own y.1) (x ∷ xs) && may_decide h x.0.value && has (is_hand x.0.value) h) (has (is_owner x.0.value Committed) h) t)
  where
    any_answer : (e : ℕ) (y : Entry) → is_owner e Committed y ≡ true → is_answer y ≡ true
    any_answer e (OwnerAnswered f p) k = refl
    any_answer e _ k = k

-- Where it is ready, who votes voted well.
voters_well : (h : List Entry) → ready h ≡ true → each (λ x. has (is_good_vote x.0.value) h) (voters h) ≡ true
unfolding ready
voters_well h r = and_right (has is_commit h && _) (each (λ x. has (is_good_vote x.0.value) h) (voters h)) r

-- the voters of a history where each votes, and where the volatiles do
voters_here : (h : List Entry) (b : Bool) → all_vote h ≡ b → voters h ≡ (if b then volatiles h ++ durables h else volatiles h)
voters_here h b e = ap (λ c. if c then volatiles h ++ durables h else volatiles h) e

-- where it isn't promoted, is ready, and nothing is durable or promotable, each is volatile and voted well
local_well : (h : List Entry) → has is_promoted h ≡ false → ready h ≡ true → is_empty (durables h) ≡ true → each (λ x. is_volatile x.1 && has (is_good_vote x.0.value) h) (enlisted h) ≡ true
local_well h p r n =
    both_picked (λ x. is_volatile x.1) (λ x. has (is_good_vote x.0.value) h) (enlisted h) (empty_list (durables h) n)
    (subst (λ xs. each (λ x. has (is_good_vote x.0.value) h) xs ≡ true) (voters_here h false (not_all h p)) (voters_well h r))

-- where there is evidence it is ready, and it is by the seal, by the owner or by the log
pub record IsBy (h : List Entry) (C : Type 0) : Type 0 where
  pub seal : has is_promoted h ≡ false → has is_sealed h ≡ true → is_empty (durables h) ≡ true → C
  pub owner : owner_committed h (durables h) ≡ true → C
  pub log : has is_promoted h ≡ true → has is_record h ≡ true → C

by_evidence : {C : Type 0} (h : List Entry) → evidence h ≡ true → IsBy h C → C
unfolding evidence by_seal by_owner by_log
by_evidence h e f =
    or_case ((has is_sealed h && not (has is_promoted h) && is_empty (durables h)) || owner_committed h (durables h)) (has is_promoted h && has is_record h)
    (λ t. or_case (has is_sealed h && not (has is_promoted h) && is_empty (durables h)) (owner_committed h (durables h))
    (λ s. f.seal (not_true (has is_promoted h) (second_of_three (has is_sealed h) (not (has is_promoted h)) (is_empty (durables h)) s))
    (first_of_three (has is_sealed h) (not (has is_promoted h)) (is_empty (durables h)) s) (and_right (has is_sealed h && not (has is_promoted h)) (is_empty (durables h)) s))
    f.owner t)
    (λ l. f.log (and_left (has is_promoted h) (has is_record h) l) (and_right (has is_promoted h) (has is_record h) l)) (and_right (ready h) _ e)

ready_there : (h : List Entry) → evidence h ≡ true → ready h ≡ true
unfolding evidence
ready_there h e = and_left (ready h) _ e

-- where one that stands hasn't voted well, and no owner answered, there is no evidence
pub unwilling_open : (h : List Entry) (e : ℕ) → Keeps h → has (is_enlisted e) h ≡ true → has (is_good_vote e) h ≡ false → has is_answer h ≡ false → evidence h ≡ false
unwilling_open h e k s v u =
    false_from_ne_true (evidence h) (λ t. let r = ready_there h t in by_evidence h t (record {
      seal = λ p q n. not_both (has (is_good_vote e) h) (enlisted_passes (λ f. has (is_good_vote f) h) e h
          (each_more (λ x. is_volatile x.1 && has (is_good_vote x.0.value) h) (λ x. has (is_good_vote x.0.value) h) (λ x. and_right (is_volatile x.1) (has (is_good_vote x.0.value) h)) (enlisted h) (local_well h p r n)) s) v;
      owner = λ o. not_both (has is_answer h) (owner_answered h (durables h) o) u;
      log = λ p l. not_both (has (is_good_vote e) h) (enlisted_passes (λ f. has (is_good_vote f) h) e h (and_right (has is_sealed h) (all_good h) (good_if_record h k l)) s) v;
    }))

-- where the local side hasn't said yes and the commit isn't handed over, the rows show evidence where there is some
pub unowned_evident : (h : List Entry) → Keeps h → has is_yes h ≡ false → has is_any_hand h ≡ false → evidence h ≡ true → (not (has is_promoted h) && is_evident (has is_sealed h) (rows h)) ≡ true
unowned_evident h k y u e =
    let r = ready_there h e in by_evidence h e (record {
      seal = λ p q n. and_both (not (has is_promoted h)) (is_evident (has is_sealed h) (rows h)) (not_false (has is_promoted h) p) (and_both (has is_sealed h) _ q (evident_seen h k ∙ local_well h p r n));
      owner = λ o. absurd (not_both (has is_any_hand h) (owner_handed h (durables h) o) u);
      log = λ p l. absurd (not_both (has is_yes h) (yes_if_record h k l) y);
    })
