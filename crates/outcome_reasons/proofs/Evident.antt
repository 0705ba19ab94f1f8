-- Without a mark there is no evidence.
use Rattle.std.proofs.Common.{◌≡◌, ◌==◌, ◌&&◌, ◌||◌, not, Bool, true, false, List, [], ◌∷◌, None, length, refl, ap, ◌∙◌}
use Rattle.std.specs.Option.{option_map}
use Rattle.dtx_values.specs.declared.entry.Entry.{Entry}
use Rattle.dtx_values.specs.declared.entry.Entry.TheVariants.{Logged, OwnerAnswered, Restarted, Sealed}
use Rattle.dtx_values.specs.declared.number.EnlNo.{EnlNo}
use Rattle.dtx_values.specs.declared.words.Class.{Class}
use Rattle.dtx_values.specs.declared.words.Outcome.TheVariants.{Committed}
use Rattle.dtx_model.specs.Entries.{is_hand, is_owner, is_promoted, is_record, is_sealed}
use Rattle.dtx_model.specs.Outcome.{by_log, by_owner, by_seal, can_own, durables, evidence, may_decide, owner_committed, ready}
use Rattle.dtx_model.specs.Words.{each, has, or_else}
use Rattle.dtx_model.proofs.Bools.{or_false}
use Rattle.outcome_reasons.specs.Commits.{commit_reason, evident, is_mark}
use Rattle.outcome_reasons.specs.First.{first_of, when}

left_false : (a b : Bool) → (a || b) ≡ false → a ≡ false
left_false true b k = absurd cc
left_false false b k = refl

right_false : (a b : Bool) → (a || b) ≡ false → b ≡ false
right_false true b k = absurd cc
right_false false b k = k

-- what implies a mark isn't there where no mark is
without : (p : Entry → Bool) → ((x : Entry) → is_mark x ≡ false → p x ≡ false) → (h : List Entry) → has is_mark h ≡ false → has p h ≡ false
without p never [] k = refl
without p never (x ∷ past) k = or_false (p x) (has p past) (never x (left_false (is_mark x) (has is_mark past) k)) (without p never past (right_false (is_mark x) (has is_mark past) k))

no_seal : (x : Entry) → is_mark x ≡ false → is_sealed x ≡ false
no_seal Sealed k = absurd cc
no_seal _ k = refl

no_record : (x : Entry) → is_mark x ≡ false → is_record x ≡ false
no_record Logged k = absurd cc
no_record (Restarted found) k = absurd cc
no_record _ k = refl

no_owner : (e : EnlNo) (x : Entry) → is_mark x ≡ false → is_owner e.value Committed x ≡ false
no_owner e (OwnerAnswered f o) k = absurd cc
no_owner e _ k = refl

and_false : (a : Bool) → (a && false) ≡ false
and_false true = refl
and_false false = refl

unowned : (h : List Entry) (ds : List (EnlNo × Class)) → ((e : EnlNo) → has (is_owner e.value Committed) h ≡ false) → owner_committed h ds ≡ false
unowned h [] never = refl
unowned h (d ∷ ds) never =
    ap (λ b. (each (λ y. d.0.value == y.0.value) ds && has (λ y. can_own y.1) (d ∷ ds) && may_decide h d.0.value && has (is_hand d.0.value) h) && b) (never d.0)
    ∙ and_false (each (λ y. d.0.value == y.0.value) ds && has (λ y. can_own y.1) (d ∷ ds) && may_decide h d.0.value && has (is_hand d.0.value) h)

pub no_evidence : (h : List Entry) → has is_mark h ≡ false → evidence h ≡ false
unfolding evidence by_seal by_owner by_log
no_evidence h k =
    rw (without is_sealed no_seal h k, without is_record no_record h k, unowned h (durables h) (λ e. without (is_owner e.value Committed) (no_owner e) h k))
    (all_false (ready h) (has is_promoted h))
  where
    all_false : (r p : Bool) → (r && (false || false || (p && false))) ≡ false
    all_false r p = rw (and_false p) (and_false r)

-- so none of its entries is evident
pub none_evident : (h : List Entry) → has is_mark h ≡ false → first_of evident h ≡ None
none_evident [] k = refl
none_evident (x ∷ past) k =
    ap (λ o. or_else o (option_map (λ a. (length past, a)) (evident past x))) (none_evident past (right_false (is_mark x) (has is_mark past) k))
    ∙ ap (λ b. option_map (λ a. (length past, a)) (when b (commit_reason (x ∷ past)))) (no_evidence (x ∷ past) k)
