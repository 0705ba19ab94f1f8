-- Doubt with one more entry.
use Rattle.std.proofs.Common.{◌≡◌, ℕ, Bool, true, false, ◌==◌, ◌&&◌, ◌||◌, List, [], ◌∷◌, refl, ap, sym, ◌∙◌, arith}
use Rattle.std.proofs.lemmas.Bool.Decides.{nat_tests}
use Rattle.dtx_values.specs.declared.entry.Entry.{Entry}
use Rattle.dtx_values.specs.declared.entry.Entry.TheVariants.{Handed, OwnerAnswered}
use Rattle.dtx_values.specs.declared.number.EnlNo.{EnlNo}
use Rattle.dtx_values.specs.declared.words.Outcome.TheVariants.{InDoubt}
use Rattle.dtx_model.specs.Entries.{handed_of, is_hand, is_owner}
use Rattle.dtx_model.specs.Outcome.{is_lost_owner, is_lost_single}
use Rattle.dtx_model.specs.Words.{all_of, ever, has}
use Rattle.trace_checker.specs.declared.doubts.Doubts.{Doubts}
use Rattle.trace_checker.specs.Doubts.{IsDoubtsOf, has_unsure}

turned : (n m : ℕ) → (n == m) ≡ (m == n)
turned n m = grind (arith, nat_tests)

-- it was handed the commit
among : (f : EnlNo) (h : List Entry) → has (λ e. e.value == f.value) (all_of handed_of h) ≡ has (is_hand f.value) h
among f [] = refl
among f (Handed e ∷ h) = rw (turned e.value f.value) (ap (λ b. (f.value == e.value) || b) (among f h))
among f (_ ∷ h) = among f h

either : (p q : EnlNo → Bool) (xs : List EnlNo) → has (λ e. (p e && true) || q e) xs ≡ (has p xs || has q xs)
either p q [] = refl
either p q (x ∷ xs) = by (p x) (q x) (has p xs) (has q xs) (has (λ e. (p e && true) || q e) xs) (either p q xs)
  where
    by : (a b c d e : Bool) → e ≡ (c || d) → (((a && true) || b) || e) ≡ ((a || c) || (b || d))
    by true b c d e k = refl
    by false true true d e k = refl
    by false true false d e k = refl
    by false false c d e k = k

-- an owner answers in doubt
pub unsure_answer : (h : List Entry) (f : EnlNo) → has_unsure (OwnerAnswered f InDoubt ∷ h) ≡ (has (is_hand f.value) h || has_unsure h)
unsure_answer h f =
    either (λ e. e.value == f.value) (λ e. has (is_owner e.value InDoubt) h) (all_of handed_of h) ∙ ap (λ b. b || has_unsure h) (among f h)

or_turned : (a b : Bool) → (a || b) ≡ (b || a)
or_turned true true = refl
or_turned true false = refl
or_turned false true = refl
or_turned false false = refl

pub doubts_more : (h : List Entry) (x : Entry) (d : Doubts) (unsure owner single : Bool) → has_unsure (x ∷ h) ≡ (unsure || has_unsure h) → owner ≡ is_lost_owner h x → single ≡ is_lost_single h x
    → IsDoubtsOf h d → IsDoubtsOf (x ∷ h) (record { unsure = d.unsure || unsure; lost_owner = d.lost_owner || owner; lost_single = d.lost_single || single })
doubts_more h x d unsure owner single p q r k = record {
  unsure = or_turned d.unsure unsure ∙ ap (λ b. unsure || b) k.unsure ∙ sym p;
  lost_owner = or_turned d.lost_owner owner ∙ cc_or owner (is_lost_owner h x) d.lost_owner (ever is_lost_owner h) q k.lost_owner;
  lost_single = or_turned d.lost_single single ∙ cc_or single (is_lost_single h x) d.lost_single (ever is_lost_single h) r k.lost_single;
}
  where
    cc_or : (a b c d : Bool) → a ≡ b → c ≡ d → (a || c) ≡ (b || d)
    cc_or a b c d e f = cc
