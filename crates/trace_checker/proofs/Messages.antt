-- Two messages that compare as equal are one.
use Rattle.std.proofs.Common.{◌≡◌, ℕ, Bool, true, false, ◌==◌, ◌&&◌, inl, inr, List, [], ◌∷◌, refl, ap, arith}
use Rattle.std.proofs.lemmas.Bool.Decides.{nat_tests}
use denote.Struct.Field.{Field}
use denote.Struct.Values.{Values}
use denote.Enum.Declared.{Choice, values_one}
use denote.Enum.Compared.{Each, by}
use Rattle.dtx_values.specs.contracts.message.Message.{enum, as_values}
use Rattle.dtx_values.specs.declared.message.Info.{Info}
use Rattle.dtx_values.specs.declared.message.Message.{Message}
use Rattle.dtx_values.proofs.SameNumbers.{same_enlistment, same_manager}

same_is : (n m : ℕ) → (n == m) ≡ true → n ≡ m
same_is n m e = grind (arith, nat_tests)

three : (p q r : Bool) → (p && (q && r)) ≡ true → (p ≡ true) × (q ≡ true) × (r ≡ true)
three true true true e = (refl, refl, refl)
three true true false e = absurd cc
three true false r e = absurd cc
three false q r e = absurd cc

same_info : (a b : Info) → ((a.id == b.id) && ((a.rm.value == b.rm.value) && (a.enl.value == b.enl.value))) ≡ true → a ≡ b
same_info a b e = one (three (a.id == b.id) (a.rm.value == b.rm.value) (a.enl.value == b.enl.value) e)
  where
    one : ((a.id == b.id) ≡ true) × ((a.rm.value == b.rm.value) ≡ true) × ((a.enl.value == b.enl.value) ≡ true) → a ≡ b
    one k = λ i. record {
      id = same_is a.id b.id k.0 i;
      rm = same_manager a.rm b.rm (same_is a.rm.value b.rm.value k.1) i;
      enl = same_enlistment a.enl b.enl (same_is a.enl.value b.enl.value k.2) i;
    }

-- in each variant the test of its fields tells that they are one
abbrev Tells : (Fss : List (List Field)) → Each Bool Fss → Type 0
Tells [] each = Unit {0}
Tells (Fs ∷ Fss) each = ((x y : Values Fs) → each.0 x y ≡ true → x ≡ y) × Tells Fss each.1

told : (Fss : List (List Field)) (each : Each Bool Fss) → Tells Fss each → (c d : Choice Fss) → by false false Fss each c d ≡ true → c ≡ d
told [] each s c d e = absurd c
told (Fs ∷ Fss) each s (inl x) (inl y) e = ap inl (s.0 x y e)
told (Fs ∷ Fss) each s (inl x) (inr y) e = absurd cc
told (Fs ∷ Fss) each s (inr x) (inl y) e = absurd cc
told (Fs ∷ Fss) each s (inr x) (inr y) e = ap inr (told Fss each.1 s.1 x y e)

abbrev tests : Each Bool enum.parts
tests = (λ a b. true, (λ a b. true, (λ a b. true, (λ a b. true, (λ a b. a.0 == b.0, (λ a b. true, (λ a b. true, (λ a b. true, (λ a b. a.0 == b.0, (λ a b. true, (λ a b. true, (λ a b. true, (λ a b. a.0 == b.0, (λ a b. true, (λ a b. true, (λ a b. true, (λ a b. true, (λ a b. (a.0.id == b.0.id) && ((a.0.rm.value == b.0.rm.value) && (a.0.enl.value == b.0.enl.value)), (λ a b. true, (λ a b. true, (λ a b. true, (λ a b. true, (λ a b. true, (λ a b. true, (λ a b. true, (λ a b. true, (λ a b. a.0 == b.0, (λ a b. true, (λ a b. true, (λ a b. true, (λ a b. true, (λ a b. (a.0.id == b.0.id) && ((a.0.rm.value == b.0.rm.value) && (a.0.enl.value == b.0.enl.value)), (λ a b. true, (λ a b. true, (λ a b. true, tt {0})))))))))))))))))))))))))))))))))))

tells : Tells enum.parts tests
tells = (λ a b e. refl, (λ a b e. refl, (λ a b e. refl, (λ a b e. refl, (λ a b e. λ i. (same_is a.0 b.0 e i, tt), (λ a b e. refl, (λ a b e. refl, (λ a b e. refl, (λ a b e. λ i. (same_is a.0 b.0 e i, tt), (λ a b e. refl, (λ a b e. refl, (λ a b e. refl, (λ a b e. λ i. (same_is a.0 b.0 e i, tt), (λ a b e. refl, (λ a b e. refl, (λ a b e. refl, (λ a b e. refl, (λ a b e. λ i. (same_info a.0 b.0 e i, tt), (λ a b e. refl, (λ a b e. refl, (λ a b e. refl, (λ a b e. refl, (λ a b e. refl, (λ a b e. refl, (λ a b e. refl, (λ a b e. refl, (λ a b e. λ i. (same_is a.0 b.0 e i, tt), (λ a b e. refl, (λ a b e. refl, (λ a b e. refl, (λ a b e. refl, (λ a b e. λ i. (same_info a.0 b.0 e i, tt), (λ a b e. refl, (λ a b e. refl, (λ a b e. refl, tt {0})))))))))))))))))))))))))))))))))))

pub same_message : (m n : Message) → by false false enum.parts tests (as_values m) (as_values n) ≡ true → m ≡ n
same_message m n e = values_one enum m n (told enum.parts tests tells (as_values m) (as_values n) e)
