-- The values that words name.
use Rattle.std.proofs.Common.{◌≡◌, ℕ, ◌≤◌, ◌↔◌, true, List, length, codes, refl, ap, ◌∙◌, arith, Option, Some, None, IsSome, IfSome, unwrap_or}
use Rattle.std.proofs.lemmas.Bool.{false≢true}
use Rattle.std.proofs.lemmas.Bool.Decides.{nat_tests}
use Rattle.dtx_values.specs.declared.words.Timeout.{Timeout}
use Rattle.dtx_values.specs.declared.words.Timeout.TheVariants.{Default, Milliseconds}
use Rattle.dtx_model.specs.Grammar.{is_from, is_timeout, timeout_word}
use Rattle.dtx_model.proofs.Digits.{digit_of_number}

-- what is made of the number of a value is that value
pub made : {A : Type 0} (value : A → ℕ) (same : (x y : A) → value x ≡ value y → x ≡ y) (o : Option A) (most n : ℕ) (a : A) → IfSome o (λ x. value x ≡ n)
    → (IsSome o ↔ ((1 ≤ n) × (n ≤ most))) → is_from 1 most n ≡ true → Some n ≡ Some (value a) → o ≡ Some a
made value same (Some x) most n a v r k e = ap Some (same x a (v ∙ ap (λ m. unwrap_or m 0) e))
made value same None most n a v r k e = absurd (false≢true (r.1 (grind (arith, nat_tests))))

-- only the timeout `default` has this text
pub default_only : (w : List ℕ) (d : Timeout) → w ≡ codes "default" → is_timeout d ≡ true → w ≡ timeout_word d → Some Default ≡ Some d
default_only w Default h k e = refl
default_only w (Milliseconds n) h k e =
    let small : n ≤ 4294967295 = grind (arith, nat_tests) in
    let long : length w ≡ 7 = ap length h in
    let first = digit_of_number w n 0 (omega arith) (omega arith) e in
    absurd (grind (arith, nat_tests))
