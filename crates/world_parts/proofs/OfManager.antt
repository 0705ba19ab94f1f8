-- What is found among the branches of a manager.
use Rattle.std.proofs.Common.{◌≡◌, Bool, true, false, ◌&&◌, ◌||◌, List, [], ◌∷◌, filter, Option, Some, refl, ap, if◌then◌else◌}
use Rattle.std.specs.Prelude.{find}
use Rattle.dtx_model.specs.declared.branch.Branch.{Branch}
use Rattle.dtx_model.specs.Words.{has}

-- among those that pass one test
pub has_filter : (p q : Branch → Bool) (xs : List Branch) → has (λ b. q b && p b) xs ≡ has p (filter q xs)
has_filter p q [] = refl
has_filter p q (x ∷ xs) = by (has_filter p q xs) (q x)
  where
    by : has (λ b. q b && p b) xs ≡ has p (filter q xs) → (c : Bool) → ((c && p x) || has (λ b. q b && p b) xs) ≡ has p (if c then x ∷ filter q xs else filter q xs)
    by e true = ap (λ v. p x || v) e
    by e false = e

pub find_filter : (p q : Branch → Bool) (xs : List Branch) → find (λ b. q b && p b) xs ≡ find p (filter q xs)
find_filter p q [] = refl
find_filter p q (x ∷ xs) = by (find_filter p q xs) (q x)
  where
    by : find (λ b. q b && p b) xs ≡ find p (filter q xs) → (c : Bool) → (if c && p x then Some x else find (λ b. q b && p b) xs) ≡ find p (if c then x ∷ filter q xs else filter q xs)
    by e true = ap (λ (o : Option Branch). if p x then Some x else o) e
    by e false = e
