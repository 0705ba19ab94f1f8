-- Whether one of a list passes a test, where the list is changed item by item, or by one item.
use Rattle.std.proofs.Common.{◌≡◌, ℕ, Bool, true, false, ◌||◌, List, [], ◌∷◌, map, nat_lt, if◌then◌else◌, refl, ap, ◌∙◌}
use Rattle.dtx_values.specs.Table.{insert_by}
use Rattle.dtx_model.specs.Words.{has}
use Rattle.dtx_model.proofs.Bools.{or_swap}

-- a change that the test doesn't see
pub has-map : {A : Type 0} (p : A → Bool) (f : A → A) → ((x : A) → p (f x) ≡ p x) → (xs : List A) → has p (map f xs) ≡ has p xs
has-map p f same [] = refl
has-map p f same (x ∷ xs) = rw (same x, has-map p f same xs) refl

-- one more item
pub has-insert_by : {A : Type 0} (p : A → Bool) (key : A → ℕ) (x : A) (ys : List A) → has p (insert_by key x ys) ≡ (p x || has p ys)
has-insert_by p key x [] = refl
has-insert_by p key x (y ∷ ys) = step (nat_lt (key y) (key x)) (has-insert_by p key x ys)
  where
    step : (b : Bool) → has p (insert_by key x ys) ≡ (p x || has p ys) → has p (if b then y ∷ insert_by key x ys else x ∷ y ∷ ys) ≡ (p x || (p y || has p ys))
    step true ih = ap (λ b. p y || b) ih ∙ or_swap (p y) (p x) (has p ys)
    step false ih = refl
