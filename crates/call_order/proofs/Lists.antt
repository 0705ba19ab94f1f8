-- What f makes of a history, and what of it passes.
use Rattle.std.proofs.Common.{◌≡◌, Bool, true, false, cond, List, [], ◌∷◌, map, filter, refl, ap, ◌∙◌}
use Rattle.dtx_model.specs.Words.{onto, past_of}

-- what passes of a block passes after what passes of the history
pub filter-onto : {E : Type 0} (p : E → Bool) (h xs : List E) → filter p (onto h xs) ≡ onto (filter p h) (filter p xs)
filter-onto p h [] = refl
filter-onto p h (x ∷ xs) = filter-onto p (x ∷ h) xs ∙ by (p x)
  where
    by : (b : Bool) → onto (cond b (x ∷ filter p h) (filter p h)) (filter p xs) ≡ onto (filter p h) (cond b (x ∷ filter p xs) (filter p xs))
    by true = refl
    by false = refl

-- where what f makes of each item fails, none of it passes
pub filter-none : {A E : Type 0} (p : E → Bool) (f : A → E) → ((x : A) → p (f x) ≡ false) → (xs : List A) → filter p (map f xs) ≡ []
filter-none p f out [] = refl
filter-none p f out (x ∷ xs) = ap (λ (b : Bool). cond b (f x ∷ filter p (map f xs)) (filter p (map f xs))) (out x) ∙ filter-none p f out xs

-- what f makes of a block is after what it makes of the history
map-onto : {A E : Type 0} (f : A → E) (h xs : List A) → onto (map f h) (map f xs) ≡ map f (onto h xs)
map-onto f h [] = refl
map-onto f h (x ∷ xs) = map-onto f (x ∷ h) xs

pub map-past : {A E : Type 0} (f : A → E) (xs : List A) → past_of (map f xs) ≡ map f (past_of xs)
map-past f xs = map-onto f [] xs
