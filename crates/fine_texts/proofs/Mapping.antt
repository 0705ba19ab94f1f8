-- Lists and histories whose items are changed one by one.
use Rattle.std.proofs.Common.{◌≡◌, suc, Bool, ◌&&◌, ◌||◌, List, [], ◌∷◌, map, Option, if◌then◌else◌, refl}
use Rattle.dtx_values.specs.Table.{how_many}
use Rattle.dtx_model.specs.Words.{all_of, always, ever, latest, onto, or_else, past_of, put}

-- What the change doesn't touch: what the entries give,
pub all_of-map : {E A : Type 0} (g : E → Option A) (f : E → E) → ((x : E) → g (f x) ≡ g x) → (h : List E) → all_of g (map f h) ≡ all_of g h
all_of-map g f same [] = refl
all_of-map g f same (x ∷ h) =
    let first = same x in
    let rest = all_of-map g f same h in
    λ j. put (first j) (rest j)

-- what the newest with an answer gives,
pub latest-map : {E A : Type 0} (g : E → Option A) (f : E → E) → ((x : E) → g (f x) ≡ g x) → (h : List E) → latest g (map f h) ≡ latest g h
latest-map g f same [] = refl
latest-map g f same (x ∷ h) =
    let first = same x in
    let rest = latest-map g f same h in
    λ j. or_else (first j) (rest j)

-- how many pass,
pub how_many-map : {E : Type 0} (p : E → Bool) (f : E → E) → ((x : E) → p (f x) ≡ p x) → (h : List E) → how_many p (map f h) ≡ how_many p h
how_many-map p f same [] = refl
how_many-map p f same (x ∷ h) =
    let first = same x in
    let rest = how_many-map p f same h in
    λ j. if first j then suc (rest j) else rest j

-- whether some entry passes with what stands before it,
pub ever-map : {E : Type 0} (t : List E → E → Bool) (f : E → E) → ((h : List E) (x : E) → t (map f h) (f x) ≡ t h x) → (h : List E) → ever t (map f h) ≡ ever t h
ever-map t f same [] = refl
ever-map t f same (x ∷ h) =
    let first = same h x in
    let rest = ever-map t f same h in
    λ j. first j || rest j

-- and whether each does
pub always-map : {E : Type 0} (t : List E → E → Bool) (f : E → E) → ((h : List E) (x : E) → t (map f h) (f x) ≡ t h x) → (h : List E) → always t (map f h) ≡ always t h
always-map t f same [] = refl
always-map t f same (x ∷ h) =
    let first = same h x in
    let rest = always-map t f same h in
    λ j. first j && rest j

-- a list is changed as its history is
onto-map : {E : Type 0} (f : E → E) (h xs : List E) → onto (map f h) (map f xs) ≡ map f (onto h xs)
onto-map f h [] = refl
onto-map f h (x ∷ xs) = onto-map f (x ∷ h) xs

pub past_of-map : {E : Type 0} (f : E → E) (xs : List E) → past_of (map f xs) ≡ map f (past_of xs)
past_of-map f xs = onto-map f [] xs
