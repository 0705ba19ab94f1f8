-- How many items pass a test, before and after a change.
use Rattle.std.proofs.Common.{◌≡◌, ℕ, suc, ◌<◌, ◌≤◌, Bool, true, false, ◌&&◌, ◌||◌, not, List, [], ◌∷◌, map, find, Some, cond, if◌then◌else◌, refl, subst, arith}
use Rattle.dtx_values.specs.Table.{how_many}
use Rattle.dtx_model.specs.Words.{has}
use Rattle.dtx_model.proofs.Bools.{or_right}

-- a change that makes no item pass lets no more pass
pub how_many-map-le : {A : Type 0} (p : A → Bool) (f : A → A) → ((x : A) → p (f x) ≡ true → p x ≡ true) → (xs : List A) → how_many p (map f xs) ≤ how_many p xs
how_many-map-le p f keeps [] = omega arith
how_many-map-le p f keeps (x ∷ xs) = step (p (f x)) (p x) (keeps x) (how_many-map-le p f keeps xs)
  where
    step : {m n : ℕ} (a b : Bool) → (a ≡ true → b ≡ true) → m ≤ n → (if a then suc m else m) ≤ (if b then suc n else n)
    step true true k h = omega arith
    step true false k h = absurd (let e : false ≡ true = k refl in cc)
    step false true k h = omega arith
    step false false k h = h

-- an item passes, and doesn't any more after the change
abbrev pub falls : {A : Type 0} → (A → Bool) → (A → A) → A → Bool
falls p f x = p x && not (p (f x))

-- and where an item that passed doesn't any more, fewer pass
pub how_many-map-lt : {A : Type 0} (p : A → Bool) (f : A → A) → ((x : A) → p (f x) ≡ true → p x ≡ true) → (xs : List A) → has (falls p f) xs ≡ true
    → how_many p (map f xs) < how_many p xs
how_many-map-lt p f keeps [] k = absurd (let e : false ≡ true = k in cc)
how_many-map-lt p f keeps (x ∷ xs) k = step (p (f x)) (p x) (keeps x) (how_many-map-le p f keeps xs) (how_many-map-lt p f keeps xs) k
  where
    step : {m n : ℕ} {h : Bool} (a b : Bool) → (a ≡ true → b ≡ true) → m ≤ n → (h ≡ true → m < n) → ((b && not a) || h) ≡ true
        → (if a then suc m else m) < (if b then suc n else n)
    step true true k le lt e = let l = lt e in omega arith
    step true false k le lt e = absurd (let e : false ≡ true = k refl in cc)
    step false true k le lt e = omega arith
    step false false k le lt e = lt e

-- what was found passes
pub find-passes : {A : Type 0} (p : A → Bool) (x : A) (xs : List A) → find p xs ≡ Some x → p x ≡ true
find-passes p x [] k = absurd (cc)
find-passes p x (y ∷ ys) k = step (p y) refl k (find-passes p x ys)
  where
    step : (b : Bool) → p y ≡ b → cond b (Some y) (find p ys) ≡ Some x → (find p ys ≡ Some x → p x ≡ true) → p x ≡ true
    step true e k ih = let same : y ≡ x = cc in subst (λ z. p z ≡ true) same e
    step false e k ih = ih k

-- what was found stands in the list
pub has-found : {A : Type 0} (p q : A → Bool) (x : A) (xs : List A) → find p xs ≡ Some x → q x ≡ true → has q xs ≡ true
has-found p q x [] k h = absurd (cc)
has-found p q x (y ∷ ys) k h = step (p y) k (has-found p q x ys)
  where
    step : (b : Bool) → cond b (Some y) (find p ys) ≡ Some x → (find p ys ≡ Some x → q x ≡ true → has q ys ≡ true) → has q (y ∷ ys) ≡ true
    step true e ih = let same : x ≡ y = cc in let first : q y ≡ true = subst (λ z. q z ≡ true) same h in rw first refl
    step false e ih = or_right (q y) (has q ys) (ih e h)
