-- Tests on lists whose items change, and what is found in them.
use Rattle.std.proofs.Common.{◌≡◌, ℕ, ◌==◌, Bool, true, false, ◌&&◌, ◌||◌, List, [], ◌∷◌, map, filter, find, Option, Some, None, is_some, nat_lt, if◌then◌else◌, refl, ap, ◌∙◌, arith}
use Rattle.std.specs.Option.{option_map}
use Rattle.std.proofs.lemmas.Bool.Decides.{nat_tests}
use Rattle.dtx_values.specs.Table.{insert_by}
use Rattle.dtx_model.specs.Words.{has}

-- numbers by their tests
pub other_number : (e f n : ℕ) → (e == f) ≡ false → (f == n) ≡ true → (e == n) ≡ false
other_number e f n p q = grind (arith, nat_tests)

pub same_number : (e f n : ℕ) → (e == f) ≡ true → (f == n) ≡ false → (e == n) ≡ false
same_number e f n p q = grind (arith, nat_tests)

pub third_number : (e f n : ℕ) → (e == n) ≡ true → (f == n) ≡ (e == f)
third_number e f n p = grind (arith, nat_tests)

-- a change that the test doesn't see
pub find-map : {A : Type 0} (p : A → Bool) (f : A → A) → ((x : A) → p (f x) ≡ p x) → (xs : List A) → find p (map f xs) ≡ option_map f (find p xs)
find-map p f same [] = refl
find-map p f same (x ∷ xs) = (λ k. if same x k then Some (f x) else find-map p f same xs k) ∙ by (p x)
  where
    by : (b : Bool) → (if b then Some (f x) else option_map f (find p xs)) ≡ option_map f (if b then Some x else find p xs)
    by true = refl
    by false = refl

-- a change that the test sees of some
pub has-more : {A : Type 0} (p q r : A → Bool) (f : A → A) (c : Bool) → ((x : A) → p (f x) ≡ (q x || (c && r x))) → (xs : List A) → has p (map f xs) ≡ (has q xs || (c && has r xs))
has-more p q r f true more [] = refl
has-more p q r f false more [] = refl
has-more p q r f c more (x ∷ xs) = (λ k. more x k || has-more p q r f c more xs k) ∙ turn c (q x) (r x) (has q xs) (has r xs)
  where
    turn : (c a b s t : Bool) → ((a || (c && b)) || (s || (c && t))) ≡ ((a || s) || (c && (b || t)))
    turn c true b s t = refl
    turn true false true true t = refl
    turn true false true false t = refl
    turn true false false s t = refl
    turn false false b true t = refl
    turn false false b false t = refl

pub has-only : {A : Type 0} (p q : A → Bool) (f : A → A) (c : Bool) → ((x : A) → p (f x) ≡ (c && q x)) → (xs : List A) → has p (map f xs) ≡ (c && has q xs)
has-only p q f true only [] = refl
has-only p q f false only [] = refl
has-only p q f c only (x ∷ xs) = (λ k. only x k || has-only p q f c only xs k) ∙ by c
  where
    by : (c : Bool) → ((c && q x) || (c && has q xs)) ≡ (c && (q x || has q xs))
    by true = refl
    by false = refl

-- one that the test passes over
pub find-other : {A : Type 0} (p : A → Bool) (key : A → ℕ) (x : A) (ys : List A) → p x ≡ false → find p (insert_by key x ys) ≡ find p ys
find-other p key x [] passed = λ k. if passed k then Some x else None
find-other p key x (y ∷ ys) passed = step (nat_lt (key y) (key x)) (find-other p key x ys passed)
  where
    step : (b : Bool) → find p (insert_by key x ys) ≡ find p ys → find p (if b then y ∷ insert_by key x ys else x ∷ y ∷ ys) ≡ find p (y ∷ ys)
    step true ih = λ k. if p y then Some y else ih k
    step false ih = λ k. if passed k then Some x else find p (y ∷ ys)

-- one that it finds, where it finds no other
find_rest : {A : Type 0} (b : Bool) (y : A) (o : Option A) → (if b then Some y else o) ≡ None → (b ≡ false) × (o ≡ None)
find_rest true y o e = absurd cc
find_rest false y o e = (refl, e)

pub find-own : {A : Type 0} (p : A → Bool) (key : A → ℕ) (x : A) (ys : List A) → p x ≡ true → find p ys ≡ None → find p (insert_by key x ys) ≡ Some x
find-own p key x [] passes none = λ k. if passes k then Some x else None
find-own p key x (y ∷ ys) passes none = step (nat_lt (key y) (key x)) (find_rest (p y) y (find p ys) none).0 (find-own p key x ys passes (find_rest (p y) y (find p ys) none).1)
  where
    step : (b : Bool) → p y ≡ false → find p (insert_by key x ys) ≡ Some x → find p (if b then y ∷ insert_by key x ys else x ∷ y ∷ ys) ≡ Some x
    step true e ih = (λ k. if e k then Some y else find p (insert_by key x ys)) ∙ ih
    step false e ih = λ k. if passes k then Some x else find p (y ∷ ys)

-- among those that are left
pub has-left : {A : Type 0} (p q : A → Bool) → ((x : A) → p x ≡ true → q x ≡ true) → (xs : List A) → has p (filter q xs) ≡ has p xs
has-left p q keeps [] = refl
has-left p q keeps (x ∷ xs) = by (q x) (p x) refl refl (has-left p q keeps xs)
  where
    by : (b c : Bool) → q x ≡ b → p x ≡ c → has p (filter q xs) ≡ has p xs → has p (if b then x ∷ filter q xs else filter q xs) ≡ (p x || has p xs)
    by true c e f ih = ap (λ b. p x || b) ih
    by false true e f ih = let kept : q x ≡ true = keeps x f in absurd cc
    by false false e f ih = ih ∙ (rw f refl)

pub find-left : {A : Type 0} (p q : A → Bool) → ((x : A) → p x ≡ true → q x ≡ true) → (xs : List A) → find p (filter q xs) ≡ find p xs
find-left p q keeps [] = refl
find-left p q keeps (x ∷ xs) = by (q x) (p x) refl refl (find-left p q keeps xs)
  where
    by : (b c : Bool) → q x ≡ b → p x ≡ c → find p (filter q xs) ≡ find p xs → find p (if b then x ∷ filter q xs else filter q xs) ≡ (if p x then Some x else find p xs)
    by true c e f ih = λ k. if p x then Some x else ih k
    by false true e f ih = let kept : q x ≡ true = keeps x f in absurd cc
    by false false e f ih = ih ∙ (rw f refl)

-- none is left
pub has-none : {A : Type 0} (p q : A → Bool) → ((x : A) → q x ≡ true → p x ≡ false) → (xs : List A) → has p (filter q xs) ≡ false
has-none p q drops [] = refl
has-none p q drops (x ∷ xs) = by (q x) refl (has-none p q drops xs)
  where
    by : (b : Bool) → q x ≡ b → has p (filter q xs) ≡ false → has p (if b then x ∷ filter q xs else filter q xs) ≡ false
    by true e ih = (λ k. drops x e k || ih k)
    by false e ih = ih

pub find-none : {A : Type 0} (p q : A → Bool) → ((x : A) → q x ≡ true → p x ≡ false) → (xs : List A) → find p (filter q xs) ≡ None
find-none p q drops [] = refl
find-none p q drops (x ∷ xs) = by (q x) refl (find-none p q drops xs)
  where
    by : (b : Bool) → q x ≡ b → find p (filter q xs) ≡ None → find p (if b then x ∷ filter q xs else filter q xs) ≡ None
    by true e ih = (λ k. if drops x e k then Some x else ih k)
    by false e ih = ih

-- something is found where an item passes, and it passes
pub has-found : {A : Type 0} (p : A → Bool) (xs : List A) → has p xs ≡ is_some (find p xs)
has-found p [] = refl
has-found p (x ∷ xs) = by (p x) (has-found p xs)
  where
    by : (b : Bool) → has p xs ≡ is_some (find p xs) → (b || has p xs) ≡ is_some (if b then Some x else find p xs)
    by true ih = refl
    by false ih = ih

pub found : {A : Type 0} (p : A → Bool) (xs : List A) (y : A) → find p xs ≡ Some y → p y ≡ true
found p [] y e = absurd cc
found p (x ∷ xs) y e = by (p x) refl e (λ h. found p xs y h)
  where
    by : (b : Bool) → p x ≡ b → (if b then Some x else find p xs) ≡ Some y → (find p xs ≡ Some y → p y ≡ true) → p y ≡ true
    by true f e ih = let same : x ≡ y = cc in rw (← same) f
    by false f e ih = ih e
