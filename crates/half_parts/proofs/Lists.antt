-- Tests on lists that are changed item by item, or by one item.
use Rattle.std.proofs.Common.{◌≡◌, ◌≤◌, ◌+◌, ◌&&◌, ◌||◌, ℕ, suc, Bool, true, false, not, List, [], ◌∷◌, map, filter, length, nat_lt, cond, if◌then◌else◌, refl, ap, ◌∙◌, arith}
use Rattle.dtx_values.specs.Table.{how_many, insert_by}
use Rattle.dtx_model.specs.Words.{each, has}
use Rattle.dtx_model.proofs.Bools.{and_both, and_left, and_right, and_swap, or_first, or_second}

-- a change that the test doesn't see
pub each-map : {A : Type 0} (p : A → Bool) (f : A → A) → ((x : A) → p (f x) ≡ p x) → (xs : List A) → each p (map f xs) ≡ each p xs
each-map p f same [] = refl
each-map p f same (x ∷ xs) = rw (same x, each-map p f same xs) refl

-- two tests of which the second passes wherever the first does
pub each-more : {A : Type 0} (p q : A → Bool) → ((x : A) → p x ≡ true → q x ≡ true) → (xs : List A) → each p xs ≡ true → each q xs ≡ true
each-more p q more [] k = refl
each-more p q more (x ∷ xs) k =
    and_both (q x) (each q xs) (more x (and_left (p x) (each p xs) k)) (each-more p q more xs (and_right (p x) (each p xs) k))

pub each-same : {A : Type 0} (p q : A → Bool) → ((x : A) → p x ≡ q x) → (xs : List A) → each p xs ≡ each q xs
each-same p q same [] = refl
each-same p q same (x ∷ xs) = rw (same x, each-same p q same xs) refl

pub how_many-same : {A : Type 0} (p q : A → Bool) → ((x : A) → p x ≡ q x) → (xs : List A) → how_many p xs ≡ how_many q xs
how_many-same p q same [] = refl
how_many-same p q same (x ∷ xs) = rw (same x, how_many-same p q same xs) refl

-- one more item
pub each-insert_by : {A : Type 0} (p : A → Bool) (key : A → ℕ) (x : A) (ys : List A) → each p (insert_by key x ys) ≡ (p x && each p ys)
each-insert_by p key x [] = refl
each-insert_by p key x (y ∷ ys) = step (nat_lt (key y) (key x)) (each-insert_by p key x ys)
  where
    step : (b : Bool) → each p (insert_by key x ys) ≡ (p x && each p ys) → each p (if b then y ∷ insert_by key x ys else x ∷ y ∷ ys) ≡ (p x && (p y && each p ys))
    step true ih = ap (λ b. p y && b) ih ∙ and_swap (p y) (p x) (each p ys)
    step false ih = refl

-- fewer items
pub each-filter : {A : Type 0} (p q : A → Bool) (xs : List A) → each p xs ≡ true → each p (filter q xs) ≡ true
each-filter p q [] k = refl
each-filter p q (x ∷ xs) k = step (q x) (each-filter p q xs (and_right (p x) (each p xs) k))
  where
    step : (b : Bool) → each p (filter q xs) ≡ true → each p (cond b (x ∷ filter q xs) (filter q xs)) ≡ true
    step true ih = and_both (p x) (each p (filter q xs)) (and_left (p x) (each p xs) k) ih
    step false ih = ih

pub how_many-filter-le : {A : Type 0} (p q : A → Bool) (xs : List A) → how_many p (filter q xs) ≤ how_many p xs
how_many-filter-le p q [] = omega arith
how_many-filter-le p q (x ∷ xs) = step (q x) (p x) (how_many-filter-le p q xs)
  where
    step : (b c : Bool) → how_many p (filter q xs) ≤ how_many p xs → how_many p (cond b (x ∷ filter q xs) (filter q xs)) ≤ (if p x then suc (how_many p xs) else how_many p xs)
    step true c le = elim (p x) as (λ d. (if d then suc (how_many p (filter q xs)) else how_many p (filter q xs)) ≤ (if d then suc (how_many p xs) else how_many p xs)) [ true ↦ omega arith | false ↦ omega arith ]
    step false c le = elim (p x) as (λ d. how_many p (filter q xs) ≤ (if d then suc (how_many p xs) else how_many p xs)) [ true ↦ omega arith | false ↦ omega arith ]

-- none of those that are filtered out is left
pub how_many-filter-none : {A : Type 0} (p q : A → Bool) → ((x : A) → p x ≡ true → q x ≡ false) → (xs : List A) → how_many p (filter q xs) ≡ 0
how_many-filter-none p q none [] = refl
how_many-filter-none p q none (x ∷ xs) = step (q x) (p x) refl refl (how_many-filter-none p q none xs)
  where
    step : (b c : Bool) → q x ≡ b → p x ≡ c → how_many p (filter q xs) ≡ 0 → how_many p (cond b (x ∷ filter q xs) (filter q xs)) ≡ 0
    step false c e k ih = ih
    step true false e k ih = rw k ih
    step true true e k ih = let never : q x ≡ false = none x k in absurd cc

-- Each of these picks at most one, so what they don't pick is at most so many fewer.
count_split : {N : Type 0} (b q h : N → Bool) (ns : List N) → how_many (λ n. b n && not (h n)) ns ≤ how_many q ns + how_many (λ n. b n && not (q n || h n)) ns
count_split b q h [] = omega arith
count_split b q h (n ∷ ns) =
    step (b n) (q n) (h n) (how_many (λ n. b n && not (h n)) ns) (how_many q ns) (how_many (λ n. b n && not (q n || h n)) ns) (count_split b q h ns)
  where
    step : (x y z : Bool) (k m l : ℕ) → k ≤ m + l → (if x && not z then suc k else k) ≤ (if y then suc m else m) + (if x && not (y || z) then suc l else l)
    step true true true k m l le = omega arith
    step true true false k m l le = omega arith
    step true false true k m l le = omega arith
    step true false false k m l le = omega arith
    step false true z k m l le = omega arith
    step false false z k m l le = omega arith

pub spread : {A N : Type 0} (r : A → Bool) (p : A → N → Bool) (base : N → Bool) (xs : List A) (ns : List N) → ((a : A) → how_many (p a) ns ≤ 1)
    → how_many base ns ≤ how_many r xs + how_many (λ n. base n && not (has (λ a. r a && p a n) xs)) ns
spread r p base [] ns once = omega (arith, how_many-same (λ n. base n && true) base (λ n. and_true (base n)) ns)
  where
    and_true : (b : Bool) → (b && true) ≡ b
    and_true true = refl
    and_true false = refl
spread r p base (a ∷ xs) ns once = step (r a) (spread r p base xs ns once)
  where
    step : (b : Bool) → how_many base ns ≤ how_many r xs + how_many (λ n. base n && not (has (λ c. r c && p c n) xs)) ns
        → how_many base ns ≤ (if b then suc (how_many r xs) else how_many r xs) + how_many (λ n. base n && not ((b && p a n) || has (λ c. r c && p c n) xs)) ns
    step true le = omega (arith, once a, count_split base (p a) (λ n. has (λ c. r c && p c n) xs) ns)
    step false le = le

-- where all are picked, none is left
pub none_left : {N : Type 0} (p : N → Bool) (ns : List N) → ((n : N) → p n ≡ false) → how_many p ns ≡ 0
none_left p [] none = refl
none_left p (n ∷ ns) none = rw (none n) (none_left p ns none)

pub picked : {N : Type 0} (b p : N → Bool) (ns : List N) → each p ns ≡ true → ((n : N) → p n ≡ true → b n ≡ false) → how_many b ns ≡ 0
picked b p [] k none = refl
picked b p (n ∷ ns) k none = rw (none n (and_left (p n) (each p ns) k)) (picked b p ns (and_right (p n) (each p ns) k) none)

pub how_many-all : {N : Type 0} (ns : List N) → how_many (λ n. true) ns ≡ length ns
how_many-all [] = refl
how_many-all (n ∷ ns) = ap suc (how_many-all ns)

-- where none passes, none is counted
pub not_counted : {A : Type 0} (p : A → Bool) (xs : List A) → has p xs ≡ false → how_many p xs ≡ 0
not_counted p [] k = refl
not_counted p (x ∷ xs) k = rw (or_first (p x) (has p xs) k) (not_counted p xs (or_second (p x) (has p xs) k))

-- where none is counted, none passes
pub none_counted : {A : Type 0} (p : A → Bool) (xs : List A) → how_many p xs ≡ 0 → has p xs ≡ false
none_counted p [] k = refl
none_counted p (x ∷ xs) k = step (p x) k (λ z. none_counted p xs z)
  where
    step : (b : Bool) → (if b then suc (how_many p xs) else how_many p xs) ≡ 0 → (how_many p xs ≡ 0 → has p xs ≡ false) → (b || has p xs) ≡ false
    step true z ih = absurd (omega (arith, z))
    step false z ih = ih z

pub length-filter-le : {A : Type 0} (q : A → Bool) (xs : List A) → length (filter q xs) ≤ length xs
length-filter-le q [] = omega arith
length-filter-le q (x ∷ xs) = step (q x) (length-filter-le q xs)
  where
    step : (b : Bool) → length (filter q xs) ≤ length xs → length (cond b (x ∷ filter q xs) (filter q xs)) ≤ suc (length xs)
    step true le = omega (arith, le)
    step false le = omega (arith, le)
