-- Lists in order of key, each key once.
use Rattle.std.specs.Prelude.{◌≡◌, ℕ, suc, ◌+◌, ◌<◌, ◌≤◌, ◌==◌, nat_lt, List, [], ◌∷◌, drop, take, filter, find, length, None, slice_get}

-- the keys rise, from n on
abbrev pub IsRisingFrom : {A : Type 0} → (A → ℕ) → ℕ → List A → Type 0
IsRisingFrom key n [] = Unit {0}
IsRisingFrom key n (x ∷ xs) = (n ≤ key x) × IsRisingFrom key (suc (key x)) xs

-- the keys rise
abbrev pub IsRising : {A : Type 0} → (A → ℕ) → List A → Type 0
IsRising key xs = IsRisingFrom key 0 xs

-- the items below the key
abbrev pub below : {A : Type 0} → (A → ℕ) → ℕ → List A → List A
below key k xs = filter (λ x. nat_lt (key x) k) xs

-- the items above it
abbrev pub above : {A : Type 0} → (A → ℕ) → ℕ → List A → List A
above key k xs = filter (λ x. nat_lt k (key x)) xs

-- the item of the key is at place i
pub record IsAt {A : Type 0} (key : A → ℕ) (xs : List A) (k i : ℕ) : Type 0 where
  pub in_range : i < length xs
  pub here : find (λ x. key x == k) xs ≡ slice_get xs i
  pub below_it : below key k xs ≡ take i xs
  pub above_it : above key k xs ≡ drop (i + 1) xs

-- no item has the key, and one would go to place i
pub record IsGapFor {A : Type 0} (key : A → ℕ) (xs : List A) (k i : ℕ) : Type 0 where
  pub in_range : i ≤ length xs
  pub absent : find (λ x. key x == k) xs ≡ None
  pub below_it : below key k xs ≡ take i xs
  pub above_it : above key k xs ≡ drop i xs
