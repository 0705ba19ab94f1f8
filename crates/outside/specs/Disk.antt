-- What the calls of a disk do, and what a crash may leave.
use Rattle.std.specs.Prelude.{◌≡◌, Bool, ℕ, ◌+◌, List, ◌++◌, length, take, drop}

-- the old bytes with these at this place
abbrev pub overwritten : List ℕ → ℕ → List ℕ → List ℕ
overwritten old at bytes = take at old ++ bytes ++ drop (at + length bytes) old

-- any bytes in the range of n bytes at this place, and the old ones elsewhere
pub record IsTorn (at n : ℕ) (old new : List ℕ) : Type 0 where
  pub before : take at new ≡ take at old
  pub after : drop (at + n) new ≡ drop (at + n) old
  pub long : length new ≡ length old

-- each new image is an old one after a step
abbrev pub Follows : (List ℕ → List ℕ → Type 0) → (List ℕ → Type 0) → (List ℕ → Type 0) → Type 0
Follows step old new = (c : List ℕ) → new c → (d : List ℕ) × old d × step d c

-- each new image is an old one
abbrev pub AreWithin : (List ℕ → Type 0) → (List ℕ → Type 0) → Type 0
AreWithin old new = (c : List ℕ) → new c → old c

-- a crash leaves these bytes and nothing else
abbrev pub IsOnly : List ℕ → (List ℕ → Type 0) → Type 0
IsOnly bytes image = (c : List ℕ) → image c → c ≡ bytes

-- a disk that tells nothing of what it holds: its length in bytes, whether it was given up after a fault,
-- and how many calls met a fault
pub record Untold : Type 0 where
  pub size : ℕ
  pub is_broken : Bool
  pub faults : ℕ
