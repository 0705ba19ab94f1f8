-- A count that rose has risen in any longer time too.
use Rattle.std.proofs.Common.{ℕ, ◌≤◌, arith}
use Rattle.outside.specs.Faults.{Rose}

-- it rose by b, and doesn't fall after
pub rose_later : (a b c : ℕ) → Rose a b → b ≤ c → Rose a c
rose_later a b c rose after = omega arith

-- it was no higher before, and rose
pub rose_earlier : (a b c : ℕ) → a ≤ b → Rose b c → Rose a c
rose_earlier a b c before rose = omega arith

-- a count that is always 0 never rose
pub rose_never : Rose 0 0 → ⊥
rose_never rose = omega arith
