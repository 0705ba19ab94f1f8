-- Bytes of which the zeros at the end are not kept.
use Rattle.std.specs.Prelude.{ℕ, ◌-◌, List, ◌++◌, length, replicate}

-- the bytes, with zeros up to so many
abbrev pub with_zeros : ℕ → List ℕ → List ℕ
with_zeros n front = front ++ replicate (n - length front) 0
