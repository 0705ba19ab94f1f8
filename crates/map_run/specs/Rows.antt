-- The rows of a map.
use Rattle.std.specs.Prelude.{ℕ}
use Rattle.tx_map.specs.declared.write.MapEntry.{MapEntry}

-- a key of the base with its value
abbrev pub row_of : MapEntry → ℕ × ℕ
row_of x = (x.key, x.value)
