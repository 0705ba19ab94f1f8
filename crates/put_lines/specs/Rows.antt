-- The rows of a table as pairs.
use Rattle.std.specs.Prelude.{ℕ, List, map}
use Rattle.put_lines.specs.declared.table.TableRow.{TableRow}

-- a key with its value
abbrev pub pair_of : TableRow → ℕ × ℕ
pair_of r = (r.key, r.value)

abbrev pub pairs_of : List TableRow → List (ℕ × ℕ)
pairs_of rs = map pair_of rs
