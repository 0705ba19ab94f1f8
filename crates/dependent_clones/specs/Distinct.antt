-- What the clones keep, and what completing one does to each row.
use Rattle.std.specs.Prelude.{ℕ, Bool, true, ◌&&◌, ◌||◌, not, List, [], ◌∷◌}
use Rattle.std.specs.List.{list_any}
use Rattle.dtx_values.specs.declared.row.CloneRow.{CloneRow}
use Rattle.dtx_values.specs.Clones.{is_clone}

-- no two rows have the same number
abbrev pub distinct : List CloneRow → Bool
distinct [] = true
distinct (r ∷ rs) = not (list_any (is_clone r.clone.value) rs) && distinct rs

-- the row, complete where it is this clone's
abbrev pub complete_in : ℕ → CloneRow → CloneRow
complete_in c r = record { clone = r.clone; kind = r.kind; complete = is_clone c r || r.complete }
