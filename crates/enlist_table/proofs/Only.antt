-- The only durable or promotable row of a table, found row by row.
use Rattle.std.proofs.Common.{List, [], ◌∷◌, Option, Some, None}
use Rattle.dtx_values.specs.declared.number.EnlNo.{EnlNo}
use Rattle.dtx_values.specs.declared.row.Row.{Row}
use Rattle.dtx_values.specs.Owners.{only}

-- the only one, where this one was found in front of these
abbrev pub only_after : Option EnlNo → List Row → Option EnlNo
only_after None xs = only xs
only_after (Some e) [] = Some e
only_after (Some e) (x ∷ xs) = None
