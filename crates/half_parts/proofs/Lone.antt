-- The only durable or promotable row of a table, found row by row.
use Rattle.std.proofs.Common.{Bool, false, List, [], ◌∷◌, Option, Some, None}
use Rattle.dtx_values.specs.declared.row.Row.{Row}
use Rattle.dtx_values.specs.declared.words.Class.{Class}
use Rattle.dtx_values.specs.Class.{is_single_class}
use Rattle.dtx_values.specs.Owners.{is_lone_single}

-- the only one is a durable that can own the commit, where one of this class was found in front of these
abbrev pub alone_after : Option Class → List Row → Bool
alone_after None xs = is_lone_single xs
alone_after (Some c) [] = is_single_class c
alone_after (Some c) (x ∷ xs) = false
