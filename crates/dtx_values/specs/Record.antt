-- The pairs of a record beyond those that it names.
use Rattle.std.specs.Prelude.{ℕ, ◌==◌, Bool, ◌&&◌, List, drop}
use Rattle.std.specs.List.{list_all}
use Rattle.dtx_values.specs.declared.number.EnlNo.{EnlNo}
use Rattle.dtx_values.specs.declared.number.RmNo.{RmNo}

-- the pair is (r1, e1)
abbrev pub is_blank : RmNo × EnlNo → Bool
is_blank p = (p.0.value == 1) && (p.1.value == 1)

-- every pair from place n on is (r1, e1)
abbrev pub is_blank_from : ℕ → List (RmNo × EnlNo) → Bool
is_blank_from n ps = list_all is_blank (drop n ps)
