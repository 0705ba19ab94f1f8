-- Which enlistments a vote is awaited of.
use Rattle.std.specs.Prelude.{ℕ, Bool, ◌&&◌, not, if◌then◌else◌}
use Rattle.dtx_values.specs.declared.row.Row.{Row}
use Rattle.dtx_values.specs.Row.{has_voted, is_marked}

-- the enlistment was asked to prepare, and hasn't voted
abbrev pub is_waiting : Row → Bool
is_waiting x = is_marked x && not (has_voted x)

-- 1 where it holds
abbrev pub one_if : Bool → ℕ
one_if b = if b then 1 else 0
