-- The calls of one actor at a place.
use Rattle.std.specs.Prelude.{ℕ, List}
use Rattle.script_calls.specs.declared.rows.Due.{Due}

-- its calls in order of lines, and how many of them were entered
pub record SeenRow (C : Type 0) : Type 0 where
  pub calls : List (Due C)
  pub entered : ℕ
