-- The calls of the lines before `par` come first, in order of lines.
use Rattle.std.specs.Prelude.{ℕ, ◌+◌, nat_le, Bool, true, ◌||◌, List, [], ◌∷◌, Option, Some, None, if◌then◌else◌}
use Rattle.dtx_values.specs.declared.entry.Entry.{Entry}
use Rattle.dtx_values.specs.declared.entry.Entry.TheVariants.{Called}
use Rattle.dtx_values.specs.declared.script.Line.{Line}
use Rattle.dtx_model.specs.Grammar.{is_par}
use Rattle.dtx_model.specs.Words.{all_of, always, each}

-- the number of the first `par` among these lines, the first of which has number n; 0 where there is none
abbrev pub par_from : ℕ → List Line → ℕ
par_from n [] = 0
par_from n (l ∷ ls) = if is_par l.body then n else par_from (n + 1) ls

-- the number of the script's `par` line, from 1; 0 where it has none, and so no line comes before it
abbrev pub par_line : List Line → ℕ
par_line s = par_from 1 s

-- the line of the call that the entry is
abbrev pub line_called : Entry → Option ℕ
line_called (Called n a x) = Some n
line_called _ = None

-- a call of a line before line `par` comes after calls of no higher line
abbrev pub comes_first : ℕ → List Entry → Entry → Bool
comes_first par past (Called n a x) = nat_le par n || each (λ m. nat_le m n) (all_of line_called past)
comes_first par past _ = true

-- in this history, newest entry first, the calls of the lines before line `par` come first, in order of lines; a line has one call in it at most
abbrev pub are_first : ℕ → List Entry → Bool
are_first par h = always (comes_first par) h
