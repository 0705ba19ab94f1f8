-- The answers that judge the bytes.
use Rattle.std.specs.Prelude.{ℕ, ◌+◌, ◌≡◌, ◌⊎◌, List, [], ◌∷◌, Option, Some, None, if◌then◌else◌}
use Rattle.dtx_values.specs.declared.script.BadCause.{BadCause}
use Rattle.dtx_values.specs.declared.script.Line.{Line}
use Rattle.dtx_model.specs.Grammar.{Reads}
use Rattle.script_calls.specs.Threadable.{is_do_line}
use Rattle.program_io.specs.declared.exit.Exit.{Exit}
use Rattle.program_io.specs.declared.exit.Exit.TheVariants.{BadScript, NotThreadable}

-- the answer is that a line is bad, or that threads can't run it
abbrev pub IsJudged : Exit → Type 0
IsJudged x = ((n : ℕ) × (c : BadCause) × (x ≡ BadScript n c)) ⊎ ((n : ℕ) × (x ≡ NotThreadable n))

-- the number of the first `do` of these lines, the first of which has number n
abbrev pub first_do_from : ℕ → List Line → Option ℕ
first_do_from n [] = None
first_do_from n (l ∷ ls) = if is_do_line l.body then Some n else first_do_from (n + 1) ls

-- the first `do` line of a script, by its number from 1
abbrev pub first_do : List Line → Option ℕ
first_do s = first_do_from 1 s

-- the bytes are a script, and line n is its first `do`
abbrev pub HasDoAt : List ℕ → ℕ → Type 0
HasDoAt b n = (s : List Line) × Reads b s × (first_do s ≡ Some n)
