-- Of the lines that are called, the highest tells whether a line is below none of them.
use Rattle.std.specs.Prelude.{ℕ, ◌≡◌, nat_le, List}
use Rattle.dtx_values.specs.declared.entry.Entry.{Entry}
use Rattle.dtx_model.specs.Words.{all_of, each}
use Rattle.script_calls.specs.FirstCalls.{line_called}

-- the line is the highest that is called in this history, or 0 where none is: a line is at least that high exactly where none of them is higher
abbrev pub IsHighest : ℕ → List Entry → Type 0
IsHighest highest past = (n : ℕ) → each (λ m. nat_le m n) (all_of line_called past) ≡ nat_le highest n
