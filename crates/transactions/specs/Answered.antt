-- The answer of a call that had to wait, in the history.
use Rattle.std.specs.Prelude.{ℕ, ◌≡◌, ◌==◌, Bool, false, List, Some, slice_get}
use Rattle.dtx_values.specs.declared.entry.Entry.{Entry}
use Rattle.dtx_values.specs.declared.entry.Entry.TheVariants.{Answered}

-- the history has this entry
abbrev pub Has : Entry → List Entry → Type 0
Has x h = (i : ℕ) × (slice_get h i ≡ Some x)

-- the entry answers the call of this line, which had to wait
abbrev pub is_answer_to : ℕ → Entry → Bool
is_answer_to n (Answered m a) = n == m
is_answer_to n _ = false
