-- Where an entry stands: by its number in the trace, and by the newest call of its transaction.
use Rattle.std.specs.Prelude.{ℕ, ◌+◌, ◌==◌, List, [], ◌∷◌, Option, Some, None, length, if◌then◌else◌}
use Rattle.dtx_values.specs.declared.entry.Entry.{Entry}
use Rattle.dtx_values.specs.declared.entry.Entry.TheVariants.{Called}
use Rattle.dtx_model.specs.Traces.{Placed, is_at}
use Rattle.dtx_model.specs.Words.{latest}
use Rattle.outcome_reasons.specs.declared.said.Caller.{Caller}
use Rattle.outcome_reasons.specs.declared.said.Moment.{Moment}

-- the numbers in the trace of the entries of transaction t, newest first, as the trace stands too
abbrev pub numbers_of : ℕ → List Placed → List ℕ
numbers_of t [] = []
numbers_of t (x ∷ past) = if is_at t x.0 then (length past + 1) ∷ numbers_of t past else numbers_of t past

-- the number of the entry before which so many stand; 0 where there is none
abbrev pub number_at : ℕ → List ℕ → ℕ
number_at i [] = 0
number_at i (n ∷ ns) = if i == length ns then n else number_at i ns

abbrev pub caller_in : Entry → Option Caller
caller_in (Called n a x) = Some (record { line = n; actor = a })
caller_in _ = None

-- the newest call
abbrev pub caller : List Entry → Option Caller
caller h = latest caller_in h

-- its line; 0 where there is none
abbrev pub line_in : Option Caller → ℕ
line_in (Some c) = c.line
line_in None = 0

-- the moment of the entry that comes after this history
abbrev pub moment : List ℕ → List Entry → Entry → Moment
moment ns past x = record { caller = caller (x ∷ past); entry = number_at (length past) ns }
