-- The rows of a transaction's picture.
use Rattle.std.specs.Prelude.{ℕ, ◌+◌, Bool, true, false, List, [], ◌∷◌, length}
use Rattle.dtx_values.specs.declared.entry.Entry.{Entry}
use Rattle.dtx_values.specs.declared.trace.Place.{Place}
use Rattle.dtx_values.specs.declared.trace.Place.TheVariants.{Log}
use Rattle.dtx_model.specs.Caused.{is_begin_sent}
use Rattle.dtx_model.specs.Traces.{Placed, is_at}
use Rattle.dtx_model.specs.Words.{has}
use Rattle.outcome_reasons.specs.Histories.{Numbered}

-- an entry at this place has a row in the picture of transaction t, whose rows these are before it: each of its own, and each of the log once it has sent BEGIN
abbrev pub shows : ℕ → List Entry → Place → Bool
shows t past Log = has is_begin_sent past
shows t past p = is_at t p

abbrev pub with_row : Bool → ℕ → Entry → Numbered → Numbered
with_row true n x rows = record { entries = x ∷ rows.entries; numbers = n ∷ rows.numbers }
with_row false n x rows = rows

-- the rows of transaction t, with their numbers in the trace, newest first, as the trace stands too
abbrev pub rows : ℕ → List Placed → Numbered
rows t [] = record { entries = []; numbers = [] }
rows t (x ∷ past) = with_row (shows t (rows t past).entries x.0) (length past + 1) x.1 (rows t past)
