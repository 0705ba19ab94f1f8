-- The lines of a summary.
use Rattle.std.specs.Prelude.{ℕ, Bool, ◌&&◌, not, List, codes}
use Rattle.trace_lines.specs.declared.tally.Heading.{Heading}
use Rattle.trace_lines.specs.declared.tally.Heading.TheVariants.{Transactions, Committed, Aborted, InDoubt, Open, Promoted, Logged, Freed}
use Rattle.trace_lines.specs.declared.tally.Seen.{Seen}

-- the word of a line
abbrev pub heading_word : Heading → List ℕ
heading_word Transactions = codes "transactions"
heading_word Committed = codes "committed"
heading_word Aborted = codes "aborted"
heading_word InDoubt = codes "indoubt"
heading_word Open = codes "open"
heading_word Promoted = codes "promoted"
heading_word Logged = codes "logged"
heading_word Freed = codes "freed"

-- a transaction counts there, by what stands in its history
abbrev pub is_counted : Heading → Seen → Bool
is_counted Transactions s = s.begun
is_counted Committed s = s.committed
is_counted Aborted s = s.aborted
is_counted InDoubt s = s.in_doubt
is_counted Open s = s.begun && not s.told
is_counted Promoted s = s.promoted
is_counted Logged s = s.logged
is_counted Freed s = s.freed
