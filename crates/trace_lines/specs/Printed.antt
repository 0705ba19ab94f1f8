-- Which entries are one word.
use Rattle.std.specs.Prelude.{Bool, true, false}
use Rattle.dtx_values.specs.declared.entry.Entry.{Entry}
use Rattle.dtx_values.specs.declared.entry.Entry.TheVariants.{CommitAsked, RollbackAsked, TimedOut, Late, Sealed, LocalYes, PromotionFailed, Logged, LogFull, Freed, Stopped}

-- the entry has no fields
abbrev pub is_event : Entry → Bool
is_event CommitAsked = true
is_event RollbackAsked = true
is_event TimedOut = true
is_event Late = true
is_event Sealed = true
is_event LocalYes = true
is_event PromotionFailed = true
is_event Logged = true
is_event LogFull = true
is_event Freed = true
is_event Stopped = true
is_event _ = false
