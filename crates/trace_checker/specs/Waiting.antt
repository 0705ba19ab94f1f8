-- What is known of a name.
use Rattle.std.specs.Prelude.{Bool, true, false}
use Rattle.trace_checker.specs.declared.left.Waiting.{Waiting}
use Rattle.trace_checker.specs.declared.left.Waiting.TheVariants.{Waits, Done}

-- it came, and isn't done
abbrev pub is_waiting : Waiting → Bool
is_waiting Waits = true
is_waiting _ = false

-- it is done
abbrev pub is_done : Waiting → Bool
is_done Done = true
is_done _ = false
