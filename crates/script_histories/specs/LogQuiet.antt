-- Traces in which the log is quiet, and in which it is sound.
use Rattle.std.specs.Prelude.{Bool, true, false, ◌&&◌, not, List}
use Rattle.dtx_values.specs.declared.entry.Entry.{Entry}
use Rattle.dtx_values.specs.declared.entry.Entry.TheVariants.{LogFull}
use Rattle.dtx_values.specs.declared.trace.Place.TheVariants.{Transaction}
use Rattle.dtx_model.specs.Words.{each, has}
use Rattle.dtx_model.specs.AtLog.{is_log}
use Rattle.dtx_model.specs.Traces.{Placed}

-- nothing stands at the log: it was never stopped, nor opened again
abbrev pub is_log_quiet : List Placed → Bool
is_log_quiet T = each (λ x. not (is_log x.0)) T

-- the log was full for the append
abbrev pub is_log_full : Entry → Bool
is_log_full LogFull = true
is_log_full _ = false

-- an append of a transaction found the log full
abbrev pub is_found_full : Placed → Bool
is_found_full (Transaction t, x) = is_log_full x
is_found_full _ = false

-- the log did each append and each free: it was never stopped, nor opened again, and no append found it full
abbrev pub is_log_sound : List Placed → Bool
is_log_sound T = is_log_quiet T && not (has is_found_full T)
