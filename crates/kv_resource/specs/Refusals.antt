-- The refusals of a store, as those of its puts.
use Rattle.std.specs.Prelude.{Option, Some, None}
use Rattle.dtx_values.specs.TxIds.{number_of}
use Rattle.kv_resource.specs.declared.refusal.KvRefusal.{KvRefusal}
use Rattle.kv_resource.specs.declared.refusal.KvRefusal.TheVariants.{Stopped as StoppedPut, Prepared as PreparedPut, Busy as BusyPut, TooMany as TooManyPuts}
use Rattle.kv_resource.specs.Store.{Busy, Prepared, PutRefusal, Stopped, TooMany}

-- why a put was refused; none where memory ran out
abbrev pub why_of : KvRefusal → Option PutRefusal
why_of StoppedPut = Some Stopped
why_of (PreparedPut t e) = Some (Prepared (number_of t) e.value)
why_of (BusyPut t e) = Some (Busy (number_of t) e.value)
why_of (TooManyPuts most) = Some (TooMany most)
why_of _ = None
