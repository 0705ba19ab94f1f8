-- What a transaction keeps of the log is what its history says.
use Rattle.std.specs.Prelude.{◌≡◌, true, ◌&&◌, ◌||◌, not, List, is_some}
use Rattle.dtx_values.specs.declared.entry.Entry.{Entry}
use Rattle.dtx_model.specs.Words.{latest}
use Rattle.dtx_model.specs.Tied.{before_first_stop, before_last_stop, can_free, can_log, has_mark, is_unmarked, mark_of}
use Rattle.tx_world.specs.AtLog.{Kept}

-- What a transaction keeps of the log is what its history says: it keeps a record only where there is one, or where its append was tried before the first stop; it keeps one
-- where there is one; and it is unsure only where there is none, or where its freeing was tried before the last stop.
pub record IsTried (past : List Entry) (x : Kept) : Type 0 where
  pub tried : is_some x.ours ≡ true → (has_mark past || (is_unmarked (latest mark_of past) && can_log (before_first_stop past))) ≡ true
  pub kept : has_mark past ≡ true → is_some x.ours ≡ true
  pub unsure : x.unsure ≡ true → (not (has_mark past) || can_free (before_last_stop past)) ≡ true
