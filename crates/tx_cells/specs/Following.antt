-- What the log's state makes of a transaction that didn't hear of it yet.
use Rattle.std.specs.Prelude.{false, is_some, if◌then◌else◌}
use Rattle.dtx_model.specs.Log.{first_of}
use Rattle.dtx_values.specs.TxIds.{number_of}
use Rattle.dtx_model.specs.Steps.{Restarts, Stops, after}
use Rattle.coordinator_log.specs.Slots.{open_records}
use Rattle.coordinator_log.specs.State.{LogState}
use Rattle.tx_world.specs.AtLog.{id_of}
use Rattle.tx_world.specs.State.{TxState, is_hit_by, is_reached_by}

-- it hears that the log was opened, and whether its record was found there; before that that it was stopped, where it didn't stand stopped
abbrev pub heard_opened : {D : Type 0} → TxState → LogState D → TxState
heard_opened x log = record {
  transaction = x.transaction;
  world = after (number_of x.transaction) x.world (Restarts (is_some (first_of (id_of x) (open_records log.slots))));
  ours = first_of (id_of x) (open_records log.slots);
  unsure = false;
  life = log.life;
}

-- it hears that the log was stopped
abbrev pub heard_stopped : TxState → TxState
heard_stopped x = record { transaction = x.transaction; world = after (number_of x.transaction) x.world Stops; ours = x.ours; unsure = x.unsure; life = x.life }

-- where the log is up, what it hears is an opening in a later life than its coordinator's; where it isn't, a stop that hits it; and else nothing
abbrev pub followed : {D : Type 0} → TxState → LogState D → TxState
followed x log = if log.is_up then (if is_reached_by log.life x then heard_opened x log else x) else (if is_hit_by log.life x then heard_stopped x else x)
