-- Which entries and calls have to do with connections.
use Rattle.std.specs.Prelude.{◌≡◌, ◌≤◌, ◌+◌, Bool, true, false, List, length}
use Rattle.dtx_values.specs.declared.call.Call.{Call}
use Rattle.dtx_values.specs.declared.call.Call.TheVariants.{Durable, Marshal}
use Rattle.dtx_values.specs.declared.entry.Entry.{Entry}
use Rattle.dtx_values.specs.declared.entry.Entry.TheVariants.{Sent}
use Rattle.dtx_model.specs.Words.{each, has, onto}
use Rattle.dtx_model.specs.Wires.{is_stopped}
use Rattle.dtx_model.specs.Caused.{is_begin_sent}
use Rattle.coordinator_core.specs.Kept.{Kept as CoreKept}
use Rattle.world_laws.specs.Carried.{are_sendable}
use Rattle.world_laws.specs.Course.{Course, is_written}

-- the entry sends a message
abbrev pub is_sent : Entry → Bool
is_sent (Sent c d m) = true
is_sent _ = false

-- the call may begin a promotion
abbrev pub may_promote : Call → Bool
may_promote (Durable t e r s) = true
may_promote (Marshal t) = true
may_promote _ = false

-- The block of a step of the local side may be written after what a history has, while its coordinator is this: its entries may, in their order; BEGIN is sent only while the coordinator runs; and there is room
-- for them, and for a stop after them.
pub record MayWrite (h : Course) (block : List Entry) (k : CoreKept) : Type 0 where
  pub written : each is_written block ≡ true
  pub sendable : are_sendable (onto h.past block) ≡ true
  pub stopped : k.state.stopped ≡ is_stopped h.past
  pub runs : has is_begin_sent block ≡ true → k.state.stopped ≡ false
  pub few : length block ≤ 64
  pub room : length block + 1 ≤ h.room
  pub starts : has is_sent block ≡ true → 64 ≤ h.start_room
  pub sends : has is_sent block ≡ true → 64 ≤ h.send_room
