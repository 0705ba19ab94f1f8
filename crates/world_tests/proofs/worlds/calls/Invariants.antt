use Rattle.std.proofs.Common.{IsTrue}
use Rattle.coordinator_log.specs.Slots.{open_records}
use Rattle.tx_world.specs.AtLog.{Fits}
use Rattle.world_tests.proofs.worlds.calls.Given as goal

-- the log's records fit the world all along
abbrev pub invariant-loop-line : goal.invariant-loop-line
invariant-loop-line g l = IsTrue l.run.log.is_up → Fits l.run.world (open_records l.run.log.slots)
