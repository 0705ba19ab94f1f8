use Rattle.std.proofs.Common.{◌≡◌, IsTrue}
use Rattle.world_laws.specs.Left.{steps_left}
use Rattle.run_endings.proofs.finishing.settling.settle.Given as goal

abbrev pub invariant-loop : goal.invariant-loop
invariant-loop g l = record {
  rows : l.state.rows ≡ l.initial.state.rows;
  transaction : l.state.tx.transaction ≡ l.initial.state.tx.transaction;
  log_rows : l.log.rows ≡ l.initial.log.rows;
  still : IsTrue l.log.log.is_up → IsTrue l.initial.log.log.is_up;
}

abbrev pub decreases-loop : goal.decreases-loop
decreases-loop g l = steps_left l.state.tx.world
