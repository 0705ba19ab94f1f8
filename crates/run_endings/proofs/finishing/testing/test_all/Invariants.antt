use Rattle.std.proofs.Common.{◌≡◌, true, take}
use Rattle.std.specs.List.{All}
use Rattle.dtx_model.specs.Words.{each}
use Rattle.tx_cells.specs.Ties.{TiesWith}
use Rattle.run_endings.proofs.finishing.testing.test_all.Given as goal
use Rattle.dtx_model.specs.AtLog.{follows}
use Rattle.script_calls.specs.FirstCalls.{are_first}

abbrev pub invariant-loop-state : goal.invariant-loop-state
invariant-loop-state g l = record {
  tied : All (λ c. TiesWith c.tx l.log.log) (take l.state-index l.states);
  followed : each (λ c. follows l.log.past c.tx.world.past) (take l.state-index l.states) ≡ true;
  first : each (λ c. are_first l.par c.tx.world.past) (take l.state-index l.states) ≡ true;
}
