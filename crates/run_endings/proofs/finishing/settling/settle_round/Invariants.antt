use Rattle.std.proofs.Common.{◌≡◌, IsTrue, true, take}
use Rattle.dtx_model.specs.Outcome.{is_empty}
use Rattle.dtx_model.specs.Steps.{pending}
use Rattle.dtx_model.specs.Words.{each}
use Rattle.run_endings.specs.Finishing.{HaveSameCalls, HaveSameNumbers}
use Rattle.run_endings.proofs.finishing.settling.settle_round.Given as goal

abbrev pub invariant-loop-i : goal.invariant-loop-i
invariant-loop-i g l = record {
  settled : l.log.log.is_up ≡ l.initial.log.log.is_up → each (λ c. is_empty (pending c.tx.world)) (take l.i l.states) ≡ true;
  calls : HaveSameCalls l.initial.states l.states;
  numbers : HaveSameNumbers l.initial.states l.states;
  log_rows : l.log.rows ≡ l.initial.log.rows;
  still : IsTrue l.log.log.is_up → IsTrue l.initial.log.log.is_up;
}
