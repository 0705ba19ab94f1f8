use Rattle.std.proofs.Common.{◌≡◌, ◌≢◌}
use Rattle.dtx_values.specs.declared.number.ActorNo.{ActorNo}
use Rattle.run_endings.specs.Finishing.{HaveSameNumbers, left_of}
use Rattle.run_endings.proofs.finishing.entering.enter_actor.Given as goal

abbrev pub invariant-loop : goal.invariant-loop
invariant-loop g l = record {
  others : (b : ActorNo) → b ≢ l.a → left_of b l.states l.log ≡ left_of b l.initial.states l.initial.log;
  numbers : HaveSameNumbers l.initial.states l.states;
}

abbrev pub decreases-loop : goal.decreases-loop
decreases-loop g l = left_of l.a l.states l.log
