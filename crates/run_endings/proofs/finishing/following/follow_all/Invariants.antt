use Rattle.run_endings.specs.Finishing.{HaveSameCalls, HaveSameNumbers}
use Rattle.run_endings.proofs.finishing.following.follow_all.Given as goal

abbrev pub invariant-loop-i : goal.invariant-loop-i
invariant-loop-i g l = record {
  calls : HaveSameCalls l.initial.states l.states;
  numbers : HaveSameNumbers l.initial.states l.states;
}
