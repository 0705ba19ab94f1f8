use Rattle.std.proofs.Common.{◌≡◌, ◌<◌}
use Rattle.dtx_values.specs.declared.number.ActorNo.{ActorNo}
use Rattle.run_endings.specs.Finishing.{HaveSameNumbers, left_of}
use Rattle.run_endings.proofs.finishing.entering.enter_all.Given as goal

abbrev pub invariant-loop-n : goal.invariant-loop-n
invariant-loop-n g l = record {
  none : (a : ActorNo) → a.value < l.n → left_of a l.states l.log ≡ 0;
  numbers : HaveSameNumbers l.initial.states l.states;
}
