use Rattle.std.proofs.Common.{◌≡◌, take}
use Rattle.dtx_model.specs.Wires.{is_stopped}
use Rattle.dtx_model.specs.Words.{past_of}
use Rattle.run_endings.proofs.finishing.testing.is_stopped.Given as goal

abbrev pub invariant-loop-i : goal.invariant-loop-i
invariant-loop-i l = l.stopped ≡ is_stopped (past_of (take l.i l.h.items))
