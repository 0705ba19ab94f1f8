use Rattle.std.proofs.Common.{take}
use Rattle.trace_checker.specs.Checking.{IsCheckerOf}
use Rattle.trace_checker.proofs.checker.check_trace.Given as goal

abbrev pub invariant-loop-i : goal.invariant-loop-i
invariant-loop-i l = IsCheckerOf (take l.i l.trace) l.checker
