use Rattle.std.proofs.Common.{◌≡◌, ◌+◌, drop}
use Rattle.script_calls.specs.FirstCalls.{par_from, par_line}
use Rattle.script_calls.proofs.par.par_line.Given as goal

abbrev pub invariant-loop-i : goal.invariant-loop-i
invariant-loop-i l = par_line l.s ≡ par_from (l.i + 1) (drop l.i l.s)
