use Rattle.std.proofs.Common.{◌≡◌, take}
use Rattle.dtx_model.specs.Words.{past_of}
use Rattle.script_calls.specs.FirstCalls.{are_first}
use Rattle.run_endings.specs.Highest.{IsHighest}
use Rattle.run_endings.proofs.finishing.ordering.are_first.Given as goal

abbrev pub invariant-loop-i : goal.invariant-loop-i
invariant-loop-i l = IsHighest l.highest (past_of (take l.i l.h.items)) × (l.first ≡ are_first l.par (past_of (take l.i l.h.items)))
