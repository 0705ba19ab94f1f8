use Rattle.std.proofs.Common.{◌≡◌, take}
use Rattle.dtx_model.specs.Words.{past_of}
use Rattle.script_calls.specs.FirstCalls.{are_first}
use Rattle.run_endings.specs.Highest.{IsHighest}
use Rattle.run_endings.proofs.finishing.ordering.are_first_at_log.Given as goal

abbrev pub invariant-loop-e : goal.invariant-loop-e
invariant-loop-e l = IsHighest l.highest (past_of (take l.e-index l.at_log)) × (l.first ≡ are_first l.par (past_of (take l.e-index l.at_log)))
