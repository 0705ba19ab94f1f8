use Rattle.std.proofs.Common.{◌≡◌, take}
use Rattle.dtx_model.specs.Words.{past_of}
use Rattle.outcome_reasons.specs.Vetoes.{lowest_open}
use Rattle.outcome_reasons.proofs.vetoes.lowest_open.Given as goal

abbrev pub invariant-loop-x : goal.invariant-loop-x
invariant-loop-x l = l.lowest ≡ lowest_open (past_of l.h) (past_of (take l.x-index l.h))
