use Rattle.std.proofs.Common.{◌≡◌, take}
use Rattle.dtx_model.specs.Observed.{clock}
use Rattle.dtx_model.specs.Words.{past_of}
use Rattle.outcome_reasons.proofs.vetoes.clock.Given as goal

abbrev pub invariant-loop-x : goal.invariant-loop-x
invariant-loop-x l = l.clock ≡ clock (past_of (take l.x-index l.h))
