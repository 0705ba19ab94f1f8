use Rattle.std.proofs.Common.{◌≡◌, take}
use Rattle.dtx_model.specs.Words.{past_of}
use Rattle.outcome_reasons.specs.Vetoes.{nested_at}
use Rattle.outcome_reasons.proofs.vetoes.nested_at.Given as goal

abbrev pub invariant-loop-x : goal.invariant-loop-x
invariant-loop-x l = l.found ≡ nested_at l.n (past_of (take l.x-index l.nested))
