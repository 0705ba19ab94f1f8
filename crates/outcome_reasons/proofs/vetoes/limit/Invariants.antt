use Rattle.std.proofs.Common.{◌≡◌, take}
use Rattle.dtx_model.specs.Entries.{began_of}
use Rattle.dtx_model.specs.Words.{latest, past_of}
use Rattle.outcome_reasons.specs.Vetoes.{limit_in}
use Rattle.outcome_reasons.proofs.vetoes.limit.Given as goal

abbrev pub invariant-loop-x : goal.invariant-loop-x
invariant-loop-x l = l.limit ≡ limit_in (latest began_of (past_of (take l.x-index l.h)))
