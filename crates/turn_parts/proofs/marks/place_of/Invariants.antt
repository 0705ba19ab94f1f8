use Rattle.std.proofs.Common.{◌≡◌, Some, drop}
use Rattle.dtx_model.specs.Words.{has}
use Rattle.dtx_model.specs.Steps.{pending}
use Rattle.tx_world.specs.Stepping.{reply_in}
use Rattle.turn_parts.specs.Marks.{is_due, is_that}
use Rattle.turn_parts.proofs.marks.place_of.Given as goal

abbrev pub invariant-loop-k : goal.invariant-loop-k
invariant-loop-k l = has (λ m. is_that l.x (reply_in l.world.world (Some m))) (drop l.k (pending l.world.world)) ≡ is_due l.world.world l.x
