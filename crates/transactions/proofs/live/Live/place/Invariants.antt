use Rattle.std.proofs.Common.{◌≡◌, length}
use Rattle.dtx_model.specs.Steps.{pending}
use Rattle.transactions.proofs.Waiting.{AskedBefore}
use Rattle.transactions.proofs.live.Live.place.Given as goal

abbrev pub invariant-loop-k : goal.invariant-loop-k
invariant-loop-k l = (l.n ≡ length (pending l.self.tx.world)) × AskedBefore l.self.tx.world l.k
