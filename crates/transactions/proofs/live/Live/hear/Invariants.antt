use Rattle.std.proofs.Common.{◌-◌, [], length}
use Rattle.transactions.proofs.Hearing.{Passes}
use Rattle.transactions.proofs.live.Live.hear.Given as goal

abbrev pub invariant-loop-next : goal.invariant-loop-next
invariant-loop-next l = Passes l.fn.self.number l.fn.self.heard l.next l.history.items []

abbrev pub decreases-loop-next : goal.decreases-loop-next
decreases-loop-next l = length l.history.items - l.next
