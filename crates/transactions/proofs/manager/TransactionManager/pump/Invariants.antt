use Rattle.std.proofs.Common.{◌≡◌, max}
use Rattle.transactions.specs.Turning.{TurnedUpTo}
use Rattle.transactions.proofs.manager.TransactionManager.pump.Given as goal

-- the clock was read, the greatest reading is as it was then, and each transaction up to here had a turn
abbrev pub invariant-loop-i : goal.invariant-loop-i
invariant-loop-i g l = g.C.Clock.reads l.fn.self.clock l.reading l.self.clock × (l.self.reading ≡ max l.fn.self.reading l.reading)
    × TurnedUpTo g.D.Disk.faults g.D.Disk.honest g.D.Disk.image g.O.ResourceManager.gives l.i (record l.fn.self { clock = l.self.clock; reading = l.self.reading }) l.self l.fn.o l.o
