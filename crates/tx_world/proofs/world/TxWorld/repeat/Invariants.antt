use Rattle.std.proofs.Common.{◌-◌, ◌≡◌, ◌≤◌, true}
use Rattle.dtx_model.specs.Tied.{tied}
use Rattle.tx_world.specs.Leaves.{Leaves}
use Rattle.tx_world.specs.Stepping.{Stepped}
use Rattle.tx_world.proofs.world.TxWorld.repeat.Given as goal

abbrev pub invariant-loop-count : goal.invariant-loop-count
invariant-loop-count g l =
    Stepped g.D.Disk.faults l.initial.k l.count l.initial.self l.initial.log l.self l.log
    × Leaves g.D.Disk.honest g.D.Disk.image g.D.Disk.faults l.initial.self l.initial.log l.self l.log
    × (l.self.transaction ≡ l.initial.self.transaction)
    × (l.count ≤ l.initial.n)
    × (tied l.initial.self.world.past ≡ true → tied l.self.world.past ≡ true)

abbrev pub decreases-loop-count : goal.decreases-loop-count
decreases-loop-count g l = l.initial.n - l.count
