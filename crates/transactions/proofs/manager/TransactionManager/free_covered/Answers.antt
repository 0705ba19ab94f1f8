use Rattle.std.proofs.Common.{◌*◌, ◌+◌, List, subst}
use Rattle.coordinator_log.specs.Slots.{open_records}
use Rattle.log_epochs.specs.Beginning.{AllAre}
use Rattle.transactions.specs.Recovering.{OnlyFrees}
use Rattle.transactions.specs.State.{LiveState}
use Rattle.transactions.proofs.Kept.{kept_freed}
use Rattle.transactions.proofs.manager.TransactionManager.free_covered.Goals as goal

pub invariant_of-self : goal.invariant_of-self
invariant_of-self g c =
    let ms = c.args.desk.now in
    let xs = c.self.inside.lives.items in
    let e = c.free_recovered.ensures.frees in
    let rs = open_records c.self.inside.log.slots in
    let to = c.free_recovered.new.log in
    kept_freed g.D.Disk.honest g.D.Disk.image ms xs c.self.inside.log to (65536 * c.self.inside.epoch + c.self.inside.given)
    (subst (λ (l : List LiveState). OnlyFrees ms l rs (open_records to.slots)) c.deref.ensures.value e.records)
    (λ honest up. subst (λ (l : List LiveState). AllAre (g.D.Disk.image to.disk) (OnlyFrees ms l rs)) c.deref.ensures.value (e.images honest up))
    (λ honest up. subst (λ (l : List LiveState). AllAre (g.D.Disk.image to.disk) (OnlyFrees ms l (open_records to.slots))) c.deref.ensures.value (c.free_recovered.ensures.left honest up))
    e.down c.free_recovered.ensures.unarmed c.self.invariant
