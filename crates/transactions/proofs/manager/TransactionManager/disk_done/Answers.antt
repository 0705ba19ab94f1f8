use Rattle.std.proofs.Common.{◌∙◌, ◌+◌, ◌*◌, ap}
use Rattle.coordinator_log.specs.State.{LogState}
use Rattle.transactions.proofs.Settling.{fits_settled, recorded_settled}
use Rattle.transactions.proofs.manager.TransactionManager.disk_done.Goals as goal

pub invariant_of-self : goal.invariant_of-self
invariant_of-self g c =
    let e = c.settle.ensures in
    let from = c.self.inside.log in
    let to = c.settle.new.self in (
      c.self.invariant.0,
      λ honest. fits_settled g.D.Disk.image from to c.self.inside.lives.items (65536 * c.self.inside.epoch + c.self.inside.given) e.kept e.images (c.self.invariant.1 honest),
      ap (λ (l : LogState _). l.armed) e.kept ∙ c.self.invariant.2,
      recorded_settled g.D.Disk.honest g.D.Disk.image from to (65536 * c.self.inside.epoch + c.self.inside.given) e.kept e.images c.self.invariant.3,
    )
