use Rattle.std.proofs.Common.{◌≡◌, ◌∙◌, Ok, true, false, arith, refl}
use Rattle.tx_world.proofs.Leaves.{leaves_on, leaves_same}
use Rattle.tx_world.proofs.Settling.{one_more}
use Rattle.tx_world.proofs.Prepared.{repeated_all, repeated_here}
use Rattle.tx_world.proofs.world.TxWorld.repeat.Goals as goal

pub returns-then-not-branch-clause-repeated : goal.returns-then-not-branch-clause-repeated
returns-then-not-branch-clause-repeated g c =
    let done : c.step.result ≡ Ok false = cc in
    let none = c.step.ensures.none done in
    let was = c.loop-count.invariant in
    repeated_here g.D.Disk.faults c.args.k c.args.n c.loop-count.count c.args.self.now c.args.log.now c.loop-count.self c.loop-count.log c.step.new.self c.step.new.log was.0 was.3 none.0 none.1 none.2

pub returns-clause-repeated : goal.returns-clause-repeated
returns-clause-repeated g c =
    let was = c.loop-count.invariant in
    repeated_all g.D.Disk.faults c.args.k c.args.n c.loop-count.count c.args.self.now c.args.log.now c.loop-count.self c.loop-count.log was.0 was.3 (omega arith)

pub loop-count-preserved : goal.loop-count-preserved
loop-count-preserved g c =
    let some : c.step.result ≡ Ok true = cc in
    let did = c.step.ensures.some some in
    let was = c.loop-count.invariant in (
      one_more g.D.Disk.faults c.args.k c.loop-count.count c.args.self.now c.args.log.now c.loop-count.self c.loop-count.log c.step.new.self c.step.new.log was.0 did,
      leaves_on c.args.self.now c.loop-count.self c.step.new.self c.args.log.now c.loop-count.log c.step.new.log was.2 was.1 c.step.ensures.leaves,
      did.done.transaction ∙ was.2,
      omega arith,
      λ k. c.step.ensures.tied (was.4 k),
    )

pub loop-count-init : goal.loop-count-init
loop-count-init g c = ((refl, refl), leaves_same c.args.self.now c.args.self.now c.args.log.now c.args.log.now c.requires.fits (refl, refl), refl, omega arith, λ k. k)
