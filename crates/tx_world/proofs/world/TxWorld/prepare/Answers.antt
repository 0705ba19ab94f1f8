use Rattle.tx_world.proofs.Prepared.{repeats, settles, steps_before, where_failed}
use Rattle.tx_world.proofs.world.TxWorld.prepare.Goals as goal

pub returns-in_ok-count-in-Do-clause-prepared : goal.returns-in_ok-count-in-Do-clause-prepared
returns-in_ok-count-in-Do-clause-prepared g c =
    repeats g.D.Disk.faults c.args.c.now _ _ _ _ _ _ c.args.self.now c.args.log.now c.repeat.new.self c.repeat.new.log c.in-Do.is c.from.ensures c.from-in-Do.ensures c.in_ok-count-in-Do.ensures.repeated

pub returns-in_err-count-in-Do-clause-memory : goal.returns-in_err-count-in-Do-clause-memory
returns-in_err-count-in-Do-clause-memory g c =
    where_failed c.from_residual.result
    (steps_before g.D.Disk.faults c.args.c.now _ _ c.args.self.now c.args.log.now c.repeat.new.self c.repeat.new.log c.in-Do.is c.from.ensures c.in_err-count-in-Do.ensures.memory)

pub returns-in_ok-settle-in-Await-clause-prepared : goal.returns-in_ok-settle-in-Await-clause-prepared
returns-in_ok-settle-in-Await-clause-prepared g c =
    settles g.D.Disk.faults c.args.c.now _ _ c.args.self.now c.args.log.now c.settle.new.self c.settle.new.log c.in-Await.is c.in_ok-settle-in-Await.ensures.settled
