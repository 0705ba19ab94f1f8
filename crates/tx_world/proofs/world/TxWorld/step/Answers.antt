use Rattle.tx_world.proofs.Nearer.{kth_nearer}
use Rattle.tx_world.proofs.StillTied.{due_tied, kth_tied}
use Rattle.tx_world.proofs.world.TxWorld.step.Goals as goal

pub returns-clause-nearer : goal.returns-clause-nearer
returns-clause-nearer g c = λ some.
    kth_nearer g.D.Disk.faults c.args.k c.args.self.now c.args.log.now c.step_kth.new.self c.step_kth.new.log c.is_own_run.ensures.run (c.step_kth.ensures.some some)

-- what its restarts found stays tied to what was appended
pub returns-clause-tied : goal.returns-clause-tied
returns-clause-tied g c =
    let e = c.step_kth.ensures in
    due_tied c.step_kth.result c.args.self.now c.step_kth.new.self e.some (kth_tied g.D.Disk.faults c.args.k c.args.self.now c.args.log.now c.step_kth.new.self c.step_kth.new.log) (λ none. (e.none none).1) e.memory (λ same. same.0)
