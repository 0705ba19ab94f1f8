use Rattle.tx_world.proofs.Alone.{alone_nearer}
use Rattle.tx_world.proofs.StillTied.{due_tied, kth_alone_tied}
use Rattle.tx_world.proofs.world.TxWorld.step_alone.Goals as goal

pub returns-clause-nearer : goal.returns-clause-nearer
returns-clause-nearer c = λ some. alone_nearer c.args.k c.args.self.now c.step_kth_alone.new.self c.is_own_run.ensures.run (c.step_kth_alone.ensures.some some)

-- what its restarts found stays tied to what was appended
pub returns-clause-tied : goal.returns-clause-tied
returns-clause-tied c =
    let e = c.step_kth_alone.ensures in
    due_tied c.step_kth_alone.result c.args.self.now c.step_kth_alone.new.self e.some (kth_alone_tied c.args.k c.args.self.now c.step_kth_alone.new.self) (λ none. (e.none none).1) e.memory (λ same. same)
