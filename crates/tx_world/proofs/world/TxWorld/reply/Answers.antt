use Rattle.std.proofs.Common.{refl}
use Rattle.dtx_model.specs.Steps.{Replies}
use Rattle.tx_world.proofs.Unlogged.{does_at}
use Rattle.tx_world.proofs.StillTied.{does_tied, due_tied}
use Rattle.tx_world.proofs.world.TxWorld.reply.Goals as goal

pub returns-clause-done : goal.returns-clause-done
returns-clause-done g c = λ done.
    does_at g.D.Disk.faults c.is_up.result c.life.result (Replies c.args.e c.args.r) c.args.self.now c.reply_at.new.self c.args.log.now c.is_up.ensures.up c.life.ensures refl (c.reply_at.ensures.done done)

-- what its restarts found stays tied to what was appended
pub returns-clause-tied : goal.returns-clause-tied
returns-clause-tied g c =
    let e = c.reply_at.ensures in
    due_tied c.reply_at.result c.args.self.now c.reply_at.new.self e.done (does_tied c.is_up.result c.life.result (Replies c.args.e c.args.r) c.args.self.now c.reply_at.new.self refl) e.unchanged e.memory (λ same. same)
