use Rattle.std.proofs.Common.{◌≡◌, true, is_some, refl, sym, subst}
use Rattle.std.specs.Prelude.{IfOk}
use Rattle.dtx_model.specs.Replies.{due_of}
use Rattle.dtx_values.specs.TxIds.{number_of}
use Rattle.dtx_model.specs.Steps.{Replies}
use Rattle.dtx_model.specs.World.{half}
use Rattle.tx_world.proofs.Silent.{due_silent}
use Rattle.tx_world.proofs.Unlogged.{alone_at}
use Rattle.tx_world.proofs.StillTied.{does_tied, due_tied}
use Rattle.tx_world.proofs.world.TxWorld.reply_alone.Goals as goal

pub returns-clause-done : goal.returns-clause-done
returns-clause-done c = λ done.
    let x = c.args.self.now in
    let o = due_of (half x.world).seen c.args.e.value in
    let due = subst (λ r. IfOk r (λ b. b ≡ is_some o)) done c.reply_at.ensures.due in
    alone_at true 0 (Replies c.args.e c.args.r) x c.reply_at.new.self (due_silent (number_of x.transaction) x.world c.args.e c.args.r o (sym due) c.requires.fits c.requires.alone) (c.reply_at.ensures.done done)

-- what its restarts found stays tied to what was appended
pub returns-clause-tied : goal.returns-clause-tied
returns-clause-tied c =
    let e = c.reply_at.ensures in
    due_tied c.reply_at.result c.args.self.now c.reply_at.new.self e.done (does_tied true 0 (Replies c.args.e c.args.r) c.args.self.now c.reply_at.new.self refl) e.unchanged e.memory (λ same. same)
