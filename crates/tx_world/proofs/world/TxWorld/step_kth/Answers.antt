use Rattle.std.proofs.Common.{◌≡◌, arith, rules, true, subst}
use Rattle.dtx_model.specs.Replies.{fits}
use Rattle.tx_world.specs.State.{TxState}
use Rattle.tx_world.specs.Stepping.{DoesKth}
use Rattle.tx_world.proofs.Alone.{kth_reply}
use Rattle.tx_world.proofs.world.TxWorld.step_kth.Goals as goal

pub returns-in-Some-Reply-clause-some : goal.returns-in-Some-Reply-clause-some
returns-in-Some-Reply-clause-some g c = λ done.
    let s = c.in-Some-Reply in
    let P : TxState → Type 0 = λ x. DoesKth g.D.Disk.faults c.args.k x c.args.log.now c.reply.new.self c.args.log.now in
    let same : c.else-k-eq1.self ≡ c.args.self.now = search rules in
    let fit : fits s.r s.field-0-1 ≡ true = grind arith in
    let at = rw s.field-0-is at s.ensures.some in
    subst P same (kth_reply g.D.Disk.faults c.args.k s.e s.field-0-1 s.r c.else-k-eq1.self c.args.log.now c.reply.new.self c.args.log.now at.0 at.1.0 at.1.1 fit (c.reply.ensures.done done))
