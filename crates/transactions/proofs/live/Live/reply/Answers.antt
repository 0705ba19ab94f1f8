use Rattle.std.proofs.Common.{◌∷◌, [], subst}
use Rattle.transactions.specs.Hearing.{Writes}
use Rattle.transactions.specs.State.{LiveState}
use Rattle.transactions.specs.contracts.live.Live.{the_view}
use Rattle.transactions.proofs.Sound.{replied_sound, replied_writes}
use Rattle.transactions.proofs.live.Live.reply.Goals as goal

pub invariant_of-self-2 : goal.invariant_of-self-2
invariant_of-self-2 g c =
    let e = c.reply.ensures in
    replied_sound g.D.Disk.faults c.args.log.now c.args.e c.args.r (the_view c.self.inside) c.reply.new.self c.in_ok-reply.field-0 c.reply.result c.in_ok-reply.was e.done e.unchanged e.named c.self.invariant

pub returns-clause-writes : goal.returns-clause-writes
returns-clause-writes g c = λ answer.
    let x : LiveState = the_view c.self.inside in
    let y : LiveState = record x { tx = c.reply.new.self } in
    subst (λ (l : LiveState). Writes ((c.args.e, c.args.r) ∷ []) l y) c.self.view_is
    (replied_writes g.D.Disk.faults c.args.log.now c.args.e c.args.r x c.reply.new.self c.in_ok-reply.field-0 c.reply.result c.in_ok-reply.was c.reply.ensures.done answer)
