use Rattle.std.proofs.Common.{Option, subst}
use Rattle.std.specs.Prelude.{IfSome}
use Rattle.dtx_values.specs.declared.note.Reply.{Reply}
use Rattle.dtx_values.specs.declared.number.EnlNo.{EnlNo}
use Rattle.replay_runs.specs.Objects.{MayReply}
use Rattle.replay_runs.proofs.Turns.{reply_nearer}
use Rattle.replay_runs.proofs.objects.do_kth.Goals as goal

pub returns-in-Some-clause-nearer : goal.returns-in-Some-clause-nearer
returns-in-Some-clause-nearer g c = λ did.
    let x = c.args.world.now in
    let may = subst (λ (o : Option (EnlNo × Reply)). IfSome o (λ y. MayReply x.world c.args.k y.0 y.1)) c.in-Some.is c.requires.due in
    reply_nearer g.D.Disk.faults c.args.k c.in-Some.e c.in-Some.r x c.args.log.now c.reply.new.self c.args.log.now c.is_own_run.ensures.run may (c.reply.ensures.done did)
