use Rattle.std.proofs.Common.{sym}
use Rattle.trace_checker.proofs.Owning.{owner_more}
use Rattle.trace_checker.proofs.owner.Owner.follow.Goals as goal

pub returns-then-not-is_volatile : goal.returns-then-not-is_volatile
returns-then-not-is_volatile c = λ h k.
    owner_more h c.args.x.now c.in-Enlisted.e c.in-Enlisted.c c.args.self.now c.add.new.self c.get.result c.can_own.result c.in-Enlisted.is (sym c.if-not-is_volatile.ensures) c.get.ensures.value c.can_own.ensures c.add.ensures.lasting c.add.ensures.able k
