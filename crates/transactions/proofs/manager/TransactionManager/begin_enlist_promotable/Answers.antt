use Rattle.std.proofs.Common.{refl}
use Rattle.transactions.specs.declared.kind.Kind.TheVariants.{Promotable}
use Rattle.transactions.proofs.Enlisted.{its_own, not_taken}
use Rattle.transactions.proofs.manager.TransactionManager.begin_enlist_promotable.Goals as goal

pub returns-in-Ok-clause-enlisted : goal.returns-in-Ok-clause-enlisted
returns-in-Ok-clause-enlisted g c =
    let made = c.in-Ok.ensures.enlisted in
    (c.in-Ok.e.number, made.1, made.2, made.3, (its_own c.args.tx.now.number c.in-Ok.e made.0, made.4))

pub returns-then-is_taken-clause-enlisted : goal.returns-then-is_taken-clause-enlisted
returns-then-is_taken-clause-enlisted g c =
    not_taken g.D.Disk.faults c.args.self.now.log c.args.tx.now.number (Promotable c.args.rm) c.args.self.now.lives c.enlisted.new.self.lives c.in-Err.e (c.if-is_taken.ensures refl) c.in-Err.ensures.refused
