use Rattle.std.proofs.Common.{refl}
use Rattle.transactions.specs.declared.kind.Kind.TheVariants.{Durable}
use Rattle.transactions.proofs.Enlisted.{makes_durable, of_manager}
use Rattle.transactions.proofs.Entering.{enlisted_heard, heard_from, numbers_heard}
use Rattle.transactions.proofs.manager.TransactionManager.enlist_durable.Goals as goal

pub returns-in-Ok-done-clause-enlisted : goal.returns-in-Ok-done-clause-enlisted
returns-in-Ok-done-clause-enlisted g c =
    let made = c.in-Ok.enlisted in (
      refl,
      c.enlist.new.self.lives,
      made.1,
      made.2,
      c.in-Ok.ensures.enlisted,
      heard_from g.D.Disk.honest g.D.Disk.image g.O.ResourceManager.gives c.args.tx.now.number c.args.self.now c.enlist.new.self c.wait.new.self c.args.o.now c.wait.new.o c.enlist.ensures.rest c.wait.ensures.heard,
      c.in-Ok-wait.answer,
      c.in-Ok-wait.ensures.answered,
      c.in-Ok-done.ensures.done,
    )

pub returns-in-Err-clause-heard : goal.returns-in-Err-clause-heard
returns-in-Err-clause-heard g c =
    numbers_heard g.D.Disk.honest g.D.Disk.image g.O.ResourceManager.gives c.args.tx.now.number c.args.self.now c.enlist.new.self c.args.o.now c.in-Err.ensures.failed c.enlist.ensures.rest

pub returns-in-Err-wait-clause-heard : goal.returns-in-Err-wait-clause-heard
returns-in-Err-wait-clause-heard g c =
    let made = c.in-Ok.enlisted in
    enlisted_heard g.D.Disk.faults g.D.Disk.honest g.D.Disk.image g.O.ResourceManager.gives c.args.tx.now.number (Durable c.args.rm c.args.p) made.0 made.1 made.2 c.args.self.now c.enlist.new.self c.wait.new.self
    c.args.o.now c.wait.new.o c.in-Ok.ensures.enlisted c.enlist.ensures.rest c.is_within.ensures c.wait.ensures.heard

pub returns-in-Ok-done-clause-heard : goal.returns-in-Ok-done-clause-heard
returns-in-Ok-done-clause-heard g c =
    let made = c.in-Ok.enlisted in
    enlisted_heard g.D.Disk.faults g.D.Disk.honest g.D.Disk.image g.O.ResourceManager.gives c.args.tx.now.number (Durable c.args.rm c.args.p) made.0 made.1 made.2 c.args.self.now c.enlist.new.self c.wait.new.self
    c.args.o.now c.wait.new.o c.in-Ok.ensures.enlisted c.enlist.ensures.rest c.is_within.ensures c.wait.ensures.heard

pub returns-in-Err-done-clause-heard : goal.returns-in-Err-done-clause-heard
returns-in-Err-done-clause-heard g c =
    let made = c.in-Ok.enlisted in
    enlisted_heard g.D.Disk.faults g.D.Disk.honest g.D.Disk.image g.O.ResourceManager.gives c.args.tx.now.number (Durable c.args.rm c.args.p) made.0 made.1 made.2 c.args.self.now c.enlist.new.self c.wait.new.self
    c.args.o.now c.wait.new.o c.in-Ok.ensures.enlisted c.enlist.ensures.rest c.is_within.ensures c.wait.ensures.heard

pub returns-in-Ok-done-clause-manager : goal.returns-in-Ok-done-clause-manager
returns-in-Ok-done-clause-manager g c =
    let made = c.in-Ok.enlisted in
    of_manager g.D.Disk.faults g.D.Disk.honest g.D.Disk.image g.O.ResourceManager.gives c.args.tx.now.number (Durable c.args.rm c.args.p) made.0 c.args.rm made.1 made.2 c.args.self.now c.enlist.new.self c.wait.new.self
    c.args.o.now c.wait.new.o (λ u. makes_durable u made.0 c.args.rm c.args.p) c.in-Ok.ensures.enlisted c.wait.ensures.heard c.has_run.ensures
