use Rattle.std.proofs.Common.{ap, subst}
use Rattle.dtx_values.specs.declared.entry.Answer.{Answer}
use Rattle.dtx_values.specs.declared.call.Call.TheVariants.{Marshal}
use Rattle.dtx_values.specs.declared.number.TxNo.{TxNo}
use Rattle.transactions.specs.Doing.{CallsAt}
use Rattle.transactions.specs.Enlisting.{IsAnswered}
use Rattle.transactions.specs.Slots.{Standing}
use Rattle.transactions.proofs.Driving.{heard_none_at}
use Rattle.transactions.proofs.Entering.{entered_heard, heard_from}
use Rattle.transactions.proofs.manager.TransactionManager.identifier.Goals as goal

pub returns-in-Ok-Id-clause-identified : goal.returns-in-Ok-Id-clause-identified
returns-in-Ok-Id-clause-identified g c =
    let called = c.in-Ok.called in (
      c.call.new.self.lives,
      called.0,
      called.1,
      subst (λ (p : TxNo). CallsAt g.D.Disk.faults c.args.self.now.log c.args.tx.now.number (Marshal p) called.0 called.1 c.args.self.now.lives c.call.new.self.lives) c.t.ensures c.in-Ok.ensures.called,
      heard_from g.D.Disk.honest g.D.Disk.image g.O.ResourceManager.gives c.args.tx.now.number c.args.self.now c.call.new.self c.wait.new.self c.args.o.now c.wait.new.o c.call.ensures.rest c.wait.ensures.heard,
      subst (λ (a : Answer). IsAnswered c.args.tx.now.number called.0 called.1 a c.wait.new.self.lives) c.in-Ok-Id.field-0-is c.in-Ok-Id.ensures.answered,
    )

pub returns-in-Err-clause-heard : goal.returns-in-Err-clause-heard
returns-in-Err-clause-heard g c =
    heard_none_at g.D.Disk.honest g.D.Disk.image g.O.ResourceManager.gives c.args.tx.now.number c.args.self.now c.call.new.self c.args.o.now c.in-Err.ensures.refused
    (ap (λ (s : Standing _ _). s.log) c.call.ensures.rest)

pub returns-in-Ok-Id-clause-heard : goal.returns-in-Ok-Id-clause-heard
returns-in-Ok-Id-clause-heard g c =
    let called = c.in-Ok.called in
    entered_heard g.D.Disk.faults g.D.Disk.honest g.D.Disk.image g.O.ResourceManager.gives c.args.tx.now.number (Marshal c.t.result) called.0 called.1 c.args.self.now c.call.new.self c.wait.new.self
    c.args.o.now c.wait.new.o c.in-Ok.ensures.called c.call.ensures.rest c.is_within.ensures c.wait.ensures.heard

pub returns-in-Ok-wait-clause-heard : goal.returns-in-Ok-wait-clause-heard
returns-in-Ok-wait-clause-heard g c =
    let called = c.in-Ok.called in
    entered_heard g.D.Disk.faults g.D.Disk.honest g.D.Disk.image g.O.ResourceManager.gives c.args.tx.now.number (Marshal c.t.result) called.0 called.1 c.args.self.now c.call.new.self c.wait.new.self
    c.args.o.now c.wait.new.o c.in-Ok.ensures.called c.call.ensures.rest c.is_within.ensures c.wait.ensures.heard

pub returns-in-Err-wait-clause-heard : goal.returns-in-Err-wait-clause-heard
returns-in-Err-wait-clause-heard g c =
    let called = c.in-Ok.called in
    entered_heard g.D.Disk.faults g.D.Disk.honest g.D.Disk.image g.O.ResourceManager.gives c.args.tx.now.number (Marshal c.t.result) called.0 called.1 c.args.self.now c.call.new.self c.wait.new.self
    c.args.o.now c.wait.new.o c.in-Ok.ensures.called c.call.ensures.rest c.is_within.ensures c.wait.ensures.heard
