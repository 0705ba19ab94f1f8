use Rattle.std.proofs.Common.{[], refl, subst, sym}
use Rattle.dtx_values.specs.declared.tx_id.TxId.{TxId}
use Rattle.dtx_values.specs.declared.scope.Closed.{Closed}
use Rattle.transactions.specs.Doing.{HeardAt}
use Rattle.transactions.specs.Scoping.{IsRolledBack, Settles}
use Rattle.transactions.specs.Slots.{live_at}
use Rattle.transactions.specs.Telling.{IsTold}
use Rattle.transactions.proofs.Scoping.{concluded, concludes_next, concludes_none}
use Rattle.transactions.proofs.manager.TransactionManager.settle.Goals as goal

pub returns-in-Commit-clause-settled : goal.returns-in-Commit-clause-settled
returns-in-Commit-clause-settled g c =
    let old = c.args.self.now in
    let new = c.conclude-done.new.self in
    subst (λ (x : Closed). Settles g.D.Disk.faults g.D.Disk.honest g.D.Disk.image g.O.ResourceManager.gives x c.conclude-done.result old new c.args.o.now c.conclude-done.new.o) (sym c.in-Commit.is)
    (subst (λ (t : TxId). IsTold c.conclude-done.result (live_at t new.lives) × HeardAt g.D.Disk.honest g.D.Disk.image g.O.ResourceManager.gives [] t old new c.args.o.now c.conclude-done.new.o) c.at_place-committed.ensures.standing
    (c.conclude-done.ensures.told, c.conclude-done.ensures.heard))

pub returns-in-Rollback-clause-settled : goal.returns-in-Rollback-clause-settled
returns-in-Rollback-clause-settled g c =
    let old = c.args.self.now in
    let new = c.abandon-done.new.self in
    subst (λ (x : Closed). Settles g.D.Disk.faults g.D.Disk.honest g.D.Disk.image g.O.ResourceManager.gives x c.abandon-done.result old new c.args.o.now c.abandon-done.new.o) (sym c.in-Rollback.is)
    (subst (λ (t : TxId). IsRolledBack g.D.Disk.faults g.D.Disk.honest g.D.Disk.image g.O.ResourceManager.gives t c.abandon-done.result old new c.args.o.now c.abandon-done.new.o
    × HeardAt g.D.Disk.honest g.D.Disk.image g.O.ResourceManager.gives [] t old new c.args.o.now c.abandon-done.new.o) c.at_place-t.ensures.standing (c.abandon-done.ensures.rolled, c.abandon-done.ensures.heard))

pub returns-in-Commit-clause-steps : goal.returns-in-Commit-clause-steps
returns-in-Commit-clause-steps g c =
    let old = c.args.self.now in
    let a = c.args.o.now in
    let done = c.conclude-done in
    let e = done.ensures in
    let step = concluded g.D.Disk.honest g.D.Disk.image g.O.ResourceManager.gives c.at_place-committed.result old done.new.self a done.new.o e.heard c.has_run_at.ensures c.has_run_at-in-Commit.ensures e.nobody e.others e.time in
    concludes_next g.D.Disk.honest g.D.Disk.image g.O.ResourceManager.gives old old done.new.self a a done.new.o (concludes_none g.D.Disk.honest g.D.Disk.image g.O.ResourceManager.gives old old a a refl refl) step

pub returns-in-Rollback-clause-steps : goal.returns-in-Rollback-clause-steps
returns-in-Rollback-clause-steps g c =
    let old = c.args.self.now in
    let a = c.args.o.now in
    let done = c.abandon-done in
    let e = done.ensures in
    let step = concluded g.D.Disk.honest g.D.Disk.image g.O.ResourceManager.gives c.at_place-t.result old done.new.self a done.new.o e.heard c.has_run_at-in-Rollback.ensures c.has_run_at-in-Rollback-2.ensures e.nobody e.others e.time in
    concludes_next g.D.Disk.honest g.D.Disk.image g.O.ResourceManager.gives old old done.new.self a a done.new.o (concludes_none g.D.Disk.honest g.D.Disk.image g.O.ResourceManager.gives old old a a refl refl) step
