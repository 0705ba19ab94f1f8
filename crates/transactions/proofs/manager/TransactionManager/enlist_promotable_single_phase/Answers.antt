use Rattle.std.proofs.Common.{subst}
use Rattle.dtx_values.specs.declared.number.EnlNo.{EnlNo}
use Rattle.record_laws.specs.Recorded.{IsOf}
use Rattle.transactions.specs.declared.kind.Kind.TheVariants.{Promotable}
use Rattle.transactions.proofs.Enlisted.{makes_promotable, of_manager, some_made, taken_number}
use Rattle.transactions.proofs.Entering.{enlisted_heard, heard_from, unenlisted_heard}
use Rattle.transactions.proofs.manager.TransactionManager.enlist_promotable_single_phase.Goals as goal

pub returns-in-Ok-drive-clause-enlisted : goal.returns-in-Ok-drive-clause-enlisted
returns-in-Ok-drive-clause-enlisted g c =
    let made = c.in-Ok.ensures.enlisted in (
      c.begin_enlist_promotable.new.self.lives,
      made.0,
      made.1,
      made.2,
      made.3,
      heard_from g.D.Disk.honest g.D.Disk.image g.O.ResourceManager.gives c.args.tx.now.number c.args.self.now c.begin_enlist_promotable.new.self c.drive.new.self c.args.o.now c.drive.new.o c.begin_enlist_promotable.ensures.rest c.drive.ensures.heard,
      made.4,
    )

pub returns-in-Err-clause-heard : goal.returns-in-Err-clause-heard
returns-in-Err-clause-heard g c =
    unenlisted_heard g.D.Disk.faults g.D.Disk.honest g.D.Disk.image g.O.ResourceManager.gives c.args.tx.now.number (Promotable c.args.rm) c.args.self.now c.begin_enlist_promotable.new.self c.args.o.now c.in-Err.e
    c.in-Err.ensures.refused c.begin_enlist_promotable.ensures.rest

pub returns-in-Ok-drive-clause-heard : goal.returns-in-Ok-drive-clause-heard
returns-in-Ok-drive-clause-heard g c =
    let made = c.in-Ok.ensures.enlisted in
    enlisted_heard g.D.Disk.faults g.D.Disk.honest g.D.Disk.image g.O.ResourceManager.gives c.args.tx.now.number (Promotable c.args.rm) made.0 made.1 made.2 c.args.self.now c.begin_enlist_promotable.new.self c.drive.new.self
    c.args.o.now c.drive.new.o made.3 c.begin_enlist_promotable.ensures.rest c.is_within.ensures c.drive.ensures.heard

pub returns-in-Err-drive-clause-heard : goal.returns-in-Err-drive-clause-heard
returns-in-Err-drive-clause-heard g c =
    let made = c.in-Ok.ensures.enlisted in
    enlisted_heard g.D.Disk.faults g.D.Disk.honest g.D.Disk.image g.O.ResourceManager.gives c.args.tx.now.number (Promotable c.args.rm) made.0 made.1 made.2 c.args.self.now c.begin_enlist_promotable.new.self c.drive.new.self
    c.args.o.now c.drive.new.o made.3 c.begin_enlist_promotable.ensures.rest c.is_within.ensures c.drive.ensures.heard

pub returns-in-Ok-drive-clause-manager : goal.returns-in-Ok-drive-clause-manager
returns-in-Ok-drive-clause-manager g c = λ e is z at.
    let made = c.in-Ok.ensures.enlisted in
    let of =
    of_manager g.D.Disk.faults g.D.Disk.honest g.D.Disk.image g.O.ResourceManager.gives c.args.tx.now.number (Promotable c.args.rm) made.0 c.args.rm made.1 made.2 c.args.self.now c.begin_enlist_promotable.new.self c.drive.new.self
    c.args.o.now c.drive.new.o (λ u. makes_promotable u made.0 c.args.rm) made.3 c.drive.ensures.heard c.has_run.ensures in
    subst (λ (n : EnlNo). IsOf z.tx.world c.args.rm.value n.value) (taken_number c.args.tx.now.number made.0 made.2 c.in-Ok.made e made.4 (some_made c.in-Ok.made e is)) (of z at)
