use Rattle.std.proofs.Common.{◌∙◌}
use Rattle.dtx_model.specs.Steps.{Calls}
use Rattle.tx_world.proofs.Leaves.{leaves_beside, leaves_on}
use Rattle.tx_world.proofs.Prepared.{call_done, call_fails, entered_kept, entered_there, prepared_enters, prepared_may}
use Rattle.tx_world.proofs.world.TxWorld.call.Goals as goal

pub enter-requires-clause-enters : goal.enter-requires-clause-enters
enter-requires-clause-enters g c =
    prepared_enters g.D.Disk.faults c.args.c.now c.in_ok-done.done c.args.line c.args.self.now c.args.log.now c.prepare.new.self c.prepare.new.log c.in_ok-done.ensures.prepared c.requires.enters

pub enter-requires-clause-answers : goal.enter-requires-clause-answers
enter-requires-clause-answers g c =
    prepared_may g.D.Disk.faults c.args.c.now c.in_ok-done.done c.args.self.now c.args.log.now c.prepare.new.self c.prepare.new.log c.in_ok-done.ensures.prepared

pub returns-clause-done : goal.returns-clause-done
returns-clause-done g c =
    call_done g.D.Disk.faults c.args.line c.args.actor c.args.c.now c.in_ok-done.done c.args.self.now c.args.log.now c.prepare.new.self c.enter.new.self c.prepare.new.log c.enter.result c.in_ok-done.ensures.prepared
    c.prepare.ensures.transaction c.enter.ensures.answer c.enter.ensures.done

pub returns-clause-transaction : goal.returns-clause-transaction
returns-clause-transaction g c =
    entered_there g.D.Disk.faults (Calls c.args.line c.args.actor c.args.c.now c.in_ok-done.done) c.prepare.new.self c.enter.new.self c.prepare.new.log c.enter.result c.enter.ensures.done c.enter.ensures.memory
    ∙ c.prepare.ensures.transaction

pub returns-clause-memory : goal.returns-clause-memory
returns-clause-memory g c =
    call_fails g.D.Disk.faults c.args.c.now c.in_ok-done.done c.args.self.now c.args.log.now c.prepare.new.self c.enter.new.self c.prepare.new.log c.enter.result c.in_ok-done.ensures.prepared c.enter.ensures.memory

-- of the log it leaves what the steps before it left
pub returns-clause-leaves : goal.returns-clause-leaves
returns-clause-leaves g c =
    let there = entered_there g.D.Disk.faults (Calls c.args.line c.args.actor c.args.c.now c.in_ok-done.done) c.prepare.new.self c.enter.new.self c.prepare.new.log c.enter.result c.enter.ensures.done c.enter.ensures.memory in
    leaves_on c.args.self.now c.prepare.new.self c.enter.new.self c.args.log.now c.prepare.new.log c.prepare.new.log c.prepare.ensures.transaction c.prepare.ensures.leaves
    (leaves_beside c.prepare.new.self c.enter.new.self c.prepare.new.log (λ honest. (c.prepare.ensures.leaves.kept honest).fits) there (entered_kept g.D.Disk.faults c.args.line c.args.actor c.args.c.now c.in_ok-done.done c.prepare.new.self c.enter.new.self c.prepare.new.log c.enter.result c.enter.ensures.done c.enter.ensures.memory) c.enter.ensures.named)
