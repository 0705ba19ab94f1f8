use Rattle.std.proofs.Common.{refl}
use Rattle.dtx_model.specs.Steps.{Calls}
use Rattle.tx_world.proofs.Unlogged.{ok_does_at}
use Rattle.tx_world.proofs.Naming.{named_ok}
use Rattle.tx_world.proofs.StillTied.{does_tied, ok_tied}
use Rattle.tx_world.proofs.world.TxWorld.enter.Goals as goal

pub returns-clause-done : goal.returns-clause-done
returns-clause-done g c =
    ok_does_at g.D.Disk.faults c.enter_at-answered.result c.is_up.result c.life.result (Calls c.args.line c.args.actor c.args.c.now c.args.done) c.args.self.now c.enter_at-answered.new.self c.args.log.now c.is_up.ensures.up c.life.ensures refl
    c.enter_at-answered.ensures.done

-- the record that is kept names who said PREPARED
pub returns-clause-named : goal.returns-clause-named
returns-clause-named g c =
    named_ok c.enter_at-answered.result c.is_up.result c.life.result (Calls c.args.line c.args.actor c.args.c.now c.args.done) c.args.self.now c.enter_at-answered.new.self refl c.is_own_run.ensures.ours c.is_own_run-2.ensures.run
    c.enter_at-answered.ensures.done c.enter_at-answered.ensures.memory

-- what its restarts found stays tied to what was appended
pub returns-clause-tied : goal.returns-clause-tied
returns-clause-tied g c =
    let m = Calls c.args.line c.args.actor c.args.c.now c.args.done in
    ok_tied c.enter_at-answered.result c.args.self.now c.enter_at-answered.new.self (does_tied c.is_up.result c.life.result m c.args.self.now c.enter_at-answered.new.self refl) c.enter_at-answered.ensures.done c.enter_at-answered.ensures.memory
