use Rattle.std.proofs.Common.{true}
use Rattle.dtx_model.specs.Steps.{Calls}
use Rattle.dtx_values.specs.TxIds.{number_of}
use Rattle.tx_world.proofs.Silent.{alone_silent, call_silent}
use Rattle.tx_world.proofs.Unlogged.{ok_alone_at}
use Rattle.tx_world.proofs.Naming.{named_ok}
use Rattle.std.proofs.Common.{refl}
use Rattle.tx_world.proofs.StillTied.{does_tied, ok_tied}
use Rattle.tx_world.proofs.world.TxWorld.call_alone.Goals as goal

pub returns-clause-done : goal.returns-clause-done
returns-clause-done c =
    let x = c.args.self.now in
    ok_alone_at c.enter_at-answered.result true 0 (Calls c.args.line c.args.actor c.args.c.now 0) x c.enter_at-answered.new.self
    (call_silent (number_of x.transaction) x.world c.args.line c.args.actor c.args.c.now 0 (alone_silent c.args.c.now c.requires.alone)) c.enter_at-answered.ensures.done

-- the record that is kept names who said PREPARED
pub returns-clause-named : goal.returns-clause-named
returns-clause-named c =
    named_ok c.enter_at-answered.result true 0 (Calls c.args.line c.args.actor c.args.c.now 0) c.args.self.now c.enter_at-answered.new.self refl c.is_own_run.ensures.ours c.is_own_run-2.ensures.run
    c.enter_at-answered.ensures.done c.enter_at-answered.ensures.memory

-- what its restarts found stays tied to what was appended
pub returns-clause-tied : goal.returns-clause-tied
returns-clause-tied c =
    let m = Calls c.args.line c.args.actor c.args.c.now 0 in
    ok_tied c.enter_at-answered.result c.args.self.now c.enter_at-answered.new.self (does_tied true 0 m c.args.self.now c.enter_at-answered.new.self refl) c.enter_at-answered.ensures.done c.enter_at-answered.ensures.memory
