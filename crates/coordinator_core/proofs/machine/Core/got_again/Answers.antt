use Rattle.std.proofs.Common.{subst}
use Rattle.dtx_values.specs.declared.entry.Entry.TheVariants.{Got}
use Rattle.dtx_values.specs.declared.message.Conn.TheVariants.{Again}
use Rattle.dtx_values.specs.declared.message.Dir.TheVariants.{Up}
use Rattle.dtx_values.specs.declared.message.Message.{Message}
use Rattle.dtx_model.specs.Coordinated.{follow}
use Rattle.coordinator_core.specs.Kept.{IsFew}
use Rattle.coordinator_core.proofs.Room.{reenlist_fits, waiting_fits}
use Rattle.coordinator_core.proofs.machine.Core.got_again.Goals as goal

pub reenlist_came-requires-clause-connection : goal.reenlist_came-requires-clause-connection
reenlist_came-requires-clause-connection c =
    let k = c.args.self.now.state in
    let here = c.in-ReenlistReenlist in
    reenlist_fits k c.args.e here.field-0 (subst (λ (m : Message). IsFew (follow k (Got (Again c.args.e) Up m))) here.is c.requires.few)

pub reenlist_came-requires-clause-place : goal.reenlist_came-requires-clause-place
reenlist_came-requires-clause-place c =
    let k = c.args.self.now.state in
    let here = c.in-ReenlistReenlist in
    waiting_fits k c.args.e here.field-0 (subst (λ (m : Message). IsFew (follow k (Got (Again c.args.e) Up m))) here.is c.requires.few)
