use Rattle.std.proofs.Common.{subst}
use Rattle.dtx_values.specs.declared.entry.Entry.TheVariants.{Got}
use Rattle.dtx_values.specs.declared.message.Conn.TheVariants.{Begin}
use Rattle.dtx_values.specs.declared.message.Dir.TheVariants.{Up}
use Rattle.dtx_values.specs.declared.message.Message.{Message}
use Rattle.dtx_model.specs.Coordinated.{follow}
use Rattle.coordinator_core.specs.Kept.{IsFew}
use Rattle.coordinator_core.proofs.Room.{begin_fits}
use Rattle.coordinator_core.proofs.machine.Core.got_begin.Goals as goal

pub begin_came-requires-clause-place : goal.begin_came-requires-clause-place
begin_came-requires-clause-place c =
    let k = c.args.self.now.state in
    begin_fits k (subst (λ (m : Message). IsFew (follow k (Got Begin Up m))) c.in-BeginBegin.is c.requires.few)
