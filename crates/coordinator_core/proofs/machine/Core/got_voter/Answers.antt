use Rattle.std.proofs.Common.{subst}
use Rattle.dtx_values.specs.declared.entry.Entry.TheVariants.{Got}
use Rattle.dtx_values.specs.declared.message.Conn.TheVariants.{Voter}
use Rattle.dtx_values.specs.declared.message.Dir.TheVariants.{Up}
use Rattle.dtx_values.specs.declared.message.Message.{Message}
use Rattle.dtx_model.specs.Coordinated.{follow}
use Rattle.coordinator_core.specs.Kept.{IsFew}
use Rattle.coordinator_core.proofs.Room.{voter_fits}
use Rattle.coordinator_core.proofs.machine.Core.got_voter.Goals as goal

pub voter_came-requires-clause-place : goal.voter_came-requires-clause-place
voter_came-requires-clause-place c =
    let k = c.args.self.now.state in
    let here = c.in-VoterVoter in
    voter_fits k here.field-0 (subst (λ (m : Message). IsFew (follow k (Got Voter Up m))) here.is c.requires.few)
