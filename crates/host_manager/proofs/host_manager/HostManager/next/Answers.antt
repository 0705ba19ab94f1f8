use Rattle.std.proofs.Common.{ap, subst}
use Rattle.host_disk.specs.HostState.{HostState}
use Rattle.host_manager.proofs.Beginning.{still_given}
use Rattle.host_manager.proofs.Passing.{held}
use Rattle.host_manager.proofs.Polling.{goes_on}
use Rattle.host_manager.specs.Host.{HostView}
use Rattle.host_manager.specs.Polls.{GoesOn}
use Rattle.host_manager.specs.declared.clock.HostClock.{HostClock}
use Rattle.transactions.specs.Slots.{Standing}
use Rattle.host_manager.proofs.host_manager.HostManager.next.Goals as goal

pub invariant_of-self : goal.invariant_of-self
invariant_of-self c =
    still_given c.self.inside.given c.self.inside.manager.log.disk.asked c.poll-next.new.self.log.disk.asked c.self.invariant (λ asked. ap (λ (s : Standing HostState HostClock). s.log.disk.asked) (c.poll-next.ensures.unsettled asked))

pub returns : goal.returns
returns c =
    let made = c.poll-next in
    let t = c.in-Some.tx.number in
    subst (λ (old : HostView). GoesOn c.args.number old (held made.new.self c.self.inside.desk c.self.inside.given) made.result) c.self.view_is
    (goes_on c.args.number t c.self.inside.manager made.new.self c.self.inside.desk c.self.inside.given made.result c.in-Some.ensures.found.0 c.in-Some.ensures.found.1
    made.ensures.comes made.ensures.stays made.ensures.quiet made.ensures.unsettled made.ensures.disk made.ensures.all
    (record { just = c.is_lawful.ensures.just; agrees = c.is_lawful.ensures.agrees; learned = c.is_lawful.ensures.learned }) made.ensures.others made.ensures.time made.ensures.cause)
