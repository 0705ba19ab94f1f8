use Rattle.std.proofs.Common.{◌≡◌, Ok, true, subst, sym}
use Rattle.host_manager.specs.Host.{HostView, is_quiet}
use Rattle.host_manager.specs.Polls.{SaysTold}
use Rattle.host_manager.proofs.host_manager.HostManager.told.Goals as goal

pub returns : goal.returns
returns c =
    let found = c.in-Some.ensures.found in
    subst (λ (s : HostView). SaysTold c.args.number s (Ok c.told-told.result)) c.self.view_is (
      subst (λ (s : HostView). is_quiet s ≡ true) (sym c.self.view_is) (sym c.if-not-is_quiet.ensures),
      c.in-Some.tx.number,
      found.0,
      found.1,
      c.told-told.ensures.told,
      record { just = c.is_lawful.ensures.just; agrees = c.is_lawful.ensures.agrees; learned = c.is_lawful.ensures.learned },
    )
