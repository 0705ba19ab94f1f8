use Rattle.std.proofs.Common.{ℕ, Result, subst, sym}
use Rattle.host_manager.proofs.Beginning.{begins}
use Rattle.host_manager.proofs.Passing.{held}
use Rattle.host_manager.specs.Host.{HostView}
use Rattle.host_manager.specs.Lives.{Begins}
use Rattle.host_manager.specs.Results.{begun_in}
use Rattle.host_manager.specs.declared.error.HostError.{HostError}
use Rattle.host_manager.proofs.host_manager.HostManager.begin.Goals as goal

pub returns : goal.returns
returns c =
    let made = c.poll_begin in
    subst (λ (r : Result ℕ HostError). Begins c.args.timeout c.args.self.now (held made.new.self c.self.inside.desk c.self.inside.given) r) (sym c.begun_in.ensures)
    (subst (λ (old : HostView). Begins c.args.timeout old (held made.new.self c.self.inside.desk c.self.inside.given) (begun_in made.result)) c.self.view_is
    (begins c.args.timeout c.self.inside.manager made.new.self c.self.inside.desk c.self.inside.given made.result made.ensures.fresh made.ensures.begun made.ensures.above made.ensures.others made.ensures.quiet
    made.ensures.unsettled made.ensures.rises made.ensures.only made.ensures.waits made.ensures.refused made.ensures.log made.ensures.cause))
