use Rattle.std.proofs.Common.{Result, subst, sym}
use Rattle.host_manager.proofs.Passing.{held}
use Rattle.host_manager.proofs.Polling.{ends}
use Rattle.host_manager.specs.Host.{HostView}
use Rattle.host_manager.specs.Polls.{Ends}
use Rattle.host_manager.specs.Results.{ended_in}
use Rattle.host_manager.specs.declared.error.HostError.{HostError}
use Rattle.host_manager.proofs.host_manager.HostManager.end.Goals as goal

pub returns : goal.returns
returns c =
    let made = c.end in
    let tx = c.in-Some.tx in
    subst (λ (r : Result (Unit {0}) HostError). Ends c.args.number c.args.self.now (held made.new.self c.self.inside.desk c.self.inside.given) r) (sym c.ended_in.ensures)
    (subst (λ (old : HostView). Ends c.args.number old (held made.new.self c.self.inside.desk c.self.inside.given) (ended_in made.result)) c.self.view_is
    (ends c.args.number tx c.self.inside.manager made.new.self c.self.inside.desk c.self.inside.given made.result c.in-Some.ensures.found.0 c.in-Some.ensures.found.1
    made.ensures.over made.ensures.gone made.ensures.refused made.ensures.cause made.ensures.others made.ensures.rest))
