use Rattle.std.proofs.Common.{subst}
use Rattle.host_manager.proofs.Passing.{by_number, held, identifies_in}
use Rattle.host_manager.specs.Calls.{IdentifiesBy, IdentifiesIn}
use Rattle.host_manager.specs.Host.{HostView}
use Rattle.host_manager.proofs.host_manager.HostManager.identifier.Goals as goal

pub returns : goal.returns
returns c =
    let made = c.begin_identifier-identified in
    let t = c.in-Some.tx.number in
    subst (λ (old : HostView). IdentifiesBy c.args.number old (held made.new.self c.self.inside.desk c.self.inside.given) made.result) c.self.view_is
    (by_number c.args.number (IdentifiesIn made.result) c.self.inside.manager made.new.self c.self.inside.desk c.self.inside.given made.result t c.in-Some.ensures.found.0
    (identifies_in made.result t c.self.inside.manager made.new.self c.self.inside.desk c.self.inside.given made.ensures.identified made.ensures.waits made.ensures.refused) made.ensures.others made.ensures.rest)
