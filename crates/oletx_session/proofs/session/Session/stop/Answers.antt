use Rattle.std.proofs.Common.{ap}
use Rattle.oletx_session.specs.Queues.{wires_in}
use Rattle.oletx_session.proofs.Stops.{carried_stop, kept_stopped, stopped}
use Rattle.oletx_session.proofs.session.Session.stop.Goals as goal

pub invariant_of-self : goal.invariant_of-self
invariant_of-self c =
    let own = c.self.inside in
    kept_stopped own.size own.pieces.items c.keep_direction.new.pieces.items own.links.items c.stop_all.new.links.items c.stop_all.ensures.items c.keep_direction.ensures.kept c.self.invariant

pub returns-clause-stopped : goal.returns-clause-stopped
returns-clause-stopped c =
    let own = c.self.inside in
    stopped own.pieces.items c.keep_direction.new.pieces.items own.links.items c.stop_all.new.links.items c.args.self.now.wires (ap (λ t. t.wires) c.self.view_is) c.stop_all.ensures.items
    c.keep_direction.ensures.kept

pub returns-clause-carries : goal.returns-clause-carries
returns-clause-carries c = λ h carries.
    carried_stop c.args.self.now.wires (wires_in c.keep_direction.new.pieces.items c.stop_all.new.links.items) h (returns-clause-stopped c) carries
