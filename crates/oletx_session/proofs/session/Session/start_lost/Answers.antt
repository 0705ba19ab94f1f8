use Rattle.std.proofs.Common.{ap, sym, subst, ◌∙◌}
use Rattle.oletx_session.specs.declared.link.Link.{Link}
use Rattle.oletx_session.specs.Queues.{Changes, stopped_link, wires_in}
use Rattle.oletx_session.proofs.Histories.{carried_start_lost}
use Rattle.oletx_session.proofs.Views.{kept_link}
use Rattle.oletx_session.proofs.Moves.{started_lost}
use Rattle.oletx_session.proofs.session.Session.start_lost.Goals as goal

pub invariant_of-self-2 : goal.invariant_of-self-2
invariant_of-self-2 c =
    let own = c.self.inside in
    kept_link c.stopped.result.connection own.size c.stopped.result own.links.items c.put.new.links.items own.pieces.items c.self.invariant c.in-Ok.ensures.changed

pub returns-clause-started : goal.returns-clause-started
returns-clause-started c =
    let own = c.self.inside in
    let P : Link → Type 0 = λ l. Changes l.connection l own.links.items c.put.new.links.items in
    started_lost c.args.c own.size own.pieces.items own.links.items c.put.new.links.items c.args.self.now.wires (ap (λ t. t.wires) c.self.view_is) c.self.invariant (sym c.if-is_taken.ensures)
    (subst P (c.stopped.ensures ∙ ap stopped_link c.new.ensures) c.in-Ok.ensures.changed)

pub returns-clause-carries : goal.returns-clause-carries
returns-clause-carries c = λ h carries.
    let own = c.self.inside in
    carried_start_lost c.args.c c.args.self.now.wires (wires_in own.pieces.items c.put.new.links.items) h (returns-clause-started c) carries
