use Rattle.std.proofs.Common.{ap, sym, ◌∙◌}
use Rattle.oletx_session.specs.Queues.{link_of}
use Rattle.oletx_session.specs.Traffic.{is_open}
use Rattle.oletx_session.proofs.Views.{wire_found, wire_missing}
use Rattle.oletx_session.proofs.session.Session.is_open.Goals as goal

pub returns-in-Some : goal.returns-in-Some
returns-in-Some c =
    let own = c.self.inside in
    sym (ap is_open (wire_found c.args.c own.pieces.items own.links.items c.in-Some.link _ (ap (λ t. t.wires) c.self.view_is)
    (ap (link_of c.args.c) (sym c.deref.ensures.value) ∙ sym c.in-Some.ensures)))

pub returns-in-None : goal.returns-in-None
returns-in-None c =
    let own = c.self.inside in
    sym (ap is_open (wire_missing c.args.c own.pieces.items own.links.items _ (ap (λ t. t.wires) c.self.view_is)
    (ap (link_of c.args.c) (sym c.deref.ensures.value) ∙ sym c.in-None.ensures)))
