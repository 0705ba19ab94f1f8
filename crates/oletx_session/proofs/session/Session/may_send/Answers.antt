use Rattle.std.proofs.Common.{ap, not, sym, ◌∙◌}
use Rattle.oletx_session.specs.Queues.{has_ended, link_of}
use Rattle.oletx_session.specs.Traffic.{may_send}
use Rattle.oletx_session.proofs.Moves.{send_seen}
use Rattle.oletx_session.proofs.Views.{wire_missing}
use Rattle.oletx_session.proofs.session.Session.may_send.Goals as goal

pub returns-in-Some : goal.returns-in-Some
returns-in-Some c =
    let own = c.self.inside in
    ap not (c.has_ended.ensures ∙ ap (λ d. has_ended d c.in-Some.link) c.opposite.ensures)
    ∙ sym (send_seen c.args.c c.args.d own.pieces.items own.links.items c.in-Some.link c.args.self.now.wires (ap (λ t. t.wires) c.self.view_is)
    (ap (link_of c.args.c) (sym c.deref.ensures.value) ∙ sym c.in-Some.ensures))

pub returns-in-None : goal.returns-in-None
returns-in-None c =
    let own = c.self.inside in
    sym (ap (may_send c.args.d) (wire_missing c.args.c own.pieces.items own.links.items _ (ap (λ t. t.wires) c.self.view_is)
    (ap (link_of c.args.c) (sym c.deref.ensures.value) ∙ sym c.in-None.ensures)))
