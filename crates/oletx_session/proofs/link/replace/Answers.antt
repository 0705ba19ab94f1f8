use Rattle.std.proofs.Common.{sym, ap, ◌∙◌, position}
use Rattle.std.specs.Prelude.{is_some}
use Rattle.oletx_session.specs.Queues.{is_of}
use Rattle.oletx_session.proofs.Links.{link_at, link_set, not_found}
use Rattle.oletx_session.proofs.link.replace.Goals as goal

pub returns-in-Some-clause-found : goal.returns-in-Some-clause-found
returns-in-Some-clause-found c =
    sym (link_at c.args.links.now.items c.args.link c.in-Some.place (ap (position (is_of c.args.link.connection)) (sym c.deref.ensures.value) ∙ sym c.in-Some.ensures))

pub returns-in-Some-clause-changed : goal.returns-in-Some-clause-changed
returns-in-Some-clause-changed c =
    link_set c.args.links.now.items c.args.link c.in-Some.place (ap (position (is_of c.args.link.connection)) (sym c.deref.ensures.value) ∙ sym c.in-Some.ensures)

pub returns-in-None-clause-found : goal.returns-in-None-clause-found
returns-in-None-clause-found c =
    let at = is_of c.args.link.connection in
    sym (ap is_some (not_found at c.args.links.now.items (ap (position at) (sym c.deref.ensures.value) ∙ sym c.in-None.ensures)))
