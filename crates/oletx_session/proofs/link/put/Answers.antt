use Rattle.oletx_session.proofs.Links.{link_pushed}
use Rattle.oletx_session.proofs.link.put.Goals as goal

pub returns-in_ok-push-clause-changed : goal.returns-in_ok-push-clause-changed
returns-in_ok-push-clause-changed c =
    let none = c.if-not-replace.ensures in
    link_pushed c.args.links.now.items c.replace.new.links.items c.push.new.self.items c.args.link none.found none.same c.in_ok-push.ensures.items
