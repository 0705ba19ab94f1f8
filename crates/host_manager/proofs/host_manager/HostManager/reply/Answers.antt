use Rattle.std.proofs.Common.{◌≡◌, ◌≢◌, None, Result, subst, sym}
use Rattle.dtx_values.specs.TxIds.{number_of}
use Rattle.host_manager.proofs.Passing.{held}
use Rattle.host_manager.proofs.Polling.{replies}
use Rattle.host_manager.specs.Host.{HostView}
use Rattle.host_manager.specs.Polls.{Replies}
use Rattle.host_manager.specs.Results.{replied_in}
use Rattle.host_manager.specs.declared.error.HostError.{HostError}
use Rattle.resource_managers.specs.declared.enlistment.Enlistment.{Enlistment}
use Rattle.resource_managers.specs.Pairs.{enlistment}
use Rattle.transactions.specs.Slots.{live_at}
use Rattle.host_manager.proofs.host_manager.HostManager.reply.Goals as goal

pub returns : goal.returns
returns c =
    let made = c.answer-replied in
    let t = c.in-Some.tx.number in
    let m = c.self.inside.manager in
    let e = c.enlistment.result in
    let is : e ≡ enlistment t c.args.e = c.enlistment.ensures in
    let named : number_of e.transaction ≡ c.args.number = subst (λ (v : Enlistment). number_of v.transaction ≡ c.args.number) (sym is) c.in-Some.ensures.found.0 in
    let live : live_at e.transaction m.lives ≢ None = subst (λ (v : Enlistment). live_at v.transaction m.lives ≢ None) (sym is) c.in-Some.ensures.found.1 in
    subst (λ (r : Result (Unit {0}) HostError). Replies c.args.number c.args.e c.args.r c.args.self.now (held made.new.self c.self.inside.desk c.self.inside.given) r) (sym c.replied_in.ensures)
    (subst (λ (old : HostView). Replies c.args.number c.args.e c.args.r old (held made.new.self c.self.inside.desk c.self.inside.given) (replied_in made.result)) c.self.view_is
    (subst (λ (v : Enlistment). Replies c.args.number v.number c.args.r (held m c.self.inside.desk c.self.inside.given) (held made.new.self c.self.inside.desk c.self.inside.given) (replied_in made.result)) is
    (replies c.args.number e.transaction e.number c.args.r m made.new.self c.self.inside.desk c.self.inside.given made.result named live
    made.ensures.due made.ensures.replied made.ensures.unchanged made.ensures.failed made.ensures.others made.ensures.rest made.ensures.cause)))
