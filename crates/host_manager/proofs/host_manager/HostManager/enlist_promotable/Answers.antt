use Rattle.std.proofs.Common.{Option, Result, subst, sym}
use Rattle.dtx_values.specs.declared.number.EnlNo.{EnlNo}
use Rattle.host_manager.proofs.Passing.{by_number, held, takes_in}
use Rattle.host_manager.specs.Calls.{TakesBy, TakesIn}
use Rattle.host_manager.specs.Host.{HostView}
use Rattle.host_manager.specs.Results.{taken_in}
use Rattle.transactions.specs.declared.error.TxError.{TxError}
use Rattle.host_manager.proofs.host_manager.HostManager.enlist_promotable.Goals as goal

pub returns : goal.returns
returns c =
    let made = c.begin_enlist_promotable-enlisted in
    let t = c.in-Some.tx.number in
    subst (λ (r : Result (Option EnlNo) TxError). TakesBy c.args.number c.args.rm c.args.self.now (held made.new.self c.self.inside.desk c.self.inside.given) r) (sym c.taken_in.ensures)
    (subst (λ (old : HostView). TakesBy c.args.number c.args.rm old (held made.new.self c.self.inside.desk c.self.inside.given) (taken_in made.result)) c.self.view_is
    (by_number c.args.number (TakesIn c.args.rm (taken_in made.result)) c.self.inside.manager made.new.self c.self.inside.desk c.self.inside.given (taken_in made.result) t c.in-Some.ensures.found.0
    (takes_in c.args.rm made.result t c.self.inside.manager made.new.self c.self.inside.desk c.self.inside.given made.ensures.enlisted made.ensures.refused) made.ensures.others made.ensures.rest))
