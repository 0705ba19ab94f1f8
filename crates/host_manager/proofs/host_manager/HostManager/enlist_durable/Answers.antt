use Rattle.std.proofs.Common.{Result, subst, sym}
use Rattle.dtx_values.specs.declared.number.EnlNo.{EnlNo}
use Rattle.host_manager.proofs.Passing.{by_number, enlists_in, held}
use Rattle.host_manager.specs.Calls.{EnlistsBy, EnlistsIn}
use Rattle.host_manager.specs.Host.{HostView}
use Rattle.host_manager.specs.Results.{number_in}
use Rattle.transactions.specs.declared.error.TxError.{TxError}
use Rattle.transactions.specs.declared.kind.Kind.TheVariants.{Durable}
use Rattle.host_manager.proofs.host_manager.HostManager.enlist_durable.Goals as goal

pub returns : goal.returns
returns c =
    let made = c.begin_enlist_durable-enlisted in
    let t = c.in-Some.tx.number in
    subst (λ (r : Result EnlNo TxError). EnlistsBy c.args.number (Durable c.args.rm c.args.p) c.args.self.now (held made.new.self c.self.inside.desk c.self.inside.given) r) (sym c.number_in.ensures)
    (subst (λ (old : HostView). EnlistsBy c.args.number (Durable c.args.rm c.args.p) old (held made.new.self c.self.inside.desk c.self.inside.given) (number_in made.result)) c.self.view_is
    (by_number c.args.number (EnlistsIn (Durable c.args.rm c.args.p) (number_in made.result)) c.self.inside.manager made.new.self c.self.inside.desk c.self.inside.given (number_in made.result) t c.in-Some.ensures.found.0
    (enlists_in (Durable c.args.rm c.args.p) made.result t c.self.inside.manager made.new.self c.self.inside.desk c.self.inside.given made.ensures.enlisted made.ensures.refused) made.ensures.others made.ensures.rest))
