use Rattle.std.proofs.Common.{Result, subst, sym}
use Rattle.dtx_values.specs.declared.number.CloneNo.{CloneNo}
use Rattle.host_manager.proofs.Passing.{by_number, clones_in, held}
use Rattle.host_manager.specs.Calls.{ClonesBy, ClonesIn}
use Rattle.host_manager.specs.Host.{HostView}
use Rattle.host_manager.specs.Results.{clone_in}
use Rattle.transactions.specs.declared.error.TxError.{TxError}
use Rattle.host_manager.proofs.host_manager.HostManager.dependent_clone.Goals as goal

pub returns : goal.returns
returns c =
    let made = c.dependent_clone-cloned in
    let t = c.in-Some.tx.number in
    subst (λ (r : Result CloneNo TxError). ClonesBy c.args.number c.args.k c.args.self.now (held made.new.self c.self.inside.desk c.self.inside.given) r) (sym c.clone_in.ensures)
    (subst (λ (old : HostView). ClonesBy c.args.number c.args.k old (held made.new.self c.self.inside.desk c.self.inside.given) (clone_in made.result)) c.self.view_is
    (by_number c.args.number (ClonesIn c.args.k (clone_in made.result)) c.self.inside.manager made.new.self c.self.inside.desk c.self.inside.given (clone_in made.result) t c.in-Some.ensures.found.0
    (clones_in c.args.k made.result t c.self.inside.manager made.new.self c.self.inside.desk c.self.inside.given made.ensures.cloned made.ensures.refused) made.ensures.others made.ensures.rest))
