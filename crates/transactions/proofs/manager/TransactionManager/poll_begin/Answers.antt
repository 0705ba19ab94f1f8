use Rattle.std.proofs.Common.{◌≡◌, Option, Some, Result, Ok, refl, subst}
use Rattle.dtx_values.specs.declared.call.Call.TheVariants.{Begin}
use Rattle.dtx_values.specs.declared.entry.Answer.TheVariants.{Fine}
use Rattle.transactions.specs.declared.error.TxError.{TxError}
use Rattle.transactions.specs.declared.handle.CommittableTransaction.{CommittableTransaction}
use Rattle.transactions.specs.Calling.{IsCalled}
use Rattle.transactions.specs.Slots.{live_at}
use Rattle.transactions.specs.State.{LiveState, blank}
use Rattle.transactions.proofs.Beginning.{begun_by}
use Rattle.transactions.proofs.manager.TransactionManager.poll_begin.Goals as goal

-- what is given is what was begun
the_same : (a b : CommittableTransaction) → ◌≡◌ {A = Result (Option CommittableTransaction) TxError} (Ok (Some a)) (Ok (Some b)) → a ≡ b
the_same a b e = cc

pub returns-in-Ok-begin_as-clause-begun : goal.returns-in-Ok-begin_as-clause-begun
returns-in-Ok-begin_as-clause-begun g c tx is =
    let new = c.begin_as.new.self in
    let own = c.in-Ok-begin_as.ensures in
    subst (λ (v : CommittableTransaction). (y : LiveState) × (live_at v.number new.lives ≡ Some y) × IsCalled g.D.Disk.faults new.log (Begin v.number.t c.args.timeout) 1 Fine (blank v.number c.args.self.now.reading) y)
    (the_same c.in-Ok-begin_as.tx tx is)
    (begun_by g.D.Disk.faults c.args.timeout c.in-Some.t c.args.self.now new c.args.self.now.reading (Ok c.in-Ok-begin_as.tx) refl c.begin_as.ensures.rest own.number own.begun)
