use Rattle.std.proofs.Common.{◌≡◌, subst, sym}
use Rattle.transactions.specs.Keeping.{HasRun, IsKept}
use Rattle.transactions.specs.Slots.{Standing}
use Rattle.transactions.specs.State.{LiveState}
use Rattle.transactions.proofs.Fitted.{has_run_at}
use Rattle.transactions.proofs.Nexts.{one_at}
use Rattle.transactions.proofs.manager.TransactionManager.has_run_at.Goals as goal

pub returns-in-Some : goal.returns-in-Some
returns-in-Some g c = λ x at.
    let t = c.args.t in
    let y = c.in-Some.live.now in
    let e = c.has_run.ensures in
    let same : y ≡ x = one_at t c.args.self.now.lives y x (sym c.in-Some.ensures) at in
    let kept = subst (λ (s : Standing _ _). IsKept g.D.Disk.honest g.D.Disk.image s.log s.lives s.last) c.self.view_is c.self.invariant in
    subst (λ (v : LiveState). HasRun g.D.Disk.honest g.D.Disk.image c.args.self.now.log v) same
    (has_run_at g.D.Disk.honest g.D.Disk.image c.args.self.now.log t c.args.self.now.lives c.args.self.now.last y (sym c.in-Some.ensures) kept e.sound e.run e.once e.ours e.tried)
