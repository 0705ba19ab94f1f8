use Rattle.std.proofs.Common.{None, Some, refl, subst}
use Rattle.dtx_values.specs.TxIds.{identifier_of_id}
use Rattle.transactions.specs.Doing.{AdvancesAt}
use Rattle.transactions.specs.Hearing.{heard_in}
use Rattle.transactions.specs.Logged.{KeepsRecords}
use Rattle.transactions.proofs.Nexts.{onward_at, onward_none, onward_on, onward_then}
use Rattle.transactions.proofs.Untouched.{keeps_same, keeps_then}
use Rattle.transactions.proofs.manager.TransactionManager.next_in.Given.{Over}
use Rattle.transactions.proofs.manager.TransactionManager.next_in.Goals.{After-advance}
use Rattle.transactions.proofs.manager.TransactionManager.next_in.Goals as goal

-- what it left of the log's records of the others, so far and by this part
logged : (g : Over) (c : After-advance g) → KeepsRecords g.D.Disk.honest g.D.Disk.image (identifier_of_id c.args.t) c.args.self.now.log c.advance.new.self.log
logged g c =
    keeps_then g.D.Disk.honest g.D.Disk.image (identifier_of_id c.args.t) c.args.self.now.log c.loop-count.self.log c.advance.new.self.log c.loop-count.invariant.1 c.advance.ensures.logged

pub loop-count-init : goal.loop-count-init
loop-count-init g c = (onward_none c.args.t c.args.self.now, keeps_same g.D.Disk.honest g.D.Disk.image (identifier_of_id c.args.t) c.args.self.now.log c.args.self.now.log refl)

pub returns-in-Err-clause-stays : goal.returns-in-Err-clause-stays
returns-in-Err-clause-stays g c = onward_then None c.args.t c.args.self.now c.loop-count.self c.advance.new.self c.loop-count.invariant.0 c.in-Err.ensures.stays

pub returns-in-Heard-clause-comes : goal.returns-in-Heard-clause-comes
returns-in-Heard-clause-comes g c =
    let y = c.loop-count.self in
    let z = c.advance.new.self in
    onward_then (Some c.in-Heard.event) c.args.t c.args.self.now y z c.loop-count.invariant.0 (subst (λ a. AdvancesAt (heard_in a) c.args.t y.lives z.lives) c.in-Heard.is c.in-Ok.ensures.comes)

pub returns-in-Idle-clause-comes : goal.returns-in-Idle-clause-comes
returns-in-Idle-clause-comes g c =
    let y = c.loop-count.self in
    let z = c.advance.new.self in
    onward_then None c.args.t c.args.self.now y z c.loop-count.invariant.0 (subst (λ a. AdvancesAt (heard_in a) c.args.t y.lives z.lives) c.in-Idle.is c.in-Ok.ensures.comes)

pub returns-clause-stays : goal.returns-clause-stays
returns-clause-stays g c = onward_at c.args.t c.args.self.now c.loop-count.self c.is_within.ensures c.loop-count.invariant.0

pub loop-count-preserved : goal.loop-count-preserved
loop-count-preserved g c =
    let y = c.loop-count.self in
    let z = c.advance.new.self in
    (onward_on c.args.t c.args.self.now y z c.loop-count.invariant.0 (subst (λ a. AdvancesAt (heard_in a) c.args.t y.lives z.lives) c.in-Did.is c.in-Ok.ensures.comes) c.advance.ensures.others c.advance.ensures.time, logged g (goal.at.loop-count-preserved g c).After-advance)

pub returns-in-Err-clause-logged : goal.returns-in-Err-clause-logged
returns-in-Err-clause-logged g c = logged g (goal.at.returns-in-Err-clause-logged g c).After-advance

pub returns-in-Heard-clause-logged : goal.returns-in-Heard-clause-logged
returns-in-Heard-clause-logged g c = logged g (goal.at.returns-in-Heard-clause-logged g c).After-advance

pub returns-in-Idle-clause-logged : goal.returns-in-Idle-clause-logged
returns-in-Idle-clause-logged g c = logged g (goal.at.returns-in-Idle-clause-logged g c).After-advance

pub returns-clause-logged : goal.returns-clause-logged
returns-clause-logged g c = c.loop-count.invariant.1
