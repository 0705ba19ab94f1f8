use Rattle.std.proofs.Common.{◌≡◌, ◌∙◌, Bool, true, false, None, Some, refl, ap, subst, sym}
use Rattle.dtx_values.specs.TxIds.{identifier_of_id}
use Rattle.transactions.specs.Doing.{AdvancesAt}
use Rattle.transactions.specs.Hearing.{heard_in}
use Rattle.transactions.specs.Logged.{KeepsRecords}
use Rattle.transactions.specs.Slots.{Standing}
use Rattle.transactions.proofs.Nexts.{onward_at, onward_none, onward_on, onward_then}
use Rattle.transactions.proofs.Untouched.{keeps_same, keeps_then}
use Rattle.transactions.proofs.manager.TransactionManager.poll.Given.{Over}
use Rattle.transactions.proofs.manager.TransactionManager.poll.Goals.{After-advance}
use Rattle.transactions.proofs.manager.TransactionManager.poll.Goals as goal

-- what is so and isn't so
not_both : (b : Bool) → b ≡ true → b ≡ false → ⊥
not_both true h k = absurd cc
not_both false h k = absurd cc

-- what it left of the log's records of the others, so far and by this part
logged : (g : Over) (c : After-advance g) → KeepsRecords g.D.Disk.honest g.D.Disk.image (identifier_of_id c.args.tx.now.number) c.args.self.now.log c.advance.new.self.log
logged g c =
    keeps_then g.D.Disk.honest g.D.Disk.image (identifier_of_id c.args.tx.now.number) c.args.self.now.log c.loop-count.self.log c.advance.new.self.log c.loop-count.invariant.2 c.advance.ensures.logged

pub loop-count-init : goal.loop-count-init
loop-count-init g c = (
  onward_none c.args.tx.now.number c.args.self.now,
  λ h. refl,
  keeps_same g.D.Disk.honest g.D.Disk.image (identifier_of_id c.args.tx.now.number) c.args.self.now.log c.args.self.now.log refl,
)

pub returns-then-not-is_settled-clause-comes : goal.returns-then-not-is_settled-clause-comes
returns-then-not-is_settled-clause-comes g c = onward_at c.args.tx.now.number c.args.self.now c.loop-count.self c.is_within.ensures c.loop-count.invariant.0

pub returns-in-Heard-clause-comes : goal.returns-in-Heard-clause-comes
returns-in-Heard-clause-comes g c =
    let t = c.args.tx.now.number in
    let y = c.loop-count.self in
    let z = c.advance.new.self in
    onward_then (Some c.in-Heard.event) t c.args.self.now y z c.loop-count.invariant.0 (subst (λ a. AdvancesAt (heard_in a) t y.lives z.lives) c.in-Heard.is c.in-Ok.ensures.comes)

pub returns-in-Idle-clause-comes : goal.returns-in-Idle-clause-comes
returns-in-Idle-clause-comes g c =
    let t = c.args.tx.now.number in
    let y = c.loop-count.self in
    let z = c.advance.new.self in
    onward_then None t c.args.self.now y z c.loop-count.invariant.0 (subst (λ a. AdvancesAt (heard_in a) t y.lives z.lives) c.in-Idle.is c.in-Ok.ensures.comes)

pub loop-count-preserved : goal.loop-count-preserved
loop-count-preserved g c =
    let t = c.args.tx.now.number in
    let y = c.loop-count.self in
    let z = c.advance.new.self in
    let settled = g.D.Relay.is_settled in
    let here : settled c.self-in-loop-count.inside.log.disk ≡ true = subst (λ d. settled d ≡ true) c.disk.ensures (sym c.if-not-is_settled.ensures) in
    let stood : settled y.log.disk ≡ true = subst (λ (s : Standing _ _). settled s.log.disk ≡ true) c.self-in-loop-count.view_is here in (
      onward_on t c.args.self.now y z c.loop-count.invariant.0 (subst (λ a. AdvancesAt (heard_in a) t y.lives z.lives) c.in-Did.is c.in-Ok.ensures.comes) c.advance.ensures.others c.advance.ensures.time,
      λ h. absurd (not_both (settled y.log.disk) stood (ap (λ (s : Standing _ _). settled s.log.disk) (c.loop-count.invariant.1 h) ∙ h)),
      logged g (goal.at.loop-count-preserved g c).After-advance,
    )

pub returns-in-Err-clause-stays : goal.returns-in-Err-clause-stays
returns-in-Err-clause-stays g c = onward_then None c.args.tx.now.number c.args.self.now c.loop-count.self c.advance.new.self c.loop-count.invariant.0 c.in-Err.ensures.stays

pub returns-clause-stays : goal.returns-clause-stays
returns-clause-stays g c = onward_at c.args.tx.now.number c.args.self.now c.loop-count.self c.is_within.ensures c.loop-count.invariant.0

pub returns-then-not-is_settled-clause-logged : goal.returns-then-not-is_settled-clause-logged
returns-then-not-is_settled-clause-logged g c = c.loop-count.invariant.2

pub returns-in-Err-clause-logged : goal.returns-in-Err-clause-logged
returns-in-Err-clause-logged g c = logged g (goal.at.returns-in-Err-clause-logged g c).After-advance

pub returns-in-Heard-clause-logged : goal.returns-in-Heard-clause-logged
returns-in-Heard-clause-logged g c = logged g (goal.at.returns-in-Heard-clause-logged g c).After-advance

pub returns-in-Idle-clause-logged : goal.returns-in-Idle-clause-logged
returns-in-Idle-clause-logged g c = logged g (goal.at.returns-in-Idle-clause-logged g c).After-advance

pub returns-clause-logged : goal.returns-clause-logged
returns-clause-logged g c = c.loop-count.invariant.2
