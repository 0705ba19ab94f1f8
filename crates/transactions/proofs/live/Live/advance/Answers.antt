use Rattle.std.proofs.Common.{◌≡◌, ◌≤◌, [], None, Some, ap, length, subst, sym}
use Rattle.transactions.specs.Hearing.{Advances, HearsNext, listed}
use Rattle.transactions.specs.State.{LiveState, past}
use Rattle.transactions.proofs.Advancing.{going_heard, going_none, going_on, going_step, within_on}
use Rattle.transactions.proofs.live.Live.advance.Goals as goal

pub returns-then-branch-clause-comes : goal.returns-then-branch-clause-comes
returns-then-branch-clause-comes g c =
    let x = c.args.self.now in
    let h = c.hear.new.self in
    let heard = c.hear.ensures in
    let none : HearsNext (listed None) x h = subst (λ e. HearsNext (listed e) x h) c.in_default.is heard.heard in
    let advanced : Advances None x h = going_heard None x x h (going_none x) none heard.rest heard.within heard.within heard.still in
    let y = c.step.new.self in
    let same : y.heard ≡ h.heard = ap (λ (v : LiveState). v.heard) c.step.ensures.rest in
    let still : y.heard ≤ length (past y) = subst (λ k. k ≤ length (past y)) (sym same) (within_on [] h y c.step.ensures.writes heard.still) in
    going_on x y (going_step x h y advanced c.step.ensures.writes c.step.ensures.rest heard.still) heard.within still

pub returns-in-Some-clause-comes : goal.returns-in-Some-clause-comes
returns-in-Some-clause-comes g c =
    let x = c.args.self.now in
    let heard = c.hear.ensures in
    let said : HearsNext (listed (Some c.in-Some.event)) x c.hear.new.self = subst (λ e. HearsNext (listed e) x c.hear.new.self) c.in-Some.is heard.heard in
    going_heard (Some c.in-Some.event) x x c.hear.new.self (going_none x) said heard.rest heard.within heard.within heard.still
