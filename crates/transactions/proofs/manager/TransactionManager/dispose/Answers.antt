use Rattle.std.proofs.Common.{◌≡◌, ◌∙◌, true, subst}
use Rattle.dtx_model.specs.Scopes.{closing}
use Rattle.scope_context.specs.Standing.{Standing as Scopes}
use Rattle.transactions.specs.Scoping.{AreSameBut, Settles, ended_by, is_top, made_in}
use Rattle.transactions.proofs.Scoping.{concludes_next, let_go, same_but}
use Rattle.transactions.proofs.manager.TransactionManager.dispose.Goals as goal

pub returns-clause-others : goal.returns-clause-others
returns-clause-others g c = λ top u n m.
    let old = c.args.self.now.lives in
    let mid = c.close-closed.new.self.lives in
    let P : Scopes → Type 0 = λ v. is_top c.args.s.scope.value v.scopes ≡ true → AreSameBut (ended_by (closing v.scopes) old) old mid in
    let others = subst P c.take.ensures c.close-closed.ensures.others in
    same_but (made_in c.args.s) mid c.let_go.new.self.lives c.let_go.ensures.others u m ∙ same_but (ended_by (closing c.args.a.now.scopes) old) old mid (others top) u n

pub returns-clause-settled : goal.returns-clause-settled
returns-clause-settled g c = λ top.
    let old = c.args.self.now in
    let mid = c.close-closed.new.self in
    let a = c.args.o.now in
    let b = c.close-closed.new.o in
    let scopes = c.args.a.now.scopes in
    let P : Scopes → Type 0 = λ v. is_top c.args.s.scope.value v.scopes ≡ true
    → Settles g.D.Disk.faults g.D.Disk.honest g.D.Disk.image g.O.ResourceManager.gives (closing v.scopes) c.close-closed.result old mid a b in
    let Q : Scopes → Type 0 = λ v. is_top c.args.s.scope.value v.scopes ≡ true → AreSameBut (ended_by (closing v.scopes) old.lives) old.lives mid.lives in
    let settled = subst P c.take.ensures c.close-closed.ensures.settled in
    let others = subst Q c.take.ensures c.close-closed.ensures.others in
    record { mid = mid; settled = settled top; others = others top; left = c.let_go.ensures.others; rest = c.let_go.ensures.rest }

pub returns-clause-steps : goal.returns-clause-steps
returns-clause-steps g c =
    let old = c.args.self.now in
    let mid = c.close-closed.new.self in
    let b = c.close-closed.new.o in
    let e = c.let_go.ensures in
    concludes_next g.D.Disk.honest g.D.Disk.image g.O.ResourceManager.gives old mid c.let_go.new.self c.args.o.now b b c.close-closed.ensures.steps
    (let_go g.D.Disk.honest g.D.Disk.image g.O.ResourceManager.gives (made_in c.args.s) mid c.let_go.new.self b e.made e.others e.rest)
