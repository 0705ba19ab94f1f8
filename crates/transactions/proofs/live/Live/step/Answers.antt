use Rattle.std.proofs.Common.{◌≡◌, None, [], sym, subst}
use Rattle.dtx_model.specs.Words.{kth}
use Rattle.dtx_model.specs.Steps.{pending}
use Rattle.tx_world.specs.State.{TxState}
use Rattle.tx_world.specs.Stepping.{reply_in}
use Rattle.transactions.specs.Hearing.{Writes}
use Rattle.transactions.specs.State.{LiveState}
use Rattle.transactions.specs.contracts.live.Live.{the_view}
use Rattle.transactions.proofs.Sound.{Alone, alone_step, down_step, writes_none}
use Rattle.transactions.proofs.Waiting.{Within, never_false}
use Rattle.transactions.proofs.live.Live.step.Given.{Over}
use Rattle.transactions.proofs.live.Live.step.Goals as goal

alone : (g : Over) (c : goal.In_ok-step g) → Alone (the_view c.self.inside) (record (the_view c.self.inside) { tx = c.step.new.self })
alone g c =
    let e = c.step.ensures in
    alone_step g.D.Disk.faults c.in-Some.k (the_view c.self.inside) c.args.log.now c.step.new.self c.step.new.log c.in_ok-step.field-0 c.step.result c.in_ok-step.was
    (subst (λ (l : LiveState). reply_in l.tx.world (kth (pending l.tx.world) c.in-Some.k) ≡ None) (sym c.self.view_is) c.in-Some.ensures.found) e.some e.none e.leaves.named c.self.invariant

pub invariant_of-self-2 : goal.invariant_of-self-2
invariant_of-self-2 g c = (alone g c).sound

pub returns-clause-writes : goal.returns-clause-writes
returns-clause-writes g c = subst (λ (l : LiveState). Writes [] l (record (the_view c.self.inside) { tx = c.step.new.self })) c.self.view_is (alone g c).writes

pub returns-clause-none : goal.returns-clause-none
returns-clause-none g c = λ answer.
    never_false c.in_ok-step.field-0 c.step.result c.in_ok-step.was (pending c.self.inside.world.world) c.in-Some.k (λ is. (c.step.ensures.none is).0)
    (subst (λ (l : LiveState). Within l c.in-Some.k) (sym c.self.view_is) c.in-Some.ensures.within) answer

pub returns-clause-down : goal.returns-clause-down
returns-clause-down g c = λ down.
    let e = c.step.ensures in
    down_step g.D.Disk.faults c.in-Some.k c.self.inside.world c.args.log.now c.step.new.self c.step.new.log c.in_ok-step.field-0 c.step.result c.in_ok-step.was e.some e.none down

pub returns-in_default-clause-writes : goal.returns-in_default-clause-writes
returns-in_default-clause-writes g c = writes_none c.args.self.now

pub returns-in_err-step-clause-writes : goal.returns-in_err-step-clause-writes
returns-in_err-step-clause-writes g c =
    let x = the_view c.self.inside in
    subst (λ (l : LiveState). Writes [] l (record x { tx = c.step.new.self })) c.self.view_is
    (subst (λ (t : TxState). Writes [] x (record x { tx = t })) (sym c.in_err-step.ensures.memory.0) (writes_none x))
