use Rattle.std.proofs.Common.{◌≡◌, true, subst}
use Rattle.dtx_values.specs.TxIds.{number_of}
use Rattle.dtx_model.specs.Learned.{Learned}
use Rattle.dtx_model.specs.Outcome.{agree, justified}
use Rattle.transactions.specs.State.{LiveState}
use Rattle.transactions.proofs.live.Live.is_lawful.Goals as goal

pub returns-clause-just : goal.returns-clause-just
returns-clause-just c =
    let x = c.self.inside.world in
    subst (λ (l : LiveState). justified l.tx.world.past ≡ true) c.self.view_is
    (c.own_outcome.ensures.just (number_of x.transaction) x.world c.is_own_run.ensures.once c.is_own_run.ensures.run (c.stops.ensures.unrestarted x.world.past c.self.invariant.unrestarted))

pub returns-clause-agrees : goal.returns-clause-agrees
returns-clause-agrees c =
    let x = c.self.inside.world in
    subst (λ (l : LiveState). agree l.tx.world.past ≡ true) c.self.view_is
    (c.own_outcome.ensures.agrees (number_of x.transaction) x.world c.is_own_run.ensures.once c.is_own_run.ensures.run (c.stops.ensures.unrestarted x.world.past c.self.invariant.unrestarted))

pub returns-clause-learned : goal.returns-clause-learned
returns-clause-learned c =
    let x = c.self.inside.world in
    subst (λ (l : LiveState). Learned l.tx.world.past) c.self.view_is
    (c.own_outcome.ensures.learned (number_of x.transaction) x.world c.is_own_run.ensures.once c.is_own_run.ensures.run (c.stops.ensures.unrestarted x.world.past c.self.invariant.unrestarted))
