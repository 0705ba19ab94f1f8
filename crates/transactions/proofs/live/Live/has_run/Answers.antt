use Rattle.std.proofs.Common.{subst}
use Rattle.dtx_values.specs.TxIds.{number_of}
use Rattle.dtx_model.specs.Caused.{AreMadeOnce, IsIn, IsOwnRun}
use Rattle.dtx_model.specs.World.{core}
use Rattle.tx_world.specs.AtLog.{IsOurs, id_of, kept_of}
use Rattle.tx_world.specs.Tried.{IsTried}
use Rattle.transactions.specs.State.{LiveState, past}
use Rattle.transactions.proofs.live.Live.has_run.Goals as goal

pub returns-clause-run : goal.returns-clause-run
returns-clause-run c = subst (λ (l : LiveState). IsOwnRun (number_of l.tx.transaction) l.tx.world) c.self.view_is c.is_own_run.ensures.run

pub returns-clause-once : goal.returns-clause-once
returns-clause-once c = subst (λ (l : LiveState). AreMadeOnce (IsIn l.tx.world.calls)) c.self.view_is c.is_own_run.ensures.once

pub returns-clause-ours : goal.returns-clause-ours
returns-clause-ours c = subst (λ (l : LiveState). IsOurs (id_of l.tx) (core l.tx.world) (kept_of l.tx)) c.self.view_is c.is_own_run.ensures.ours

pub returns-clause-tried : goal.returns-clause-tried
returns-clause-tried c =
    let x = c.self.inside.world in
    subst (λ (l : LiveState). IsTried (past l) (kept_of l.tx)) c.self.view_is (c.is_own_run.ensures.tried (c.stops.ensures.unrestarted x.world.past c.self.invariant.unrestarted))
