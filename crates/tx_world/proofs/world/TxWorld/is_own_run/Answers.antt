use Rattle.std.proofs.Common.{◌≡◌, true, subst}
use Rattle.dtx_model.specs.Caused.{AreMadeOnce, IsIn}
use Rattle.dtx_values.specs.TxIds.{number_of}
use Rattle.dtx_model.specs.Promotes.{identifier_of}
use Rattle.dtx_model.specs.Tied.{tied}
use Rattle.dtx_model.specs.World.{core}
use Rattle.coordinator_core.specs.Kept.{Kept as CoreKept}
use Rattle.tx_world.specs.AtLog.{IsOurs, id_of}
use Rattle.tx_world.specs.State.{TxState}
use Rattle.tx_world.specs.Tried.{IsTried}
use Rattle.tx_world.proofs.world.TxWorld.is_own_run.Goals as goal

pub returns-clause-once : goal.returns-clause-once
returns-clause-once c = subst (λ (x : TxState). AreMadeOnce (IsIn x.world.calls)) c.self.view_is c.self.invariant.kept.once

pub returns-clause-ours : goal.returns-clause-ours
returns-clause-ours c =
    let x = c.self.inside.at_log in
    let here = subst (λ (k : CoreKept). IsOurs (identifier_of (number_of k.transaction)) k.state x) c.self.invariant.kept.core c.self.invariant.ours in
    subst (λ (s : TxState). IsOurs (id_of s) (core s.world) (record { ours = s.ours; unsure = s.unsure; life = s.life })) c.self.view_is here

pub returns-clause-tried : goal.returns-clause-tried
returns-clause-tried c = λ d.
    subst (λ (s : TxState). tied s.world.past ≡ true → IsTried s.world.past (record { ours = s.ours; unsure = s.unsure; life = s.life })) c.self.view_is c.self.invariant.tried d
