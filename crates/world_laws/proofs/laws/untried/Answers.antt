use Rattle.std.proofs.Common.{arith}
use Rattle.dtx_model.specs.World.{World}
use Rattle.dtx_model.specs.Caused.{IsCallOf}
use Rattle.history_table.proofs.Names.{script_once}
use Rattle.history_table.proofs.Steady.{free_keeps}
use Rattle.world_laws.proofs.Sendable.{id_valid, ran_ends}
use Rattle.world_laws.proofs.LateAborts.{abort_untried}
use Rattle.world_laws.proofs.laws.untried.Goals as goal

pub returns : goal.returns
returns c = λ s t h named r d.
    let once = script_once s t.value named in
    let w : World = record { calls = r.0; past = h } in
    abort_untried h (free_keeps (IsCallOf s t.value) t.value h once r d) (ran_ends (IsCallOf s t.value) t.value r.1.0 w (id_valid t.value t.in_range.0 (omega (arith, t.in_range.1))) once r.1.1).sendable
