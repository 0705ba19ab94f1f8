use Rattle.std.proofs.Common.{arith}
use Rattle.std.proofs.Common.{◌∷◌}
use Rattle.dtx_model.specs.World.{World}
use Rattle.dtx_model.specs.Words.{onto}
use Rattle.dtx_model.specs.Caused.{IsCallOf}
use Rattle.history_table.proofs.Names.{script_once}
use Rattle.history_table.proofs.Handing.{keeps_within}
use Rattle.history_table.proofs.Steady.{free_keeps}
use Rattle.world_laws.proofs.Places.{in_one_place, right_moves, right_placed}
use Rattle.world_laws.proofs.laws.rights.Goals as goal

pub returns-clause-placed : goal.returns-clause-placed
returns-clause-placed c = λ s t h named r.
    let w : World = record { calls = r.0; past = h } in right_placed (IsCallOf s t.value) t.value r.1.0 w t.in_range.0 (let high = t.in_range.1 in omega (arith, high)) (script_once s t.value named) r.1.1

pub returns-clause-one : goal.returns-clause-one
returns-clause-one c = λ s t h named r d. in_one_place h (free_keeps (IsCallOf s t) t h (script_once s t named) r d)

pub returns-clause-moves : goal.returns-clause-moves
returns-clause-moves c = λ s t past es x named r d.
    right_moves x past (keeps_within (x ∷ past) es (free_keeps (IsCallOf s t) t (onto past (x ∷ es)) (script_once s t named) r d))
