use Rattle.dtx_model.specs.Caused.{IsCallOf}
use Rattle.dtx_model.specs.World.{World}
use Rattle.script_histories.proofs.Appending.{abort_unlogged, append_ready}
use Rattle.settled_histories.proofs.Barred.{abort_barred, ran_shut}
use Rattle.history_table.proofs.Names.{script_once}
use Rattle.history_table.proofs.Steady.{free_keeps}
use Rattle.outcome_law.proofs.appends.Goals as goal

pub returns-clause-unlogged : goal.returns-clause-unlogged
returns-clause-unlogged c = λ s t h named r d. abort_unlogged h (free_keeps (IsCallOf s t) t h (script_once s t named) r d)

pub returns-clause-barred : goal.returns-clause-barred
returns-clause-barred c = λ s t h named r d.
    let w : World = record { calls = r.0; past = h } in
    let keeps = free_keeps (IsCallOf s t) t h (script_once s t named) r d in
    abort_barred h keeps (ran_shut (IsCallOf s t) t r.1.0 w r.1.1 keeps)

pub returns-clause-backed : goal.returns-clause-backed
returns-clause-backed c = λ s t h named r d. append_ready h (free_keeps (IsCallOf s t) t h (script_once s t named) r d)
