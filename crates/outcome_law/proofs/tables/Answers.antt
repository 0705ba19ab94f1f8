use Rattle.dtx_model.specs.Caused.{IsCallOf}
use Rattle.script_histories.proofs.Heard.{length-rows}
use Rattle.history_table.proofs.TableRows.{each_rows}
use Rattle.script_histories.proofs.RuledRows.{each_clones}
use Rattle.history_table.proofs.Names.{script_once}
use Rattle.history_table.proofs.Steady.{free_keeps, run_steady}
use Rattle.script_histories.proofs.HalfWaves.{clone_seen, row_is_seen}
use Rattle.script_histories.proofs.HalfEvidence.{evidence_at_end}
use Rattle.script_histories.proofs.HalfHeard.{listener_heard}
use Rattle.outcome_law.proofs.TellingRuns.{ran_heard}
use Rattle.settled_histories.proofs.Timely.{run_timely}
use Rattle.outcome_law.proofs.tables.Goals as goal

pub returns-clause-enlisted : goal.returns-clause-enlisted
returns-clause-enlisted c = λ h f. each_rows f h

pub returns-clause-cloned : goal.returns-clause-cloned
returns-clause-cloned c = λ h f. each_clones f h

pub returns-clause-rows : goal.returns-clause-rows
returns-clause-rows c = λ s t h named run d k x e. row_is_seen h k x (free_keeps (IsCallOf s t) t h (script_once s t named) run d) e

pub returns-clause-clones : goal.returns-clause-clones
returns-clause-clones c = λ s t h named run d k r e. clone_seen h k r (free_keeps (IsCallOf s t) t h (script_once s t named) run d) e

pub returns-clause-evidence : goal.returns-clause-evidence
returns-clause-evidence c = λ s t h named run d p n.
    evidence_at_end h (run_steady (IsCallOf s t) t run.1.0 (record { calls = run.0; past = h }) (script_once s t named) run.1.1 d).stands p n

pub returns-clause-timed : goal.returns-clause-timed
returns-clause-timed c = λ s t h run. run_timely (IsCallOf s t) t h run

pub returns-clause-listeners : goal.returns-clause-listeners
returns-clause-listeners c = λ s t h named run d k l e.
    let keeps = free_keeps (IsCallOf s t) t h (script_once s t named) run d in
    listener_heard h k l keeps (ran_heard (IsCallOf s t) t run.1.0 (record { calls = run.0; past = h }) run.1.1 keeps) e

pub returns-clause-counted : goal.returns-clause-counted
returns-clause-counted c = length-rows
