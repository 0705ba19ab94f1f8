use Rattle.std.proofs.Common.{List, map, subst, sym}
use Rattle.dtx_model.specs.Outcome.{is_empty}
use Rattle.coordinator_log.specs.Slots.{open_records}
use Rattle.heard_notes.specs.declared.put.Put.{Put}
use Rattle.map_run.specs.Rows.{row_of}
use Rattle.map_run.specs.Runs.{IsTableRun}
use Rattle.put_lines.specs.Rows.{pairs_of}
use Rattle.tx_map.specs.declared.write.MapEntry.{MapEntry}
use Rattle.script_runner.proofs.TableRuns.{rows_of_map}
use Rattle.script_runner.proofs.table.map_after.Goals as goal

pub returns-clause-table : goal.returns-clause-table
returns-clause-table g c =
    let run = c.in_ok-map.ensures.table in
    let from = g.D.Disk.faults c.args.log.now.disk in
    let to = g.D.Disk.faults c.run_map.new.log.disk in
    rows_of_map (λ v. pairs_of v.items) c.map_rows.result c.args.input.now.script c.args.input.now.puts.items from to g.D.Disk.honest (open_records c.args.log.now.slots) (map row_of c.entries.result.now) run.0 c.requires.fresh.empty
    c.map_rows.ensures
    (subst (λ (xs : List MapEntry). IsTableRun c.args.input.now.script c.args.input.now.puts.items from to g.D.Disk.honest (is_empty (open_records c.args.log.now.slots)) (map row_of xs) run.0) (sym c.entries.ensures.entries)
    (subst (λ (ps : List Put). IsTableRun c.args.input.now.script ps from to g.D.Disk.honest (is_empty (open_records c.args.log.now.slots)) (map row_of c.in_ok-map.map.base) run.0) c.deref.ensures.value run.1))
