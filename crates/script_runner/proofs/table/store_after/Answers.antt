use Rattle.std.proofs.Common.{ℕ, List, subst, sym}
use Rattle.dtx_model.specs.Outcome.{is_empty}
use Rattle.coordinator_log.specs.Slots.{open_records}
use Rattle.heard_notes.specs.declared.put.Put.{Put}
use Rattle.kv_resource.specs.Store.{open_records as records, table_of}
use Rattle.put_lines.specs.Rows.{pairs_of}
use Rattle.store_run.specs.Runs.{IsTableRun}
use Rattle.script_runner.proofs.TableRuns.{rows_of_store}
use Rattle.script_runner.proofs.table.store_after.Goals as goal

pub returns-clause-table : goal.returns-clause-table
returns-clause-table g c =
    let run = c.in_ok-store.ensures.table in
    let from = g.D.Disk.faults c.args.log.now.disk in
    let to = g.D.Disk.faults c.run_store.new.log.disk in
    rows_of_store (λ v. pairs_of v.items) c.store_rows.result c.args.manager c.args.input.now.script c.args.input.now.puts.items from to g.D.Disk.honest (open_records c.args.log.now.slots) c.table.result.now run.0 c.requires.fresh.empty
    c.store_rows.ensures
    (subst (λ (xs : List (ℕ × ℕ)). IsTableRun c.args.input.now.script c.args.manager c.args.input.now.puts.items from to g.D.Disk.honest (is_empty (open_records c.args.log.now.slots)) xs run.0) (sym c.table.ensures)
    (subst (λ (ps : List Put). IsTableRun c.args.input.now.script c.args.manager ps from to g.D.Disk.honest (is_empty (open_records c.args.log.now.slots)) (table_of (records c.in_ok-store.store.memory.slots)) run.0) c.deref.ensures.value run.1))
