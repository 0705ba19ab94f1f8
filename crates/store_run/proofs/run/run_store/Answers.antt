use Rattle.std.proofs.Common.{true}
use Rattle.outside.specs.Images.{IsOneOf}
use Rattle.outside.proofs.Rising.{rose_never}
use Rattle.dtx_model.specs.Outcome.{is_empty}
use Rattle.coordinator_log.specs.Slots.{open_records}
use Rattle.store_run.proofs.Runs.{table_run}
use Rattle.store_run.proofs.Start.{good_puts}
use Rattle.store_run.proofs.run.run_store.Goals as goal

pub load-requires : goal.load-requires
load-requires g c = (good_puts c.args.s.now c.args.r c.args.puts.now c.in_ok-store.store c.requires.script.named c.in_ok-store.ensures c.requires.good).0

pub returns-clause-table : goal.returns-clause-table
returns-clause-table g c = (
  c.in_ok-run_with.field-0,
  table_run c.args.s.now c.args.r c.args.puts.now (g.D.Disk.faults c.args.log.now.disk) (g.D.Disk.faults c.run_with.new.log.disk) g.D.Disk.honest (is_empty (open_records c.args.log.now.slots)) c.in_ok-run_with.field-0
      true IsOneOf (λ d. 0) (λ x y. rose_never) c.in_ok-store.store c.load.new.store c.run_with.new.object c.in_ok-store.ensures c.requires.script c.requires.good
      c.in_ok-run_with.ensures.run c.in_ok-run_with.ensures.lawful c.in_ok-load.ensures c.in_ok-run_with.ensures.heard,
)
