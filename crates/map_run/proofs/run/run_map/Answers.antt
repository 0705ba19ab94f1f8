use Rattle.std.proofs.Common.{◌∙◌, ap, subst, sym}
use Rattle.dtx_model.specs.Outcome.{is_empty}
use Rattle.coordinator_log.specs.Slots.{open_records}
use Rattle.tx_map.specs.Live.{MapState}
use Rattle.map_run.specs.Puts.{AreAllowed, with_puts}
use Rattle.map_run.proofs.Loading.{puts_allowed}
use Rattle.map_run.proofs.Runs.{is_empty_map, table_run}
use Rattle.map_run.proofs.run.run_map.Goals as goal

pub load-requires : goal.load-requires
load-requires g c =
    let P : MapState → Type 0 = λ m. AreAllowed m c.args.puts.now in
    subst P (sym (is_empty_map c.new-values.result c.new-values.ensures.base c.new-values.ensures.live)) (puts_allowed c.args.s.now c.args.puts.now c.requires.script.named c.requires.good)

pub returns-clause-table : goal.returns-clause-table
returns-clause-table g c = (
  c.in_ok-run_with.field-0,
  table_run c.args.s.now c.args.puts.now (g.D.Disk.faults c.args.log.now.disk) (g.D.Disk.faults c.run_with.new.log.disk) g.D.Disk.honest (is_empty (open_records c.args.log.now.slots)) c.in_ok-run_with.field-0 c.load.new.map c.run_with.new.object
      c.requires.script c.requires.good c.in_ok-run_with.ensures.run c.in_ok-run_with.ensures.lawful
      (c.in_ok-load.ensures ∙ ap (λ m. with_puts m c.args.puts.now) (is_empty_map c.new-values.result c.new-values.ensures.base c.new-values.ensures.live)) c.in_ok-run_with.ensures.heard,
)
