use Rattle.std.proofs.Common.{◌≡◌, List, sym, subst}
use Rattle.dtx_values.specs.declared.call.Call.{Call}
use Rattle.script_calls.specs.SeenRow.{SeenRow}
use Rattle.tx_cells.specs.Cell.{IsKept}
use Rattle.tx_cells.proofs.Kept.{kept_made, made_untouched}
use Rattle.tx_cells.proofs.cell.CellState.new.Goals as goal

-- src/cell.rt
pub invariant_of-result-2 : goal.invariant_of-result-2
invariant_of-result-2 g c =
    subst (λ (rows : List (SeenRow Call)). (c.args.t ≡ c.in_ok-new.field-0.transaction.t) × IsKept g.N.Run.script g.N.Run.objects g.N.Run.honest c.in_ok-new.field-0 rows) (sym c.rows.view_is)
    (kept_made g.N.Run.script g.N.Run.objects g.N.Run.honest c.in_ok-new.field-0 c.args.t c.args.rows (made_untouched c.in_ok-new.field-0 c.first.result c.args.t c.in_ok-new.ensures.blank c.first.ensures) c.requires.script c.requires.named c.requires.rows)

-- src/cell.rt
pub returns-clause-blank : goal.returns-clause-blank
returns-clause-blank g c =
    let fresh = made_untouched c.in_ok-new.field-0 c.first.result c.args.t c.in_ok-new.ensures.blank c.first.ensures in
    λ i. record { tx = fresh i; rows = c.rows.view_is i; out = c.new-2.ensures.items i }
