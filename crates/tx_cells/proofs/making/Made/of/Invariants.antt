use Rattle.std.proofs.Common.{◌-◌, ◌≡◌, false, slice_index_or, take}
use Rattle.dtx_values.specs.declared.number.TxNo.{TxNo}
use Rattle.dtx_model.specs.Grammar.{OfTransaction, is_made}
use Rattle.tx_cells.proofs.making.Made.of.Given as goal

abbrev pub invariant-loop-line : goal.invariant-loop-line
invariant-loop-line l = (t : TxNo) → slice_index_or l.made (t.value - 1) false ≡ is_made (take l.line-index l.lines) (OfTransaction t.value)
