use Rattle.std.proofs.Common.{◌≡◌, filter, length, map}
use Rattle.std.specs.List.{range_with_len}
use Rattle.dtx_model.specs.Grammar.{OfTransaction, is_made}
use Rattle.tx_cells.proofs.cells.cells_of.Given as goal

abbrev pub invariant-loop-rows : goal.invariant-loop-rows
invariant-loop-rows g l = record {
  counted : l.n ≡ length l.yielded;
  made : map (λ x. x.transaction.value) l.cells.items ≡ filter (λ n. is_made l.s (OfTransaction n)) (range_with_len 1 l.n);
}
