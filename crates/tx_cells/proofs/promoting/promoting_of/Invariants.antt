use Rattle.std.proofs.Common.{◌≡◌, map, take}
use Rattle.tx_cells.specs.Entering.{is_promoting_line}
use Rattle.tx_cells.proofs.promoting.promoting_of.Given as goal

abbrev pub invariant-loop-line : goal.invariant-loop-line
invariant-loop-line l = l.promoting.items ≡ map (λ x. is_promoting_line x.body) (take l.line-index l.lines)
