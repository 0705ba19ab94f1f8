use Rattle.std.proofs.Common.{◌≡◌, take}
use Rattle.put_lines.specs.Rows.{pairs_of}
use Rattle.script_runner.proofs.table.store_rows.Given as goal

abbrev pub invariant-loop-x : goal.invariant-loop-x
invariant-loop-x l = pairs_of l.rows.items ≡ take l.x-index l.pairs
