use Rattle.std.proofs.Common.{◌≡◌, map, take}
use Rattle.map_run.specs.Rows.{row_of}
use Rattle.put_lines.specs.Rows.{pairs_of}
use Rattle.script_runner.proofs.table.map_rows.Given as goal

abbrev pub invariant-loop-x : goal.invariant-loop-x
invariant-loop-x l = pairs_of l.rows.items ≡ map row_of (take l.x-index l.entries)
