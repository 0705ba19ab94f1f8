use Rattle.std.proofs.Common.{◌≡◌, take}
use Rattle.heard_notes.specs.Tables.{table_text}
use Rattle.put_lines.specs.Rows.{pairs_of}
use Rattle.put_lines.proofs.table.table_lines.Given as goal

abbrev pub invariant-loop-row : goal.invariant-loop-row
invariant-loop-row l = l.text.items ≡ table_text (pairs_of (take l.row-index l.rows))
