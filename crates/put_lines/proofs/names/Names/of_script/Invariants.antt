use Rattle.std.proofs.Common.{take}
use Rattle.heard_notes.specs.Whose.{whose}
use Rattle.put_lines.proofs.NameTables.{AreTabled}
use Rattle.put_lines.proofs.names.Names.of_script.Given as goal

abbrev pub invariant-loop-line : goal.invariant-loop-line
invariant-loop-line l = AreTabled (take l.line-index l.lines) (whose l.of) l.transactions.items l.enlistments.items
