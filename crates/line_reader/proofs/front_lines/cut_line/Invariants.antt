use Rattle.std.proofs.Common.{◌≡◌, take}
use Rattle.dtx_model.specs.Grammar.{is_from}
use Rattle.dtx_model.specs.Words.{each}
use Rattle.line_tail.specs.Cut.{IsWithout}
use Rattle.line_reader.proofs.front_lines.cut_line.Given as goal

abbrev pub invariant-loop-i : goal.invariant-loop-i
invariant-loop-i l = record { without : IsWithout 10 (take l.i l.rest); printable : l.printable ≡ each (is_from 32 126) (take l.i l.rest) }
