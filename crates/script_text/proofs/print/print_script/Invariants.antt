use Rattle.std.proofs.Common.{◌≡◌, take}
use Rattle.dtx_model.specs.Grammar.{script_text}
use Rattle.script_text.proofs.print.print_script.Given as goal

abbrev pub invariant-loop-l : goal.invariant-loop-l
invariant-loop-l l = l.text.items ≡ script_text (take l.l-index l.lines)
