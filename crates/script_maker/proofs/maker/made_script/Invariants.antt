use Rattle.std.proofs.Common.{◌≡◌, ◌++◌}
use Rattle.dtx_model.specs.Grammar.{script_text}
use Rattle.script_maker.specs.Gen.{begin_line, par_line, up_to, work_lines}
use Rattle.script_maker.proofs.maker.made_script.Given as goal

abbrev pub invariant-loop-done : goal.invariant-loop-done
invariant-loop-done l = script_text l.lines.items ≡ up_to begin_line l.done

abbrev pub invariant-loop-done-2 : goal.invariant-loop-done-2
invariant-loop-done-2 l = script_text l.lines.items ≡ up_to begin_line l.n ++ par_line ++ up_to work_lines l.done
