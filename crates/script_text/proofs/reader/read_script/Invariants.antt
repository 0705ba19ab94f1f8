use Rattle.std.proofs.Common.{◌≡◌, ◌++◌, length}
use Rattle.dtx_model.specs.Grammar.{script_text, IsScript}
use Rattle.script_text.proofs.reader.read_script.Given as goal

abbrev pub invariant-loop-rest : goal.invariant-loop-rest
invariant-loop-rest l = record {
  bytes : l.bytes ≡ script_text l.draft ++ l.rest;
  script : IsScript l.draft;
}

abbrev pub decreases-loop-rest : goal.decreases-loop-rest
decreases-loop-rest l = length l.rest
