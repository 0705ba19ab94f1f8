use Rattle.std.proofs.Common.{◌≡◌, ◌≤◌, ◌+◌, ◌++◌, length}
use Rattle.dtx_values.specs.declared.limits.TheConstants.{SCRIPT_BYTES}
use Rattle.dtx_model.specs.Grammar.{script_text, IsScript}
use Rattle.put_lines.proofs.bodies.read_body.Given as goal

abbrev pub invariant-loop-rest : goal.invariant-loop-rest
invariant-loop-rest l = record {
  bytes : l.bytes ≡ script_text l.draft ++ l.rest;
  script : IsScript l.draft;
  within : l.taken + length (script_text l.draft) ≤ SCRIPT_BYTES;
}

abbrev pub decreases-loop-rest : goal.decreases-loop-rest
decreases-loop-rest l = length l.rest
