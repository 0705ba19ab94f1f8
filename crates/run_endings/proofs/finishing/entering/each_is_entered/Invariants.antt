use Rattle.std.proofs.Common.{◌≡◌, true, take}
use Rattle.dtx_model.specs.Words.{each}
use Rattle.script_calls.specs.Rows.{are_entered}
use Rattle.run_endings.proofs.finishing.entering.each_is_entered.Given as goal

abbrev pub invariant-loop-state : goal.invariant-loop-state
invariant-loop-state g l = each (λ c. are_entered c.rows) (take l.state-index l.states) ≡ true
