use Rattle.std.proofs.Common.{◌≡◌, ◌++◌, List, take}
use Rattle.std.specs.List.{flat_map}
use Rattle.dtx_values.specs.declared.script.Line.{Line}
use Rattle.dtx_model.specs.Words.{past_of}
use Rattle.script_calls.specs.Managers.{AreManagers}
use Rattle.outcome_reasons.specs.Owed.{is_owed, owes_if}
use Rattle.outcome_reasons.proofs.owed.add_owed.Given as goal

abbrev pub invariant-loop-e : goal.invariant-loop-e
invariant-loop-e l = (s : List Line) → AreManagers s s l.managers → l.said.items ≡ l.fn.said.items ++ flat_map (λ e. owes_if (is_owed s (past_of l.h) e) e) (take l.e-index l.e-items)
