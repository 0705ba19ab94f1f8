use Rattle.std.proofs.Common.{◌≡◌, length, take}
use Rattle.dtx_values.specs.declared.number.TheConstants.EnlNo.{MAX}
use Rattle.script_calls.specs.Managers.{AreManagers}
use Rattle.script_calls.proofs.managers.managers_of.Given as goal

abbrev pub invariant-loop-line : goal.invariant-loop-line
invariant-loop-line l = (length l.managers.items ≡ MAX) × AreManagers l.lines (take l.line-index l.lines) l.managers.items
