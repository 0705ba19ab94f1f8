use Rattle.std.proofs.Common.{take}
use Rattle.script_calls.specs.Plans.{ArePlanned}
use Rattle.script_calls.proofs.plans.Plans.new.Given as goal

abbrev pub invariant-loop-line : goal.invariant-loop-line
invariant-loop-line l = ArePlanned (take l.line-index l.lines) l.enlistments.items l.clones.items
