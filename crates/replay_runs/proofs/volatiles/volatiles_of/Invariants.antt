use Rattle.std.proofs.Common.{◌≡◌, length, take}
use Rattle.dtx_values.specs.declared.number.TheConstants.EnlNo.{MAX}
use Rattle.replay_runs.specs.Volatiles.{AreVolatiles}
use Rattle.replay_runs.proofs.volatiles.volatiles_of.Given as goal

abbrev pub invariant-loop-line : goal.invariant-loop-line
invariant-loop-line l = (length l.volatiles.items ≡ MAX) × AreVolatiles l.lines (take l.line-index l.lines) l.volatiles.items
