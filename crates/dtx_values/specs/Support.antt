-- What a durable enlistment supports.
use Rattle.std.specs.Prelude.{Bool, true, false}
use Rattle.dtx_values.specs.declared.script.Support.{Support}
use Rattle.dtx_values.specs.declared.script.Support.TheVariants.{SinglePhase, TwoPhase}

-- the durable can own the commit
abbrev pub is_single : Support → Bool
is_single (SinglePhase v o) = true
is_single (TwoPhase v) = false
