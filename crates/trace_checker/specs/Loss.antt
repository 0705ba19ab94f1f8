-- What a history keeps, and what it loses with its newest entry.
use Rattle.std.specs.Prelude.{◌≡◌, true, false, List, Option, Some, None}
use Rattle.dtx_values.specs.declared.entry.Entry.{Entry}
use Rattle.dtx_model.specs.Outcome.{agree, justified}
use Rattle.dtx_model.specs.Wires.{WireRun}
use Rattle.trace_checker.specs.declared.checked.Why.{Why}
use Rattle.trace_checker.specs.declared.checked.Why.TheVariants.{Justified, Agree, Wire}

-- the history keeps all three
pub record IsKept (h : List Entry) : Type 0 where
  pub just : justified h ≡ true
  pub agrees : agree h ≡ true
  pub wires : WireRun h

-- the first of the three that the history loses, if it loses one
abbrev pub IsLossOf : List Entry → Option Why → Type 0
IsLossOf h None = IsKept h
IsLossOf h (Some Justified) = justified h ≡ false
IsLossOf h (Some Agree) = (justified h ≡ true) × (agree h ≡ false)
IsLossOf h (Some Wire) = (justified h ≡ true) × (agree h ≡ true) × (WireRun h → ⊥)
