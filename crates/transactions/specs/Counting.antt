-- The numbers that a transaction gives to its calls, its enlistments and its clones.
use Rattle.std.specs.Prelude.{ℕ, Bool, true, false, ◌&&◌, nat_le, Option, Some}
use Rattle.dtx_values.specs.declared.call.Call.{Call}
use Rattle.dtx_values.specs.declared.call.Call.TheVariants.{Await, Do, Recovered}
use Rattle.dtx_model.specs.declared.waiting.EnteredCall.{EnteredCall}
use Rattle.dtx_model.specs.Caused.{made_by}
use Rattle.dtx_model.specs.Grammar.{Name, OfEnlistment, OfClone}

-- this name was given, where so many enlistments and clones were numbered
abbrev pub is_given : ℕ → ℕ → Option Name → Bool
is_given enlisted cloned (Some (OfEnlistment e)) = nat_le e enlisted
is_given enlisted cloned (Some (OfClone c)) = nat_le c cloned
is_given enlisted cloned _ = true

-- the line of this call was given, and what it makes was numbered
abbrev pub is_counted : ℕ → ℕ → ℕ → EnteredCall → Bool
is_counted lines enlisted cloned k = nat_le k.line lines && is_given enlisted cloned (made_by k.call)

-- the call does no steps of its own before it is entered, and is none of a manager that comes back: it is no `do`, no `await`, and says of none that it has recovered
abbrev pub is_plain : Call → Bool
is_plain (Do t k n) = false
is_plain (Await t) = false
is_plain (Recovered t r) = false
is_plain _ = true
