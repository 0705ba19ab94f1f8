-- What calls make, as the code names it, and which call makes it.
use Rattle.std.specs.Prelude.{◌==◌, Bool, false, Option, Some, None}
use Rattle.dtx_values.specs.declared.call.Call.{Call}
use Rattle.dtx_model.specs.Caused.{made_by}
use Rattle.dtx_model.specs.Grammar.{Name, OfEnlistment, OfClone}
use Rattle.world_parts.specs.declared.names.Made.{Made}
use Rattle.world_parts.specs.declared.names.Made.TheVariants.{Enlistment, Clone}

-- the call makes this name
abbrev pub is_name : Name → Option Name → Bool
is_name (OfEnlistment e) (Some (OfEnlistment f)) = e == f
is_name (OfClone c) (Some (OfClone d)) = c == d
is_name _ _ = false

abbrev pub is_maker : Option Name → Call → Bool
is_maker (Some x) c = is_name x (made_by c)
is_maker None c = false

-- the name
abbrev pub named : Option Made → Option Name
named (Some (Enlistment e)) = Some (OfEnlistment e.value)
named (Some (Clone c)) = Some (OfClone c.value)
named None = None

-- both are the same enlistment, or the same clone
abbrev pub are_same : Option Made → Option Made → Bool
are_same (Some (Enlistment e)) (Some (Enlistment f)) = e.value == f.value
are_same (Some (Clone c)) (Some (Clone d)) = c.value == d.value
are_same _ _ = false
