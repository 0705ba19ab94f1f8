-- Sets of names.
use Rattle.std.specs.Prelude.{ℕ, Bool, false, slice_index_or}
use Rattle.trace_checker.specs.declared.names.Names.{Names}

-- the set has this name
abbrev pub has_name : ℕ → Names → Bool
has_name n s = slice_index_or s.there.items n false
