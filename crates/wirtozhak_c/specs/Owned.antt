-- What a handle owns: what it says of its value, or nothing where it has none.
use Rattle.std.specs.Prelude.{Option, Some, None}
use base.Fml.{Fml, ftrue}
use mir.Syntax.{Ty}
use denote.RawPtr.{Ptr}
use Rattle.std.specs.contracts.impls.GlobalAllocator.TheImpl.{ghosts}

abbrev pub owned_if : {A : Type 0} → (A → Fml) → Option A → Fml
owned_if owns (Some x) = owns x
owned_if owns None = ftrue

-- The right to free a block. Each `Global` has the same.
abbrev pub global_token : Ty → Ptr → Fml
global_token = ghosts.dealloc_token (record { memory = record { seal = tt } })
