-- A trace: entries with their places. It is read newest first here.
use Rattle.std.specs.Prelude.{ℕ, ◌==◌, Bool, false, List, [], ◌∷◌, map, Option, Some, None, if◌then◌else◌}
use Rattle.dtx_values.specs.declared.number.TxNo.{TxNo}
use Rattle.dtx_values.specs.declared.number.ActorNo.{ActorNo}
use Rattle.dtx_values.specs.declared.entry.Entry.{Entry}
use Rattle.dtx_values.specs.declared.entry.Entry.TheVariants.{Called}
use Rattle.dtx_values.specs.declared.trace.Place.{Place}
use Rattle.dtx_values.specs.declared.trace.Place.TheVariants.{Context, Transaction}
use Rattle.dtx_model.specs.Words.{all_of}

-- a trace: entries with their places
abbrev pub Placed : Type 0
Placed = Place × Entry

abbrev pub is_at : ℕ → Place → Bool
is_at t (Transaction u) = t == u.value
is_at t _ = false

abbrev pub is_context : ℕ → Place → Bool
is_context a (Context b) = a == b.value
is_context a _ = false

-- the entries of the trace at the places that pass
abbrev pub entries_at : (Place → Bool) → List Placed → List Entry
entries_at p [] = []
entries_at p (x ∷ past) = if p x.0 then x.1 ∷ entries_at p past else entries_at p past

-- the history of transaction t: the entries of the trace at t
abbrev pub history : ℕ → List Placed → List Entry
history t T = entries_at (is_at t) T

-- the entries of the trace at actor a's context
abbrev pub at_context : ℕ → List Placed → List Entry
at_context a T = entries_at (is_context a) T

-- a block of entries at a transaction
abbrev pub placed : TxNo → List Entry → List Placed
placed t es = map (λ e. (Transaction t, e)) es

-- a block of entries at an actor's context
abbrev pub noted : ActorNo → List Entry → List Placed
noted a es = map (λ e. (Context a, e)) es

-- the calls of a trace: the place, the line and the actor of each
abbrev pub called_of : Placed → Option (Place × ℕ × ActorNo)
called_of (p, Called n a x) = Some (p, n, a)
called_of _ = None

abbrev pub calls : List Placed → List (Place × ℕ × ActorNo)
calls T = all_of called_of T
