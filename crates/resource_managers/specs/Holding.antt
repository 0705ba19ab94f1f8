-- What a resource manager holds, and what finishing it makes of that.
use Rattle.std.specs.Prelude.{ℕ, ◌==◌, Bool, true, false, ◌&&◌, not, List, [], ◌∷◌, find, map, Option, Some, None, if◌then◌else◌}
use Rattle.std.specs.Option.{option_map}
use Rattle.resource_managers.specs.declared.held.Held.{Held}
use Rattle.resource_managers.specs.Pairs.{Pair, pair_of}

-- what is held of an enlistment: its transaction's number for good, and its own; whether it is marked as committed; and whether a call of this process prepared it
pub record Holding : Type 0 where
  pub number : ℕ
  pub enlistment : ℕ
  pub marked : Bool
  pub here : Bool

abbrev pub holding_of : Held → Holding
holding_of h = record { number = (pair_of h.enlistment).0; enlistment = (pair_of h.enlistment).1; marked = h.marked; here = h.prepared_here }

abbrev pub pair_held : Holding → Pair
pair_held h = (h.number, h.enlistment)

-- it is in doubt: it isn't marked, and no call of this process prepared it
abbrev pub is_in_doubt : Holding → Bool
is_in_doubt h = not h.marked && not h.here

-- the pair of the first that is in doubt
abbrev pub first_in_doubt : List Holding → Option Pair
first_in_doubt hs = option_map pair_held (find is_in_doubt hs)

-- it is in doubt, of this pair
abbrev pub is_doubt_of : Pair → Holding → Bool
is_doubt_of p h = is_in_doubt h && ((p.0 == h.number) && (p.1 == h.enlistment))

abbrev pub with_mark : Holding → Holding
with_mark h = record { number = h.number; enlistment = h.enlistment; marked = true; here = h.here }

-- what is held after the first that is in doubt of a pair was finished: it is marked, or it is gone
abbrev pub finished : Bool → Pair → List Holding → List Holding
finished commit p [] = []
finished commit p (h ∷ hs) = if is_doubt_of p h then (if commit then with_mark h ∷ hs else hs) else h ∷ finished commit p hs

-- the same, as a later process finds it, which prepared nothing
abbrev pub found_one : Holding → Holding
found_one h = record { number = h.number; enlistment = h.enlistment; marked = h.marked; here = false }

abbrev pub as_found : List Holding → List Holding
as_found hs = map found_one hs
