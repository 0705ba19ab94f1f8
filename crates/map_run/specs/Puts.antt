-- A map after puts.
use Rattle.std.specs.Prelude.{◌≡◌, List, [], ◌∷◌, Some, None}
use Rattle.heard_notes.specs.declared.put.Put.{Put}
use Rattle.tx_map.specs.Live.{MapState, Pair}
use Rattle.tx_map.specs.Puts.{after_put, put_refusal}

-- the pair whose put it is
abbrev pub pair_of : Put → Pair
pair_of p = (p.transaction, p.enlistment)

-- the map with a put, and with these, in order of lines
abbrev pub with_put : MapState → Put → MapState
with_put m p = after_put (pair_of p) p.key (Some p.value) m

abbrev pub with_puts : MapState → List Put → MapState
with_puts m [] = m
with_puts m (p ∷ ps) = with_puts (with_put m p) ps

-- none of them is refused, where its turn comes
abbrev pub AreAllowed : MapState → List Put → Type 0
AreAllowed m [] = Unit {0}
AreAllowed m (p ∷ ps) = (put_refusal (pair_of p) p.key m.live ≡ None) × AreAllowed (with_put m p) ps

-- a map before any
abbrev pub empty : MapState
empty = record { base = []; live = [] }
