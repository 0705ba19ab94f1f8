-- What is on the way in one direction.
use Rattle.std.specs.Prelude.{◌≡◌, ℕ, Bool, true, ◌==◌, List, [], Option, Some, None, if◌then◌else◌, slice_get, slice_index_or}
use Rattle.dtx_values.specs.declared.message.Message.{Message}
use Rattle.trace_checker.specs.declared.ways.Way.{Way}
use Rattle.trace_checker.specs.declared.ways.Ways.{Ways}

abbrev pub messages_on : Option Way → List Message
messages_on (Some w) = w.messages.items
messages_on None = []

abbrev pub is_end_on : Option Way → Bool
is_end_on (Some w) = w.ended
is_end_on None = true

-- the row, if it is way k's
abbrev pub if_of : ℕ → Option Way → Option Way
if_of k (Some w) = if w.number == k then Some w else None
if_of k None = None

-- way k's row stands at the place that the table has for k, if it is there at all
abbrev pub place_of : ℕ → Ways → ℕ
place_of k ws = slice_index_or ws.places.items k 0

abbrev pub way : ℕ → Ways → Option Way
way k ws = if_of k (slice_get ws.rows.items (place_of k ws))

-- what is on way k, the first to come first
abbrev pub messages : ℕ → Ways → List Message
messages k ws = messages_on (way k ws)

-- the end of way k was seen, or never comes
abbrev pub is_way_ended : ℕ → Ways → Bool
is_way_ended k ws = is_end_on (way k ws)

-- way k has these messages now, and its end was seen or not; the others stay
pub record ChangesWay (k : ℕ) (ms : List Message) (seen : Bool) (old new : Ways) : Type 0 where
  pub messages : (q : ℕ) → messages q new ≡ (if q == k then ms else messages q old)
  pub ended : (q : ℕ) → is_way_ended q new ≡ (if q == k then seen else is_way_ended q old)

-- way k's row stands there
pub record IsPlaceOf (k p : ℕ) (ws : Ways) : Type 0 where
  pub place : p ≡ place_of k ws
  pub row : Way
  pub there : slice_get ws.rows.items p ≡ Some row
  pub number : row.number ≡ k

-- on each way is what was on it
pub record AreSame (old new : Ways) : Type 0 where
  pub messages : (q : ℕ) → messages q new ≡ messages q old
  pub ended : (q : ℕ) → is_way_ended q new ≡ is_way_ended q old
