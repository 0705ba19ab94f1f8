-- What the connections between the two sides carry: in each opening of a connection, and in each direction, what is got is what was sent, in
-- order, up to what a loss keeps.
use Rattle.std.specs.Prelude.{ℕ, ◌≡◌, Bool, true, false, ◌&&◌, ◌||◌, not, List, [], ◌∷◌, ◌++◌, take, Option, Some, None, if◌then◌else◌}
use Rattle.dtx_values.specs.declared.entry.Entry.{Entry}
use Rattle.dtx_values.specs.declared.entry.Entry.TheVariants.{Sent, Got, Cut, Down as End, Stopped, Restarted}
use Rattle.dtx_values.specs.declared.message.Conn.{Conn}
use Rattle.dtx_values.specs.declared.message.Dir.{Dir}
use Rattle.dtx_values.specs.declared.message.Dir.TheVariants.{Up, Down}
use Rattle.dtx_values.specs.declared.message.Message.{Message}
pub use Rattle.dtx_values.specs.Lines.{is_opening}
pub use Rattle.dtx_values.specs.Ends.{same_connection, same_direction}
use Rattle.dtx_model.specs.Words.{holds, latest}
use Rattle.dtx_model.specs.Outcome.{is_empty}
use Rattle.dtx_values.specs.Lines.{has_line}

-- the entry opens this connection
abbrev pub opens : Conn → Entry → Bool
opens c (Sent d Up m) = same_connection c d && is_opening d m
opens c _ = false

-- whether the coordinator stands stopped, where the entry says so
abbrev pub stop_of : Entry → Option Bool
stop_of Stopped = Some true
stop_of (Restarted found) = Some false
stop_of _ = None

-- the coordinator stands stopped: the last of `stopped` and `restarted` is `stopped`
abbrev pub is_stopped : List Entry → Bool
is_stopped h = holds (latest stop_of h)

-- the entry loses each connection, or this one: a cut, a stop, or a message that has no line
abbrev pub loses : Conn → Entry → Bool
loses c Stopped = true
loses c (Cut d u w) = same_connection c d
loses c (Got d r m) = same_connection c d && not (has_line d r m)
loses c _ = false

-- whether the connection is lost since it was opened; none before it was opened. What is opened while the coordinator stands stopped is lost at once.
abbrev pub lost_after : Conn → List Entry → Entry → Option Bool → Option Bool
lost_after c past x None = if opens c x then Some (is_stopped past) else None
lost_after c past x (Some lost) = if opens c x then Some (is_stopped past) else Some (lost || loses c x)

-- the same after a history
abbrev pub lost_since : Conn → List Entry → Option Bool
lost_since c [] = None
lost_since c (x ∷ past) = lost_after c past x (lost_since c past)

-- the connection was opened, and is lost since
abbrev pub is_lost_wire : Conn → List Entry → Bool
is_lost_wire c h = holds (lost_since c h)

abbrev pub is_kept : Option Bool → Bool
is_kept (Some lost) = not lost
is_kept None = false

-- the connection was opened, and isn't lost
abbrev pub is_open_wire : Conn → List Entry → Bool
is_open_wire c h = is_kept (lost_since c h)

-- how many messages a cut keeps in this direction
abbrev pub kept : Dir → ℕ → ℕ → ℕ
kept Up u w = u
kept Down u w = w

-- an opening begins with its own message, unless it is lost at once
abbrev pub opened_with : Dir → Message → Bool → List Message
opened_with Up m stopped = if stopped then [] else m ∷ []
opened_with Down m stopped = []

abbrev pub without_first : List Message → List Message
without_first [] = []
without_first (m ∷ ms) = ms

-- what a message that is sent leaves on the way: it comes last, where the connection is open; else it is dropped
abbrev pub sent_behind : Bool → Message → List Message → List Message
sent_behind is_open m ms = if is_open then ms ++ m ∷ [] else ms

-- what a stop leaves on the way: nothing upward, and all downward
abbrev pub transit_after_stop : Dir → List Message → List Message
transit_after_stop Up ms = []
transit_after_stop Down ms = ms

-- what is on the way on connection c in direction d after the entry, where this was on the way before it
abbrev pub transit_after : Conn → Dir → List Entry → Entry → List Message → List Message
transit_after c d past (Sent e r m) ms =
    if opens c (Sent e r m) then opened_with d m (is_stopped past) else if same_connection c e && same_direction d r then sent_behind (is_open_wire c past) m ms else ms
transit_after c d past (Got e r m) ms =
    if not (same_connection c e) then ms else if not (has_line e r m) then [] else if same_direction d r then without_first ms else ms
transit_after c d past (Cut e u w) ms = if same_connection c e then take (kept d u w) ms else ms
transit_after c d past Stopped ms = transit_after_stop d ms
transit_after c d past _ ms = ms

-- the messages that are on the way on connection c in direction d, the first to come first
abbrev pub in_transit : Conn → Dir → List Entry → List Message
in_transit c d [] = []
in_transit c d (x ∷ past) = transit_after c d past x (in_transit c d past)

-- this side saw the connection's end since it was opened: by `down`, or by a message that has no line; after a stop the coordinator sees none any more
abbrev pub ends : Conn → Dir → Entry → Bool
ends c d (End e r) = same_connection c e && same_direction d r
ends c d (Got e r m) = same_connection c e && same_direction d r && not (has_line e r m)
ends c Up Stopped = true
ends c d _ = false

-- an opening begins with no end seen; of one while the coordinator stands stopped the coordinator never sees one
abbrev pub begins_ended : Dir → List Entry → Bool
begins_ended Up past = is_stopped past
begins_ended Down past = false

abbrev pub ended_after : Bool → Bool → Bool → Bool
ended_after opened begins ended = if opened then begins else ended

-- this side saw the end of the connection since it was opened, or never sees one
abbrev pub is_ended : Conn → Dir → List Entry → Bool
is_ended c d [] = false
is_ended c d (x ∷ past) = ended_after (opens c x) (begins_ended d past) (ends c d x || is_ended c d past)

-- the message is the next on the way
abbrev pub is_next : Message → List Message → Type 0
is_next m [] = ⊥
is_next m (n ∷ ms) = m ≡ n

-- what is got is the next on the way, and the end of a lost connection comes once, when nothing is on the way to that side
abbrev pub MayCross : List Entry → Entry → Type 0
MayCross past (Got c d m) = is_next m (in_transit c d past)
MayCross past (End c d) = (is_lost_wire c past && is_empty (in_transit c d past) && not (is_ended c d past)) ≡ true
MayCross past _ = Unit {0}

-- WireRun
abbrev pub WireRun : List Entry → Type 0
WireRun [] = Unit {0}
WireRun (x ∷ past) = MayCross past x × WireRun past
