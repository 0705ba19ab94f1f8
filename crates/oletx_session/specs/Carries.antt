-- The connections after a history: the bytes on the way are the frames of what the history says is on the way.
use Rattle.std.specs.Prelude.{◌≡◌, false, List, Option, Some, None}
use Rattle.dtx_values.specs.declared.entry.Entry.{Entry}
use Rattle.dtx_values.specs.declared.message.Conn.{Conn}
use Rattle.dtx_values.specs.declared.message.Dir.{Dir}
use Rattle.dtx_model.specs.Wires.{is_ended, in_transit, lost_since, same_connection}
use Rattle.oletx_session.specs.Traffic.{Spells, Wire, fresh, lane, lost_at_once, wire_of}

-- the bytes on the way in this direction are the frames of what is in transit, and whether the end was seen is what the history says
pub record IsLane (c : Conn) (d : Dir) (w : Wire) (h : List Entry) : Type 0 where
  pub queue : Spells (lane d w).bytes (in_transit c d h)
  pub ended : (lane d w).ended ≡ is_ended c d h

-- a connection that was started stands as the history says, and one that wasn't was never opened
abbrev pub IsWire : Conn → Option Wire → List Entry → Type 0
IsWire c (Some w) h = (lost_since c h ≡ Some w.lost) × ((d : Dir) → IsLane c d w h)
IsWire c None h = lost_since c h ≡ None

-- each connection stands as the history says
abbrev pub Carries : List Wire → List Entry → Type 0
Carries ws h = (c : Conn) → IsWire c (wire_of c ws) h

-- this connection was just started, and the others stand as the history says
pub record IsStarted (c : Conn) (ws : List Wire) (h : List Entry) : Type 0 where
  pub here : wire_of c ws ≡ Some (fresh c)
  pub others : (x : Conn) → same_connection x c ≡ false → IsWire x (wire_of x ws) h

-- the same of a connection that was started while the coordinator stands stopped
pub record IsStartedLost (c : Conn) (ws : List Wire) (h : List Entry) : Type 0 where
  pub here : wire_of c ws ≡ Some (lost_at_once c)
  pub others : (x : Conn) → same_connection x c ≡ false → IsWire x (wire_of x ws) h
