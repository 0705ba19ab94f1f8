-- What is seen of the connections of a transaction.
use Rattle.std.specs.Prelude.{ℕ, length, min, take, ◌≡◌, Bool, true, false, ◌&&◌, ◌||◌, not, List, [], ◌∷◌, ◌++◌, Option, Some, None, if◌then◌else◌}
use Rattle.std.specs.List.{flat_map}
use Rattle.dtx_values.specs.declared.message.Conn.{Conn}
use Rattle.dtx_values.specs.declared.message.Dir.{Dir}
use Rattle.dtx_values.specs.declared.message.Dir.TheVariants.{Up, Down}
use Rattle.dtx_values.specs.declared.message.Message.{Message}
use Rattle.dtx_model.specs.Words.{each}
use Rattle.dtx_model.specs.Outcome.{is_empty}
use Rattle.dtx_model.specs.Frames.{frame_of, is_valid}
use Rattle.dtx_model.specs.Wires.{same_connection}

-- one direction of a connection: the bytes on the way, and whether the side that gets them saw the connection's end
pub record Lane : Type 0 where
  pub bytes : List ℕ
  pub ended : Bool

-- a connection since it was started last: whether it is lost, and its two directions
pub record Wire : Type 0 where
  pub connection : Conn
  pub lost : Bool
  pub up : Lane
  pub down : Lane

-- the connections that were started, and how many calls of `start` and of `send` have room
pub record Traffic : Type 0 where
  pub wires : List Wire
  pub start_room : ℕ
  pub send_room : ℕ

-- the connection, where it was started
abbrev pub wire_of : Conn → List Wire → Option Wire
wire_of c [] = None
wire_of c (w ∷ ws) = if same_connection c w.connection then Some w else wire_of c ws

-- the connection in this direction
abbrev pub lane : Dir → Wire → Lane
lane Up w = w.up
lane Down w = w.down

-- the other direction
abbrev pub opposite : Dir → Dir
opposite Up = Down
opposite Down = Up

-- something is left to deliver in this direction: bytes, or the end of a lost connection that wasn't seen yet
abbrev pub is_left : Dir → Wire → Bool
is_left d w = not (is_empty (lane d w).bytes) || (w.lost && not (lane d w).ended)

-- the same, where the connection was started
abbrev pub has_left : Dir → Option Wire → Bool
has_left d (Some w) = is_left d w
has_left d None = false

-- the connection was started and isn't lost
abbrev pub is_open : Option Wire → Bool
is_open (Some w) = not w.lost
is_open None = false

-- it is open, or something is left to deliver
abbrev pub is_taken : Option Wire → Bool
is_taken o = is_open o || has_left Up o || has_left Down o

-- who sends in this direction may send: the connection was started, and this side didn't see its end
abbrev pub may_send : Dir → Option Wire → Bool
may_send d (Some w) = not (lane (opposite d) w).ended
may_send d None = false

-- a connection that was just started
abbrev pub fresh : Conn → Wire
fresh c = record { connection = c; lost = false; up = record { bytes = []; ended = false }; down = record { bytes = []; ended = false } }

-- what a stop of the coordinator leaves of a connection: it is lost, nothing is on the way upward and the coordinator sees no end of it, and downward it is as it was
abbrev pub stopped_wire : Wire → Wire
stopped_wire w = record { connection = w.connection; lost = true; up = record { bytes = []; ended = true }; down = w.down }

-- a connection that was started while the coordinator stands stopped: lost at once, with its end on the way to the local side alone
abbrev pub lost_at_once : Conn → Wire
lost_at_once c = record { connection = c; lost = true; up = record { bytes = []; ended = true }; down = record { bytes = []; ended = false } }

-- the wire with this lane in this direction
abbrev pub with_lane : Dir → Lane → Wire → Wire
with_lane Up l w = record { connection = w.connection; lost = w.lost; up = l; down = w.down }
with_lane Down l w = record { connection = w.connection; lost = w.lost; up = w.up; down = l }

-- with these bytes on the way in this direction
abbrev pub with_bytes : Dir → List ℕ → Wire → Wire
with_bytes d b w = with_lane d (record { bytes = b; ended = (lane d w).ended }) w

-- with its end seen in this direction
abbrev pub with_end : Dir → Wire → Wire
with_end d w = with_lane d (record { bytes = (lane d w).bytes; ended = true }) w

-- the bytes are the frames of these valid messages, one behind the other
pub record Spells (b : List ℕ) (ms : List Message) : Type 0 where
  pub valid : each is_valid ms ≡ true
  pub bytes : b ≡ flat_map frame_of ms

-- each connection but this one is as before
abbrev pub AreSameBut : Conn → List Wire → List Wire → Type 0
AreSameBut c old new = (x : Conn) → same_connection x c ≡ false → wire_of x new ≡ wire_of x old

-- the connection is this one now, and the others are as before
pub record Becomes (c : Conn) (w : Wire) (old new : List Wire) : Type 0 where
  pub here : wire_of c new ≡ Some w
  pub others : AreSameBut c old new

-- what a message that is sent makes of a connection: its frame comes last, or it is dropped where the connection is lost
abbrev pub sent_on : Dir → Message → Wire → Wire
sent_on d m w = if w.lost then w else with_bytes d ((lane d w).bytes ++ frame_of m) w

-- the message was the first on the way, and its frame is taken off
pub record Delivers (c : Conn) (d : Dir) (m : Message) (w : Wire) (old new : List Wire) : Type 0 where
  pub rest : List ℕ
  pub first : (lane d w).bytes ≡ frame_of m ++ rest
  pub valid : is_valid m ≡ true
  pub taken : Becomes c (with_bytes d rest w) old new

-- nothing was on the way any more, and the end of the lost connection is seen
pub record Ends (c : Conn) (d : Dir) (w : Wire) (old new : List Wire) : Type 0 where
  pub empty : (lane d w).bytes ≡ []
  pub lost : w.lost ≡ true
  pub unseen : (lane d w).ended ≡ false
  pub taken : Becomes c (with_end d w) old new

-- a connection that is lost with these messages on the way
abbrev pub lost_with : List Message → List Message → Wire → Wire
lost_with us ds w =
    record {
      connection = w.connection;
      lost = true;
      up = record { bytes = flat_map frame_of us; ended = w.up.ended };
      down = record { bytes = flat_map frame_of ds; ended = w.down.ended };
    }

-- the first so many messages of each direction are kept, and k are their numbers
pub record IsCut (c : Conn) (w : Wire) (us ds : List Message) (u n : ℕ) (k : ℕ × ℕ) (old new : List Wire) : Type 0 where
  pub up : k.0 ≡ min u (length us)
  pub down : k.1 ≡ min n (length ds)
  pub lost : Becomes c (lost_with (take u us) (take n ds) w) old new
