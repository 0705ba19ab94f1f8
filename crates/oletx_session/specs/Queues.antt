-- The pieces on the way, and what is seen of them.
use Rattle.std.specs.Prelude.{◌≡◌, ℕ, Bool, true, false, ◌&&◌, not, List, [], map, filter, take, Option, Some, None}
use Rattle.std.specs.List.{find, flat_map}
use Rattle.dtx_values.specs.declared.message.Conn.{Conn}
use Rattle.dtx_values.specs.declared.message.Dir.{Dir}
use Rattle.dtx_values.specs.declared.message.Dir.TheVariants.{Up, Down}
use Rattle.dtx_model.specs.Wires.{same_connection, same_direction}
use Rattle.oletx_session.specs.declared.link.Link.{Link}
use Rattle.oletx_session.specs.declared.piece.Piece.{Piece}
use Rattle.oletx_session.specs.Traffic.{Wire}

-- the piece is on this connection in this direction
abbrev pub is_on : Conn → Dir → Piece → Bool
is_on c d p = same_connection c p.connection && same_direction d p.direction

-- the piece goes in this direction
abbrev pub goes : Dir → Piece → Bool
goes d p = same_direction d p.direction

-- the pieces on this connection in this direction, in order
abbrev pub on_way : Conn → Dir → List Piece → List Piece
on_way c d ps = filter (is_on c d) ps

-- the bytes that a piece holds
abbrev pub bytes_in : Piece → List ℕ
bytes_in p = take p.length p.bytes

-- the bytes on the way on this connection in this direction
abbrev pub bytes_on : Conn → Dir → List Piece → List ℕ
bytes_on c d ps = flat_map bytes_in (on_way c d ps)

-- the link is that of the connection
abbrev pub is_of : Conn → Link → Bool
is_of c l = same_connection c l.connection

-- the link of a connection, where it was started
abbrev pub link_of : Conn → List Link → Option Link
link_of c ls = find (is_of c) ls

-- what is seen of a link
abbrev pub wire_in : List Piece → Link → Wire
wire_in ps l =
    record {
      connection = l.connection;
      lost = l.lost;
      up = record { bytes = bytes_on l.connection Up ps; ended = l.up_ended };
      down = record { bytes = bytes_on l.connection Down ps; ended = l.down_ended };
    }

-- what is seen of all links
abbrev pub wires_in : List Piece → List Link → List Wire
wires_in ps ls = map (wire_in ps) ls

-- nothing is on the way on a connection that was never started
abbrev pub HasNoStray : List Link → List Piece → Type 0
HasNoStray ls ps = (c : Conn) (d : Dir) → link_of c ls ≡ None → on_way c d ps ≡ []

-- these lists differ on this connection in this direction alone
abbrev pub AreSameElse : Conn → Dir → List Piece → List Piece → Type 0
AreSameElse c d old new = (x : Conn) (e : Dir) → (same_connection x c && same_direction e d) ≡ false → on_way x e new ≡ on_way x e old

-- the link of a connection that was just started
abbrev pub new_link : Conn → Link
new_link c = record { connection = c; lost = false; up_ended = false; down_ended = false }

-- the link of the connection is this one now, and the other connections' are as before
pub record Changes (c : Conn) (l : Link) (old new : List Link) : Type 0 where
  pub here : link_of c new ≡ Some l
  pub others : (x : Conn) → same_connection x c ≡ false → link_of x new ≡ link_of x old

-- the side that gets in this direction saw the end
abbrev pub has_ended : Dir → Link → Bool
has_ended Up l = l.up_ended
has_ended Down l = l.down_ended

-- the connection is lost, and its end wasn't seen in this direction
abbrev pub is_ending : Dir → Link → Bool
is_ending d l = l.lost && not (has_ended d l)

-- the link once the connection is lost
abbrev pub lost_link : Link → Link
lost_link l = record l { lost = true }

-- the link with its end seen in this direction
abbrev pub ended_in : Dir → Link → Link
ended_in Up l = record l { up_ended = true }
ended_in Down l = record l { down_ended = true }

-- the link once the coordinator has stopped: lost, and the coordinator sees no end of it
abbrev pub stopped_link : Link → Link
stopped_link l = record l { lost = true; up_ended = true }
