-- Which message that is sent comes: in each opening of a connection, and in each direction, what is got is what was sent, in order. So the k-th that comes since the
-- connection was opened is the k-th that was sent since.
use Rattle.std.specs.Prelude.{ℕ, ◌+◌, Bool, true, false, ◌&&◌, List, [], ◌∷◌, ◌++◌, Option, None, length, slice_get, if◌then◌else◌}
use Rattle.dtx_values.specs.declared.entry.Entry.{Entry}
use Rattle.dtx_values.specs.declared.entry.Entry.TheVariants.{Got, Sent}
use Rattle.dtx_values.specs.declared.message.Conn.{Conn}
use Rattle.dtx_values.specs.declared.message.Dir.{Dir}
use Rattle.dtx_values.specs.Ends.{same_connection, same_direction}
use Rattle.dtx_model.specs.Wires.{opens}
use Rattle.dtx_model.specs.Words.{put}

-- a message on connection c in direction d is sent, and is got
abbrev pub is_sent_on : Conn → Dir → Entry → Bool
is_sent_on c d (Sent e r m) = same_connection c e && same_direction d r
is_sent_on c d _ = false

abbrev pub is_got_on : Conn → Dir → Entry → Bool
is_got_on c d (Got e r m) = same_connection c e && same_direction d r
is_got_on c d _ = false

-- how many were got since the connection was opened
abbrev pub got_since : Conn → Dir → List Entry → ℕ
got_since c d [] = 0
got_since c d (x ∷ past) = if opens c x then 0 else if is_got_on c d x then got_since c d past + 1 else got_since c d past

abbrev pub row_if : Bool → ℕ → List ℕ → List ℕ
row_if true n ns = ns ++ n ∷ []
row_if false n ns = ns

-- the rows in which one was sent since
abbrev pub sent_since : Conn → Dir → List Entry → List ℕ
sent_since c d [] = []
sent_since c d (x ∷ past) = row_if (is_sent_on c d x) (length past) (if opens c x then [] else sent_since c d past)

-- the row in which the message was sent that comes next after this history
abbrev pub origin : Conn → Dir → List Entry → Option ℕ
origin c d past = slice_get (sent_since c d past) (got_since c d past)

abbrev pub origin_in : List Entry → Entry → Option ℕ
origin_in past (Got c d m) = origin c d past
origin_in past _ = None

-- the rows in which a message was sent that came, newest first
abbrev pub arrived : List Entry → List ℕ
arrived [] = []
arrived (x ∷ past) = put (origin_in past x) (arrived past)
