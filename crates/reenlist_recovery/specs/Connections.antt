-- What a history says of one connection, by numbers of messages.
use Rattle.std.specs.Prelude.{ℕ, ◌+◌, ◌-◌, ◌==◌, min, Bool, false, ◌&&◌, ◌||◌, not, List, length, Option, Some, None, is_some, if◌then◌else◌}
use Rattle.std.specs.Option.{option_map}
use Rattle.dtx_values.specs.declared.entry.Entry.{Entry}
use Rattle.dtx_values.specs.declared.entry.Entry.TheVariants.{Sent, Got, Cut, Stopped}
use Rattle.dtx_values.specs.declared.message.Conn.{Conn}
use Rattle.dtx_values.specs.declared.message.Dir.{Dir}
use Rattle.dtx_values.specs.declared.message.Dir.TheVariants.{Up, Down}
use Rattle.dtx_values.specs.Lines.{has_line}
use Rattle.dtx_model.specs.Wires.{ended_after, ends, in_transit, is_ended, is_kept, kept, loses, lost_since, opens, same_connection, same_direction}
use Rattle.reenlist_recovery.specs.declared.wire.Wire.{Wire}

-- whether the connection is lost after the entry, where the coordinator stood stopped before it or didn't
abbrev pub lost_next : Conn → Bool → Entry → Option Bool → Option Bool
lost_next c stopped x o = if opens c x then Some stopped else option_map (λ lost. lost || loses c x) o

-- how many messages are on the way in this direction after an opening
abbrev pub count_opened : Dir → Bool → ℕ
count_opened Up stopped = if stopped then 0 else 1
count_opened Down stopped = 0

-- after one more is sent: where the connection isn't open, it is dropped
abbrev pub count_sent : Bool → ℕ → ℕ
count_sent is_open n = if is_open then n + 1 else n

-- after one is got, which comes in this direction or the other; one that has no line drops all
abbrev pub count_got : Bool → Bool → ℕ → ℕ
count_got is_lined is_here n = if not is_lined then 0 else if is_here then n - 1 else n

-- after a stop of the coordinator
abbrev pub count_stopped : Dir → ℕ → ℕ
count_stopped Up n = 0
count_stopped Down n = n

-- after an entry that doesn't open the connection
abbrev pub count_next : Conn → Dir → Bool → Entry → ℕ → ℕ
count_next c d is_open (Sent e r m) n = if same_connection c e && same_direction d r then count_sent is_open n else n
count_next c d is_open (Got e r m) n = if same_connection c e then count_got (has_line e r m) (same_direction d r) n else n
count_next c d is_open (Cut e u w) n = if same_connection c e then min (kept d u w) n else n
count_next c d is_open Stopped n = count_stopped d n
count_next c d is_open _ n = n

-- how many messages are on the way on this connection in this direction after the entry
abbrev pub count_after : Conn → Dir → Bool → Bool → Entry → ℕ → ℕ
count_after c d stopped is_open x n = if opens c x then count_opened d stopped else count_next c d is_open x n

-- a connection that wasn't opened
abbrev pub unopened : Wire
unopened = record { lost = None; ended_up = false; ended_down = false; up = 0; down = 0 }

-- what the history says of the connection
abbrev pub wire_of : Conn → List Entry → Wire
wire_of c past = record { lost = lost_since c past; ended_up = is_ended c Up past; ended_down = is_ended c Down past; up = length (in_transit c Up past); down = length (in_transit c Down past) }

-- what becomes of it by an entry, where the coordinator stood stopped before it or didn't
abbrev pub wire_after : Conn → Bool → Entry → Wire → Wire
wire_after c stopped x w =
    record {
      lost = lost_next c stopped x w.lost;
      ended_up = ended_after (opens c x) stopped (ends c Up x || w.ended_up);
      ended_down = ended_after (opens c x) false (ends c Down x || w.ended_down);
      up = count_after c Up stopped (is_kept w.lost) x w.up;
      down = count_after c Down stopped (is_kept w.lost) x w.down;
    }

-- it was opened, and its end isn't seen by both sides or a message is on the way
abbrev pub is_linked_wire : Wire → Bool
is_linked_wire w = is_some w.lost && (not (w.ended_up && w.ended_down) || not (w.up == 0) || not (w.down == 0))
