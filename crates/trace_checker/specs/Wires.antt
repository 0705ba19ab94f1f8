-- What the connections of a transaction carry.
use Rattle.std.specs.Prelude.{◌≡◌, Bool, true, ◌&&◌, not, List, Option, Some, None, if◌then◌else◌}
use Rattle.dtx_values.specs.declared.entry.Entry.{Entry}
use Rattle.dtx_values.specs.declared.message.Conn.{Conn}
use Rattle.dtx_values.specs.declared.message.Dir.{Dir}
use Rattle.dtx_values.specs.declared.message.Dir.TheVariants.{Up, Down}
use Rattle.dtx_model.specs.Outcome.{is_empty}
use Rattle.dtx_model.specs.Wires.{in_transit, is_ended, is_stopped, lost_since}
use Rattle.trace_checker.specs.declared.ways.Ways.{Ways}
use Rattle.trace_checker.specs.declared.wires.Wires.{Wires}
use Rattle.trace_checker.specs.Connections.{number_of}
use Rattle.trace_checker.specs.Intact.{is_intact_at}
use Rattle.trace_checker.specs.Names.{has_name}
use Rattle.trace_checker.specs.Ways.{is_way_ended, messages}

-- the ways that lead there
abbrev pub ways_to : Dir → Wires → Ways
ways_to Up w = w.upward
ways_to Down w = w.downward

abbrev pub is_opened : Conn → Wires → Bool
is_opened c w = has_name (number_of c) w.opened

abbrev pub is_intact : Conn → Wires → Bool
is_intact c w = is_intact_at (number_of c) w.intact

-- whether it is lost since it was opened, where it was
abbrev pub lost_in : Conn → Wires → Option Bool
lost_in c w = if is_opened c w then Some (not (is_intact c w)) else None

-- each connection is as the history leaves it. Of one that was never opened nobody asks for its end.
pub record IsWiresOf (h : List Entry) (w : Wires) : Type 0 where
  pub stopped : w.stopped ≡ is_stopped h
  pub lost : (c : Conn) → lost_since c h ≡ lost_in c w
  pub upward : (c : Conn) → in_transit c Up h ≡ messages (number_of c) w.upward
  pub downward : (c : Conn) → in_transit c Down h ≡ messages (number_of c) w.downward
  pub ended_up : (c : Conn) → is_opened c w ≡ true → is_ended c Up h ≡ is_way_ended (number_of c) w.upward
  pub ended_down : (c : Conn) → is_opened c w ≡ true → is_ended c Down h ≡ is_way_ended (number_of c) w.downward

-- an end on the side to which d leads may come: the connection is lost, nothing is on the way to that side, and it saw none
abbrev pub may_end_in : Conn → Dir → Wires → Bool
may_end_in c d w = is_opened c w && not (is_intact c w) && is_empty (messages (number_of c) (ways_to d w)) && not (is_way_ended (number_of c) (ways_to d w))
