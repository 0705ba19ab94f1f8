-- Which entries the connections carry.
use Rattle.std.specs.Prelude.{◌&&◌, not, Bool, true, List, if◌then◌else◌, is_some}
use Rattle.dtx_values.specs.declared.entry.Entry.{Entry}
use Rattle.dtx_values.specs.declared.entry.Entry.TheVariants.{Sent}
use Rattle.dtx_values.specs.Lines.{has_line}
use Rattle.dtx_model.specs.Words.{always}
use Rattle.dtx_model.specs.Frames.{is_valid}
use Rattle.dtx_model.specs.Wires.{is_ended, lost_since, opens}
use Rattle.dtx_model.specs.World.{is_linked}
use Rattle.oletx_session.specs.Traffic.{opposite}

-- A message may be sent: it is valid and has a line there; where it opens the connection, nothing is left of an earlier opening; and else the connection was
-- opened, and the side that sends didn't see its end.
abbrev pub is_sendable : List Entry → Entry → Bool
is_sendable past (Sent c d m) =
    is_valid m && has_line c d m && (if opens c (Sent c d m) then not (is_linked c past) else (is_some (lost_since c past) && not (is_ended c (opposite d) past)))
is_sendable past _ = true

-- each message of the history might be sent where it was
abbrev pub are_sendable : List Entry → Bool
are_sendable h = always is_sendable h
