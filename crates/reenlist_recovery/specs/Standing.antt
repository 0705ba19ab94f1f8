-- What a history says of one enlistment and of the coordinator, as far as the call `reenlist` asks for it.
use Rattle.std.specs.Prelude.{ℕ, ◌<◌, ◌+◌, ◌^◌, ◌==◌, Bool, false, ◌||◌, not, List, Option, Some, None, if◌then◌else◌}
use Rattle.dtx_values.specs.declared.entry.Answer.{Answer}
use Rattle.dtx_values.specs.declared.entry.Answer.TheVariants.{Fine, NoSuch, Finished, Over, Connected, Stopped}
use Rattle.dtx_values.specs.declared.entry.Entry.{Entry}
use Rattle.dtx_values.specs.declared.entry.Entry.TheVariants.{Handed}
use Rattle.dtx_values.specs.declared.message.Conn.TheVariants.{Enl, Again}
use Rattle.dtx_values.specs.declared.number.EnlNo.{EnlNo}
use Rattle.dtx_values.specs.declared.number.RmNo.{RmNo}
use Rattle.dtx_values.specs.Ends.{is_in}
use Rattle.dtx_model.specs.Coordinated.{coordinate, recovered_after, stopped_after}
use Rattle.dtx_model.specs.Entries.{handed_of}
use Rattle.dtx_model.specs.Half.{is_handed}
use Rattle.dtx_model.specs.Observed.{branches, rows}
use Rattle.dtx_model.specs.Words.{latest}
use Rattle.reenlist_recovery.specs.declared.standing.Standing.{Standing}
use Rattle.reenlist_recovery.specs.declared.wire.Wire.{Wire}
use Rattle.reenlist_recovery.specs.Connections.{is_linked_wire, unopened, wire_after, wire_of}
use Rattle.reenlist_recovery.specs.Enlisted.{ballot_after, ballot_of, no_ballot, no_seat, seat_after, seat_of}

-- before the first entry
abbrev pub at_first : Standing
at_first = record { seat = no_seat; ballot = no_ballot; handed = false; recovered = 0; stopped = false; own = unopened; again = unopened }

-- after these entries, the newest first
abbrev pub standing_of : EnlNo → List Entry → Standing
standing_of e past =
    record {
      seat = seat_of e.value (branches past);
      ballot = ballot_of e.value (rows past);
      handed = is_handed (latest handed_of past) e.value;
      recovered = (coordinate past).recovered;
      stopped = (coordinate past).stopped;
      own = wire_of (Enl e) past;
      again = wire_of (Again e) past;
    }

-- whether the commit is handed to it after an entry
abbrev pub handed_after : ℕ → Entry → Bool → Bool
handed_after e (Handed f) b = e == f.value
handed_after e x b = b

-- what becomes of it by an entry
abbrev pub standing_after : EnlNo → Entry → Standing → Standing
standing_after e x s =
    record {
      seat = seat_after e.value x s.seat;
      ballot = ballot_after e.value x s.ballot;
      handed = handed_after e.value x s.handed;
      recovered = recovered_after x s.recovered;
      stopped = stopped_after x s.stopped;
      own = wire_after (Enl e) s.stopped x s.own;
      again = wire_after (Again e) s.stopped x s.again;
    }

-- one more message can be counted in each direction
pub record HasRoom (w : Wire) : Type 0 where
  pub up : w.up + 1 < 2 ^ 64
  pub down : w.down + 1 < 2 ^ 64

-- the answer of the call `reenlist`, by the manager of the enlistment at the coordinator
abbrev pub answer_for : EnlNo → Standing → Option RmNo → Answer
answer_for e s None = NoSuch
answer_for e s (Some r) =
    if not s.seat.enlisted then NoSuch else if s.seat.told || s.ballot.out || s.handed then Finished else if is_in r.value s.recovered then Over r
    else if is_linked_wire s.own || is_linked_wire s.again then Connected e else if s.stopped then Stopped else Fine

abbrev pub answer_by : EnlNo → Standing → Answer
answer_by e s = answer_for e s s.seat.manager
