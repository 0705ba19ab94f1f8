-- Between whom an entry goes.
use Rattle.std.specs.Prelude.{Bool, true, false, List, Option, Some, None, if◌then◌else◌}
use Rattle.dtx_values.specs.declared.entry.Answer.TheVariants.{Fine}
use Rattle.dtx_values.specs.declared.entry.Entry.{Entry}
use Rattle.dtx_values.specs.declared.entry.Entry.TheVariants.{Called}
use Rattle.dtx_values.specs.declared.entry.Party.{Party}
use Rattle.dtx_values.specs.declared.entry.Party.TheVariants.{Client as ToClient, Enl}
use Rattle.dtx_values.specs.declared.message.Dir.{Dir}
use Rattle.dtx_values.specs.declared.message.Dir.TheVariants.{Down, Up}
use Rattle.dtx_values.specs.declared.number.ActorNo.{ActorNo}
use Rattle.dtx_values.specs.declared.script.Body.{Body}
use Rattle.dtx_values.specs.declared.script.Body.TheVariants.{Close, Commit, Do, Gone, Lose, Recovered, Reenlist, Tick}
use Rattle.dtx_values.specs.declared.script.Line.{Line}
use Rattle.dtx_model.specs.Words.{kth, latest, or_else}
use Rattle.trace_picture.specs.Lanes.{client_in}
use Rattle.trace_picture.specs.declared.lanes.Lane.{Lane}
use Rattle.trace_picture.specs.declared.lanes.Lane.TheVariants.{Client, Coordinator, Enlistment, Local}

-- the command asks for the commit, or closes a scope
abbrev pub is_end : Body → Bool
is_end (Commit t) = true
is_end (Close q) = true
is_end _ = false

-- the command is no call of the client: it says what happens around it
abbrev pub is_event : Body → Bool
is_event (Do t k n) = true
is_event (Tick t n) = true
is_event (Lose t c u w) = true
is_event (Gone e) = true
is_event (Reenlist e) = true
is_event (Recovered t r) = true
is_event _ = false

abbrev pub line_is : (Body → Bool) → Option Line → Bool
line_is p (Some l) = p l.body
line_is p None = false

-- the client whose commit or close was answered with ok
abbrev pub ender_in : List Line → Entry → Option ActorNo
ender_in s (Called n a Fine) = if line_is is_end (kth s n) then Some a else None
ender_in s _ = None

-- the client that is told: the newest of these, else the newest that called
abbrev pub told_client : List Line → List Entry → Option ActorNo
told_client s past = or_else (latest (ender_in s) past) (latest client_in past)

abbrev pub client_lane : Option ActorNo → Lane
client_lane (Some a) = Client a
client_lane None = Local

abbrev pub party_lane : List Line → List Entry → Party → Lane
party_lane s past ToClient = client_lane (told_client s past)
party_lane s past (Enl e) = Enlistment e

-- the side that sends in a direction, and the one that gets
abbrev pub sender : Dir → Lane
sender Up = Local
sender Down = Coordinator

abbrev pub getter : Dir → Lane
getter Up = Coordinator
getter Down = Local
