-- The history of a transaction with the connections that carry it, as contracts see it; and which entries a block may have beside messages that are got, ends and losses.
use Rattle.std.specs.Prelude.{ℕ, ◌≡◌, Bool, true, false, List, [], ◌∷◌, Option, Some, None}
use Rattle.dtx_values.specs.declared.entry.Entry.{Entry}
use Rattle.dtx_values.specs.declared.entry.Entry.TheVariants.{Sent, Got, Cut, Down as Ended, Stopped, Restarted, Logged, LogFull, Freed, Recovered}
use Rattle.dtx_values.specs.declared.message.Conn.{Conn}
use Rattle.dtx_values.specs.declared.message.Dir.TheVariants.{Up, Down}
use Rattle.dtx_values.specs.declared.message.Dir.{Dir}
use Rattle.dtx_model.specs.Coordinated.{Coordinated, core_down, core_got}
use Rattle.dtx_model.specs.Half.{Half}
use Rattle.dtx_model.specs.Wires.{MayCross}
use Rattle.dtx_model.specs.Arrivals.{local_down, local_got}
use Rattle.oletx_session.specs.declared.session.Delivered.{Delivered}
use Rattle.oletx_session.specs.declared.session.Delivered.TheVariants.{Msg, End}
use Rattle.oletx_session.specs.Traffic.{Wire}
use Rattle.oletx_session.specs.Carries.{IsStarted, IsStartedLost}

-- the history, newest first; and for how many more entries, openings and messages there is room
pub record Course : Type 0 where
  pub past : List Entry
  pub room : ℕ
  pub start_room : ℕ
  pub send_room : ℕ

-- the connection was just started, where the coordinator stands stopped or where it doesn't, and the others stand as the history says
abbrev pub IsOpened : Bool → Conn → List Wire → List Entry → Type 0
IsOpened true c ws h = IsStartedLost c ws h
IsOpened false c ws h = IsStarted c ws h

-- the entry is no message that is got, no end, no loss, and no restart: of these, what is on the way has to be asked first
abbrev pub is_written : Entry → Bool
is_written (Got c d m) = false
is_written (Ended c d) = false
is_written (Cut c u w) = false
is_written Stopped = false
is_written (Restarted found) = false
is_written _ = true

-- the entry is of the local side alone: what it sends goes up
abbrev pub is_near : Entry → Bool
is_near (Sent c Up m) = true
is_near (Sent c Down m) = false
is_near (Got c d m) = false
is_near (Ended c d) = false
is_near (Cut c u w) = false
is_near Stopped = false
is_near (Restarted found) = false
is_near Logged = false
is_near LogFull = false
is_near Freed = false
is_near (Recovered r) = false
is_near _ = true

-- the entry is a message of the coordinator
abbrev pub is_far : Entry → Bool
is_far (Sent c Down m) = true
is_far _ = false

-- the entry of what came on a connection in this direction, where something did
abbrev pub arrival : Conn → Dir → Option Delivered → Option Entry
arrival c d (Some (Msg m)) = Some (Got c d m)
arrival c d (Some End) = Some (Ended c d)
arrival c d _ = None

-- this came, where the history was this before, and is this now: it was the next on the way, or the end of a connection on which nothing was
abbrev pub Came : Conn → Dir → Delivered → List Entry → List Entry → Type 0
Came c d (Msg m) old new = MayCross old (Got c d m) × (new ≡ Got c d m ∷ old)
Came c d End old new = MayCross old (Ended c d) × (new ≡ Ended c d ∷ old)
Came c d _ old new = ⊥

-- what came to one side of a connection, as it is noted first, and what is written of it then
abbrev pub noted : Conn → Dir → Delivered → List Entry
noted c d (Msg m) = Got c d m ∷ []
noted c d End = Ended c d ∷ []
noted c d _ = []

abbrev pub rest_up : ℕ → Coordinated → Conn → Delivered → List Entry
rest_up id k c (Msg m) = core_got id k c m
rest_up id k c End = core_down k c
rest_up id k c _ = []

abbrev pub rest_down : ℕ → Half → Conn → Delivered → List Entry
rest_down t h c (Msg m) = local_got t h c m
rest_down t h c End = local_down h c
rest_down t h c _ = []
