-- What an outbox holds, and for how many more entries and messages it has room.
use Rattle.std.specs.Prelude.{ℕ, ◌-◌, List, [], ◌∷◌, ◌++◌, length}
use Rattle.dtx_values.specs.declared.entry.Entry.{Entry}
use Rattle.dtx_values.specs.declared.entry.Entry.TheVariants.{Sent}
use Rattle.dtx_values.specs.declared.message.Conn.{Conn}
use Rattle.dtx_values.specs.declared.message.Dir.{Dir}
use Rattle.dtx_values.specs.declared.message.Message.{Message}

pub record Outgoing : Type 0 where
  pub entries : List Entry
  pub sends : List (Conn × Dir × Message)
  pub room : ℕ
  pub send_room : ℕ

-- nothing, with the whole room
abbrev pub blank : Outgoing
blank = record { entries = []; sends = []; room = 64; send_room = 64 }

-- with these entries after
abbrev pub with : Outgoing → List Entry → Outgoing
with o es = record { entries = o.entries ++ es; sends = o.sends; room = o.room - length es; send_room = o.send_room }

-- with these messages after
abbrev pub with_sends : Outgoing → List (Conn × Dir × Message) → Outgoing
with_sends o ms = record { entries = o.entries; sends = o.sends ++ ms; room = o.room; send_room = o.send_room - length ms }

-- the messages that the entries send, in order
abbrev pub sends_of : List Entry → List (Conn × Dir × Message)
sends_of [] = []
sends_of (Sent c d m ∷ es) = (c, d, m) ∷ sends_of es
sends_of (x ∷ es) = sends_of es

-- with these entries after, and the messages that they send
abbrev pub written : Outgoing → List Entry → Outgoing
written o es = with_sends (with o es) (sends_of es)
