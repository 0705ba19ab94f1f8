-- That what is got is drawn as an arrow from where it was sent.
use Rattle.std.specs.Prelude.{ℕ, ◌≡◌, ◌==◌, Bool, true, false, List, [], ◌∷◌, Option, Some, None, length, if◌then◌else◌}
use Rattle.dtx_values.specs.declared.entry.Entry.{Entry}
use Rattle.dtx_values.specs.declared.entry.Entry.TheVariants.{Got, Sent}
use Rattle.dtx_values.specs.declared.message.Conn.{Conn}
use Rattle.dtx_values.specs.declared.message.Dir.{Dir}
use Rattle.dtx_values.specs.declared.message.Message.{Message}
use Rattle.dtx_values.specs.declared.script.Line.{Line}
use Rattle.dtx_model.specs.Words.{has}
use Rattle.trace_picture.specs.Crossings.{arrived}
use Rattle.trace_picture.specs.Marks.{mark, spot}
use Rattle.trace_picture.specs.Parties.{getter, sender}
use Rattle.trace_picture.specs.declared.marks.Label.TheVariants.{Message as Text}
use Rattle.trace_picture.specs.declared.marks.Mark.TheVariants.{Arrow}

-- the entry in this row, from 0
abbrev pub in_row : ℕ → List Entry → Option Entry
in_row r [] = None
in_row r (x ∷ past) = if r == length past then Some x else in_row r past

-- a message is sent, or is got
abbrev pub is_message : Entry → Bool
is_message (Sent c d m) = true
is_message (Got c d m) = true
is_message _ = false

-- the message that is got after these rows is drawn as an arrow from the row in which it was sent, on its connection and in its direction, by the side that sends so; and no message that came before was sent in that row
pub record HasOwnArrow (s : List Line) (came : List ℕ) (past : List Entry) (c : Conn) (d : Dir) (m : Message) : Type 0 where
  pub row : ℕ
  pub sent : in_row row past ≡ Some (Sent c d m)
  pub alone : has (λ i. row == i) (arrived past) ≡ false
  pub arrow : mark s came past (Got c d m) ≡ Some (Arrow (spot (sender d) row) (spot (getter d) (length past)) None (Text c m))
