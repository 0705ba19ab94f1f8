-- What is neither a call nor a message is drawn by itself.
use Rattle.std.proofs.Common.{◌≡◌, ℕ, List, refl}
use Rattle.dtx_values.specs.declared.entry.Answer.{Answer}
use Rattle.dtx_values.specs.declared.entry.Entry.{Entry}
use Rattle.dtx_values.specs.declared.entry.Entry.TheVariants.{Called, Got, Sent}
use Rattle.dtx_values.specs.declared.message.Conn.{Conn}
use Rattle.dtx_values.specs.declared.message.Dir.{Dir}
use Rattle.dtx_values.specs.declared.message.Message.{Message}
use Rattle.dtx_values.specs.declared.number.ActorNo.{ActorNo}
use Rattle.dtx_values.specs.declared.script.Line.{Line}
use Rattle.trace_picture.specs.Marks.{mark, plain_mark}

pub others : (s : List Line) (came : List ℕ) (past : List Entry) (x : Entry) → ((n : ℕ) (a : ActorNo) (y : Answer) → x ≡ Called n a y → ⊥) → ((c : Conn) (d : Dir) (m : Message) → x ≡ Sent c d m → ⊥)
    → ((c : Conn) (d : Dir) (m : Message) → x ≡ Got c d m → ⊥) → mark s came past x ≡ plain_mark s past x
others s came past (Called n a y) p q r = absurd (p n a y refl)
others s came past (Sent c d m) p q r = absurd (q c d m refl)
others s came past (Got c d m) p q r = absurd (r c d m refl)
others s came past _ p q r = refl
