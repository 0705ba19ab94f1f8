-- That each message that comes is drawn as an arrow.
use Rattle.std.specs.Prelude.{◌≡◌, List, ◌∷◌, ◌++◌}
use Rattle.dtx_values.specs.declared.entry.Entry.TheVariants.{Got}
use Rattle.dtx_values.specs.declared.message.Conn.{Conn}
use Rattle.dtx_values.specs.declared.message.Dir.{Dir}
use Rattle.dtx_values.specs.declared.message.Message.{Message}
use Rattle.dtx_values.specs.declared.number.TxNo.{TxNo}
use Rattle.dtx_values.specs.declared.script.Line.{Line}
use Rattle.dtx_values.specs.declared.trace.Place.TheVariants.{Transaction}
use Rattle.dtx_model.specs.Traces.{Placed}
use Rattle.trace_picture.specs.Crossings.{arrived}
use Rattle.trace_picture.specs.OwnSent.{HasOwnArrow}
use Rattle.trace_picture.specs.Rows.{rows}

-- in the picture of each transaction of this trace, which stands newest first, each message that comes is drawn as an arrow from the row in which that very message was sent, and no message that came before was sent there
abbrev pub HaveArrows : List Line → List Placed → Type 0
HaveArrows s T = (u : TxNo) (c : Conn) (d : Dir) (m : Message) (later before : List Placed) → T ≡ later ++ (Transaction u, Got c d m) ∷ before → HasOwnArrow s (arrived (rows u.value T).entries) (rows u.value before).entries c d m
