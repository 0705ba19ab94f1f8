-- What a call does, and two sessions on which the same calls are made.
use Rattle.std.specs.Prelude.{◌≡◌, ◌≢◌, ◌⊎◌, ◌↔◌, ◌≤◌, ℕ, Bool, true, false, List, map, Option, Some, None, Result, IfErr, IfSome, IsErrOf, OnErr, OnOk}
use Rattle.dtx_values.specs.declared.message.Conn.{Conn}
use Rattle.dtx_values.specs.declared.message.Dir.{Dir}
use Rattle.dtx_values.specs.declared.message.Dir.TheVariants.{Up, Down}
use Rattle.dtx_values.specs.declared.message.Message.{Message}
use Rattle.dtx_model.specs.Frames.{is_valid}
use Rattle.oletx_frames.specs.declared.refusal.FrameRefusal.{FrameRefusal}
use Rattle.oletx_session.specs.declared.law.Answer.{Answer}
use Rattle.oletx_session.specs.declared.law.Answer.TheVariants.{Came, Done, Is, Kept, Stopped}
use Rattle.oletx_session.specs.declared.law.Call.{Call}
use Rattle.oletx_session.specs.declared.law.Call.TheVariants.{Deliver, HasLeft, IsOpen, Lose, Send, Start, StartLost, Stop}
use Rattle.oletx_session.specs.declared.refusal.SessionRefusal.{SessionRefusal}
use Rattle.oletx_session.specs.declared.refusal.SessionRefusal.TheVariants.{Memory, NotOpen}
use Rattle.oletx_session.specs.declared.session.Delivered.{Delivered}
use Rattle.oletx_session.specs.declared.session.Delivered.TheVariants.{BadFrame, End, Msg}
use Rattle.oletx_session.specs.Calls.{AnswersStart}
use Rattle.oletx_session.specs.Traffic.{Becomes, Delivers, Ends, IsCut, Spells, Traffic, Wire, fresh, has_left, is_open, lane, lost_at_once, may_send, sent_on, stopped_wire, wire_of}

-- each connection stands the same in both: it was started in both or in neither, the same bytes are on its way, and the same ends were seen
abbrev pub AreAlike : List Wire → List Wire → Type 0
AreAlike ws vs = (c : Conn) → wire_of c ws ≡ wire_of c vs

-- there is room for a call of `start` and for one of `send`
abbrev pub HasRoom : Traffic → Type 0
HasRoom t = (1 ≤ t.start_room) × (1 ≤ t.send_room)

-- a message that the call sends is valid
abbrev pub is_sound : Call → Bool
is_sound (Send c d m) = is_valid m
is_sound _ = true

-- what `start` and `start_lost` do: the connection becomes this one, or the call is refused
pub record Starts (c : Conn) (w : Wire) (old : Traffic) (answer : Result (Unit {0}) SessionRefusal) (new : Traffic) : Type 0 where
  pub started : OnOk answer (Becomes c w old.wires new.wires)
  pub answers : AnswersStart c old new answer

-- what `send` does
pub record Sends (c : Conn) (d : Dir) (m : Message) (old : Traffic) (answer : Result (Unit {0}) SessionRefusal) (new : Traffic) : Type 0 where
  pub sent : OnOk answer (IfSome (wire_of c old.wires) (λ w. Becomes c (sent_on d m w) old.wires new.wires))
  pub not_open : IsErrOf answer (NotOpen c) ↔ (may_send d (wire_of c old.wires) ≡ false)
  pub memory : IsErrOf answer Memory → old.send_room ≡ 0
  pub only : IfErr answer (λ e. (e ≡ NotOpen c) ⊎ (e ≡ Memory))
  pub unchanged : OnErr answer (new.wires ≡ old.wires)

-- what `deliver` does
pub record Gives (c : Conn) (d : Dir) (old new : List Wire) (answer : Option Delivered) : Type 0 where
  pub none : (answer ≡ None) ↔ (has_left d (wire_of c old) ≡ false)
  pub unchanged : answer ≡ None → new ≡ old
  pub message : (m : Message) → answer ≡ Some (Msg m) → IfSome (wire_of c old) (λ w. Delivers c d m w old new)
  pub end : answer ≡ Some End → IfSome (wire_of c old) (λ w. Ends c d w old new)
  pub never : (e : FrameRefusal) → answer ≢ Some (BadFrame e)

-- what is on the way on this connection in this direction are frames of valid messages
abbrev pub IsSpelled : Conn → Dir → List Wire → Type 0
IsSpelled c d ws = IfSome (wire_of c ws) (λ w. (ms : List Message) × Spells (lane d w).bytes ms)

-- what `lose` does
pub record Loses (c : Conn) (u n : ℕ) (old new : List Wire) (answer : Option (ℕ × ℕ)) : Type 0 where
  pub none : (answer ≡ None) ↔ (is_open (wire_of c old) ≡ false)
  pub unchanged : answer ≡ None → new ≡ old
  pub up : IsSpelled c Up old
  pub down : IsSpelled c Down old
  pub lost : IfSome answer (λ k. IfSome (wire_of c old) (λ w. (us ds : List Message) → Spells w.up.bytes us → Spells w.down.bytes ds → IsCut c w us ds u n k old new))

-- what the contract of each call says of its answer, and of the connections before and after it
abbrev pub Does : Call → Traffic → Answer → Traffic → Type 0
Does (Start c) old (Done answer) new = Starts c (fresh c) old answer new
Does (StartLost c) old (Done answer) new = Starts c (lost_at_once c) old answer new
Does (Send c d m) old (Done answer) new = Sends c d m old answer new
Does (Deliver c d) old (Came answer) new = Gives c d old.wires new.wires answer
Does (HasLeft c d) old (Is answer) new = (answer ≡ has_left d (wire_of c old.wires)) × (new.wires ≡ old.wires)
Does (IsOpen c) old (Is answer) new = (answer ≡ is_open (wire_of c old.wires)) × (new.wires ≡ old.wires)
Does (Lose c u n) old (Kept answer) new = Loses c u n old.wires new.wires answer
Does Stop old Stopped new = new.wires ≡ map stopped_wire old.wires
Does _ old answer new = ⊥
