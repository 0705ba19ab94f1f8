-- What several calls on the connections of a transaction have in common: their answers, and the room that they take.
use Rattle.std.specs.Prelude.{◌≡◌, ◌⊎◌, ◌↔◌, ◌≤◌, ◌+◌, true, Result, IfErr, OnErr, IsErrOf}
use Rattle.dtx_values.specs.declared.message.Conn.{Conn}
use Rattle.oletx_session.specs.declared.refusal.SessionRefusal.{SessionRefusal}
use Rattle.oletx_session.specs.declared.refusal.SessionRefusal.TheVariants.{Taken, Memory}
use Rattle.oletx_session.specs.Traffic.{Traffic, is_taken, wire_of}

-- a call that starts this connection: it is refused exactly where the connection is taken, but for want of room; then the connections stay as they are; and it takes one
-- place to start at most, and none to send
pub record AnswersStart (c : Conn) (old new : Traffic) (result : Result (Unit {0}) SessionRefusal) : Type 0 where
  pub taken : IsErrOf result (Taken c) ↔ (is_taken (wire_of c old.wires) ≡ true)
  pub memory : IsErrOf result Memory → old.start_room ≡ 0
  pub only : IfErr result (λ e. (e ≡ Taken c) ⊎ (e ≡ Memory))
  pub unchanged : OnErr result (new.wires ≡ old.wires)
  pub start_room : old.start_room ≤ new.start_room + 1
  pub send_room : old.send_room ≤ new.send_room

-- a call that takes no room: it leaves as much to start and to send as there was
pub record KeepsRoom (old new : Traffic) : Type 0 where
  pub start_room : old.start_room ≤ new.start_room
  pub send_room : old.send_room ≤ new.send_room
