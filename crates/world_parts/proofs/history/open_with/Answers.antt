use Rattle.std.proofs.Common.{◌≡◌, Bool, true, false, List, ◌∷◌, arith, sym, ◌<◌}
use Rattle.dtx_values.specs.declared.entry.Entry.{Entry}
use Rattle.dtx_values.specs.declared.entry.Entry.TheVariants.{Sent}
use Rattle.dtx_values.specs.declared.message.Conn.{Conn}
use Rattle.dtx_values.specs.declared.message.Dir.{Dir}
use Rattle.dtx_values.specs.declared.message.Message.{Message}
use Rattle.dtx_model.specs.Wires.{is_stopped, opens}
use Rattle.oletx_session.specs.Traffic.{Wire, wire_of}
use Rattle.oletx_session.specs.Carries.{Carries, IsStarted, IsStartedLost}
use Rattle.world_laws.specs.Course.{IsOpened}
use Rattle.world_laws.proofs.Carrying.{opener_may, opening_free, sends}
use Rattle.world_parts.proofs.history.open_with.Goals as goal

-- what sending the first message gives, by whether the coordinator stands stopped
first_sent : (stopped : Bool) (c : Conn) (d : Dir) (m : Message) (ws us : List Wire) (h : List Entry) → IsOpened stopped c ws h → opens c (Sent c d m) ≡ true → stopped ≡ is_stopped h
    → ((g : List Entry) → IsStarted c ws g → opens c (Sent c d m) ≡ true → is_stopped g ≡ false → Carries us (Sent c d m ∷ g))
    → ((g : List Entry) → IsStartedLost c ws g → opens c (Sent c d m) ≡ true → is_stopped g ≡ true → Carries us (Sent c d m ∷ g)) → Carries us (Sent c d m ∷ h)
first_sent true c d m ws us h s o e f g = g h s o (sym e)
first_sent false c d m ws us h s o e f g = f h s o (sym e)

pub returns-clause-carries : goal.returns-clause-carries
returns-clause-carries c h k r s o e =
    let m = c.args.m.now in
    let x = c.send.ensures in
    let ws = c.open.new.session.wires in
    let opened = c.open.ensures.opened h k r (opening_free c.args.c c.args.d m h s o) in
    let may = opener_may c.args.stopped c.args.c c.args.d m ws h opened o in
    let some : 0 < c.open.new.session.send_room = omega (arith, c.requires.sends, c.open.ensures.send_room) in
    let wire = wire_of c.args.c ws in
    first_sent c.args.stopped c.args.c c.args.d m ws c.send.new.self.wires h opened o e
    (sends c.send.result c.args.c c.args.d wire c.open.new.session.send_room x.only x.not_open x.memory some may x.opened)
    (sends c.send.result c.args.c c.args.d wire c.open.new.session.send_room x.only x.not_open x.memory some may x.opened_lost)
