use Rattle.std.proofs.Common.{◌≡◌, ◌++◌, List, [], Some, None, ◌↔◌, false, true, refl, sym, ◌∙◌, subst}
use Rattle.dtx_values.specs.declared.entry.Entry.{Entry}
use Rattle.dtx_values.specs.TxIds.{number_of}
use Rattle.dtx_values.specs.declared.tx_id.TxId.{TxId}
use Rattle.dtx_values.specs.declared.entry.Entry.TheVariants.{Got}
use Rattle.dtx_values.specs.declared.message.Conn.{Conn}
use Rattle.dtx_values.specs.declared.message.Dir.{Dir}
use Rattle.dtx_values.specs.declared.message.Dir.TheVariants.{Up, Down}
use Rattle.dtx_values.specs.Outgoing.{Outgoing, blank, written as put_out}
use Rattle.dtx_model.specs.Coordinated.{follow_all}
use Rattle.dtx_model.specs.Promotes.{identifier_of}
use Rattle.dtx_model.specs.Wires.{MayCross}
use Rattle.dtx_model.specs.World.{World, has_left}
use Rattle.oletx_session.specs.declared.session.Delivered.{Delivered}
use Rattle.local_half.specs.Half.{Known, after as known_after}
use Rattle.coordinator_core.specs.Kept.{Kept as CoreKept}
use Rattle.world_laws.specs.Course.{Came, noted, rest_down, rest_up}
use Rattle.tx_world.specs.Kept.{Kept}
use Rattle.tx_world.proofs.Delivering.{Heard, came_few, down_ready, lined, some_left, up_ready}
use Rattle.tx_world.proofs.Silent.{down_silent}
use Rattle.tx_world.proofs.Silently.{heard_written, written_done, written_named, written_whole}
use Rattle.tx_world.proofs.Written.{world_of}
use Rattle.tx_world.proofs.world.TxWorld.deliver.Goals.{After-entries}
use Rattle.tx_world.proofs.world.TxWorld.deliver.Goals as goal

-- what the side that heard it makes of it is ready to be written
heard : (t : TxId) (w : World) (h g : Known) (k j : CoreKept) (c : Conn) (d : Dir) (x : Delivered) (o p : Outgoing) (n xs : List Entry) → Kept t w h k → has_left c d w.past ≡ true → Came c d x w.past n
    → (d ≡ Up → (g ≡ h) × (j.transaction ≡ k.transaction) × (j.state ≡ follow_all k.state (noted c Up x ++ rest_up (identifier_of (number_of k.transaction)) k.state c x)) × (p ≡ put_out o (rest_up (identifier_of (number_of k.transaction)) k.state c x)))
    → (d ≡ Down → (j ≡ k) × (g ≡ known_after [] h (noted c Down x ++ rest_down (number_of h.transaction) h.half c x)) × (p ≡ put_out o (rest_down (number_of h.transaction) h.half c x)))
    → xs ≡ p.entries → o ≡ blank → Heard t w c d g j n xs
heard t w h g k j c Up x o p n xs kept left came up down value clear =
    let did = up refl in
    subst (λ (z : Known). Heard t w c Up z j n xs) (sym did.0) (up_ready t w h k j c x o p n xs kept left came did.1 did.2 value did.3 clear)
heard t w h g k j c Down x o p n xs kept left came up down value clear =
    let did = down refl in
    let r = down_ready t w h g k c x o p n xs kept left came did.1 value did.2 clear in
    subst (λ (z : CoreKept). Heard t w c Down g z n xs) (sym did.0) (record { kept = r.kept; past = r.past; written = r.written; sendable = r.sendable; stopped = r.stopped; silent = down_silent (number_of t) w c })

ready : (c : After-entries) → Heard c.self.inside.transaction (world_of c.self.inside.calls.items c.self.inside.history.past) c.args.c c.args.d c.hear.new.half c.hear.new.core c.deliver.new.self.past c.entries.result.now
ready c =
    let i = c.self.inside in
    let w = world_of i.calls.items i.history.past in
    let same = c.in_ok-reserve.ensures.same in
    let n = c.deliver.new.self.past in
    let came = subst (λ (h : List Entry). Came c.args.c c.args.d c.in-Some.came h n) same c.in-Some.ensures.came in
    let left = some_left (has_left c.args.c c.args.d w.past) c.in-Some.came (subst (λ (h : List Entry). (Some c.in-Some.came ≡ None) ↔ (has_left c.args.c c.args.d h ≡ false)) same c.in-Some.ensures.none) in
    heard i.transaction w i.half c.hear.new.half i.core c.hear.new.core c.args.c c.args.d c.in-Some.came c.clear.new.self c.hear.new.out n c.entries.result.now c.self.invariant.kept left came c.hear.ensures.up c.hear.ensures.down
    c.entries.ensures.value c.clear.ensures

pub deliver-requires-clause-lined : goal.deliver-requires-clause-lined
deliver-requires-clause-lined c m k =
    let i = c.self.inside in
    lined (number_of i.transaction) (world_of i.calls.items i.history.past) c.args.c c.args.d m c.self.invariant.kept.ran (subst (λ (h : List Entry). MayCross h (Got c.args.c c.args.d m)) c.in_ok-reserve.ensures.same k)

pub hear-requires-clause-few : goal.hear-requires-clause-few
hear-requires-clause-few c = λ up.
    let i = c.self.inside in
    let n = c.deliver.new.self.past in
    let came = subst (λ (h : List Entry). Came c.args.c c.args.d c.in-Some.came h n) c.in_ok-reserve.ensures.same c.in-Some.ensures.came in
    came_few i.transaction (world_of i.calls.items i.history.past) i.half i.core c.args.c c.in-Some.came n c.self.invariant.kept (subst (λ (d : Dir). Came c.args.c d c.in-Some.came i.history.past n) up came)

pub write-requires-clause-written : goal.write-requires-clause-written
write-requires-clause-written c = (ready (goal.at.write-requires-clause-written c).After-entries).written

pub write-requires-clause-sendable : goal.write-requires-clause-sendable
write-requires-clause-sendable c = (ready (goal.at.write-requires-clause-sendable c).After-entries).sendable

pub write-requires-clause-stopped : goal.write-requires-clause-stopped
write-requires-clause-stopped c = c.is_stopped.ensures ∙ (ready (goal.at.write-requires-clause-stopped c).After-entries).stopped

pub invariant_of-self-2 : goal.invariant_of-self-2
invariant_of-self-2 c = written_whole (heard_written (ready (goal.at.invariant_of-self-2 c).After-entries) c.write.ensures.past) c.self.invariant

pub returns-clause-done : goal.returns-clause-done
returns-clause-done c d = written_done c.self.inside.at_log c.args.self.now (heard_written (ready (goal.at.returns-clause-done c).After-entries) c.write.ensures.past) c.self.view_is

-- the record that is kept names who said PREPARED
pub returns-clause-named : goal.returns-clause-named
returns-clause-named c n = written_named c.self.inside.at_log c.args.self.now (heard_written (ready (goal.at.returns-clause-named c).After-entries) c.write.ensures.past) c.self.invariant c.self.view_is n
