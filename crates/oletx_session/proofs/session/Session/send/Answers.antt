use Rattle.std.proofs.Common.{◌≤◌, ◌+◌, ◌-◌, ◌/◌, ◌++◌, ℕ, List, map, vec_capacity, vec_len, arith, ap, refl, sym, subst, ◌∙◌}
use Rattle.oletx_session.specs.Crossing.{cut, most_pieces}
use Rattle.oletx_session.specs.Queues.{bytes_in, on_way}
use Rattle.oletx_session.specs.Traffic.{wire_of}
use Rattle.oletx_session.proofs.Histories.{carried_opened, carried_opened_lost, carried_sent}
use Rattle.oletx_session.proofs.Rooms.{most_some, one_less}
use Rattle.oletx_session.proofs.Moves.{kept_sent, sent_dropped, sent_last}
use Rattle.oletx_session.proofs.session.Session.send.Goals as goal

pub returns-then-not-is_open-clause-carries : goal.returns-then-not-is_open-clause-carries
returns-then-not-is_open-clause-carries c = λ h carries shut.
    let ws = c.args.self.now.wires in
    let may = sym c.may_send.ensures ∙ c.if-not-may_send.false in
    let dropped = sent_dropped c.args.c c.args.d c.args.m.now ws (wire_of c.args.c ws) refl (sym c.is_open.ensures ∙ c.if-not-is_open.true) in
    carried_sent c.args.c c.args.d c.args.m.now ws ws h (wire_of c.args.c ws) refl may c.requires dropped carries shut

pub invariant_of-self-2 : goal.invariant_of-self-2
invariant_of-self-2 c =
    let own = c.self.inside in
    kept_sent c.args.c c.args.d c.args.m.now own.size own.pieces.items c.put_frame.new.pieces.items own.links.items c.args.self.now.wires (ap (λ t. t.wires) c.self.view_is)
    (sym c.is_open.ensures ∙ c.if-not-is_open.false) c.requires
    (c.in-Ok.ensures.put ∙ ap (λ (xs : List ℕ). map bytes_in (on_way c.args.c c.args.d own.pieces.items) ++ cut own.size xs) c.encode-length.ensures.frame)
    c.in-Ok.ensures.others c.self.invariant

pub returns-clause-sent : goal.returns-clause-sent
returns-clause-sent c =
    let own = c.self.inside in
    sent_last c.args.c c.args.d c.args.m.now own.size own.pieces.items c.put_frame.new.pieces.items own.links.items c.args.self.now.wires c.self.invariant.some (ap (λ t. t.wires) c.self.view_is)
    (sym c.is_open.ensures ∙ c.if-not-is_open.false)
    (c.in-Ok.ensures.put ∙ ap (λ (xs : List ℕ). map bytes_in (on_way c.args.c c.args.d own.pieces.items) ++ cut own.size xs) c.encode-length.ensures.frame) c.in-Ok.ensures.others

pub returns-clause-carries : goal.returns-clause-carries
returns-clause-carries c = λ h carries shut.
    let ws = c.args.self.now.wires in
    carried_sent c.args.c c.args.d c.args.m.now ws _ h (wire_of c.args.c ws) refl (sym c.may_send.ensures ∙ c.if-not-may_send.false) c.requires (returns-clause-sent c) carries shut

pub returns-clause-opened : goal.returns-clause-opened
returns-clause-opened c = λ h started opening running.
    carried_opened c.args.c c.args.d c.args.m.now c.args.self.now.wires _ h c.requires (returns-clause-sent c) started opening running

pub returns-then-not-is_open-clause-opened_lost : goal.returns-then-not-is_open-clause-opened_lost
returns-then-not-is_open-clause-opened_lost c = λ h started opening stopped.
    let ws = c.args.self.now.wires in
    let dropped = sent_dropped c.args.c c.args.d c.args.m.now ws (wire_of c.args.c ws) refl (sym c.is_open.ensures ∙ c.if-not-is_open.true) in
    carried_opened_lost c.args.c c.args.d c.args.m.now ws ws h dropped started opening stopped

pub returns-clause-opened_lost : goal.returns-clause-opened_lost
returns-clause-opened_lost c = λ h started opening stopped.
    carried_opened_lost c.args.c c.args.d c.args.m.now c.args.self.now.wires _ h (returns-clause-sent c) started opening stopped

pub returns-clause-send_room : goal.returns-clause-send_room
returns-clause-send_room c =
    let own = c.self.inside in
    let most = most_pieces own.size in
    let old = vec_capacity own.pieces - vec_len own.pieces in
    let new = vec_capacity c.put_frame.new.pieces - vec_len c.put_frame.new.pieces in
    let some : 1 ≤ most = most_some own.size c.self.invariant.some in
    let less = one_less old new most some (omega (arith, c.put_frame.ensures.few, c.put_frame.ensures.capacity)) in
    let P : ℕ → Type 0 = λ k. k ≤ new / most + 1 in
    subst P (ap (λ t. t.send_room) c.self.view_is) less
