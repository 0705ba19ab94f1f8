use Rattle.std.proofs.Common.{◌≡◌, ap, refl, sym, subst, ◌∙◌, IfSome, IfOk, List, None, Result}
use Rattle.dtx_values.specs.declared.message.Message.{Message}
use Rattle.oletx_frames.specs.declared.refusal.FrameRefusal.{FrameRefusal}
use Rattle.oletx_session.specs.declared.session.Delivered.TheVariants.{BadFrame, End, Msg}
use Rattle.oletx_session.specs.Crossing.{AreKept}
use Rattle.oletx_session.specs.declared.link.Link.{Link}
use Rattle.oletx_session.specs.declared.piece.Piece.{Piece}
use Rattle.oletx_session.specs.Queues.{Changes, link_of, on_way, wire_in, wires_in}
use Rattle.oletx_session.specs.Traffic.{Delivers, Ends, wire_of}
use Rattle.oletx_session.proofs.Histories.{at_wire, carried_end, carried_got, end_may, got_next}
use Rattle.oletx_session.proofs.Views.{kept_lane, kept_link, left_unstarted, stays, wire_found}
use Rattle.oletx_session.proofs.Moves.{TakesOne, came_none, came_one, delivered, end_connection, ended, left_end, left_frame, replaced}
use Rattle.oletx_session.proofs.session.Session.deliver.Goals as goal

pub returns-in_err-link-clause-none : goal.returns-in_err-link-clause-none
returns-in_err-link-clause-none c =
    let own = c.self.inside in
    let missing = left_unstarted c.args.c c.args.d own.pieces.items own.links.items c.args.self.now.wires (ap (λ t. t.wires) c.self.view_is)
    (ap (link_of c.args.c) (sym c.deref.ensures.value) ∙ sym c.in_err-link.ensures) in
    (λ h. missing, λ h. c.from_residual.ensures)

pub returns-in-Some-clause-none : goal.returns-in-Some-clause-none
returns-in-Some-clause-none c =
    let own = c.self.inside in
    let old = on_way c.args.c c.args.d own.pieces.items in
    let new = on_way c.args.c c.args.d c.take_message.new.pieces.items in
    let whole = c.self.invariant.whole c.args.c c.args.d in
    let one = came_one own.size old new c.in-Some.came c.self.invariant.some whole (c.in-Some.ensures.takes own.size c.self.invariant.some whole) in
    let left = left_frame c.args.c c.args.d one.message own.size own.pieces.items c.take_message.new.pieces.items own.links.items c.in_ok-link.link c.args.self.now.wires (ap (λ t. t.wires) c.self.view_is)
    (ap (link_of c.args.c) (sym c.deref.ensures.value) ∙ sym c.in_ok-link.ensures) one.takes in
    (λ h. absurd cc, λ h. absurd (let both = sym left ∙ h in cc))

pub returns-in-Some-clause-message : goal.returns-in-Some-clause-message
returns-in-Some-clause-message c = λ m is.
    let own = c.self.inside in
    let old = on_way c.args.c c.args.d own.pieces.items in
    let new = on_way c.args.c c.args.d c.take_message.new.pieces.items in
    let whole = c.self.invariant.whole c.args.c c.args.d in
    let one = came_one own.size old new c.in-Some.came c.self.invariant.some whole (c.in-Some.ensures.takes own.size c.self.invariant.some whole) in
    let P : Result Message FrameRefusal → Type 0 = λ r. IfOk r (λ m. c.content_of.result ≡ Msg m) in
    let content = subst P one.is c.content_of.ensures.message in
    let told : c.content_of.result ≡ Msg m = cc in
    let same : one.message ≡ m = (let both = sym content ∙ told in cc) in
    let Q : Message → Type 0 = λ x. TakesOne own.size x old new in
    delivered c.args.c c.args.d m own.size own.pieces.items c.take_message.new.pieces.items own.links.items c.in_ok-link.link c.args.self.now.wires (ap (λ t. t.wires) c.self.view_is)
    (ap (link_of c.args.c) (sym c.deref.ensures.value) ∙ sym c.in_ok-link.ensures) (subst Q same one.takes) c.in-Some.ensures.others

pub returns-in-Some-clause-never : goal.returns-in-Some-clause-never
returns-in-Some-clause-never c = λ e is.
    let own = c.self.inside in
    let old = on_way c.args.c c.args.d own.pieces.items in
    let new = on_way c.args.c c.args.d c.take_message.new.pieces.items in
    let whole = c.self.invariant.whole c.args.c c.args.d in
    let one = came_one own.size old new c.in-Some.came c.self.invariant.some whole (c.in-Some.ensures.takes own.size c.self.invariant.some whole) in
    let P : Result Message FrameRefusal → Type 0 = λ r. IfOk r (λ m. c.content_of.result ≡ Msg m) in
    let content = subst P one.is c.content_of.ensures.message in
    let told : c.content_of.result ≡ BadFrame e = cc in
    let both = sym content ∙ told in
    cc

pub returns-in-Some-clause-end : goal.returns-in-Some-clause-end
returns-in-Some-clause-end c = λ is.
    let own = c.self.inside in
    let old = on_way c.args.c c.args.d own.pieces.items in
    let new = on_way c.args.c c.args.d c.take_message.new.pieces.items in
    let whole = c.self.invariant.whole c.args.c c.args.d in
    let one = came_one own.size old new c.in-Some.came c.self.invariant.some whole (c.in-Some.ensures.takes own.size c.self.invariant.some whole) in
    let P : Result Message FrameRefusal → Type 0 = λ r. IfOk r (λ m. c.content_of.result ≡ Msg m) in
    let content = subst P one.is c.content_of.ensures.message in
    let told : c.content_of.result ≡ End = cc in
    absurd (let both = sym content ∙ told in cc)

pub invariant_of-self : goal.invariant_of-self
invariant_of-self c =
    let own = c.self.inside in
    let old = on_way c.args.c c.args.d own.pieces.items in
    let new = on_way c.args.c c.args.d c.take_message.new.pieces.items in
    let whole = c.self.invariant.whole c.args.c c.args.d in
    let one = came_one own.size old new c.in-Some.came c.self.invariant.some whole (c.in-Some.ensures.takes own.size c.self.invariant.some whole) in
    kept_lane c.args.c c.args.d own.size c.in_ok-link.link own.links.items own.links.items own.pieces.items c.take_message.new.pieces.items c.self.invariant
    (stays c.args.c c.in_ok-link.link own.links.items (ap (link_of c.args.c) (sym c.deref.ensures.value) ∙ sym c.in_ok-link.ensures)) c.in-Some.ensures.others one.takes.whole

pub invariant_of-self-then-not-is_ending : goal.invariant_of-self-then-not-is_ending
invariant_of-self-then-not-is_ending c =
    let own = c.self.inside in
    let whole = c.self.invariant.whole c.args.c c.args.d in
    let P : List Piece → Type 0 = λ ps. AreKept own.size own.links.items ps in
    subst P (sym (c.in_default.ensures.unchanged own.size c.self.invariant.some whole)) c.self.invariant

pub returns-then-not-is_ending-clause-unchanged : goal.returns-then-not-is_ending-clause-unchanged
returns-then-not-is_ending-clause-unchanged c = λ is.
    let own = c.self.inside in
    let whole = c.self.invariant.whole c.args.c c.args.d in
    ap (λ ps. wires_in ps own.links.items) (c.in_default.ensures.unchanged own.size c.self.invariant.some whole) ∙ ap (λ t. t.wires) c.self.view_is

pub returns-then-not-is_ending-clause-none : goal.returns-then-not-is_ending-clause-none
returns-then-not-is_ending-clause-none c =
    let own = c.self.inside in
    let old = on_way c.args.c c.args.d own.pieces.items in
    let new = on_way c.args.c c.args.d c.take_message.new.pieces.items in
    let whole = c.self.invariant.whole c.args.c c.args.d in
    let none = came_none own.size old new None whole (c.in_default.ensures.takes own.size c.self.invariant.some whole) refl in
    let left = left_end c.args.c c.args.d own.pieces.items own.links.items c.in_ok-link.link c.args.self.now.wires (ap (λ t. t.wires) c.self.view_is)
    (ap (link_of c.args.c) (sym c.deref.ensures.value) ∙ sym c.in_ok-link.ensures) none in
    (λ h. left ∙ sym c.if-not-is_ending.ensures, λ h. refl)

pub invariant_of-self-2 : goal.invariant_of-self-2
invariant_of-self-2 c =
    let own = c.self.inside in
    let found = ap (link_of c.args.c) (sym c.deref.ensures.value) ∙ sym c.in_ok-link.ensures in
    let same = ap (λ (l : Link). l.connection) c.ended_in.ensures ∙ end_connection c.args.d c.in_ok-link.link in
    let changes = replaced c.args.c c.in_ok-link.link c.ended_in.result own.links.items c.replace.new.links.items c.replace.result found same c.replace.ensures.found c.replace.ensures.changed in
    let whole = c.self.invariant.whole c.args.c c.args.d in
    let P : List Piece → Type 0 = λ ps. AreKept own.size c.replace.new.links.items ps in
    subst P (sym (c.in_default.ensures.unchanged own.size c.self.invariant.some whole))
    (kept_link c.args.c own.size c.ended_in.result own.links.items c.replace.new.links.items own.pieces.items c.self.invariant changes)

pub returns-clause-none : goal.returns-clause-none
returns-clause-none c =
    let own = c.self.inside in
    let old = on_way c.args.c c.args.d own.pieces.items in
    let new = on_way c.args.c c.args.d c.take_message.new.pieces.items in
    let whole = c.self.invariant.whole c.args.c c.args.d in
    let none = came_none own.size old new None whole (c.in_default.ensures.takes own.size c.self.invariant.some whole) refl in
    let left = left_end c.args.c c.args.d own.pieces.items own.links.items c.in_ok-link.link c.args.self.now.wires
    (ap (λ t. t.wires) c.self.view_is) (ap (link_of c.args.c) (sym c.deref.ensures.value) ∙ sym c.in_ok-link.ensures) none ∙ sym c.if-not-is_ending.ensures in
    (λ h. absurd cc, λ h. absurd (let both = sym left ∙ h in cc))

pub returns-clause-end : goal.returns-clause-end
returns-clause-end c = λ is.
    let own = c.self.inside in
    let old = on_way c.args.c c.args.d own.pieces.items in
    let new = on_way c.args.c c.args.d c.take_message.new.pieces.items in
    let whole = c.self.invariant.whole c.args.c c.args.d in
    let none = came_none own.size old new None whole (c.in_default.ensures.takes own.size c.self.invariant.some whole) refl in
    let l = c.in_ok-link.link in
    let found = ap (link_of c.args.c) (sym c.deref.ensures.value) ∙ sym c.in_ok-link.ensures in
    let same = ap (λ (k : Link). k.connection) c.ended_in.ensures ∙ end_connection c.args.d l in
    let changes = replaced c.args.c l c.ended_in.result own.links.items c.replace.new.links.items c.replace.result found same c.replace.ensures.found c.replace.ensures.changed in
    let P : Link → Type 0 = λ k. Changes c.args.c k own.links.items c.replace.new.links.items in
    let Q : List Piece → Type 0 = λ qs. IfSome (wire_of c.args.c c.args.self.now.wires) (λ w. Ends c.args.c c.args.d w c.args.self.now.wires (wires_in qs c.replace.new.links.items)) in
    subst Q (sym (c.in_default.ensures.unchanged own.size c.self.invariant.some whole))
    (ended c.args.c c.args.d own.pieces.items own.links.items c.replace.new.links.items l c.args.self.now.wires (ap (λ t. t.wires) c.self.view_is) found none
    (sym c.if-not-is_ending.ensures) (subst P c.ended_in.ensures changes))

pub returns-in-Some-clause-got : goal.returns-in-Some-clause-got
returns-in-Some-clause-got c = λ m h is carries.
    let own = c.self.inside in
    let ws = c.args.self.now.wires in
    let new = wires_in c.take_message.new.pieces.items own.links.items in
    let at = wire_found c.args.c own.pieces.items own.links.items c.in_ok-link.link ws (ap (λ t. t.wires) c.self.view_is) (ap (link_of c.args.c) (sym c.deref.ensures.value) ∙ sym c.in_ok-link.ensures) in
    let w = wire_in own.pieces.items c.in_ok-link.link in
    let delivers = at_wire c.args.c ws w (λ v. Delivers c.args.c c.args.d m v ws new) at (returns-in-Some-clause-message c m is) in
    (got_next c.args.c c.args.d m w ws new h at delivers carries, λ line. carried_got c.args.c c.args.d m w ws new h at delivers carries line)

pub returns-clause-down : goal.returns-clause-down
returns-clause-down c = λ h is carries.
    let own = c.self.inside in
    let ws = c.args.self.now.wires in
    let new = wires_in c.take_message.new.pieces.items c.replace.new.links.items in
    let at = wire_found c.args.c own.pieces.items own.links.items c.in_ok-link.link ws (ap (λ t. t.wires) c.self.view_is) (ap (link_of c.args.c) (sym c.deref.ensures.value) ∙ sym c.in_ok-link.ensures) in
    let w = wire_in own.pieces.items c.in_ok-link.link in
    let end = at_wire c.args.c ws w (λ v. Ends c.args.c c.args.d v ws new) at (returns-clause-end c is) in
    (end_may c.args.c c.args.d w ws new h at end carries, carried_end c.args.c c.args.d w ws new h at end carries)
