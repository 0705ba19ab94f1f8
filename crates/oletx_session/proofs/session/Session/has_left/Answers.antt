use Rattle.std.proofs.Common.{◌||◌, ap, sym, subst, ◌∙◌, Option, IfSome, List}
use Rattle.std.specs.List.{list_any}
use Rattle.std.proofs.lemmas.Bool.{or_left}
use Rattle.dtx_values.specs.declared.message.Message.{Message}
use Rattle.oletx_session.specs.Queues.{is_ending, is_on, link_of}
use Rattle.oletx_session.specs.Traffic.{Spells, Wire, lane}
use Rattle.oletx_session.proofs.Views.{frames_seen, left_seen, left_unstarted, wire_missing}
use Rattle.oletx_session.proofs.session.Session.has_left.Goals as goal

pub returns-then-is_any_on-clause-value : goal.returns-then-is_any_on-clause-value
returns-then-is_any_on-clause-value c =
    let own = c.self.inside in
    let any = list_any (is_on c.args.c c.args.d) in
    let some = ap any (sym c.deref-in-Some.ensures.value) ∙ sym c.if-is_any_on.ensures in
    c.if-is_any_on.true ∙ sym (left_seen c.args.c c.args.d own.size own.pieces.items own.links.items c.in-Some.link c.args.self.now.wires c.self.invariant (ap (λ t. t.wires) c.self.view_is)
    (ap (link_of c.args.c) (sym c.deref.ensures.value) ∙ sym c.in-Some.ensures) ∙ or_left (any own.pieces.items) (is_ending c.args.d c.in-Some.link) some)

pub returns-else-is_any_on-clause-value : goal.returns-else-is_any_on-clause-value
returns-else-is_any_on-clause-value c =
    let own = c.self.inside in
    let any = list_any (is_on c.args.c c.args.d) in
    let none = ap any (sym c.deref-in-Some.ensures.value) ∙ sym c.if-is_any_on.ensures in
    c.is_ending.ensures ∙ sym (left_seen c.args.c c.args.d own.size own.pieces.items own.links.items c.in-Some.link c.args.self.now.wires c.self.invariant (ap (λ t. t.wires) c.self.view_is)
    (ap (link_of c.args.c) (sym c.deref.ensures.value) ∙ sym c.in-Some.ensures) ∙ ap (λ b. b || is_ending c.args.d c.in-Some.link) none)

pub returns-in-None-clause-value : goal.returns-in-None-clause-value
returns-in-None-clause-value c =
    let own = c.self.inside in
    sym (left_unstarted c.args.c c.args.d own.pieces.items own.links.items c.args.self.now.wires (ap (λ t. t.wires) c.self.view_is)
    (ap (link_of c.args.c) (sym c.deref.ensures.value) ∙ sym c.in-None.ensures))

pub returns-then-is_any_on-clause-frames : goal.returns-then-is_any_on-clause-frames
returns-then-is_any_on-clause-frames c =
    let own = c.self.inside in
    frames_seen c.args.c c.args.d own.size own.pieces.items own.links.items c.in-Some.link c.args.self.now.wires c.self.invariant (ap (λ t. t.wires) c.self.view_is)
    (ap (link_of c.args.c) (sym c.deref.ensures.value) ∙ sym c.in-Some.ensures)

pub returns-else-is_any_on-clause-frames : goal.returns-else-is_any_on-clause-frames
returns-else-is_any_on-clause-frames c =
    let own = c.self.inside in
    frames_seen c.args.c c.args.d own.size own.pieces.items own.links.items c.in-Some.link c.args.self.now.wires c.self.invariant (ap (λ t. t.wires) c.self.view_is)
    (ap (link_of c.args.c) (sym c.deref.ensures.value) ∙ sym c.in-Some.ensures)

pub returns-in-None-clause-frames : goal.returns-in-None-clause-frames
returns-in-None-clause-frames c =
    let own = c.self.inside in
    let missing = wire_missing c.args.c own.pieces.items own.links.items c.args.self.now.wires (ap (λ t. t.wires) c.self.view_is)
    (ap (link_of c.args.c) (sym c.deref.ensures.value) ∙ sym c.in-None.ensures) in
    let P : Option Wire → Type 0 = λ o. IfSome o (λ w. (ms : List Message) × Spells (lane c.args.d w).bytes ms) in
    subst P (sym missing) tt
