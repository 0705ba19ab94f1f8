use Rattle.std.proofs.Common.{ap, refl, sym, subst, ◌∙◌, not, List}
use Rattle.dtx_values.specs.declared.message.Dir.TheVariants.{Up, Down}
use Rattle.dtx_values.specs.declared.message.Message.{Message}
use Rattle.oletx_session.specs.declared.link.Link.{Link}
use Rattle.oletx_session.specs.Queues.{Changes, link_of, on_way, wire_in, wires_in}
use Rattle.oletx_session.specs.Traffic.{IsCut, Spells, is_open}
use Rattle.oletx_session.proofs.Histories.{at_wire, carried_cut}
use Rattle.oletx_session.proofs.Views.{whole_else, wire_found, wire_missing}
use Rattle.oletx_session.proofs.Moves.{keeps_first, kept_lost, lost, replaced}
use Rattle.oletx_session.proofs.session.Session.lose.Goals as goal

pub returns-in_err-link-clause-none : goal.returns-in_err-link-clause-none
returns-in_err-link-clause-none c =
    let own = c.self.inside in
    let missing = wire_missing c.args.c own.pieces.items own.links.items c.args.self.now.wires (ap (λ t. t.wires) c.self.view_is)
    (ap (link_of c.args.c) (sym c.deref.ensures.value) ∙ sym c.in_err-link.ensures) in
    (λ h. ap is_open missing, λ h. c.from_residual.ensures)

pub returns-then-link-clause-none : goal.returns-then-link-clause-none
returns-then-link-clause-none c =
    let own = c.self.inside in
    let seen = wire_found c.args.c own.pieces.items own.links.items c.in_ok-link.link c.args.self.now.wires (ap (λ t. t.wires) c.self.view_is)
    (ap (link_of c.args.c) (sym c.deref.ensures.value) ∙ sym c.in_ok-link.ensures) in
    (λ h. ap is_open seen ∙ ap not c.if-link.true, λ h. refl)

pub returns-clause-none : goal.returns-clause-none
returns-clause-none c =
    let own = c.self.inside in
    let seen = wire_found c.args.c own.pieces.items own.links.items c.in_ok-link.link c.args.self.now.wires (ap (λ t. t.wires) c.self.view_is)
    (ap (link_of c.args.c) (sym c.deref.ensures.value) ∙ sym c.in_ok-link.ensures) in
    let open' = ap is_open seen ∙ ap not c.if-link.false in
    (λ h. absurd cc, λ h. absurd (let both = sym open' ∙ h in cc))

pub invariant_of-self : goal.invariant_of-self
invariant_of-self c =
    let own = c.self.inside in
    let found = ap (link_of c.args.c) (sym c.deref.ensures.value) ∙ sym c.in_ok-link.ensures in
    let same = ap (λ (l : Link). l.connection) c.lost.ensures in
    let changes = replaced c.args.c c.in_ok-link.link c.lost.result own.links.items c.replace.new.links.items c.replace.result found same c.replace.ensures.found c.replace.ensures.changed in
    let up_whole = c.self.invariant.whole c.args.c Up in
    let up = keeps_first own.size c.args.up c.cut-up.result (on_way c.args.c Up own.pieces.items) (on_way c.args.c Up c.cut-up.new.pieces.items) c.self.invariant.some up_whole
    (c.cut-up.ensures.kept own.size c.self.invariant.some up_whole) (c.cut-up.ensures.count own.size c.self.invariant.some up_whole) in
    let down_whole = whole_else c.args.c Up own.size own.pieces.items c.cut-up.new.pieces.items c.cut-up.ensures.others up.whole c.self.invariant.whole c.args.c Down in
    let down = keeps_first own.size c.args.down c.cut-down.result (on_way c.args.c Down c.cut-up.new.pieces.items) (on_way c.args.c Down c.cut-down.new.pieces.items) c.self.invariant.some down_whole
    (c.cut-down.ensures.kept own.size c.self.invariant.some down_whole) (c.cut-down.ensures.count own.size c.self.invariant.some down_whole) in
    kept_lost c.args.c own.size c.lost.result own.links.items c.replace.new.links.items own.pieces.items c.cut-up.new.pieces.items c.cut-down.new.pieces.items c.self.invariant changes up.whole
    c.cut-up.ensures.others down.whole c.cut-down.ensures.others

pub returns-clause-lost : goal.returns-clause-lost
returns-clause-lost c =
    let own = c.self.inside in
    let l = c.in_ok-link.link in
    let found = ap (link_of c.args.c) (sym c.deref.ensures.value) ∙ sym c.in_ok-link.ensures in
    let same = ap (λ (k : Link). k.connection) c.lost.ensures in
    let changes = replaced c.args.c l c.lost.result own.links.items c.replace.new.links.items c.replace.result found same c.replace.ensures.found c.replace.ensures.changed in
    let P : Link → Type 0 = λ k. Changes c.args.c k own.links.items c.replace.new.links.items in
    let up_whole = c.self.invariant.whole c.args.c Up in
    let up = keeps_first own.size c.args.up c.cut-up.result (on_way c.args.c Up own.pieces.items) (on_way c.args.c Up c.cut-up.new.pieces.items) c.self.invariant.some up_whole
    (c.cut-up.ensures.kept own.size c.self.invariant.some up_whole) (c.cut-up.ensures.count own.size c.self.invariant.some up_whole) in
    let down_whole = whole_else c.args.c Up own.size own.pieces.items c.cut-up.new.pieces.items c.cut-up.ensures.others up.whole c.self.invariant.whole c.args.c Down in
    let down = keeps_first own.size c.args.down c.cut-down.result (on_way c.args.c Down c.cut-up.new.pieces.items) (on_way c.args.c Down c.cut-down.new.pieces.items) c.self.invariant.some down_whole
    (c.cut-down.ensures.kept own.size c.self.invariant.some down_whole) (c.cut-down.ensures.count own.size c.self.invariant.some down_whole) in
    lost c.args.c own.size c.args.up c.args.down (c.cut-up.result, c.cut-down.result) own.pieces.items c.cut-up.new.pieces.items c.cut-down.new.pieces.items own.links.items c.replace.new.links.items l
    c.args.self.now.wires (ap (λ t. t.wires) c.self.view_is) found (subst P c.lost.ensures changes) up c.cut-up.ensures.others down c.cut-down.ensures.others

pub returns-clause-cut : goal.returns-clause-cut
returns-clause-cut c = λ h carries.
    let own = c.self.inside in
    let ws = c.args.self.now.wires in
    let new = wires_in c.cut-down.new.pieces.items c.replace.new.links.items in
    let at = wire_found c.args.c own.pieces.items own.links.items c.in_ok-link.link ws (ap (λ t. t.wires) c.self.view_is) (ap (link_of c.args.c) (sym c.deref.ensures.value) ∙ sym c.in_ok-link.ensures) in
    let w = wire_in own.pieces.items c.in_ok-link.link in
    let loss = at_wire c.args.c ws w (λ v. (us ds : List Message) → Spells v.up.bytes us → Spells v.down.bytes ds → IsCut c.args.c v us ds c.args.up c.args.down (c.cut-up.result, c.cut-down.result) ws new) at
    (returns-clause-lost c) in
    carried_cut c.args.c w c.args.up c.args.down (c.cut-up.result, c.cut-down.result) ws new h at loss carries
