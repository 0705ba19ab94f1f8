use Rattle.std.proofs.Common.{◌∙◌, ◌≤◌, ap, not, sym, subst, length}
use Rattle.dtx_values.specs.declared.limits.TheConstants.{CONNECTIONS}
use Rattle.tm_proxy.proofs.Room.{room_kept, room_opened}
use Rattle.tm_proxy.proofs.connections.Proxy.has_room.Goals as goal

pub returns-then-not-is_opening : goal.returns-then-not-is_opening
returns-then-not-is_opening c =
    let kept = sym c.is_opening.ensures ∙ c.if-not-is_opening.true in
    let all = subst (λ ns. length ns ≤ CONNECTIONS) (c.as_slice-ends.ensures.value ∙ c.self.view_is) c.as_slice-ends.ensures.fits in
    ap not c.if-not-is_opening.true ∙ room_kept c.args.c c.args.m.now c.args.self.now CONNECTIONS kept all

pub returns-else-not-is_opening : goal.returns-else-not-is_opening
returns-else-not-is_opening c =
    let opening = sym c.is_opening.ensures ∙ c.if-not-is_opening.false in
    rw (c.others.ensures, c.as_slice-ends.ensures.value, c.self.view_is) (room_opened c.args.c c.args.m.now c.args.self.now CONNECTIONS opening)
