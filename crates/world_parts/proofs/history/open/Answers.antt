use Rattle.std.proofs.Common.{sym, subst, Bool}
use Rattle.oletx_session.specs.Traffic.{wire_of}
use Rattle.world_laws.specs.Course.{IsOpened}
use Rattle.world_laws.proofs.Carrying.{starts}
use Rattle.world_laws.proofs.Ended.{is_free}
use Rattle.world_parts.proofs.history.open.Goals as goal

pub returns-then-stopped-clause-opened : goal.returns-then-stopped-clause-opened
returns-then-stopped-clause-opened c h k r free =
    let e = c.start_lost.ensures in
    subst (λ (b : Bool). IsOpened b c.args.c c.start_lost.new.self.wires h) (sym c.if-stopped.true)
    (starts c.start_lost.result c.args.c (wire_of c.args.c c.args.session.now.wires) c.args.session.now.start_room e.answers.only e.answers.taken e.answers.memory c.requires (is_free c.args.c c.args.session.now.wires h k r free) e.carries h k)

pub returns-else-stopped-clause-opened : goal.returns-else-stopped-clause-opened
returns-else-stopped-clause-opened c h k r free =
    let e = c.start.ensures in
    subst (λ (b : Bool). IsOpened b c.args.c c.start.new.self.wires h) (sym c.if-stopped.false)
    (starts c.start.result c.args.c (wire_of c.args.c c.args.session.now.wires) c.args.session.now.start_room e.answers.only e.answers.taken e.answers.memory c.requires (is_free c.args.c c.args.session.now.wires h k r free) e.carries h k)
