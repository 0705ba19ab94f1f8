use Rattle.std.proofs.Common.{◌∙◌, ap, arith, length, sym}
use Rattle.dtx_values.specs.declared.message.Conn.TheVariants.{Enl}
use Rattle.dtx_model.specs.Coordinated.{without}
use Rattle.coordinator_core.specs.Kept.{Kept}
use Rattle.coordinator_core.proofs.Room.{desk_fits, enlist_fits}
use Rattle.coordinator_core.proofs.machine.Core.enlist_came.Goals as goal

pub seat_if-requires : goal.seat_if-requires
seat_if-requires c accepted =
    omega (arith, desk_fits c.args.self.now.state c.args.e c.args.i c.requires.few (sym c.accepts-accepted.ensures ∙ accepted), ap (λ (s : Kept). length s.state.desks) c.self.view_is)

pub open-requires : goal.open-requires
open-requires c = omega (arith, enlist_fits c.args.self.now.state c.args.e c.args.i c.requires.few, ap (λ (s : Kept). length (without (Enl c.args.e) s.state.known)) c.self.view_is)
