use Rattle.std.proofs.Common.{refl, subst, sym}
use Rattle.dtx_values.specs.declared.entry.Entry.{Entry}
use Rattle.dtx_model.specs.Wires.{MayCross}
use Rattle.trace_checker.proofs.Wiring.{end_crosses}
use Rattle.trace_checker.proofs.wires.Wires.cross.Goals as goal

pub returns-else-not-may_end-clause-may : goal.returns-else-not-may_end-clause-may
returns-else-not-may_end-clause-may c = λ h k.
    let C : Entry → Type 0 = λ x. MayCross h x in
    (λ t. subst C (sym c.in-Down.is) (end_crosses h c.in-Down.c c.in-Down.d c.args.self.now (sym c.if-not-may_end.ensures) k), λ m. refl)
