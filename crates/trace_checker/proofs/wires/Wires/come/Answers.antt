use Rattle.std.proofs.Common.{◌∷◌, sym}
use Rattle.dtx_values.specs.declared.entry.Entry.TheVariants.{Cut}
use Rattle.trace_checker.proofs.Wiring.{got_lineless}
use Rattle.trace_checker.proofs.wires.Wires.come.Goals as goal

pub returns-clause-got : goal.returns-clause-got
returns-clause-got c = λ t h k. got_lineless h c.args.c c.args.d c.args.m.now c.end.new.self (sym c.if-may_carry.ensures) (c.end.ensures (Cut c.args.c 0 0 ∷ h) (c.cut.ensures h k))
