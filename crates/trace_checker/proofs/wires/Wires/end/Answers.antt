use Rattle.std.proofs.Common.{ℕ, true, ◌∷◌, subst, sym}
use Rattle.dtx_values.specs.declared.entry.Entry.TheVariants.{Down as End}
use Rattle.dtx_values.specs.declared.message.Dir.{Dir}
use Rattle.trace_checker.specs.Ways.{ChangesWay, messages}
use Rattle.trace_checker.specs.Wires.{IsWiresOf}
use Rattle.trace_checker.proofs.Wiring.{end_down, end_up}
use Rattle.trace_checker.proofs.wires.Wires.end.Goals as goal

pub returns-in-Up : goal.returns-in-Up
returns-in-Up c = λ h k.
    let w = c.args.self.now in
    let D : Dir → Type 0 = λ d. IsWiresOf (End c.args.c d ∷ h) (record w { upward = c.end.new.self }) in
    let N : ℕ → Type 0 = λ n. ChangesWay n (messages n w.upward) true w.upward c.end.new.self in
    subst D (sym c.in-Up.is) (end_up h c.args.c w c.end.new.self (subst N c.number.ensures c.end.ensures) k)

pub returns-in-Down : goal.returns-in-Down
returns-in-Down c = λ h k.
    let w = c.args.self.now in
    let D : Dir → Type 0 = λ d. IsWiresOf (End c.args.c d ∷ h) (record w { downward = c.end-in-Down.new.self }) in
    let N : ℕ → Type 0 = λ n. ChangesWay n (messages n w.downward) true w.downward c.end-in-Down.new.self in
    subst D (sym c.in-Down.is) (end_down h c.args.c w c.end-in-Down.new.self (subst N c.number-in-Down.ensures c.end-in-Down.ensures) k)
