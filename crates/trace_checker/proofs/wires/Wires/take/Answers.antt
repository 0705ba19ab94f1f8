use Rattle.std.proofs.Common.{◌≡◌, ◌↔◌, ℕ, true, ◌∷◌, IsTrue, subst, sym}
use Rattle.dtx_values.specs.declared.entry.Entry.TheVariants.{Got}
use Rattle.dtx_values.specs.declared.message.Dir.{Dir}
use Rattle.dtx_values.specs.Lines.{has_line}
use Rattle.dtx_model.specs.Wires.{MayCross, without_first}
use Rattle.trace_checker.specs.Ways.{ChangesWay, is_way_ended, messages}
use Rattle.trace_checker.specs.Wires.{IsWiresOf}
use Rattle.trace_checker.proofs.Wiring.{get_down, get_up, next_down, next_up}
use Rattle.trace_checker.proofs.wires.Wires.take.Goals as goal

pub returns-in-Up-clause-next : goal.returns-in-Up-clause-next
returns-in-Up-clause-next c = λ h k.
    let D : Dir → Type 0 = λ d. IsTrue c.take.result ↔ MayCross h (Got c.args.c d c.args.m.now) in
    subst D (sym c.in-Up.is) (next_up h c.args.c c.args.m.now c.args.self.now c.number.result c.take.result c.number.ensures c.take.ensures.next k)

pub returns-in-Up-clause-taken : goal.returns-in-Up-clause-taken
returns-in-Up-clause-taken c = λ t h y k.
    let w = c.args.self.now in let m = c.args.m.now in
    let D : Dir → Type 0 = λ d. has_line c.args.c d m ≡ true → IsWiresOf (Got c.args.c d m ∷ h) (record w { upward = c.take.new.self }) in
    let N : ℕ → Type 0 = λ n. ChangesWay n (without_first (messages n w.upward)) (is_way_ended n w.upward) w.upward c.take.new.self in
    subst D (sym c.in-Up.is) (λ z. get_up h c.args.c m w c.take.new.self z (subst N c.number.ensures (c.take.ensures.taken t)) k) y

pub returns-in-Down-clause-next : goal.returns-in-Down-clause-next
returns-in-Down-clause-next c = λ h k.
    let D : Dir → Type 0 = λ d. IsTrue c.take-in-Down.result ↔ MayCross h (Got c.args.c d c.args.m.now) in
    subst D (sym c.in-Down.is) (next_down h c.args.c c.args.m.now c.args.self.now c.number-in-Down.result c.take-in-Down.result c.number-in-Down.ensures c.take-in-Down.ensures.next k)

pub returns-in-Down-clause-taken : goal.returns-in-Down-clause-taken
returns-in-Down-clause-taken c = λ t h y k.
    let w = c.args.self.now in let m = c.args.m.now in
    let D : Dir → Type 0 = λ d. has_line c.args.c d m ≡ true → IsWiresOf (Got c.args.c d m ∷ h) (record w { downward = c.take-in-Down.new.self }) in
    let N : ℕ → Type 0 = λ n. ChangesWay n (without_first (messages n w.downward)) (is_way_ended n w.downward) w.downward c.take-in-Down.new.self in
    subst D (sym c.in-Down.is) (λ z. get_down h c.args.c m w c.take-in-Down.new.self z (subst N c.number-in-Down.ensures (c.take-in-Down.ensures.taken t)) k) y
