use Rattle.std.proofs.Common.{◌≡◌, ℕ, false, ◌&&◌, [], ◌∷◌, ◌++◌, subst, sym}
use Rattle.dtx_values.specs.declared.entry.Entry.TheVariants.{Sent}
use Rattle.dtx_values.specs.declared.message.Dir.{Dir}
use Rattle.dtx_values.specs.declared.message.Dir.TheVariants.{Up}
use Rattle.dtx_values.specs.Ends.{same_direction}
use Rattle.dtx_values.specs.Lines.{is_opening}
use Rattle.trace_checker.specs.Ways.{ChangesWay, is_way_ended, messages}
use Rattle.trace_checker.specs.Wires.{IsWiresOf}
use Rattle.trace_checker.proofs.Sending.{send_down, send_dropped, send_up}
use Rattle.trace_checker.proofs.Wiring.{on_ok}
use Rattle.trace_checker.proofs.wires.Wires.send.Goals as goal

pub returns-then-not-is_open : goal.returns-then-not-is_open
returns-then-not-is_open c = λ h p k. send_dropped h c.args.c c.args.d c.args.m.now c.args.self.now p (sym c.if-not-is_open.ensures) k

pub returns-in-Up : goal.returns-in-Up
returns-in-Up c = on_ok c.send.result (λ ch h p k.
    let w = c.args.self.now in
    let D : Dir → Type 0 = λ d. (same_direction d Up && is_opening c.args.c c.args.m.now) ≡ false → IsWiresOf (Sent c.args.c d c.args.m.now ∷ h) (record w { upward = c.send.new.self }) in
    let N : ℕ → Type 0 = λ n. ChangesWay n (messages n w.upward ++ c.args.m.now ∷ []) (is_way_ended n w.upward) w.upward c.send.new.self in
    subst D (sym c.in-Up.is) (λ z. send_up h c.args.c c.args.m.now w c.send.new.self z (sym c.if-not-is_open.ensures) (subst N c.number-k.ensures ch) k) p) c.send.ensures

pub returns-in-Down : goal.returns-in-Down
returns-in-Down c = on_ok c.send-in-Down.result (λ ch h p k.
    let w = c.args.self.now in
    let D : Dir → Type 0 = λ d. (same_direction d Up && is_opening c.args.c c.args.m.now) ≡ false → IsWiresOf (Sent c.args.c d c.args.m.now ∷ h) (record w { downward = c.send-in-Down.new.self }) in
    let N : ℕ → Type 0 = λ n. ChangesWay n (messages n w.downward ++ c.args.m.now ∷ []) (is_way_ended n w.downward) w.downward c.send-in-Down.new.self in
    subst D (sym c.in-Down.is) (λ z. send_down h c.args.c c.args.m.now w c.send-in-Down.new.self (sym c.if-not-is_open.ensures) (subst N c.number-k.ensures ch) k) p) c.send-in-Down.ensures
