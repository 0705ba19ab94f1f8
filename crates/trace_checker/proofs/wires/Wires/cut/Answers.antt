use Rattle.std.proofs.Common.{◌≡◌, ℕ, ◌==◌, ◌&&◌, not, take, subst}
use Rattle.trace_checker.specs.declared.ways.Ways.{Ways}
use Rattle.trace_checker.specs.Intact.{is_intact_at}
use Rattle.trace_checker.specs.Ways.{ChangesWay, is_way_ended, messages}
use Rattle.trace_checker.proofs.Wiring.{cut_more}
use Rattle.trace_checker.proofs.wires.Wires.cut.Goals as goal

pub returns : goal.returns
returns c = λ h k.
    let w = c.args.self.now in
    let I : ℕ → Type 0 = λ n. (q : ℕ) → is_intact_at q c.remove.new.self ≡ (not (q == n) && is_intact_at q w.intact) in
    let K : ℕ → Ways → Ways → ℕ → Type 0 = λ m old new n. ChangesWay n (take m (messages n old)) (is_way_ended n old) old new in
    cut_more h c.args.c c.args.up c.args.down w c.remove.new.self c.keep.new.self c.keep-2.new.self (subst I c.number-k.ensures c.remove.ensures)
    (subst (K c.args.up w.upward c.keep.new.self) c.number-k.ensures c.keep.ensures) (subst (K c.args.down w.downward c.keep-2.new.self) c.number-k.ensures c.keep-2.ensures) k
