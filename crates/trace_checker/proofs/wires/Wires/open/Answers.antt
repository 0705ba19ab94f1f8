use Rattle.std.proofs.Common.{true, false, ◌==◌, ◌∙◌}
use Rattle.trace_checker.specs.Intact.{is_intact_at}
use Rattle.trace_checker.proofs.Sending.{added, open_more, opening, removed}
use Rattle.trace_checker.proofs.Wiring.{on_ok}
use Rattle.trace_checker.proofs.wires.Wires.open.Goals as goal

pub returns-then-self : goal.returns-then-self
returns-then-self c = λ h y k.
    let w = c.args.self.now in let n' = c.number-k.result in
    open_more h c.args.c c.args.m.now true w (record { stopped = w.stopped; opened = c.add.new.self; intact = c.remove.new.self; upward = c.close.new.self; downward = c.open.new.self }) y c.if-self.true
    (opening c.args.c c.args.m.now true w n' c.add.new.self c.remove.new.self c.close.new.self c.open.new.self c.number-k.ensures c.in_ok-add.ensures
    (λ n. c.remove.ensures n ∙ removed (n == n') (is_intact_at n w.intact)) c.close.ensures c.in_ok-open.ensures) k

pub returns : goal.returns
returns c = on_ok c.open_with.result (λ up h y k.
    let w = c.args.self.now in let n' = c.number-k.result in
    open_more h c.args.c c.args.m.now false w (record { stopped = w.stopped; opened = c.add.new.self; intact = c.add-2.new.self; upward = c.open_with.new.self; downward = c.open.new.self }) y c.if-self.false
    (opening c.args.c c.args.m.now false w n' c.add.new.self c.add-2.new.self c.open_with.new.self c.open.new.self c.number-k.ensures c.in_ok-add.ensures
    (λ n. c.in_ok-add-2.ensures n ∙ added (n == n') (is_intact_at n w.intact)) up c.in_ok-open.ensures) k) c.open_with.ensures
