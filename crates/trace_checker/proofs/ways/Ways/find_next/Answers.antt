use Rattle.std.proofs.Common.{◌≤◌, List, arith, length, refl, subst, sym, ap}
use Rattle.dtx_values.specs.declared.message.Message.{Message}
use Rattle.dtx_model.specs.Wires.{is_next}
use Rattle.trace_checker.specs.Ways.{messages_on}
use Rattle.trace_checker.proofs.Placing.{next_is, next_is_not, row_is}
use Rattle.trace_checker.proofs.ways.Ways.find_next.Goals as goal

pub returns-then-is_same-clause-some : goal.returns-then-is_same-clause-some
returns-then-is_same-clause-some c =
    let y = c.index.result.now in let m = c.args.m.now in let n = c.in_ok-next.next.now in
    let is = row_is c.args.k c.in_ok-p.p c.args.self.now y c.in_ok-p.ensures.some c.index.ensures in
    let some : 1 ≤ length y.messages.items = omega (arith, c.in_ok-next.ensures.variant.0 refl, y.messages.ok.0) in
    let N : List Message → Type 0 = λ ms. is_next m ms in
    (c.in_ok-p.ensures.some, subst N (sym (ap messages_on is)) (next_is y.messages.items n m some c.in_ok-next.ensures.lookup (c.if-is_same.ensures.same refl)))

pub returns-else-is_same-clause-none : goal.returns-else-is_same-clause-none
returns-else-is_same-clause-none c = λ k.
    let y = c.index.result.now in let m = c.args.m.now in let n = c.in_ok-next.next.now in
    let is = row_is c.args.k c.in_ok-p.p c.args.self.now y c.in_ok-p.ensures.some c.index.ensures in
    let some : 1 ≤ length y.messages.items = omega (arith, c.in_ok-next.ensures.variant.0 refl, y.messages.ok.0) in
    let N : List Message → Type 0 = λ ms. is_next m ms in
    next_is_not y.messages.items n m some c.in_ok-next.ensures.lookup (c.if-is_same.ensures.other refl) (subst N (ap messages_on is) k)
