use Rattle.std.proofs.Common.{ap, arith, sym, ◌∙◌}
use Rattle.turn_parts.specs.Marks.{is_that}
use Rattle.turn_parts.proofs.Placing.{due_found, due_on}
use Rattle.turn_parts.proofs.marks.place_of.Goals as goal

pub returns-then-is_that-clause-due : goal.returns-then-is_that-clause-due
returns-then-is_that-clause-due c =
    due_found c.args.world.now.world c.args.x c.loop-k.k c.due_at.result (omega (arith, c.loop-k-test.true, c.pending-count.ensures)) c.loop-k.invariant c.due_at.ensures (sym c.is_that.ensures ∙ c.if-is_that.true)

pub loop-k-preserved : goal.loop-k-preserved
loop-k-preserved c =
    due_on c.args.world.now.world c.args.x c.loop-k.k c.due_at.result (omega (arith, c.loop-k-test.true, c.pending-count.ensures)) c.loop-k.invariant c.due_at.ensures (sym c.is_that.ensures ∙ c.if-is_that.false)

pub returns-then-is_that-clause-place : goal.returns-then-is_that-clause-place
returns-then-is_that-clause-place c = ap (is_that c.args.x) (sym c.due_at.ensures) ∙ (sym c.is_that.ensures ∙ c.if-is_that.true)
