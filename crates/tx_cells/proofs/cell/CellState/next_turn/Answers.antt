use Rattle.std.proofs.Common.{arith, sym, ap, ◌∙◌}
use Rattle.tx_cells.proofs.Turning.{IsAtTurn, turn_ask, turn_on, turn_step_there}
use Rattle.tx_cells.proofs.cell.CellState.next_turn.Goals as goal
use Rattle.turn_parts.specs.Marks.{is_out}

pub returns-in_default : goal.returns-in_default
returns-in_default g c =
    let t : IsAtTurn c.self.inside.world c.self.inside.rows c.self.inside.out.items c.args.self.now c.loop-k.k c.due_at.result =
    record { view = c.self.view_is; below = omega (arith, c.loop-k-test.true, c.pending-count.ensures); so_far = c.loop-k.invariant; reply = c.due_at.ensures } in
    turn_step_there c.self.inside.world c.self.inside.rows c.self.inside.out.items c.args.self.now c.loop-k.k c.due_at.result t c.in_default.is

pub returns-then-not-is_out : goal.returns-then-not-is_out
returns-then-not-is_out g c =
    let t : IsAtTurn c.self.inside.world c.self.inside.rows c.self.inside.out.items c.args.self.now c.loop-k.k c.due_at.result =
    record { view = c.self.view_is; below = omega (arith, c.loop-k-test.true, c.pending-count.ensures); so_far = c.loop-k.invariant; reply = c.due_at.ensures } in
    turn_ask c.self.inside.world c.self.inside.rows c.self.inside.out.items c.args.self.now c.loop-k.k c.due_at.result c.in-Some.x t c.in-Some.is (ap (λ xs. is_out xs c.in-Some.x) (sym c.as_slice.ensures.value) ∙ (sym c.is_out.ensures ∙ c.if-not-is_out.true))

pub loop-k-preserved : goal.loop-k-preserved
loop-k-preserved g c =
    let t : IsAtTurn c.self.inside.world c.self.inside.rows c.self.inside.out.items c.args.self.now c.loop-k.k c.due_at.result =
    record { view = c.self.view_is; below = omega (arith, c.loop-k-test.true, c.pending-count.ensures); so_far = c.loop-k.invariant; reply = c.due_at.ensures } in
    turn_on c.self.inside.world c.self.inside.rows c.self.inside.out.items c.args.self.now c.loop-k.k c.due_at.result c.in-Some.x t c.in-Some.is (ap (λ xs. is_out xs c.in-Some.x) (sym c.as_slice.ensures.value) ∙ (sym c.is_out.ensures ∙ c.if-not-is_out.false))
