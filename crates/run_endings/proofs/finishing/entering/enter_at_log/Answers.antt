use Rattle.std.proofs.Common.{◌≡◌, ◌∙◌, Some, ap, arith, sym}
use Rattle.std.specs.Prelude.{is_some}
use Rattle.script_calls.specs.Rows.{row_at}
use Rattle.tx_cells.specs.LogEntering.{next_at_log}
use Rattle.run_endings.specs.Finishing.{left_in}
use Rattle.run_endings.proofs.Left.{not_put_off, one_less_in, same_left}
use Rattle.run_endings.proofs.finishing.entering.enter_at_log.Goals as goal

pub returns-clause-less : goal.returns-clause-less
returns-clause-less g c = λ yes.
    let next : next_at_log c.args.a c.args.log.now ≡ Some c.in-Some.due = sym c.next.ensures ∙ c.in-Some.is in
    let did = c.in_ok-enter.ensures.entered (not_put_off (next_at_log c.args.a c.args.log.now) c.in-Some.due next) in
    let one = one_less_in (row_at c.args.a c.args.log.now.rows) (row_at c.args.a c.enter.new.self.rows) (ap is_some next) did.row in
    let same = same_left c.args.a c.args.states.now c.follow_all.new.states c.in_ok-follow_all.ensures.calls in
    omega (arith, one, same)

pub returns-clause-others : goal.returns-clause-others
returns-clause-others g c = λ b other.
    let next : next_at_log c.args.a c.args.log.now ≡ Some c.in-Some.due = sym c.next.ensures ∙ c.in-Some.is in
    let did = c.in_ok-enter.ensures.entered (not_put_off (next_at_log c.args.a c.args.log.now) c.in-Some.due next) in
    let one = ap left_in (did.others b other) in
    let same = same_left b c.args.states.now c.follow_all.new.states c.in_ok-follow_all.ensures.calls in
    omega (arith, one, same)
