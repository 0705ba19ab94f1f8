use Rattle.std.proofs.Common.{◌≡◌, ◌∙◌, ◌+◌, not, ap, arith, length, sym, if◌then◌else◌}
use Rattle.std.proofs.lemmas.Bool.{cond-false, cond-true, not_from_true}
use Rattle.dtx_values.specs.declared.message.Dir.TheVariants.{Up}
use Rattle.dtx_values.specs.Ends.{order_of}
use Rattle.dtx_values.specs.Lines.{has_line, is_opening}
use Rattle.dtx_values.specs.Table.{insert_by}
use Rattle.dtx_model.specs.Coordinated.{without}
use Rattle.dtx_model.proofs.Counts.{length-insert_by}
use Rattle.coordinator_core.proofs.machine.Core.known_after.Goals as goal

pub returns-then-is_opening : goal.returns-then-is_opening
returns-then-is_opening c =
    let x = c.args.c in
    let m = c.args.m in
    let known = c.args.self.now.state.known in
    let others = without x known in
    let opened = insert_by order_of x others in
    let line = not_from_true (has_line x Up m) (sym c.has_line.ensures ∙ c.if-not-has_line.false) in
    let opening = sym c.is_opening.ensures ∙ c.if-is_opening.true in
    let long : c.others-then-is_opening.result + 1 ≡ length opened = omega (arith, length-insert_by order_of x others, c.others-then-is_opening.ensures.count) in
    long ∙ sym (ap length (cond-false (not (has_line x Up m)) others (if is_opening x m then opened else known) line ∙ cond-true (is_opening x m) opened known opening))
