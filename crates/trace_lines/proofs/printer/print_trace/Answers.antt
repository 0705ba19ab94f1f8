use Rattle.std.proofs.Common.{◌≡◌, subst}
use Rattle.trace_lines.specs.Forms.{lines_text}
use Rattle.trace_lines.proofs.Lines.{whole}
use Rattle.trace_lines.proofs.printer.print_trace.Goals as goal

pub returns-clause-plain : goal.returns-clause-plain
returns-clause-plain c = λ plain.
    subst (λ wire. c.print_lines.new.text.items ≡ lines_text wire c.args.t.now) plain (whole c.args.wire c.args.t.now _ _ _ c.in_ok-print_lines.ensures.text c.in_ok-text.ensures.items c.len-2.ensures)

pub returns-clause-wire : goal.returns-clause-wire
returns-clause-wire c = λ wired.
    subst (λ wire. c.print_lines.new.text.items ≡ lines_text wire c.args.t.now) wired (whole c.args.wire c.args.t.now _ _ _ c.in_ok-print_lines.ensures.text c.in_ok-text.ensures.items c.len-2.ensures)
