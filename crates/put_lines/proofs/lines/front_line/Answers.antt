use Rattle.std.proofs.Common.{arith, rules, true, false}
use Rattle.line_reader.proofs.Fronts.{cut_front, whole_front}
use Rattle.put_lines.proofs.FormedLines.{too_long, long_line, no_newline, cut_line}
use Rattle.put_lines.proofs.lines.front_line.Goals as goal

pub returns-then-taken-rest-gt-SCRIPT_BYTES-clause-bad : goal.returns-then-taken-rest-gt-SCRIPT_BYTES-clause-bad
returns-then-taken-rest-gt-SCRIPT_BYTES-clause-bad c = λ fs. too_long fs c.args.taken c.args.rest.now _ _ _ (whole_front c.args.rest.now (search rules)) (omega arith)

pub returns-then-rest-gt-LINE_BYTES-clause-bad : goal.returns-then-rest-gt-LINE_BYTES-clause-bad
returns-then-rest-gt-LINE_BYTES-clause-bad c = λ fs. long_line fs c.args.taken c.args.rest.now _ _ _ (whole_front c.args.rest.now (search rules)) (omega arith) (omega arith)

pub returns-in_default-clause-bad : goal.returns-in_default-clause-bad
returns-in_default-clause-bad c = λ fs. no_newline fs c.args.taken c.args.rest.now (search rules) (omega arith) (omega arith)

pub returns-then-taken-text-gt-SCRIPT_BYTES-clause-bad : goal.returns-then-taken-text-gt-SCRIPT_BYTES-clause-bad
returns-then-taken-text-gt-SCRIPT_BYTES-clause-bad c = λ fs.
    too_long fs c.args.taken c.args.rest.now _ _ _ (cut_front c.args.rest.now c.in-Some.text.now c.in-Some.after.now (search rules) (search rules)) (omega arith)

pub returns-then-text-gt-LINE_BYTES-clause-bad : goal.returns-then-text-gt-LINE_BYTES-clause-bad
returns-then-text-gt-LINE_BYTES-clause-bad c = λ fs.
    long_line fs c.args.taken c.args.rest.now _ _ _ (cut_front c.args.rest.now c.in-Some.text.now c.in-Some.after.now (search rules) (search rules)) (omega arith) (omega arith)

pub returns-then-not-are_printable-clause-bad : goal.returns-then-not-are_printable-clause-bad
returns-then-not-are_printable-clause-bad c = λ fs.
    cut_line fs c.args.taken c.args.rest.now c.in-Some.text.now c.in-Some.after.now false (search rules) (search rules) (omega arith) (omega arith) (search rules)

pub returns-clause-text : goal.returns-clause-text
returns-clause-text c = (cut_front c.args.rest.now c.in-Some.text.now c.in-Some.after.now (search rules) (search rules)).text

pub returns-clause-words : goal.returns-clause-words
returns-clause-words c = λ fs. cut_line fs c.args.taken c.args.rest.now c.in-Some.text.now c.in-Some.after.now true (search rules) (search rules) (omega arith) (omega arith) (search rules)
