use Rattle.std.proofs.Common.{◌+◌}
use Rattle.put_lines.proofs.BodyLines.{bad_behind, within_line}
use Rattle.put_lines.proofs.bodies.next_body_line.Goals as goal

pub returns-in-Ok-clause-within : goal.returns-in-Ok-clause-within
returns-in-Ok-clause-within c =
    within_line (c.args.taken + c.args.own) c.args.draft.now c.args.rest.now c.in_ok-_text._text.now c.in-Ok.line c.in-Ok.after.now c.in_ok-_text.ensures.text c.in_ok-_text.ensures.within c.in-Ok.ensures.ok

pub returns-in-Err-clause-bad : goal.returns-in-Err-clause-bad
returns-in-Err-clause-bad c =
    bad_behind c.args.taken c.args.own c.args.draft.now c.args.rest.now c.in_ok-_text._text.now c.in_ok-_text._after.now c.in-Err.cause c.requires.own c.in_ok-_text.ensures.cut c.in_ok-_text.ensures.without c.in_ok-_text.ensures.within
    c.in-Err.ensures.bad
