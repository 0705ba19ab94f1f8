use Rattle.put_lines.proofs.FrontLines.{begins}
use Rattle.put_lines.proofs.fronts.next_front_line.Goals as goal

pub returns-clause-ok : goal.returns-clause-ok
returns-clause-ok c =
    begins c.args.taken c.args.rest.now c.in_ok-text.text.now c.in_ok-text.after.now c.in_ok-line.line c.in_ok-text.ensures.cut c.in_ok-text.ensures.within c.in_ok-line.ensures.0 c.in_ok-line.ensures.1
