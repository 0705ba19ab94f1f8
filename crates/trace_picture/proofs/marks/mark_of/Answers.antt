use Rattle.std.proofs.Common.{◌∙◌, sym}
use Rattle.dtx_model.specs.Words.{past_of}
use Rattle.trace_picture.proofs.Others.{others}
use Rattle.trace_picture.proofs.marks.mark_of.Goals as goal

pub returns-in_default : goal.returns-in_default
returns-in_default c =
    record { mark = c.plain_mark.ensures ∙ sym (others c.args.lines.now (past_of c.args.came.now) (past_of c.args.h.now) c.args.x.now c.in_default.not-Called c.in_default.not-Sent c.in_default.not-Got) }
