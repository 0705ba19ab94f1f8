use Rattle.std.proofs.Common.{◌∙◌, ◌==◌, ℕ, Bool, ap}
use Rattle.dtx_model.specs.Words.{has, past_of}
use Rattle.trace_picture.specs.Marks.{sent_mark}
use Rattle.trace_picture.proofs.marks.sent_after.Goals as goal

pub returns : goal.returns
returns c =
    c.sent_mark.ensures ∙ ap (λ (b : Bool). sent_mark b c.next_row-row.result c.args.c c.args.d c.args.m) c.comes.ensures
    ∙ ap (λ (r : ℕ). sent_mark (has (λ i. r == i) (past_of c.args.came.now)) r c.args.c c.args.d c.args.m) c.next_row-row.ensures
