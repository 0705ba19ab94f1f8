use Rattle.std.proofs.Common.{◌∙◌, ap, sym}
use Rattle.half_parts.specs.Half.{fits_due}
use Rattle.half_parts.proofs.Following.{replied}
use Rattle.local_half.proofs.half.LocalHalf.reply.Goals as goal

pub returns-in-Some-clause-runs : goal.returns-in-Some-clause-runs
returns-in-Some-clause-runs c w follows done =
    let due = sym c.due_of.ensures ∙ c.in-Some.is in
    replied c.args.self.now c.take_reply.new.self w c.args.e c.args.r c.in-Some.note follows due (ap (fits_due c.args.r) (sym due) ∙ c.requires.fits) c.take_reply.ensures.state
