use Rattle.std.proofs.Common.{◌∙◌, sym}
use Rattle.half_parts.proofs.Due.{none_due}
use Rattle.local_half.proofs.half.LocalHalf.may_be_due.Goals as goal

pub returns-clause-none : goal.returns-clause-none
returns-clause-none c k = none_due c.args.self.now.half.seen (sym c.may_owe.ensures ∙ k)
