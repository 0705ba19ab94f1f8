use Rattle.std.proofs.Common.{◌∙◌, sym}
use Rattle.half_parts.proofs.Due.{quiet_row}
use Rattle.local_half.proofs.half.LocalHalf.may_owe_more.Goals as goal

pub returns-clause-votes : goal.returns-clause-votes
returns-clause-votes c k = quiet_row c.args.self.now.half.seen (sym c.owes_more.ensures ∙ k)
