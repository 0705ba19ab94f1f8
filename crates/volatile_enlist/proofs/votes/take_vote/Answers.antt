use Rattle.std.proofs.Common.{◌∙◌, sym}
use Rattle.volatile_enlist.proofs.Refusing.{second-vote}
use Rattle.volatile_enlist.proofs.votes.take_vote.Goals as goal

pub returns-in-Err-clause-refused : goal.returns-in-Err-clause-refused
returns-in-Err-clause-refused c = second-vote c.args.e c.args.t.now c.in-Err.field-0 (sym c.was_asked.ensures ∙ c.if-not-was_asked.false) c.in-Err.ensures.refused
