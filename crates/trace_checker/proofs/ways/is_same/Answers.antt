use Rattle.std.proofs.Common.{sym, ◌∙◌}
use Rattle.trace_checker.proofs.Messages.{same_message}
use Rattle.trace_checker.proofs.ways.is_same.Goals as goal

pub returns-clause-same : goal.returns-clause-same
returns-clause-same c = λ e. same_message c.args.m.now c.args.n.now (sym c.eq.ensures ∙ e)
