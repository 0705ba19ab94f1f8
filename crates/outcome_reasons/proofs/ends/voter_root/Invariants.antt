use Rattle.std.proofs.Common.{◌≡◌, take}
use Rattle.dtx_values.specs.declared.message.Conn.TheVariants.{Voter}
use Rattle.dtx_model.specs.Outcome.{is_voter_end}
use Rattle.dtx_model.specs.Words.{past_of}
use Rattle.outcome_reasons.specs.Roots.{end_root}
use Rattle.outcome_reasons.proofs.ends.voter_root.Given as goal

abbrev pub invariant-loop-i : goal.invariant-loop-i
invariant-loop-i l = l.found ≡ end_root (past_of l.numbers) Voter is_voter_end (past_of (take l.i l.h))
