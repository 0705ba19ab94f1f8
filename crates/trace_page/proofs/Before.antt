-- How many items come before a place, and the text of one line.
use Rattle.std.proofs.Common.{append-nil}
use Rattle.outcome_reasons.proofs.Firsts.{length-before}

pub ruleset before = (length-before)

pub ruleset one_line = (append-nil)
