-- How many entries come before a place of a history.
use Rattle.std.proofs.Common.{◌≡◌, List, length, sym}
use Rattle.dtx_model.specs.Words.{past_of}
use Rattle.outcome_reasons.proofs.Firsts.{length-past}

pub next-row : {E : Type 0} (xs : List E) → length xs ≡ length (past_of xs)
next-row xs = sym (length-past xs)

pub ruleset places = (next-row)
