use Rattle.std.proofs.Common.{◌≡◌, [], replicate}
use Rattle.outcome_reasons.proofs.histories.no_histories.Given as goal

abbrev pub invariant-loop : goal.invariant-loop
invariant-loop l = l.histories.items ≡ replicate l.counter (record { entries = []; numbers = [] })
