use Rattle.std.proofs.Common.{◌≡◌, drop}
use Rattle.dtx_values.specs.Owners.{commits_alone, lasting}
use Rattle.half_parts.proofs.Lone.{alone_after}
use Rattle.half_parts.proofs.votes.commits_alone.Given as goal

abbrev pub invariant-loop-x : goal.invariant-loop-x
invariant-loop-x l = alone_after l.lone (lasting (drop l.x-index l.rows)) ≡ commits_alone l.rows
