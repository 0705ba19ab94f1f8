use Rattle.std.proofs.Common.{◌≡◌, ◌++◌, drop}
use Rattle.log_listing.proofs.Pieces.{lines_from}
use Rattle.log_listing.proofs.listing.push_slots.Given as goal

abbrev pub invariant-loop-k : goal.invariant-loop-k
invariant-loop-k l = l.text.items ++ lines_from l.k (drop l.k l.records) ≡ l.initial.text.items ++ lines_from 0 l.records
