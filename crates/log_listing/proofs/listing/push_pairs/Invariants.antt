use Rattle.std.proofs.Common.{◌≡◌, ◌++◌, drop}
use Rattle.log_listing.proofs.Pieces.{pairs_text}
use Rattle.log_listing.proofs.listing.push_pairs.Given as goal

abbrev pub invariant-loop-i : goal.invariant-loop-i
invariant-loop-i l = l.text.items ++ pairs_text (drop l.i l.pairs) ≡ l.initial.text.items ++ pairs_text l.pairs
