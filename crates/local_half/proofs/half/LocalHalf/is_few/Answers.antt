use Rattle.std.proofs.Common.{◌≤◌, length, subst}
use Rattle.half_parts.specs.Half.{Known}
use Rattle.half_parts.proofs.Links.{ends_few}
use Rattle.local_half.proofs.half.LocalHalf.is_few.Goals as goal

pub returns-clause-ends : goal.returns-clause-ends
returns-clause-ends c = subst (λ (k : Known). length k.half.seen.ends ≤ 34) c.self.view_is (ends_few _ _ _ _ _ c.self.invariant.6)
