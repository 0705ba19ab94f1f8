use Rattle.std.proofs.Common.{is_some}
use Rattle.half_parts.proofs.Links.{links-ended}
use Rattle.local_half.proofs.half.LocalHalf.hear_end.Goals as goal

pub invariant_of-self : goal.invariant_of-self
invariant_of-self c =
    let b = c.self.invariant in
    let i = c.self.inside in
    rw c.down.ensures.ends (b.0, b.1, b.2, b.3, b.4, b.5, links-ended (is_some i.decided) i.table i.waits.items i.branches.items i.proxy c.args.c b.6, b.7, b.8, b.9)
