use Rattle.std.proofs.Common.{is_some}
use Rattle.half_parts.proofs.Links.{links-got}
use Rattle.local_half.proofs.half.LocalHalf.hear.Goals as goal

pub invariant_of-self : goal.invariant_of-self
invariant_of-self c =
    let b = c.self.invariant in
    let i = c.self.inside in
    rw (c.note_got.ensures.items, c.note_got.ensures.capacity, c.got.ensures.ends)
    (b.0, b.1, b.2, b.3, b.4, b.5, links-got (is_some i.decided) i.table i.waits.items i.branches.items i.proxy c.args.c c.args.m b.6, b.7, b.8, b.9)
