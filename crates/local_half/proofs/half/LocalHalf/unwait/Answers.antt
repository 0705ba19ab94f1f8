use Rattle.std.proofs.Common.{◌==◌, is_some, not, subst, sym}
use Rattle.dtx_values.specs.declared.entry.Entry.TheVariants.{Answered}
use Rattle.dtx_model.specs.Waiting.{is_place}
use Rattle.half_parts.specs.Half.{Known}
use Rattle.half_parts.specs.Taken.{MayTakeIn}
use Rattle.half_parts.specs.Waits.{without}
use Rattle.half_parts.proofs.Links.{links-answered}
use Rattle.half_parts.proofs.Lists.{how_many-filter-le}
use Rattle.half_parts.proofs.Rows.{rows-waits}
use Rattle.half_parts.proofs.Waiters.{drop_waiter, without_fewer, without_nothing}
use Rattle.local_half.proofs.half.LocalHalf.unwait.Goals as goal

pub invariant_of-self : goal.invariant_of-self
invariant_of-self c =
    let b = c.self.invariant in
    let i = c.self.inside in
    let n = c.args.n in
    let ws = i.waits.items in
    let may = subst (λ (k : Known). MayTakeIn k.half (Answered n c.args.x)) (sym c.self.view_is) c.requires in
    rw (c.remove.ensures.items, c.remove.ensures.capacity) (
      b.0,
      b.1,
      b.2,
      b.3,
      rows-waits i.limit i.handover.over i.table i.manager ws (without n ws) (how_many-filter-le is_place (λ w. not (n == w.0)) ws) (λ k z. without_fewer n ws z) b.4,
      drop_waiter i.table ws n b.5,
      links-answered (is_some i.decided) i.table ws i.branches.items i.proxy n may b.6,
      b.7,
      λ none. without_nothing n ws (b.8 none),
      b.9,
    )
