use Rattle.std.proofs.Common.{ap, arith, is_some, subst, sym}
use Rattle.dtx_values.specs.Row.{fresh_row}
use Rattle.dtx_values.specs.Table.{marks}
use Rattle.dtx_model.specs.declared.listener.Listener.{Listener}
use Rattle.half_parts.specs.Half.{Known}
use Rattle.half_parts.specs.Taken.{HasPlace}
use Rattle.half_parts.proofs.Lost.{lost-more, one_each}
use Rattle.half_parts.proofs.Links.{links-row}
use Rattle.half_parts.proofs.Rows.{rows-more}
use Rattle.half_parts.proofs.Waiters.{row_beside}
use Rattle.local_half.proofs.half.LocalHalf.enlist.Goals as goal

pub invariant_of-self : goal.invariant_of-self
invariant_of-self c =
    let b = c.self.invariant in
    let i = c.self.inside in
    let e = c.args.e in
    let place = subst (λ (k : Known). HasPlace k.half e c.args.class) (sym c.self.view_is) c.requires in
    let capacity = c.insert_in_order.ensures.capacity in
    rw c.in-Ok.ensures.added (
      omega (arith, capacity, b.0),
      b.1,
      b.2,
      one_each c.listener.result i.listeners.items _ (fresh_row e c.args.class (marks i.table)) i.table c.insert_in_order.ensures.items b.3,
      rows-more i.limit i.handover.over i.table i.manager i.waits.items e c.args.class place.few place.few_last (λ p. place.alone) place.begun b.4,
      row_beside i.table i.waits.items e c.args.class place.unawaited b.5,
      links-row (is_some i.decided) i.table i.waits.items i.branches.items i.proxy e c.args.class b.6,
      b.7,
      b.8,
      λ none. lost-more c.listener.result i.listeners.items _ (ap (λ (l : Listener). l.lost) c.listener.ensures) c.insert_in_order.ensures.items (b.9 none),
    )
