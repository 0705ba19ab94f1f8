use Rattle.std.proofs.Common.{◌≡◌, Some, find, ap, arith, is_some, subst, sym, true}
use Rattle.dtx_values.specs.Row.{fresh_row}
use Rattle.dtx_values.specs.Table.{marks}
use Rattle.dtx_model.specs.declared.listener.Listener.{Listener}
use Rattle.dtx_model.specs.declared.waiting.Wanted.TheVariants.{Place}
use Rattle.dtx_model.specs.Waiting.{is_place_of}
use Rattle.half_parts.specs.Half.{Known}
use Rattle.half_parts.specs.Waits.{without}
use Rattle.half_parts.proofs.Lost.{lost-more, one_each}
use Rattle.half_parts.proofs.Links.{links-placed}
use Rattle.half_parts.proofs.Rows.{rows-placed, taken}
use Rattle.half_parts.proofs.Waiters.{drop_waiter, place_found, row_beside, without_nothing}
use Rattle.local_half.proofs.half.LocalHalf.give_place.Goals as goal

pub unreachable-requires : goal.unreachable-requires
unreachable-requires c =
    let b = c.self.invariant in
    let i = c.self.inside in
    let e = c.args.e in
    let w = c.requires.waits in
    let waits = subst (λ (k : Known). find (is_place_of e.value) k.half.waits ≡ Some (c.args.n, Place w.1 w.0 c.args.class)) (sym c.self.view_is) w.2 in
    let found = place_found 0 i.table i.waits.items e.value c.args.n w.1 w.0 c.args.class b.5.rise b.5.once b.5.to_come waits in
    let none = taken e c.args.class i.table found.new (omega (arith, found.fewer, b.4.few)) (λ v. omega (arith, found.fewer, b.4.few_last)) in
    cc (c.in-Err.ensures.refused)

pub invariant_of-self : goal.invariant_of-self
invariant_of-self c =
    let b = c.self.invariant in
    let i = c.self.inside in
    let e = c.args.e in
    let n = c.args.n in
    let ws = i.waits.items in
    let w = c.requires.waits in
    let waits = subst (λ (k : Known). find (is_place_of e.value) k.half.waits ≡ Some (n, Place w.1 w.0 c.args.class)) (sym c.self.view_is) w.2 in
    let found = place_found 0 i.table ws e.value n w.1 w.0 c.args.class b.5.rise b.5.once b.5.to_come waits in
    let promoted : i.handover.over ≡ true = subst (λ (k : Known). k.half.seen.promoted ≡ true) (sym c.self.view_is) c.requires.promoted in
    rw (c.in-Ok.ensures.added, c.remove.ensures.items, c.remove.ensures.capacity) (
      omega (arith, c.insert_in_order.ensures.capacity, b.0),
      b.1,
      b.2,
      one_each c.listener.result i.listeners.items _ (fresh_row e c.args.class (marks i.table)) i.table c.insert_in_order.ensures.items b.3,
      rows-placed i.limit i.handover.over i.table i.manager ws e n c.args.class promoted found b.4,
      row_beside i.table (without n ws) e c.args.class found.over (drop_waiter i.table ws n b.5),
      links-placed (is_some i.decided) i.table ws i.branches.items i.proxy e n c.args.class found b.6,
      b.7,
      λ none. without_nothing n ws (b.8 none),
      λ none. lost-more c.listener.result i.listeners.items _ (ap (λ (l : Listener). l.lost) c.listener.ensures) c.insert_in_order.ensures.items (b.9 none),
    )
