use Rattle.std.proofs.Common.{◌≡◌, length, refl, ap, arith, vec_capacity}
use Rattle.tx_map.specs.Live.{own, write_key}
use Rattle.tx_map.specs.Notes.{moved}
use Rattle.tx_map.proofs.Merging.{length-moved, length-own-others, rising-filter, rising-moved}
use Rattle.tx_map.proofs.Tallying.{tallied-others}
use Rattle.tx_map.proofs.map.TxMap.commit.Goals as goal

pub invariant_of-self : goal.invariant_of-self
invariant_of-self c =
    let base : c.swap.new.x.items ≡ moved (own (c.args.t, c.args.e) c.self.inside.live.items) c.self.inside.base.items = rw (c.swap.ensures.x_after, c.merge.ensures.items, c.self.invariant.spare_empty, c.deref-2.ensures.value, c.deref.ensures.value) refl in
    let base_len = ap length base in
    let grown = length-moved (own (c.args.t, c.args.e) c.self.inside.live.items) c.self.inside.base.items in
    let kept = length-own-others (c.args.t, c.args.e) c.self.inside.live.items in
    let live_len = ap length c.forget.ensures.items in
    let x_room = ap vec_capacity c.swap.ensures.x_after in
    let y_room = ap vec_capacity c.swap.ensures.y_after in
    record {
      base_rises = rw base (rising-moved (own (c.args.t, c.args.e) c.self.inside.live.items) c.self.inside.base.items c.self.invariant.base_rises);
      live_rises = rw c.forget.ensures.items (rising-filter write_key _ 0 _ c.self.invariant.live_rises);
      tallied = rw c.forget.ensures.items (tallied-others (c.args.t, c.args.e) c.self.inside.live.items c.self.inside.pairs c.forget_tally.new.pairs c.self.invariant.tallied c.forget_tally.ensures);
      spare_empty = c.clear.ensures.items;
      base_room = omega (arith, base_len, grown, kept, live_len, x_room, c.merge.ensures.capacity, c.self.invariant.spare_room);
      spare_room = omega (arith, base_len, grown, kept, live_len, y_room, c.clear.ensures.capacity, c.self.invariant.base_room);
    }
