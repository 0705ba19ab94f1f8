use Rattle.std.proofs.Common.{length, ap, arith}
use Rattle.tx_map.specs.Live.{write_key}
use Rattle.tx_map.proofs.Merging.{length-own-others, rising-filter}
use Rattle.tx_map.proofs.Tallying.{tallied-others}
use Rattle.tx_map.proofs.map.TxMap.roll_back.Goals as goal

pub invariant_of-self : goal.invariant_of-self
invariant_of-self c =
    let kept = length-own-others (c.args.t, c.args.e) c.self.inside.live.items in
    let items = ap length c.forget.ensures.items in
    record {
      base_rises = c.self.invariant.base_rises;
      live_rises = rw c.forget.ensures.items (rising-filter write_key _ 0 _ c.self.invariant.live_rises);
      tallied = rw c.forget.ensures.items (tallied-others (c.args.t, c.args.e) c.self.inside.live.items c.self.inside.pairs c.forget_tally.new.pairs c.self.invariant.tallied c.forget_tally.ensures);
      spare_empty = c.self.invariant.spare_empty;
      base_room = omega (arith, kept, items);
      spare_room = omega (arith, kept, items);
    }
