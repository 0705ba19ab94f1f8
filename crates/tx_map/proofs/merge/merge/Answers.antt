use Rattle.std.proofs.Common.{◌<◌, ◌++◌, length, sym, ap, ◌∙◌, arith, length-append}
use Rattle.tx_map.specs.Live.{entry_key}
use Rattle.tx_map.specs.Notes.{entry_of}
use Rattle.tx_map.proofs.Merging.{length-parts, length-entry, moved-skip, moved-step, rising-filter}
use Rattle.tx_map.proofs.merge.merge.Goals as goal
use Rattle.tx_map.proofs.merge.merge.Goals.{then-is_of, else-is_of}

pub extend-requires : goal.extend-requires
extend-requires c = omega (arith, length-parts c.w-item.result.key c.loop-w.rest.now, ap length c.split.ensures.below)

pub push-requires : goal.push-requires
push-requires c =
    omega (arith, length-parts c.w-item.result.key c.loop-w.rest.now, ap length c.split.ensures.below, ap length c.extend.ensures.items, length-append c.loop-w.out.items c.split.result.0.now)

pub loop-w-preserved : goal.loop-w-preserved
loop-w-preserved c =
    let lt : c.loop-w.w-index < length c.args.live.now = omega arith in
    elim c.if-is_of.branch [
      | then-is_of w ↦
          let items = moved-step (c.args.t, c.args.e) _ _ _ lt c.w-item.is _ _ _ _ _ _ (sym c.is_of.ensures ∙ w.if-is_of.true) c.requires.in_order w.split.ensures.below w.split.ensures.above w.extend.ensures.items w.push.ensures.items in
          record {
            rises = rw (w.rest-is, w.split.ensures.above) (rising-filter entry_key _ 0 _ c.loop-w.invariant.rises);
            items = rw (w.out-is, w.rest-is) (items ∙ c.loop-w.invariant.items);
            room = rw (w.out-is, w.rest-is) (omega (arith, length-parts c.w-item.result.key c.loop-w.rest.now, length-entry c.w-item.result.key c.w-item.result.value, ap length w.split.ensures.below, ap length w.split.ensures.above, ap length w.extend.ensures.items, length-append c.loop-w.out.items w.split.result.0.now, ap length w.push.ensures.items, length-append w.extend.new.out.items (entry_of c.w-item.result)));
            capacity = rw w.out-is (omega arith);
          }
      | else-is_of w ↦
          let skip = moved-skip (c.args.t, c.args.e) _ _ _ lt c.w-item.is c.loop-w.rest.now (sym c.is_of.ensures ∙ w.if-is_of.false) in
          record {
            rises = rw w.rest-is c.loop-w.invariant.rises;
            items = rw (w.out-is, w.rest-is) (ap (λ xs. c.loop-w.out.items ++ xs) skip ∙ c.loop-w.invariant.items);
            room = rw (w.out-is, w.rest-is) (omega arith);
            capacity = rw w.out-is (omega arith);
          }
    ]
