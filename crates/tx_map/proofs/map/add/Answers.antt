use Rattle.std.proofs.Common.{◌≡◌, ◌+◌, length, refl, ap, ◌∙◌, arith}
use Rattle.std.specs.List.{insert}
use Rattle.tx_map.specs.declared.pairs.PairTally.{PairTally}
use Rattle.tx_map.specs.Live.{own}
use Rattle.tx_map.proofs.Merging.{length-own-others}
use Rattle.tx_map.proofs.Placing.{kept_tally}
use Rattle.tx_map.proofs.Tallying.{tallied-insert}
use Rattle.tx_map.proofs.map.add.Goals as goal

-- no pair has more live writes than there are
pub overflow_add-keys : goal.overflow_add-keys
overflow_add-keys c =
    let tally = kept_tally (c.args.write.transaction, c.args.write.enlistment) c.args.live.now.items c.args.pairs.now c.tally-keys.result c.requires.tallied c.tally-keys.ensures in
    let keys = ap (λ (x : PairTally). x.keys) tally in
    let both = length-own-others (c.args.write.transaction, c.args.write.enlistment) c.args.live.now.items in
    omega (arith, keys, both)

pub returns-clause-tallied : goal.returns-clause-tallied
returns-clause-tallied c =
    let tally = kept_tally (c.args.write.transaction, c.args.write.enlistment) c.args.live.now.items c.args.pairs.now c.tally-keys.result c.requires.tallied c.tally-keys.ensures in
    let keys : c.tally-keys.result.keys + 1 ≡ length (own (c.args.write.transaction, c.args.write.enlistment) c.args.live.now.items) + 1 = ap (λ (x : PairTally). x.keys + 1) tally in
    let items : c.insert.new.self.items ≡ insert c.args.live.now.items c.args.at c.args.write = c.in-Ok.ensures.items ∙ ap (λ ws. insert ws c.args.at c.args.write) c.reserve-3.ensures.items in
    rw items (tallied-insert (c.args.write.transaction, c.args.write.enlistment) c.args.live.now.items c.args.pairs.now c.keep_tally.new.pairs c.requires.tallied c.args.at c.args.write (c.tally-keys.result.keys + 1) refl c.requires.new c.requires.not_voted keys c.in_ok-keep_tally.ensures.counted)
