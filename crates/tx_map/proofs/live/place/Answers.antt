use Rattle.std.proofs.Common.{arith, sym, ◌∙◌}
use Rattle.tx_map.proofs.Placing.{IsFree, busy, free-new, free-own, not_refused, some_keys, too_many}
use Rattle.tx_map.proofs.live.place.Goals as goal
use Rattle.tx_map.proofs.live.place.Goals.{Joined-at, in-Ok+else-not-is_of, in-Err}

pub returns-then-not-is_of-clause-refused : goal.returns-then-not-is_of-clause-refused
returns-then-not-is_of-clause-refused c =
    busy (c.args.t, c.args.e) c.args.key c.args.live.now c.args.pairs.now c.tally-tally.result c.requires.rises c.requires.tallied c.tally-tally.ensures c.in-Ok.at c.index-live-at.result (cc) c.in-Ok.ensures.found c.index-live-at.is (sym c.is_of.ensures ∙ c.if-not-is_of.true)

pub overflow_sub-others : goal.overflow_sub-others
overflow_sub-others c =
    some_keys (c.args.t, c.args.e) c.args.key c.args.live.now c.args.pairs.now c.tally-tally.result c.requires.rises c.requires.tallied c.tally-tally.ensures c.in-Ok.at c.index-live-at.result c.in-Ok.ensures.found c.index-live-at.is (sym c.is_of.ensures ∙ c.if-not-is_of.false)

-- by whether the key has a live write of the pair
free : (c : Joined-at) → IsFree (c.args.t, c.args.e) c.args.key c.args.live.now c.match-at.others
free c = elim c.match-at.branch [
  | in-Ok+else-not-is_of w ↦
      let mine = sym w.is_of.ensures ∙ w.if-not-is_of.false in
      let some = some_keys (c.args.t, c.args.e) c.args.key c.args.live.now c.args.pairs.now c.tally-tally.result c.requires.rises c.requires.tallied c.tally-tally.ensures w.in-Ok.at w.index-live-at.result w.in-Ok.ensures.found w.index-live-at.is mine in
      free-own (c.args.t, c.args.e) c.args.key c.args.live.now c.args.pairs.now c.tally-tally.result c.requires.rises c.requires.tallied c.tally-tally.ensures w.in-Ok.at w.index-live-at.result c.match-at.others w.in-Ok.ensures.found w.index-live-at.is mine (omega (arith, some, w.others-is))
  | in-Err w ↦
      free-new (c.args.t, c.args.e) c.args.key c.args.live.now c.args.pairs.now c.tally-tally.result c.requires.rises c.requires.tallied c.tally-tally.ensures w.in-Err.field-0 c.match-at.others w.in-Err.ensures.absent w.others-is
]

pub returns-then-others-ge-KEYS-clause-refused : goal.returns-then-others-ge-KEYS-clause-refused
returns-then-others-ge-KEYS-clause-refused c =
    too_many (c.args.t, c.args.e) c.args.key c.args.live.now c.args.pairs.now c.tally-tally.result c.requires.rises c.requires.tallied c.tally-tally.ensures c.match-at.others (cc) (free c.before) c.if-others-ge-KEYS.true

pub returns-clause-allowed : goal.returns-clause-allowed
returns-clause-allowed c =
    not_refused (c.args.t, c.args.e) c.args.key c.args.live.now c.args.pairs.now c.tally-tally.result c.requires.rises c.requires.tallied c.tally-tally.ensures c.match-at.others (cc) (free c.before) c.if-others-ge-KEYS.false
