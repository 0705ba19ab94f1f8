use Rattle.std.proofs.Common.{◌≡◌, Option, Some, true, cond, rules, ap, ◌∙◌}
use Rattle.tx_map.specs.declared.pairs.PairTally.{PairTally}
use Rattle.tx_map.specs.Pairs.{is_pair, marked_in, tally_at}
use Rattle.tx_map.proofs.Tallying.{sets_tally, tally_number}
use Rattle.tx_map.proofs.pairs.mark_tally.Goals as goal

-- what is written is what was kept, marked
pub returns-in-Some-clause-marked : goal.returns-in-Some-clause-marked
returns-in-Some-clause-marked c = λ q.
    let w : PairTally = record { keys = c.in-Some.tally.now.keys; voted = true } in
    let kept : Some c.in-Some.tally.now ≡ tally_at c.args.pairs.now (c.args.t, c.args.e) = c.in-Some.ensures.value ∙ tally_number c.args.pairs.now (c.args.t, c.args.e) c.get.result c.get-2.result c.get.ensures.value c.get-2.ensures.value in
    sets_tally c.args.pairs.now (c.get_mut.follows.lender w) (c.args.t, c.args.e) (Some w) c.get.result c.get-2.result c.get.ensures.value c.get-2.ensures.value ((c.get_mut.follows.holds w).3 (search rules)).0 q
    ∙ ap (λ (o : Option PairTally). cond (is_pair (c.args.t, c.args.e) q) o (tally_at c.args.pairs.now q)) (ap marked_in kept)
