use Rattle.std.proofs.Common.{◌≡◌, ◌++◌, ◌∷◌, [], map, take, arith, ◌∙◌, ap}
use Rattle.std.proofs.lemmas.List.{map_push}
use Rattle.std.proofs.lemmas.Result.{err_from_is_err_and}
use Rattle.dtx_values.specs.RecoveryInfo.{pair_of}
use Rattle.coordinator_log.proofs.Loops.{goes_on, ends, is_done}
use Rattle.coordinator_log.proofs.reading.read_pairs.Goals as goal

pub returns-in_err-rm-clause-pairs : goal.returns-in_err-rm-clause-pairs
returns-in_err-rm-clause-pairs c =
    let p = err_from_is_err_and c.from_residual.result c.from_residual.ensures.1 in
    rw (p.1, p.2) (ends _ _ _ _ _ _ c.loop-i-test.true c.in_err-rm.ensures.pair c.loop-i.invariant.read)

pub loop-i-preserved : goal.loop-i-preserved
loop-i-preserved c =
    let r = c.add.new.self in
    let e : map pair_of (take r.count r.durables) ≡ map pair_of (take c.loop-i.r.count c.loop-i.r.durables) ++ pair_of (c.in_ok-rm.rm, c.in_ok-rm.enl) ∷ [] =
    ap (map pair_of) c.add.ensures.pairs ∙ map_push pair_of _ (c.in_ok-rm.rm, c.in_ok-rm.enl) in
    let b = c.split_at.ensures.back in
    record {
      read = rw (e, b) (goes_on _ _ _ _ _ _ c.loop-i-test.true c.in_ok-rm.ensures.pair c.loop-i.invariant.read);
      count = omega arith;
      id = c.add.ensures.id ∙ c.loop-i.invariant.id;
      long = omega arith;
    }

pub returns-clause-pairs : goal.returns-clause-pairs
returns-clause-pairs c = is_done _ _ _ _ _ _ c.loop-i-test.false c.loop-i.invariant.read
