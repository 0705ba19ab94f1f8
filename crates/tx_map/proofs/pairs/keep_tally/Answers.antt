use Rattle.std.proofs.Common.{Some}
use Rattle.tx_map.specs.Pairs.{with_keys}
use Rattle.tx_map.proofs.Tallying.{sets_tally}
use Rattle.tx_map.proofs.pairs.keep_tally.Goals as goal

pub returns-clause-counted : goal.returns-clause-counted
returns-clause-counted c = sets_tally c.args.pairs.now c.insert.new.self (c.args.t, c.args.e) (Some (with_keys c.args.keys)) c.get.result c.get-2.result c.get.ensures.value c.get-2.ensures.value c.in_ok-insert.ensures.updates.0
