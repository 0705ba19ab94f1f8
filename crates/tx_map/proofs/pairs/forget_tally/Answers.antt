use Rattle.std.proofs.Common.{None}
use Rattle.tx_map.proofs.Tallying.{sets_tally}
use Rattle.tx_map.proofs.pairs.forget_tally.Goals as goal

pub returns : goal.returns
returns c = sets_tally c.args.pairs.now c.remove.new.self (c.args.t, c.args.e) None c.get.result c.get-2.result c.get.ensures.value c.get-2.ensures.value c.remove.ensures.updates.0
