use Rattle.std.proofs.Common.{arith}
use Rattle.slotted.proofs.Heads.{head_made}
use Rattle.slotted.proofs.empty.written_head.Goals as goal

pub returns : goal.returns
returns c = head_made c.args.letters.now _ (c.put.ensures.front 8 (omega arith)) (c.put.ensures.rest 8 (omega arith))
