use Rattle.std.proofs.Common.{arith, ◌+◌, ◌-◌, length}
use Rattle.std.proofs.lemmas.Slice.{drop-put_mid}
use Rattle.slotted.proofs.bytes.put.Goals as goal

pub returns-clause-rest : goal.returns-clause-rest
returns-clause-rest c n e =
    drop-put_mid c.args.at (c.args.at + length c.args.from.now - c.args.at) c.args.into.now c.copy_from_slice.new.self n (omega arith) (omega arith) (omega arith)
