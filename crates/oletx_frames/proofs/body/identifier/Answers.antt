use Rattle.std.proofs.Common.{arith}
use Rattle.std.proofs.lemmas.List.{take_all}
use Rattle.oletx_frames.proofs.body.identifier.Goals as goal

pub returns-clause-bytes : goal.returns-clause-bytes
returns-clause-bytes c = rw (take_all 16 c.args.body.now (omega (arith, c.requires))) at c.read_identifier.ensures.bytes
