use Rattle.std.proofs.Common.{arith}
use Rattle.slotted.proofs.Heads.{zero_found, zero_passed, zeros_done}
use Rattle.slotted.proofs.bytes.read_zeros.Goals as goal

pub returns-then-x-ne0-clause-zeros : goal.returns-then-x-ne0-clause-zeros
returns-then-x-ne0-clause-zeros c = zero_found _ _ _ _ c.loop-x-test.true c.if-x-ne0.true c.loop-x.invariant.rest

pub loop-x-preserved : goal.loop-x-preserved
loop-x-preserved c = record { rest = zero_passed _ _ _ _ c.loop-x-test.true c.if-x-ne0.false c.loop-x.invariant.rest; place = omega arith }

pub returns-clause-zeros : goal.returns-clause-zeros
returns-clause-zeros c = zeros_done _ _ _ _ c.loop-x-test.false c.loop-x.invariant.rest
