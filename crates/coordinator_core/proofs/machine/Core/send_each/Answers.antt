use Rattle.std.proofs.Common.{◌∙◌, ◌+◌, ap, arith, drop}
use Rattle.dtx_values.specs.Outgoing.{Outgoing, written}
use Rattle.coordinator_core.specs.Hearing.{told}
use Rattle.coordinator_core.proofs.Loops.{told_more}
use Rattle.coordinator_core.proofs.machine.Core.send_each.Goals as goal

pub loop-d-preserved : goal.loop-d-preserved
loop-d-preserved c =
    let k = c.args.self.now.state in
    let m = c.args.m in
    let ds = c.desks-d-items.result.now in
    let i = c.loop-d.d-index in
    record {
      whole = ap (λ (o : Outgoing). written o (told k m (drop (i + 1) ds))) c.send_to.ensures.out ∙ told_more c.loop-d.out k m ds i c.d-item.result c.loop-d-test.true c.d-item.is ∙ c.loop-d.invariant.whole;
      used = record { entries = omega arith; sends = omega arith };
    }
