use Rattle.std.proofs.Common.{◌<◌, ◌∙◌, None, ap, arith, length}
use Rattle.std.proofs.lemmas.List.{length_push}
use Rattle.coordinator_log.specs.Slots.{with_closed}
use Rattle.coordinator_log.proofs.Marks.{one_kept}
use Rattle.coordinator_log.proofs.slots.reach.Goals as goal

pub loop-slots-preserved : goal.loop-slots-preserved
loop-slots-preserved c =
    let kept = c.loop-slots.slots.items in
    let less : length kept < 1024 = omega (arith, c.len.ensures, c.loop-slots.slots.ok.0, c.loop-slots-test.true, c.requires.within) in
    record {
      same = ap (with_closed 1024) c.push_reserved.ensures.items ∙ one_kept 1024 kept less ∙ c.loop-slots.invariant.same;
      few = omega (arith, ap length c.push_reserved.ensures.items, length_push kept None, less);
      room = omega (arith, c.push_reserved.ensures.capacity, c.loop-slots.invariant.room);
    }
