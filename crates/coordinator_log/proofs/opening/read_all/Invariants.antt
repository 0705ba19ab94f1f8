use Rattle.std.proofs.Common.{◌≡◌, ◌<◌, length, take, map}
use Rattle.std.specs.Prelude.{IsTrue}
use Rattle.outside.specs.Disk.{AreWithin}
use Rattle.dtx_model.specs.Log.{slots_of, head}
use Rattle.coordinator_log.specs.Slots.{formed}
use Rattle.coordinator_log.proofs.opening.read_all.Given as goal

abbrev pub invariant-loop-k : goal.invariant-loop-k
invariant-loop-k g l = record {
  seen : IsTrue g.D.Disk.honest → g.D.Disk.seen l.disk ≡ g.D.Disk.seen l.fn.disk;
  images : IsTrue g.D.Disk.honest → AreWithin (g.D.Disk.image l.fn.disk) (g.D.Disk.image l.disk);
  same : IsTrue g.D.Disk.obeys → g.D.Disk.images l.disk ≡ g.D.Disk.images l.fn.disk;
  at_head : IsTrue g.D.Disk.honest → take 512 (g.D.Disk.seen l.fn.disk) ≡ head;
  slots : IsTrue g.D.Disk.honest → take l.k (slots_of (g.D.Disk.seen l.fn.disk)) ≡ map formed (take l.k l.slots);
  size : g.D.Disk.size l.disk ≡ g.D.Disk.size l.fn.disk;
  smooth : g.D.Disk.faults l.disk ≡ g.D.Disk.faults l.fn.disk;
  many : 0 < l.k → length l.slots ≡ 1024;
  block : length l.block ≡ 512;
}
