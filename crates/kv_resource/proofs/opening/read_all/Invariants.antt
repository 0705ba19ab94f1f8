use Rattle.std.proofs.Common.{◌≡◌, ◌≤◌, length, take, map, vec_capacity}
use Rattle.std.specs.Prelude.{IsTrue}
use Rattle.outside.specs.Disk.{AreWithin}
use Rattle.slotted.specs.Slotted.{formed}
use Rattle.kv_resource.specs.Bytes.{kv_head, kv_slots}
use Rattle.kv_resource.proofs.opening.read_all.Given as goal

abbrev pub invariant-loop-k : goal.invariant-loop-k
invariant-loop-k g l = record {
  seen : IsTrue g.D.Disk.honest → g.D.Disk.seen l.disk ≡ g.D.Disk.seen l.fn.disk;
  images : IsTrue g.D.Disk.honest → AreWithin (g.D.Disk.image l.fn.disk) (g.D.Disk.image l.disk);
  at_head : IsTrue g.D.Disk.honest → take 512 (g.D.Disk.seen l.fn.disk) ≡ kv_head;
  slots : IsTrue g.D.Disk.honest → take l.k (kv_slots (g.D.Disk.seen l.fn.disk)) ≡ map formed l.slots.items;
  size : g.D.Disk.size l.disk ≡ g.D.Disk.size l.fn.disk;
  smooth : g.D.Disk.faults l.disk ≡ g.D.Disk.faults l.fn.disk;
  many : length l.slots.items ≡ l.k;
  room : 1024 ≤ vec_capacity l.slots;
  block : length l.block ≡ 512;
}
