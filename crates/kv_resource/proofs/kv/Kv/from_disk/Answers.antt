use Rattle.std.specs.Prelude.{is_ok}
use Rattle.std.proofs.Common.{◌∙◌, ap, sym, subst, arith, take, vec_capacity}
use Rattle.slotted.proofs.SlotReads.{file_is}
use Rattle.kv_resource.specs.Bytes.{kv_has, kv_slots}
use Rattle.kv_resource.specs.Table.{IsTabled}
use Rattle.kv_resource.proofs.Files.{kv_file}
use Rattle.kv_resource.proofs.Finding.{Slots}
use Rattle.kv_resource.proofs.kv.Kv.from_disk.Goals as goal

pub invariant_of-result : goal.invariant_of-result
invariant_of-result g c =
    let b = g.D.Disk.seen c.sync.new.self in (
      record {
        stored = λ h up. record {
          at_head = ap (take 512) (c.read_all.ensures.seen h) ∙ c.in-Ok-read_all.ensures.at_head h;
          on_disk = ap kv_slots (c.read_all.ensures.seen h) ∙ c.in-Ok-read_all.ensures.slots h;
          durable = λ f left. c.in-Ok-sync.ensures.durable h f (c.read_all.ensures.images h f left) ∙ sym (c.in-Ok-sync.ensures.seen h) ∙ sym (c.read_all.ensures.seen h);
        };
        whole = λ h f left. ap is_ok (ap kv_has (c.in-Ok-sync.ensures.durable h f (c.read_all.ensures.images h f left) ∙ sym (c.in-Ok-sync.ensures.seen h)) ∙ file_is kv_file b c.read_all.new.slots.items (c.in-Ok-read_all.ensures.at_head h) (c.in-Ok-read_all.ensures.slots h));
        room = omega (arith, c.read_all.ensures.size, c.in-Ok-sync.ensures.size, c.requires);
        many = c.in-Ok-read_all.ensures.many;
      },
      subst (λ (l : Slots). IsTabled c.fill.new.rows.items (vec_capacity c.fill.new.rows) l) c.deref.ensures.value c.fill.ensures,
    )

pub returns-in-Ok-read_all-clause-records : goal.returns-in-Ok-read_all-clause-records
returns-in-Ok-read_all-clause-records g c h =
    ap kv_has (sym (c.in-Ok-sync.ensures.seen h)) ∙ file_is kv_file (g.D.Disk.seen c.sync.new.self) c.read_all.new.slots.items (c.in-Ok-read_all.ensures.at_head h) (c.in-Ok-read_all.ensures.slots h)

pub returns-in-Ok-read_all-clause-images : goal.returns-in-Ok-read_all-clause-images
returns-in-Ok-read_all-clause-images g c h f left =
    ap kv_has (c.in-Ok-sync.ensures.durable h f (c.read_all.ensures.images h f left) ∙ sym (c.in-Ok-sync.ensures.seen h))
    ∙ file_is kv_file (g.D.Disk.seen c.sync.new.self) c.read_all.new.slots.items (c.in-Ok-read_all.ensures.at_head h) (c.in-Ok-read_all.ensures.slots h)
