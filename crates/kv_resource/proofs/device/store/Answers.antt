use Rattle.std.proofs.Common.{inl, ◌+◌, ◌≤◌, arith, sym, ◌∙◌, List, ℕ, length, Ok, Some, None, false}
use Rattle.std.specs.Prelude.{IsTrue}
use Rattle.outside.specs.Disk.{IsOnly}
use Rattle.slotted.specs.Slotted.{HasSlotsBy, IsEitherBy, IsSlotBy}
use Rattle.slotted.proofs.Results.{after_err, on_ok}
use Rattle.slotted.proofs.SlotWrites.{IsBehindBy, along, body_stage, done_stage, gate_stage, written_behind}
use Rattle.kv_resource.specs.Bytes.{kv_record_at, kv_slots}
use Rattle.kv_resource.specs.Notes.{record_with}
use Rattle.kv_resource.proofs.Files.{kv_reads}
use Rattle.kv_resource.proofs.device.store.Given.{Over}
use Rattle.kv_resource.proofs.device.store.Goals.{After-write_at, After-write_at-2}
use Rattle.kv_resource.proofs.device.store.Goals as goal

-- while the record is written the slots are as before
unwritten : (g : Over) (c : After-write_at g) → IsTrue g.D.Disk.honest → IsOnly (g.D.Disk.seen c.args.disk.now) (g.D.Disk.image c.args.disk.now) → IsSlotBy kv_slots c.args.k (Ok None) (g.D.Disk.seen c.args.disk.now)
    → (f : List ℕ) → g.D.Disk.image c.write_at.new.self f → HasSlotsBy kv_slots (g.D.Disk.seen c.args.disk.now) (kv_slots (g.D.Disk.seen c.args.disk.now)) f
unwritten g c h only closed =
    body_stage kv_reads c.args.k (c.slot_at-gate.result + 1) (length c.written_record-record.result) (g.D.Disk.seen c.args.disk.now) _ _ c.requires.slot (omega (arith, c.slot_at-gate.ensures)) c.written_record-record.ensures.long closed only
    (c.write_at.ensures.images h)

-- then it is safe behind the closed gate
behind : (g : Over) (c : After-write_at-2 g) → IsTrue g.D.Disk.honest → IsSlotBy kv_slots c.args.k (Ok None) (g.D.Disk.seen c.args.disk.now)
    → IsBehindBy kv_record_at kv_slots c.args.k (record_with false c.args.d.now) (g.D.Disk.seen c.args.disk.now) (g.D.Disk.seen c.sync.new.self)
behind g c h closed =
    let b = g.D.Disk.seen c.args.disk.now in
    written_behind kv_reads c.args.k (c.slot_at-gate.result + 1) b (g.D.Disk.seen c.sync.new.self) c.written_record-record.result (record_with false c.args.d.now) c.requires.slot (omega (arith, c.slot_at-gate.ensures)) closed
    (omega (arith, g.met.D.Disk.long c.args.disk.now b h (g.met.D.Disk.sees c.args.disk.now h), c.requires.size)) (c.in_ok-sync.ensures.seen h ∙ c.in_ok-write_at.ensures.written h)
    c.written_record-record.ensures.long c.written_record-record.ensures.again

-- while the gate is written the slot is as before, or holds the record
halfway : (g : Over) (c : After-write_at-2 g) → IsTrue g.D.Disk.honest → IsSlotBy kv_slots c.args.k (Ok None) (g.D.Disk.seen c.args.disk.now)
    → (f : List ℕ) → g.D.Disk.image c.write_at-2.new.self f → IsEitherBy kv_slots (g.D.Disk.seen c.args.disk.now) c.args.k (Ok (Some (record_with false c.args.d.now))) f
halfway g c h closed =
    let b1 = g.D.Disk.seen c.sync.new.self in
    let only : IsOnly b1 (g.D.Disk.image c.sync.new.self) = λ e on. c.in_ok-sync.ensures.durable h e on ∙ sym (c.in_ok-sync.ensures.seen h) in
    gate_stage kv_reads c.args.k c.requires.slot (g.D.Disk.seen c.args.disk.now) b1 (record_with false c.args.d.now) closed (behind g c h closed) c.slot_at-gate.result _ _ c.slot_at-gate.ensures only (c.write_at-2.ensures.images h)

pub returns-in_err-write_at-clause-puts : goal.returns-in_err-write_at-clause-puts
returns-in_err-write_at-clause-puts g c h only closed =
    let at = goal.at.returns-in_err-write_at-clause-puts g c in
    record {
      done = after_err c.from_residual.result _ _ c.from_residual.ensures.1;
      durable = after_err c.from_residual.result _ _ c.from_residual.ensures.1;
      images = λ f left. inl (unwritten g at.After-write_at h only closed f left);
    }

pub returns-in_err-sync-clause-puts : goal.returns-in_err-sync-clause-puts
returns-in_err-sync-clause-puts g c h only closed =
    let at = goal.at.returns-in_err-sync-clause-puts g c in
    record {
      done = after_err c.from_residual-in_err-sync.result _ _ c.from_residual-in_err-sync.ensures.1;
      durable = after_err c.from_residual-in_err-sync.result _ _ c.from_residual-in_err-sync.ensures.1;
      images = λ f left. inl (unwritten g at.After-write_at h only closed f (c.sync.ensures.images h f left));
    }

pub returns-in_err-write_at-2-clause-puts : goal.returns-in_err-write_at-2-clause-puts
returns-in_err-write_at-2-clause-puts g c h only closed =
    let at = goal.at.returns-in_err-write_at-2-clause-puts g c in
    record {
      done = after_err c.from_residual-in_err-write_at-2.result _ _ c.from_residual-in_err-write_at-2.ensures.1;
      durable = after_err c.from_residual-in_err-write_at-2.result _ _ c.from_residual-in_err-write_at-2.ensures.1;
      images = halfway g at.After-write_at-2 h closed;
    }

pub returns-clause-puts : goal.returns-clause-puts
returns-clause-puts g c h only closed =
    let at = goal.at.returns-clause-puts g c in
    let b = g.D.Disk.seen c.args.disk.now in
    let b1 = g.D.Disk.seen c.sync.new.self in
    let seen = c.sync-2.ensures.seen h in
    let room : c.slot_at-gate.result + 1 ≤ length b1 =
    omega (arith, g.met.D.Disk.long c.sync.new.self b1 h (g.met.D.Disk.sees c.sync.new.self h), c.requires.size, c.sync.ensures.size, c.write_at.ensures.size, c.requires.slot, c.slot_at-gate.ensures) in
    record {
      done = on_ok c.sync-2.result _ (along b _ _ _ seen
          (done_stage kv_reads c.args.k c.requires.slot b b1 (record_with false c.args.d.now) closed (behind g at.After-write_at-2 h closed) c.slot_at-gate.result _ c.slot_at-gate.ensures (c.in_ok-write_at-2.ensures.written h) room));
      durable = rw seen (c.sync-2.ensures.durable h);
      images = λ f left. halfway g at.After-write_at-2 h closed f (c.sync-2.ensures.images h f left);
    }
