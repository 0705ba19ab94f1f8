use Rattle.std.proofs.Common.{◌+◌, ◌≤◌, arith, length}
use Rattle.slotted.proofs.Results.{after_err, on_ok}
use Rattle.slotted.proofs.SlotWrites.{along, clear_stage, cleared_stage}
use Rattle.kv_resource.proofs.Files.{kv_reads}
use Rattle.kv_resource.proofs.device.close.Goals as goal

pub returns-in_err-write_at-clause-puts : goal.returns-in_err-write_at-clause-puts
returns-in_err-write_at-clause-puts g c h only r open_at =
    record {
      done = after_err c.from_residual.result _ _ c.from_residual.ensures.1;
      durable = after_err c.from_residual.result _ _ c.from_residual.ensures.1;
      images = clear_stage kv_reads c.args.k _ (g.D.Disk.seen c.args.disk.now) _ _ c.requires.slot c.slot_at.ensures (r, open_at) only (c.write_at.ensures.images h);
    }

pub returns-clause-puts : goal.returns-clause-puts
returns-clause-puts g c h only r open_at =
    let b = g.D.Disk.seen c.args.disk.now in
    let gate = c.slot_at.result in
    let room : gate + 1 ≤ length b = omega (arith, g.met.D.Disk.long c.args.disk.now b h (g.met.D.Disk.sees c.args.disk.now h), c.requires.size, c.requires.slot, c.slot_at.ensures) in
    let seen = c.sync.ensures.seen h in
    record {
      done = on_ok c.sync.result _ (along b _ _ _ seen (cleared_stage kv_reads c.args.k gate b _ c.requires.slot c.slot_at.ensures (c.in_ok-write_at.ensures.written h) room));
      durable = rw seen (c.sync.ensures.durable h);
      images = λ f left. clear_stage kv_reads c.args.k _ b _ _ c.requires.slot c.slot_at.ensures (r, open_at) only (c.write_at.ensures.images h) f (c.sync.ensures.images h f left);
    }
