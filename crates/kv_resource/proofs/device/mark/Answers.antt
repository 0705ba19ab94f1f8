use Rattle.std.proofs.Common.{◌≡◌, ◌+◌, ◌*◌, ◌≤◌, arith, length}
use Rattle.slotted.proofs.Results.{after_err, on_ok}
use Rattle.slotted.proofs.SlotWrites.{along}
use Rattle.kv_resource.proofs.Marked.{mark_stage, marked_stage}
use Rattle.kv_resource.proofs.device.mark.Goals as goal

pub returns-in_err-write_at-clause-puts : goal.returns-in_err-write_at-clause-puts
returns-in_err-write_at-clause-puts g c h only r open_at unmarked =
    let at : c.slot_at.result + 1 + 510 ≡ 1023 + 512 * c.args.k = omega (arith, c.slot_at.ensures) in
    record {
      done = after_err c.from_residual.result _ _ c.from_residual.ensures.1;
      durable = after_err c.from_residual.result _ _ c.from_residual.ensures.1;
      images = mark_stage c.args.k _ (g.D.Disk.seen c.args.disk.now) r _ _ c.requires.slot at open_at unmarked only (c.write_at.ensures.images h);
    }

pub returns-clause-puts : goal.returns-clause-puts
returns-clause-puts g c h only r open_at unmarked =
    let b = g.D.Disk.seen c.args.disk.now in
    let at : c.slot_at.result + 1 + 510 ≡ 1023 + 512 * c.args.k = omega (arith, c.slot_at.ensures) in
    let room : c.slot_at.result + 1 + 510 + 1 ≤ length b = omega (arith, g.met.D.Disk.long c.args.disk.now b h (g.met.D.Disk.sees c.args.disk.now h), c.requires.size, c.requires.slot, c.slot_at.ensures) in
    let seen = c.sync.ensures.seen h in
    record {
      done = on_ok c.sync.result _ (along b _ _ _ seen (marked_stage c.args.k _ b _ r c.requires.slot at open_at (c.in_ok-write_at.ensures.written h) room));
      durable = rw seen (c.sync.ensures.durable h);
      images = λ f left. mark_stage c.args.k _ b r _ _ c.requires.slot at open_at unmarked only (c.write_at.ensures.images h) f (c.sync.ensures.images h f left);
    }
