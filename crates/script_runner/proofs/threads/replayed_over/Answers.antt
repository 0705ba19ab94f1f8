use Rattle.std.proofs.Common.{refl}
use Rattle.script_runner.proofs.Programs.{are_own_logs, held_none, is_log, is_replay_if}
use Rattle.script_runner.proofs.threads.replayed_over.Goals as goal

pub returns-clause-replay : goal.returns-clause-replay
returns-clause-replay g c =
    let r = c.run_replay-trace.ensures in
    is_replay_if g.D.Disk.faults g.D.Disk.honest g.D.Disk.image _ c.args.script.now c.into_disk.result c.args.log c.run_replay-trace.new.log c.run_replay-trace.result c.into_disk.ensures.disk c.requires.fresh.empty r.replay r.lawful
    r.up r.recorded

pub returns-clause-logs : goal.returns-clause-logs
returns-clause-logs g c =
    are_own_logs g.D.Disk.faults g.D.Disk.honest g.D.Disk.image c.into_disk.result c.args.log c.run_replay-trace.new.log c.into_disk.ensures.disk (λ h. held_none g.D.Disk.image c.args.log c.requires.fresh.empty (c.is_up.ensures.images h c.requires.fresh.up)) c.requires.fresh.empty c.run_replay-trace.ensures.log

pub returns-clause-whole : goal.returns-clause-whole
returns-clause-whole g c h calm none =
    is_log g.D.Disk.faults g.D.Disk.honest g.D.Disk.image c.args.log.disk c.into_disk.result c.args.log c.run_replay-trace.new.log refl c.into_disk.ensures.disk
    c.requires.fresh.up c.requires.fresh.unarmed c.requires.fresh.empty (λ h. held_none g.D.Disk.image c.args.log c.requires.fresh.empty (c.is_up.ensures.images h c.requires.fresh.up)) c.run_replay-trace.ensures.log (c.run_replay-trace.ensures.stays none) c.into_disk.ensures.images h calm
