use Rattle.std.proofs.Common.{refl}
use Rattle.script_runner.proofs.Programs.{are_own_logs, held_none, is_log}
use Rattle.script_runner.proofs.tables.rows_after.Goals as goal

pub returns-clause-logs : goal.returns-clause-logs
returns-clause-logs g c =
    are_own_logs g.D.Disk.faults g.D.Disk.honest g.D.Disk.image c.into_disk.result c.args.log c.rows_left-rows.new.log c.into_disk.ensures.disk (λ h. held_none g.D.Disk.image c.args.log c.requires.fresh.empty (c.is_up.ensures.images h c.requires.fresh.up)) c.requires.fresh.empty c.rows_left-rows.ensures.log

pub returns-clause-whole : goal.returns-clause-whole
returns-clause-whole g c h calm none =
    is_log g.D.Disk.faults g.D.Disk.honest g.D.Disk.image c.args.log.disk c.into_disk.result c.args.log c.rows_left-rows.new.log refl c.into_disk.ensures.disk
    c.requires.fresh.up c.requires.fresh.unarmed c.requires.fresh.empty (λ h. held_none g.D.Disk.image c.args.log c.requires.fresh.empty (c.is_up.ensures.images h c.requires.fresh.up)) c.rows_left-rows.ensures.log (c.rows_left-rows.ensures.stays none) c.into_disk.ensures.images h calm
