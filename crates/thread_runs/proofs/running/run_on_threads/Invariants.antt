use Rattle.std.proofs.Common.{vec_len}
use Rattle.thread_runs.proofs.running.run_on_threads.Given as goal

-- the run is named by what it is given
abbrev pub ghosts-run_named : goal.ghosts-run_named
ghosts-run_named g a = record { script = a.s.now; objects = vec_len a.setting.resources; honest = g.D.Disk.honest; faults = g.D.Disk.faults a.log.disk }
