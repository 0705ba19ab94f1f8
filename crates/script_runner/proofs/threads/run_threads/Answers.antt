use Rattle.std.proofs.Common.{ℕ, ◌≤◌, true, inl, inr, subst, sym}
use Rattle.std.specs.Prelude.{IsTrue, vec_len}
use Rattle.thread_runs.specs.Run.{RanOnThreads}
use Rattle.replay_runs.specs.Ending.{AreOwnLogs}
use Rattle.script_runner.specs.Program.{IsThreadsOf}
use Rattle.script_runner.proofs.OwnRecords.{ends_on_threads, own_logs_of}
use Rattle.script_runner.proofs.Threading.{all_on_threads, of_ok}
use Rattle.script_runner.proofs.threads.run_threads.Given.{Over}
use Rattle.script_runner.proofs.threads.run_threads.Goals.{After-into_disk-disk}
use Rattle.script_runner.proofs.threads.run_threads.Goals as goal

pub returns-in-Ok-clause-run : goal.returns-in-Ok-clause-run
returns-in-Ok-clause-run g c =
    let s = c.args.s.now in
    let k : ℕ = vec_len c.args.resources in
    let from : ℕ = g.D.Disk.faults c.args.log.disk in
    let ran = of_ok c.run_on_threads-run.result.0 c.in-Ok.trace (RanOnThreads g.D.Disk.faults g.D.Disk.honest g.D.Disk.image s k from c.run_on_threads-run.result.1) c.in-Ok.is c.run_on_threads-run.ensures.run in
    subst (λ d. IsThreadsOf k from (g.D.Disk.faults d) g.D.Disk.honest (g.D.Disk.image d) s c.in-Ok.trace) (sym c.into_disk-disk.ensures.disk)
    (record {
      run = ran.run;
      lawful = c.lawful.ensures g.D.Disk.honest true s c.in-Ok.trace c.requires.script.script.named (λ t. (ran.run.history.caused t).freely) (λ sound. ran.run.history.settled) ran.tied ran.unlike (λ h fresh. ran.unfilled h);
      log = ran.ended;
    })

-- the disk that is taken back has the images of the log after the run
own_after : (g : Over) (c : After-into_disk-disk g) → IsTrue g.D.Disk.honest → AreOwnLogs (g.D.Disk.image c.into_disk-disk.result)
own_after g c h = subst (λ d. AreOwnLogs (g.D.Disk.image d)) (sym c.into_disk-disk.ensures.disk) (own_logs_of c.args.s.now _ (c.run_on_threads-run.ensures.images h))

pub returns-in-Ok-clause-logs : goal.returns-in-Ok-clause-logs
returns-in-Ok-clause-logs g c h none = own_after g (goal.at.returns-in-Ok-clause-logs g c).After-into_disk-disk h

pub returns-in-Err-Memory-clause-logs : goal.returns-in-Err-Memory-clause-logs
returns-in-Err-Memory-clause-logs g c h none = own_after g (goal.at.returns-in-Err-Memory-clause-logs g c).After-into_disk-disk h

pub returns-in-Err-Differs-clause-logs : goal.returns-in-Err-Differs-clause-logs
returns-in-Err-Differs-clause-logs g c h none = elim (c.replayed_anew.ensures.logs h none) [
  | inl same ↦ subst (λ d. AreOwnLogs (g.D.Disk.image d)) (sym same) (own_after g (goal.at.returns-in-Err-Differs-clause-logs g c).After-into_disk-disk h)
  | inr own ↦ own
]

pub returns-in-Err-Differs-clause-run : goal.returns-in-Err-Differs-clause-run
returns-in-Err-Differs-clause-run g c =
    let s = c.args.s.now in
    let image = g.D.Disk.image c.replayed_anew.result.1 in
    let before : g.D.Disk.faults c.args.log.disk ≤ g.D.Disk.faults c.into_disk-disk.result = subst (λ d. g.D.Disk.faults c.args.log.disk ≤ g.D.Disk.faults d) (sym c.into_disk-disk.ensures.disk) c.run_on_threads-run.ensures.grows in
    all_on_threads c.call_order.ensures.replayed c.replayed_anew.result.0 s _ _ (g.D.Disk.faults c.into_disk-disk.result) _ g.D.Disk.honest image before
    (λ T caused log. ends_on_threads c.entered_calls.ensures.unnamed s image T c.requires.script.script (λ t. (caused t).freely) log) c.replayed_anew.ensures.replay
