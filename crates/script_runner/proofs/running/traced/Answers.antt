use Rattle.std.proofs.Common.{◌≡◌, arith, length, subst, ℕ}
use Rattle.std.specs.Prelude.{vec_len}
use Rattle.std.proofs.lemmas.Grind.{common_steps}
use Rattle.script_runner.specs.Program.{IsReplayOf}
use Rattle.script_runner.proofs.Threading.{of_ok}
use Rattle.script_runner.proofs.running.traced.Goals as goal

pub returns-in-Ok-clause-run : goal.returns-in-Ok-clause-run
returns-in-Ok-clause-run g c =
    let from : ℕ = g.D.Disk.faults c.args.log.disk in
    let to : ℕ = g.D.Disk.faults c.replayed_over-replayed.result.1 in
    let image = g.D.Disk.image c.replayed_over-replayed.result.1 in
    let many : length c.as_mut_slice.result.now ≡ vec_len c.args.setting.resources = grind (arith, common_steps) in
    let run = of_ok c.replayed_over-replayed.result.0 c.in-Ok.trace (λ T. IsReplayOf (length c.as_mut_slice.result.now) from to g.D.Disk.honest image c.args.script.now T) c.in-Ok.is c.replayed_over-replayed.ensures.replay in
    rw c.in-Replay.is (subst (λ (k : ℕ). IsReplayOf k from to g.D.Disk.honest image c.args.script.now c.in-Ok.trace) many run)

pub returns-clause-run : goal.returns-clause-run
returns-clause-run g c = rw c.in-Threads.is c.run_threads.ensures.run
