use Rattle.std.proofs.Common.{Err, ap}
use Rattle.script_runner.specs.Promises.{telling}
use Rattle.script_runner.proofs.Verdicts.{at_bad_trace, at_verdict}
use Rattle.script_runner.proofs.checks.check_in.Goals as goal

pub returns-in-Err : goal.returns-in-Err
returns-in-Err g c =
    record {
      checks = at_bad_trace (telling g.S.Source.left g.S.Source.faults g.K.Sink.written g.K.Sink.faults g.D.Disk.honest g.D.Disk.seen g.D.Disk.image g.D.Disk.size g.D.Disk.faults)
          c.args.source.now c.trace_from.new.source c.args.disk c.checks_exactly.ensures.either c.checks_exactly.ensures.first c.args.sink.now c.in-Err.exit
          c.in-Err.ensures.refused (λ n e. c.in-Err.ensures.judged n (ap Err e)) c.in-Err.ensures.cause c.in-Err.ensures.unfaulted;
    }

pub returns-in-Ok : goal.returns-in-Ok
returns-in-Ok g c =
    record {
      checks = at_verdict (telling g.S.Source.left g.S.Source.faults g.K.Sink.written g.K.Sink.faults g.D.Disk.honest g.D.Disk.seen g.D.Disk.image g.D.Disk.size g.D.Disk.faults)
          c.args.source.now c.trace_from.new.source c.args.disk c.checks_exactly.ensures.either c.in-Ok.trace c.in-Ok.ensures.trace c.in-Ok.ensures.left c.in-Ok.ensures.smooth
          c.args.sink.now c.verdict_written.new.sink c.verdict_written.result c.verdict_written.ensures.answers
          c.verdict_written.ensures.all c.verdict_written.ensures.cut c.verdict_written.ensures.memory c.verdict_written.ensures.fault c.verdict_written.ensures.smooth;
    }
