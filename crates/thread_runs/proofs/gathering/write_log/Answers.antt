use Rattle.thread_runs.proofs.Writing.{log_written}
use Rattle.thread_runs.proofs.gathering.write_log.Goals as goal

pub returns : goal.returns
returns c =
    log_written c.args.trace.now.items c.reserve.new.self.items c.loop-entry.trace.items c.args.entries.now c.loop-entry.entry-index c.loop-entry-test.false c.in_ok-reserve.ensures.items c.loop-entry.invariant.0
