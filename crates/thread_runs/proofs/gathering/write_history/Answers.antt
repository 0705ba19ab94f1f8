use Rattle.thread_runs.proofs.Writing.{history_written}
use Rattle.thread_runs.proofs.gathering.write_history.Goals as goal

pub returns : goal.returns
returns g c =
    history_written c.args.trace.now.items c.reserve.new.self.items c.push_from.new.self.items c.t.result c.args.state.now.tx.transaction.t c.history-history.result.now.items c.args.state.now.tx.world.past c.in_ok-reserve.ensures.items
    c.push_from.ensures.items c.t.ensures.t c.history-history.ensures
