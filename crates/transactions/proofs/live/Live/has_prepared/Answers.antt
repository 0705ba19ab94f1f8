use Rattle.transactions.specs.Ending.{is_left_prepared}
use Rattle.transactions.specs.State.{past}
use Rattle.transactions.proofs.Scanning.{has-history}
use Rattle.transactions.proofs.live.Live.has_prepared.Goals as goal

pub loop-i-init : goal.loop-i-init
loop-i-init c = has-history (is_left_prepared (past c.args.self.now)) c.history-history.result.now.items _ _ c.self.view_is c.history-history.ensures
