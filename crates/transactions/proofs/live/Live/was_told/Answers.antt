use Rattle.transactions.specs.Ending.{is_told_to}
use Rattle.transactions.proofs.Scanning.{has-history}
use Rattle.transactions.proofs.live.Live.was_told.Goals as goal

pub loop-i-init : goal.loop-i-init
loop-i-init c = has-history (is_told_to c.args.e) c.history-history.result.now.items _ _ c.self.view_is c.history-history.ensures
