use Rattle.transactions.specs.Telling.{is_full}
use Rattle.transactions.proofs.Scanning.{has-history}
use Rattle.transactions.proofs.live.Live.is_log_full.Goals as goal

pub loop-i-init : goal.loop-i-init
loop-i-init c = has-history is_full c.history-history.result.now.items _ _ c.self.view_is c.history-history.ensures
