use Rattle.std.proofs.Common.{◌≡◌, None, true, subst}
use Rattle.dtx_values.specs.TxIds.{number_of}
use Rattle.dtx_model.specs.Entries.{is_commit}
use Rattle.dtx_model.specs.Words.{has}
use Rattle.transactions.specs.State.{LiveState, past}
use Rattle.transactions.specs.Telling.{Waiting, told}
use Rattle.transactions.specs.Waiting.{AllAsked}
use Rattle.transactions.specs.contracts.live.Live.{the_view}
use Rattle.transactions.proofs.Untold.{waiting_of}
use Rattle.transactions.proofs.live.Live.is_waiting.Goals as goal

pub returns : goal.returns
returns c =
    let x = c.self.inside.world in
    subst (λ (l : LiveState). told l ≡ None → has is_commit (past l) ≡ true → AllAsked l.tx.world → Waiting l) c.self.view_is
    (waiting_of (the_view c.self.inside)
    (λ idle asked.
    c.own_completeness.ensures.told (number_of x.transaction) x.world c.is_own_run.ensures.once c.is_own_run.ensures.run (c.stops.ensures.unrestarted x.world.past c.self.invariant.unrestarted) idle asked))
