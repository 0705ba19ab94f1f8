use Rattle.std.proofs.Common.{◌∙◌, ap}
use Rattle.dtx_model.specs.Half.{Half}
use Rattle.dtx_values.specs.TxIds.{number_of}
use Rattle.dtx_model.specs.Words.{past_of}
use Rattle.dtx_model.specs.World.{World, half}
use Rattle.tx_world.specs.OwnCalls.{status_of}
use Rattle.tx_world.specs.State.{TxState}
use Rattle.tx_world.proofs.Onward.{half_is}
use Rattle.tx_world.proofs.Statuses.{status_said}
use Rattle.tx_world.proofs.world.TxWorld.status.Goals as goal

pub returns-clause-answer : goal.returns-clause-answer
returns-clause-answer c = λ t m.
    let i = c.self.inside in
    let w : World = record { calls = past_of i.calls.items; past = i.history.past } in
    let known = ap (λ (h : Half). h.seen.decided) (half_is i.transaction w i.half i.core c.self.invariant.kept) ∙ ap (λ (x : TxState). (half x.world).seen.decided) c.self.view_is in
    status_said (number_of c.args.self.now.transaction) c.args.self.now.world t m c.status_of.result (c.status_of.ensures ∙ ap status_of (c.decided.ensures ∙ known))
