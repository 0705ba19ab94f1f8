use Rattle.std.proofs.Common.{◌∙◌, ap}
use Rattle.dtx_values.specs.TxIds.{number_of}
use Rattle.dtx_values.proofs.Ids.{number_high, number_low}
use Rattle.dtx_model.specs.Half.{Half}
use Rattle.dtx_model.specs.Words.{past_of}
use Rattle.dtx_model.specs.World.{World}
use Rattle.dtx_model.specs.Caused.{IsIn}
use Rattle.local_half.specs.Rights.{right_of, right_seen}
use Rattle.tx_world.specs.State.{TxState}
use Rattle.tx_world.proofs.Onward.{half_is}
use Rattle.world_laws.proofs.Places.{right_placed}
use Rattle.tx_world.proofs.world.TxWorld.right.Goals as goal

pub returns : goal.returns
returns c =
    let i = c.self.inside in
    let w : World = record { calls = past_of i.calls.items; past = i.history.past } in
    let kept = c.self.invariant.kept in
    c.right.ensures ∙ ap (λ (h : Half). right_seen h.seen) (half_is i.transaction w i.half i.core kept)
    ∙ right_placed (IsIn w.calls) (number_of i.transaction) kept.ran.0 w (number_low i.transaction) (number_high i.transaction) kept.once kept.ran.1 ∙ ap (λ (x : TxState). right_of x.world.past) c.self.view_is
