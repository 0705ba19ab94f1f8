use Rattle.std.proofs.Common.{◌≤◌, length, subst, arith}
use Rattle.dtx_model.specs.Words.{past_of}
use Rattle.dtx_model.specs.World.{World}
use Rattle.dtx_model.specs.Steps.{pending}
use Rattle.tx_world.specs.State.{TxState}
use Rattle.tx_world.proofs.Listing.{pending_few, within}
use Rattle.tx_world.proofs.world.TxWorld.pending.Goals as goal

pub unreachable-requires : goal.unreachable-requires
unreachable-requires c =
    let i = c.self.inside in
    let w : World = record { calls = past_of i.calls.items; past = i.history.past } in
    let kept = c.self.invariant.kept in
    let few = subst (λ (x : TxState). length (pending x.world) ≤ 118) c.self.view_is (pending_few i.transaction w i.half i.core kept c.is_few.ensures.rows c.is_few.ensures.branches c.is_few.ensures.ends) in
    let more = within (pending c.args.self.now.world) 118 _ c.in-Step.ensures.at in
    omega (arith, few, more)
