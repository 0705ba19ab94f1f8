use Rattle.std.proofs.Common.{◌∙◌, ap, ◌&&◌, not, nat_le}
use Rattle.dtx_model.specs.Words.{has, past_of}
use Rattle.dtx_model.specs.Caused.{is_begin_sent}
use Rattle.dtx_model.specs.World.{World}
use Rattle.tx_world.specs.State.{is_hit_by}
use Rattle.tx_world.proofs.Stopping.{hit_is}
use Rattle.tx_world.proofs.world.TxWorld.is_hit_by.Goals as goal

pub returns : goal.returns
returns c =
    let i = c.self.inside in
    let w : World = record { calls = past_of i.calls.items; past = i.history.past } in
    c.is_hit.ensures
    ∙ ap (λ n. c.has_begun.result && not c.is_stopped.result && nat_le n c.args.life) c.life.ensures
    ∙ ap (λ b. b && not c.is_stopped.result && nat_le i.at_log.life c.args.life) c.has_begun.ensures
    ∙ ap (λ b. has is_begin_sent c.entries.result.now.items && not b && nat_le i.at_log.life c.args.life) c.is_stopped.ensures
    ∙ hit_is i.transaction w i.half i.core c.entries.result.now.items i.at_log.life c.args.life c.self.invariant.kept c.entries.ensures
    ∙ ap (is_hit_by c.args.life) c.self.view_is
