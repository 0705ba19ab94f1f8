use Rattle.std.proofs.Common.{◌∙◌, ap, sym, ◌&&◌, not, nat_le}
use Rattle.dtx_model.specs.Words.{has}
use Rattle.dtx_model.specs.Caused.{is_begin_sent}
use Rattle.dtx_model.proofs.Reading.{has-past}
use Rattle.tx_world.specs.State.{is_reached_by}
use Rattle.tx_world.proofs.world.TxWorld.is_reached_by.Goals as goal

pub returns : goal.returns
returns c =
    c.is_reached.ensures
    ∙ ap (λ b. b && not (nat_le c.args.life c.life.result)) (c.has_begun.ensures ∙ sym (has-past is_begin_sent c.entries.result.now.items) ∙ ap (has is_begin_sent) c.entries.ensures)
    ∙ ap (λ n. has is_begin_sent c.self.inside.history.past && not (nat_le c.args.life n)) c.life.ensures
    ∙ ap (is_reached_by c.args.life) c.self.view_is
