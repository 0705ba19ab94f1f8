use Rattle.std.proofs.Common.{◌==◌, ◌&&◌, not, ap, sym, ◌∙◌}
use Rattle.dtx_model.specs.declared.waiting.EnteredCall.{EnteredCall}
use Rattle.dtx_model.specs.Words.{has}
use Rattle.dtx_model.specs.Caused.{made_by}
use Rattle.dtx_model.proofs.Reading.{has-past}
use Rattle.tx_world.specs.State.{TxState, is_maker, may_enter}
use Rattle.tx_world.proofs.world.TxWorld.may_enter.Goals as goal

pub returns : goal.returns
returns c =
    let ks = c.self.inside.calls.items in
    let line = c.is_entered.ensures ∙ ap (has (λ (k : EnteredCall). k.line == c.args.line)) c.deref.ensures.value ∙ sym (has-past (λ (k : EnteredCall). k.line == c.args.line) ks) in
    let made = c.is_made.ensures ∙ ap (has (λ (k : EnteredCall). is_maker (made_by c.args.c.now) k.call)) c.deref-2.ensures.value ∙ sym (has-past (λ (k : EnteredCall). is_maker (made_by c.args.c.now) k.call) ks) in
    c.is_neither.ensures ∙ (λ j. not (line j) && not (made j)) ∙ ap (λ (x : TxState). may_enter x.world c.args.line c.args.c.now) c.self.view_is
