use Rattle.std.proofs.Common.{◌≡◌, Bool, ap, sym, ◌∙◌, if◌then◌else◌}
use Rattle.dtx_values.specs.declared.entry.Answer.TheVariants.{Fine, NoSuch}
use Rattle.dtx_values.specs.TxIds.{number_of}
use Rattle.dtx_model.specs.Answers.{if_begun}
use Rattle.dtx_values.specs.declared.call.Call.TheVariants.{Lose}
use Rattle.dtx_model.specs.Words.{past_of}
use Rattle.dtx_model.specs.World.{World, answer_at}
use Rattle.tx_world.specs.State.{TxState}
use Rattle.tx_world.proofs.Linking.{lose_is}
use Rattle.tx_world.proofs.world.TxWorld.answer_lose.Goals.{then-is_open, else-is_open}
use Rattle.tx_world.proofs.world.TxWorld.answer_lose.Goals as goal

pub returns : goal.returns
returns c m =
    let i = c.self.inside in
    let w : World = record { calls = past_of i.calls.items; past = i.history.past } in
    let b = c.is_open-is_open.result in
    let is : c.if-is_open.if_begun ≡ (if b then Fine else NoSuch) = elim c.if-is_open.branch [
      | then-is_open v ↦ v.if_begun-is ∙ sym (ap (λ (x : Bool). if x then Fine else NoSuch) v.if-is_open.true)
      | else-is_open v ↦ v.if_begun-is ∙ sym (ap (λ (x : Bool). if x then Fine else NoSuch) v.if-is_open.false)
    ] in
    lose_is i.transaction w i.half i.core c.args.u c.args.c c.args.up c.args.down m b c.if_begun.result c.self.invariant.kept c.is_open-is_open.ensures (c.if_begun.ensures ∙ ap (if_begun i.half.half.seen.limit) is)
    ∙ ap (λ (x : TxState). answer_at (number_of x.transaction) x.world (Lose c.args.u c.args.c c.args.up c.args.down) m) c.self.view_is
