use Rattle.std.proofs.Common.{◌≡◌, ◌≢◌, ◌∙◌, rules, sym}
use Rattle.dtx_values.specs.declared.entry.Answer.TheVariants.{Fine}
use Rattle.dtx_values.specs.TxIds.{number_of}
use Rattle.tx_world.proofs.Far.{far_alone, far_linking, near_local, near_unlinked}
use Rattle.tx_world.proofs.world.TxWorld.enter_at.Goals as goal

pub enter_local-requires-clause-near : goal.enter_local-requires-clause-near
enter_local-requires-clause-near c = near_local c.args.self.now.world c.args.c.now (sym c.is_near.ensures ∙ c.if-is_near.true)

pub enter_local-requires-clause-unlinked : goal.enter_local-requires-clause-unlinked
enter_local-requires-clause-unlinked c = near_unlinked c.args.self.now.world c.args.c.now (sym c.is_near.ensures ∙ c.if-is_near.true)

pub enter_far-requires-clause-kind : goal.enter_far-requires-clause-kind
enter_far-requires-clause-kind c =
    let fine : c.answer_far-answer.result ≡ Fine = search rules in
    far_linking (number_of c.args.self.now.transaction) c.args.self.now.world c.args.c.now c.args.done (sym c.is_near.ensures ∙ c.if-is_near.false) (sym c.answer_far-answer.ensures ∙ fine)

pub write_alone-requires-clause-alone : goal.write_alone-requires-clause-alone
write_alone-requires-clause-alone c =
    let other : c.answer_far-answer.result ≢ Fine = search rules in
    far_alone (number_of c.args.self.now.transaction) c.args.self.now.world c.args.c.now c.args.done c.answer_far-answer.result (sym c.is_near.ensures ∙ c.if-is_near.false) c.answer_far-answer.ensures other
