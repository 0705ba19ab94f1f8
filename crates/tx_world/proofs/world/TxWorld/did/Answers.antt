use Rattle.std.proofs.Common.{◌∙◌, ap}
use Rattle.dtx_model.specs.Words.{past_of}
use Rattle.dtx_values.specs.TxIds.{number_of}
use Rattle.dtx_model.specs.World.{World, answer_at}
use Rattle.tx_world.specs.State.{TxState}
use Rattle.tx_world.proofs.Unlogged.{did_answer, did_silent, wrote_did}
use Rattle.tx_world.proofs.Naming.{named_ok}
use Rattle.std.proofs.Common.{refl, true}
use Rattle.dtx_model.specs.Steps.{Calls}
use Rattle.tx_world.proofs.Unlogged.{ok_at_alone}
use Rattle.tx_world.proofs.StillTied.{alone_tied, ok_tied}
use Rattle.tx_world.proofs.world.TxWorld.did.Goals as goal

pub write_alone-entered-requires-clause-answer : goal.write_alone-entered-requires-clause-answer
write_alone-entered-requires-clause-answer c =
    let i = c.self.inside in
    let w : World = record { calls = past_of i.calls.items; past = i.history.past } in
    did_answer i.transaction w i.half i.core c.args.c.now c.args.m c.if_begun-answer.result c.self.invariant.kept c.requires.kind c.if_begun-answer.ensures
    ∙ ap (λ (y : TxState). answer_at (number_of y.transaction) y.world c.args.c.now c.args.m) c.self.view_is

pub write_alone-entered-requires-clause-alone : goal.write_alone-entered-requires-clause-alone
write_alone-entered-requires-clause-alone c = did_silent c.self.inside.half.half.seen.limit c.args.m c.if_begun-answer.result c.if_begun-answer.ensures

pub returns-clause-wrote : goal.returns-clause-wrote
returns-clause-wrote c = λ begun.
    wrote_did c.args.line c.args.actor c.args.c.now c.args.m c.args.self.now c.write_alone-entered.new.self c.write_alone-entered.result c.requires.kind c.write_alone-entered.ensures.done begun

-- the record that is kept names who said PREPARED
pub returns-clause-named : goal.returns-clause-named
returns-clause-named c =
    let m = Calls c.args.line c.args.actor c.args.c.now c.args.m in
    let new = c.write_alone-entered.new.self in
    named_ok c.write_alone-entered.result true 0 m c.args.self.now new refl c.is_own_run.ensures.ours c.is_own_run-2.ensures.run
    (ok_at_alone c.write_alone-entered.result true 0 m c.args.self.now new c.write_alone-entered.ensures.done) c.write_alone-entered.ensures.memory

-- what its restarts found stays tied to what was appended
pub returns-clause-tied : goal.returns-clause-tied
returns-clause-tied c =
    let m = Calls c.args.line c.args.actor c.args.c.now c.args.m in
    let new = c.write_alone-entered.new.self in
    ok_tied c.write_alone-entered.result c.args.self.now new (alone_tied m c.args.self.now new refl) c.write_alone-entered.ensures.done c.write_alone-entered.ensures.memory
