use Rattle.std.proofs.Common.{◌∙◌, ap, refl, sym, subst}
use Rattle.std.specs.Prelude.{OnOk}
use Rattle.dtx_values.specs.declared.call.Call.{Call}
use Rattle.dtx_values.specs.TxIds.{number_of}
use Rattle.dtx_values.specs.declared.call.Call.TheVariants.{Lose, Gone, Reenlist, Recovered}
use Rattle.dtx_model.specs.Steps.{Calls}
use Rattle.world_parts.specs.Entering.{is_near}
use Rattle.tx_world.specs.OwnCalls.{DoesAlone}
use Rattle.tx_world.proofs.Far.{fine_there}
use Rattle.tx_world.proofs.world.TxWorld.enter_far.Goals as goal

pub enter_cut-requires-clause-linked : goal.enter_cut-requires-clause-linked
enter_cut-requires-clause-linked c = ap (λ (x : Call). is_near c.args.self.now.world x) (sym c.in-Gone.is) ∙ c.requires.far

pub enter_lost-requires-clause-fine : goal.enter_lost-requires-clause-fine
enter_lost-requires-clause-fine c = fine_there (number_of c.args.self.now.transaction) c.args.self.now.world c.args.c.now (Lose c.in-Lose.u c.in-Lose.wire c.in-Lose.up c.in-Lose.down) c.args.done c.in-Lose.is refl c.requires.fine

pub returns-in-Lose-clause-done : goal.returns-in-Lose-clause-done
returns-in-Lose-clause-done c =
    subst (λ (x : Call). OnOk c.enter_lost.result (DoesAlone (Calls c.args.line c.args.actor x c.args.done) c.args.self.now c.enter_lost.new.self)) (sym c.in-Lose.is) (c.enter_lost.ensures.done c.args.done)

pub enter_cut-requires-clause-fine : goal.enter_cut-requires-clause-fine
enter_cut-requires-clause-fine c = fine_there (number_of c.args.self.now.transaction) c.args.self.now.world c.args.c.now (Gone c.in-Gone.e) c.args.done c.in-Gone.is refl c.requires.fine

pub returns-in-Gone-clause-done : goal.returns-in-Gone-clause-done
returns-in-Gone-clause-done c =
    subst (λ (x : Call). OnOk c.enter_cut.result (DoesAlone (Calls c.args.line c.args.actor x c.args.done) c.args.self.now c.enter_cut.new.self)) (sym c.in-Gone.is) (c.enter_cut.ensures.done c.args.done)

pub enter_returned-requires-clause-fine : goal.enter_returned-requires-clause-fine
enter_returned-requires-clause-fine c = fine_there (number_of c.args.self.now.transaction) c.args.self.now.world c.args.c.now (Reenlist c.in-Reenlist.e) c.args.done c.in-Reenlist.is refl c.requires.fine

pub returns-in-Reenlist-clause-done : goal.returns-in-Reenlist-clause-done
returns-in-Reenlist-clause-done c =
    subst (λ (x : Call). OnOk c.enter_returned.result (DoesAlone (Calls c.args.line c.args.actor x c.args.done) c.args.self.now c.enter_returned.new.self)) (sym c.in-Reenlist.is) (c.enter_returned.ensures.done c.args.done)

pub enter_recovered-requires-clause-fine : goal.enter_recovered-requires-clause-fine
enter_recovered-requires-clause-fine c = fine_there (number_of c.args.self.now.transaction) c.args.self.now.world c.args.c.now (Recovered c.in-Recovered.u c.in-Recovered.r) c.args.done c.in-Recovered.is refl c.requires.fine

pub returns-in-Recovered-clause-done : goal.returns-in-Recovered-clause-done
returns-in-Recovered-clause-done c =
    subst (λ (x : Call). OnOk c.enter_recovered.result (DoesAlone (Calls c.args.line c.args.actor x c.args.done) c.args.self.now c.enter_recovered.new.self)) (sym c.in-Recovered.is) (c.enter_recovered.ensures.done c.args.done)
