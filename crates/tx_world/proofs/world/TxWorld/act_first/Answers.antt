use Rattle.std.proofs.Common.{◌≡◌, Some, true, not, sym, subst}
use Rattle.std.specs.Prelude.{IfOk}
use Rattle.dtx_model.specs.Acts.{act_entries}
use Rattle.dtx_model.specs.Outcome.{is_empty}
use Rattle.dtx_model.specs.Words.{kth, past_of}
use Rattle.dtx_model.specs.World.{World, half}
use Rattle.dtx_model.specs.Steps.{LocalAct, pending}
use Rattle.tx_world.specs.State.{TxState}
use Rattle.tx_world.proofs.Listing.{act_is_first}
use Rattle.tx_world.proofs.world.TxWorld.act_first.Goals as goal

pub returns-clause-first : goal.returns-clause-first
returns-clause-first c done =
    let i = c.self.inside in
    let w : World = record { calls = past_of i.calls.items; past = i.history.past } in
    let due = subst (λ r. IfOk r (λ b. b ≡ not (is_empty (act_entries (half c.args.self.now.world))))) done c.act.ensures.due in
    let some = subst (λ (x : TxState). not (is_empty (act_entries (half x.world))) ≡ true) (sym c.self.view_is) (sym due) in
    subst (λ (x : TxState). kth (pending x.world) 1 ≡ Some LocalAct) c.self.view_is
    (act_is_first i.transaction w i.half i.core c.self.invariant.kept (c.may_be_due.ensures.none c.if-may_be_due.false) some)
