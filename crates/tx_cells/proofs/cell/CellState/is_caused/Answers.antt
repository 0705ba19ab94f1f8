use Rattle.std.proofs.Common.{◌≡◌, true, subst}
use Rattle.std.specs.Prelude.{IsTrue}
use Rattle.dtx_model.specs.Caused.{Caused}
use Rattle.dtx_values.specs.TxIds.{number_of}
use Rattle.dtx_model.specs.Learned.{Learned}
use Rattle.dtx_model.specs.Outcome.{agree, justified}
use Rattle.dtx_model.specs.Promotes.{promotes}
use Rattle.dtx_model.specs.Tied.{tied}
use Rattle.dtx_model.specs.Wires.{WireRun}
use Rattle.script_calls.specs.Prefix.{IsInOrder}
use Rattle.tx_cells.specs.Cell.{Cell}
use Rattle.tx_cells.proofs.Given.{in_order_of}
use Rattle.tx_cells.proofs.cell.CellState.is_caused.Goals as goal

pub returns-clause-caused : goal.returns-clause-caused
returns-clause-caused g c =
    let free = c.lifting.ensures.lifted _ _ _ _ c.self.invariant.1.given (_, c.is_own_run.ensures.run) in
    subst (λ (z : Cell). Caused g.N.Run.script g.N.Run.objects (number_of z.tx.transaction) z.tx.world.past) c.self.view_is (record { freely = free; planned = c.self.invariant.1.planned })

pub returns-clause-in_order : goal.returns-clause-in_order
returns-clause-in_order g c =
    let x = c.self.inside.world in
    subst (λ (z : Cell). IsInOrder g.N.Run.script (number_of z.tx.transaction) z.tx.world.calls) c.self.view_is (in_order_of g.N.Run.script (number_of x.transaction) c.self.inside.rows x.world.calls c.self.invariant.1.in_order)

pub returns-clause-wires : goal.returns-clause-wires
returns-clause-wires g c =
    let free = c.lifting.ensures.lifted _ _ _ _ c.self.invariant.1.given (_, c.is_own_run.ensures.run) in
    subst (λ (z : Cell). WireRun z.tx.world.past) c.self.view_is (c.crossings.ensures.wires _ _ _ free)

pub returns-clause-tied_promotes : goal.returns-clause-tied_promotes
returns-clause-tied_promotes g c =
    let free = c.lifting.ensures.lifted _ _ _ _ c.self.invariant.1.given (_, c.is_own_run.ensures.run) in
    subst (λ (z : Cell). tied z.tx.world.past ≡ true → promotes g.N.Run.script (number_of z.tx.transaction) z.tx.world.past ≡ true) c.self.view_is (c.crossings.ensures.promotes _ _ _ c.self.invariant.1.script.script.named free)

pub returns-clause-tied_just : goal.returns-clause-tied_just
returns-clause-tied_just g c =
    let free = c.lifting.ensures.lifted _ _ _ _ c.self.invariant.1.given (_, c.is_own_run.ensures.run) in
    subst (λ (z : Cell). tied z.tx.world.past ≡ true → justified z.tx.world.past ≡ true) c.self.view_is (c.one_outcome.ensures.just _ _ _ c.self.invariant.1.script.script.named free)

pub returns-clause-tied_agrees : goal.returns-clause-tied_agrees
returns-clause-tied_agrees g c =
    let free = c.lifting.ensures.lifted _ _ _ _ c.self.invariant.1.given (_, c.is_own_run.ensures.run) in
    subst (λ (z : Cell). tied z.tx.world.past ≡ true → agree z.tx.world.past ≡ true) c.self.view_is (c.one_outcome.ensures.agrees _ _ _ c.self.invariant.1.script.script.named free)

pub returns-clause-tied_learned : goal.returns-clause-tied_learned
returns-clause-tied_learned g c =
    let free = c.lifting.ensures.lifted _ _ _ _ c.self.invariant.1.given (_, c.is_own_run.ensures.run) in
    subst (λ (z : Cell). tied z.tx.world.past ≡ true → Learned z.tx.world.past) c.self.view_is (c.one_outcome.ensures.learned _ _ _ c.self.invariant.1.script.script.named free)

pub returns-clause-promotes : goal.returns-clause-promotes
returns-clause-promotes g c =
    let free = c.lifting.ensures.lifted _ _ _ _ c.self.invariant.1.given (_, c.is_own_run.ensures.run) in
    subst (λ (z : Cell). IsTrue g.N.Run.honest → promotes g.N.Run.script (number_of z.tx.transaction) z.tx.world.past ≡ true) c.self.view_is (λ is. c.crossings.ensures.promotes _ _ _ c.self.invariant.1.script.script.named free (c.self.invariant.1.sound is))

pub returns-clause-just : goal.returns-clause-just
returns-clause-just g c =
    let free = c.lifting.ensures.lifted _ _ _ _ c.self.invariant.1.given (_, c.is_own_run.ensures.run) in
    subst (λ (z : Cell). IsTrue g.N.Run.honest → justified z.tx.world.past ≡ true) c.self.view_is (λ is. c.one_outcome.ensures.just _ _ _ c.self.invariant.1.script.script.named free (c.self.invariant.1.sound is))

pub returns-clause-agrees : goal.returns-clause-agrees
returns-clause-agrees g c =
    let free = c.lifting.ensures.lifted _ _ _ _ c.self.invariant.1.given (_, c.is_own_run.ensures.run) in
    subst (λ (z : Cell). IsTrue g.N.Run.honest → agree z.tx.world.past ≡ true) c.self.view_is (λ is. c.one_outcome.ensures.agrees _ _ _ c.self.invariant.1.script.script.named free (c.self.invariant.1.sound is))

pub returns-clause-learned : goal.returns-clause-learned
returns-clause-learned g c =
    let free = c.lifting.ensures.lifted _ _ _ _ c.self.invariant.1.given (_, c.is_own_run.ensures.run) in
    subst (λ (z : Cell). IsTrue g.N.Run.honest → Learned z.tx.world.past) c.self.view_is (λ is. c.one_outcome.ensures.learned _ _ _ c.self.invariant.1.script.script.named free (c.self.invariant.1.sound is))
