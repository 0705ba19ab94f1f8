use Rattle.std.proofs.Common.{◌≡◌, ◌∙◌, ap, subst}
use Rattle.dtx_values.specs.declared.tx_id.TxId.{TxId}
use Rattle.transactions.specs.Slots.{Standing, standing_at}
use Rattle.transactions.proofs.Places.{standing_place}
use Rattle.transactions.proofs.manager.TransactionManager.at_place.Goals as goal

pub returns-clause-place : goal.returns-clause-place
returns-clause-place g c =
    ap (λ (t : TxId). t.t) c.standing.ensures
    ∙ subst (λ (s : Standing _ _). (standing_at c.args.place s.lives).t ≡ c.args.place) c.self.view_is (standing_place c.args.place c.self.inside.lives.items c.self.invariant.0)
