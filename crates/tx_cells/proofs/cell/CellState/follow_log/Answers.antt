use Rattle.std.proofs.Common.{ap, is_some, sym, ◌∙◌}
use Rattle.dtx_values.specs.declared.tx_id.TxId.{TxId}
use Rattle.dtx_model.specs.Log.{first_of}
use Rattle.coordinator_log.specs.Slots.{open_records}
use Rattle.tx_world.specs.AtLog.{id_of}
use Rattle.tx_world.specs.State.{is_hit_by, is_reached_by}
use Rattle.tx_cells.proofs.Following.{kept_opened, kept_stopped}
use Rattle.tx_cells.proofs.cell.CellState.follow_log.Goals as goal

pub invariant_of-self : goal.invariant_of-self
invariant_of-self g c =
    let x = c.self.inside.world in
    let heard = c.in_ok-coordinator_restarted.ensures in (
      c.self.invariant.0 ∙ sym (ap (λ (u : TxId). u.t) heard.transaction),
      kept_opened g.N.Run.script g.N.Run.objects g.N.Run.honest x c.coordinator_restarted.new.self c.self.inside.rows (is_some (first_of (id_of x) (open_records c.log-log.result.now.slots))) (is_reached_by c.log-log.result.now.life x) c.self.invariant.1 (λ is. heard.tied (c.log-log.ensures.honest ∙ is)) heard.transaction
          (λ yes. (heard.reached yes).0) heard.unreached,
    )

pub invariant_of-self-in-Continue-branch-2 : goal.invariant_of-self-in-Continue-branch-2
invariant_of-self-in-Continue-branch-2 g c =
    let x = c.self.inside.world in
    let heard = c.in_ok-coordinator_stopped.ensures in (
      c.self.invariant.0 ∙ sym (ap (λ (u : TxId). u.t) heard.transaction),
      kept_stopped g.N.Run.script g.N.Run.objects g.N.Run.honest x c.coordinator_stopped.new.self c.self.inside.rows (is_hit_by c.life.result x) c.self.invariant.1 heard.transaction heard.world,
    )
