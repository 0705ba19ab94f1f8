use Rattle.std.proofs.Common.{◌≡◌, Bool, List, Some, ap, subst, sym, ◌∙◌}
use Rattle.dtx_values.specs.declared.entry.Entry.{Entry}
use Rattle.dtx_model.specs.Words.{past_of}
use Rattle.script_calls.specs.Rows.{next_in, row_at}
use Rattle.script_calls.specs.declared.calls.LogCall.TheVariants.{Restart}
use Rattle.tx_cells.specs.LogCell.{IsLogKept, LogCell}
use Rattle.tx_cells.specs.LogEntering.{next_at_log}
use Rattle.tx_cells.proofs.Coming.{one_more, restart_line}
use Rattle.tx_cells.proofs.LogKept.{kept_restarted, lines_restarted}
use Rattle.tx_cells.proofs.LogOrder.{prefix_next}
use Rattle.tx_cells.proofs.shared_log.LogState.enter_restart.Goals as goal
use Rattle.turn_parts.specs.LogEvents.{IsLogHistory, Opens}
use Rattle.turn_parts.specs.Reopening.{restart_answer, restarted}

pub invariant_of-self-2 : goal.invariant_of-self-2
invariant_of-self-2 g c =
    let past = past_of c.self.inside.entries.items in
    let up = c.self.inside.log.is_up in
    let found = c.reopened-found.result in
    let next : next_in (row_at c.args.a c.self.inside.rows) ≡ Some (record { line = c.args.line; call = Restart }) =
    subst (λ (x : LogCell g.row.D.Denot). next_at_log c.args.a x ≡ Some (record { line = c.args.line; call = Restart })) (sym c.self.view_is) c.requires in
    let written : past_of c.write_restart.new.entries.items ≡ restarted c.args.line c.args.a up found past =
    c.write_restart.ensures
    ∙ (ap (λ (b : Bool). restarted c.args.line c.args.a b found (past_of c.reserve.new.self.items)) c.is_up-was_up.ensures.up
    ∙ ap (λ (xs : List Entry). restarted c.args.line c.args.a up found (past_of xs)) c.in_ok-reserve.ensures.items) in
    let cell : List Entry → LogCell g.row.D.Denot = λ h. record { log = c.reopened-found.new.log; rows = c.advance.new.self; past = h } in
    let P : List Entry → Type 0 = λ h. IsLogKept g.D.Disk.faults g.D.Disk.honest g.D.Disk.image g.N.Run.script g.N.Run.honest g.N.Run.faults (cell h) in
    subst P (sym written) (
    kept_restarted g.D.Disk.faults g.D.Disk.honest g.D.Disk.image g.D.Disk.seen g.N.Run.script g.N.Run.honest g.N.Run.faults (record { log = c.self.inside.log; rows = c.self.inside.rows; past = past }) c.reopened-found.new.log c.advance.new.self
    c.args.line c.args.a found c.reopened-found.ensures.reopened c.reopened-found.ensures.only c.reopened-found.ensures.grows c.reopened-found.ensures.among c.reopened-found.ensures.within
    (prefix_next g.N.Run.script c.self.inside.rows c.advance.new.self past (restarted c.args.line c.args.a up found past) c.args.a c.args.line Restart (restart_answer found) next c.advance.ensures.here c.advance.ensures.others
    (λ b. lines_restarted b c.args.line c.args.a up found past) c.self.invariant.in_order)
    (subst (λ (b : Bool). IsLogHistory g.N.Run.script (restarted c.args.line c.args.a b found past)) c.self.invariant.up
    (one_more g.N.Run.script (Opens c.args.line c.args.a found) past c.self.invariant.events (restart_line g.N.Run.script c.self.inside.rows past c.args.a c.args.line c.self.invariant.in_order next))) c.self.invariant
    )
