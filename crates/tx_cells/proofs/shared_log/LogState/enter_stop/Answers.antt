use Rattle.std.proofs.Common.{◌≡◌, ◌-◌, List, Some, refl, subst, sym}
use Rattle.dtx_values.specs.declared.entry.Answer.TheVariants.{Fine}
use Rattle.dtx_values.specs.declared.entry.Entry.{Entry}
use Rattle.dtx_values.specs.declared.entry.Entry.TheVariants.{Called, LogWord}
use Rattle.dtx_values.specs.declared.entry.LogNote.TheVariants.{Armed}
use Rattle.dtx_model.specs.Words.{past_of}
use Rattle.script_calls.specs.Rows.{next_in, row_at}
use Rattle.script_calls.specs.declared.calls.LogCall.TheVariants.{Stop}
use Rattle.tx_cells.specs.LogAnswers.{stop_armed}
use Rattle.tx_cells.specs.LogCell.{IsLogKept, LogCell}
use Rattle.tx_cells.specs.LogEntering.{next_at_log}
use Rattle.tx_cells.proofs.Coming.{one_more, stop_line}
use Rattle.tx_cells.proofs.LogKept.{kept_armed}
use Rattle.tx_cells.proofs.LogOrder.{prefix_next, stop_first, two_more}
use Rattle.tx_cells.proofs.shared_log.LogState.enter_stop.Goals as goal
use Rattle.turn_parts.specs.LogEvents.{Arms}

pub arm-requires : goal.arm-requires
arm-requires g c =
    let next : next_in (row_at c.args.a c.self.inside.rows) ≡ Some (record { line = c.args.line; call = Stop c.args.k c.args.image }) =
    subst (λ (x : LogCell g.row.D.Denot). next_at_log c.args.a x ≡ Some (record { line = c.args.line; call = Stop c.args.k c.args.image })) (sym c.self.view_is) c.requires in
    stop_first g.N.Run.script c.self.inside.rows (past_of c.self.inside.entries.items) c.args.a c.args.line c.args.k c.args.image c.self.invariant.script c.self.invariant.in_order next

pub invariant_of-self-2 : goal.invariant_of-self-2
invariant_of-self-2 g c =
    let past = past_of c.self.inside.entries.items in
    let next : next_in (row_at c.args.a c.self.inside.rows) ≡ Some (record { line = c.args.line; call = Stop c.args.k c.args.image }) =
    subst (λ (x : LogCell g.row.D.Denot). next_at_log c.args.a x ≡ Some (record { line = c.args.line; call = Stop c.args.k c.args.image })) (sym c.self.view_is) c.requires in
    let written : past_of c.push_reserved-2.new.self.items ≡ stop_armed c.args.line c.args.a c.args.k c.args.image past =
    two_more c.self.inside.entries.items c.reserve.new.self.items c.push_reserved.new.self.items c.push_reserved-2.new.self.items (Called c.args.line c.args.a Fine) (LogWord (Armed c.args.k c.args.image))
    c.in_ok-reserve.ensures.items c.push_reserved.ensures.items c.push_reserved-2.ensures.items in
    let cell : List Entry → LogCell g.row.D.Denot = λ h. record { log = c.arm.new.self; rows = c.advance.new.self; past = h } in
    let P : List Entry → Type 0 = λ h. IsLogKept g.D.Disk.faults g.D.Disk.honest g.D.Disk.image g.N.Run.script g.N.Run.honest g.N.Run.faults (cell h) in
    subst P (sym written) (
    kept_armed g.D.Disk.faults g.D.Disk.honest g.D.Disk.image g.N.Run.script g.N.Run.honest g.N.Run.faults (record { log = c.self.inside.log; rows = c.self.inside.rows; past = past }) c.arm.new.self c.advance.new.self c.args.line c.args.a
    c.args.k c.args.image (record { passes = c.args.k - 1; image = c.args.image }) c.arm.ensures
    (prefix_next g.N.Run.script c.self.inside.rows c.advance.new.self past (stop_armed c.args.line c.args.a c.args.k c.args.image past) c.args.a c.args.line (Stop c.args.k c.args.image) Fine next c.advance.ensures.here c.advance.ensures.others (λ b. refl)
    c.self.invariant.in_order)
    (one_more g.N.Run.script (Arms c.args.line c.args.a c.args.k c.args.image) past c.self.invariant.events (stop_line g.N.Run.script c.self.inside.rows past c.args.a c.args.line c.args.k c.args.image c.self.invariant.in_order next)) c.self.invariant
    )
